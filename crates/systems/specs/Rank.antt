-- The rank of a system of words, and whether no slot is blank.
use Rattle.std.specs.Prelude.{ℕ, suc, Bool, false, true, List, [], ◌∷◌}

-- "The rank is the number of slots not blank at the end."
abbrev pub rank : {A : Type 0} → List (List A) → ℕ
rank [] = 0
rank ([] ∷ S) = rank S
rank ((a ∷ w) ∷ S) = suc (rank S)

-- "no slot, given blank or not, is blank"
abbrev pub none_blank : {A : Type 0} → List (List A) → Bool
none_blank [] = true
none_blank ([] ∷ S) = false
none_blank ((a ∷ w) ∷ S) = none_blank S
