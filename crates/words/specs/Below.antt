-- Lists of numbered parts: the words of a system's slots, the moves of a log's records.
use Rattle.std.specs.Prelude.{ℕ, zero, suc, List, [], ◌∷◌, ◌++◌}

-- the list of f 0, f 1, .. below n
abbrev pub below : {B : Type 0} → (ℕ → B) → ℕ → List B
below f zero = []
below f (suc n) = below f n ++ (f n ∷ [])
