-- Whether no slot of a system is blank: by its slots one by one, and by its rank.
use Prim.Native.Nat.{ℕ, zero, suc, ◌≤◌, ◌<◌}
use mathlib.Core.Path.{◌≡◌, ◌∙◌, refl, sym}
use mathlib.Core.Bool.{true, true≢false}
use mathlib.Core.List.{List, [], ◌∷◌, cons≢nil}
use native.Mathlib.Omega.{arith}
use lib.ListN.{length}
use lib.Dec.{eqb, eqb-suc-suc}
use borrow.Author.Tests.{ne_eqb}
use Rattle.words.specs.Alphabet.{Alphabet}
use Rattle.systems.specs.Products.{NotBlank}
use Rattle.systems.specs.Rank.{none_blank, rank}

module _ {A : Type 0} (G : Alphabet A) where
  pub none_blank-slots : (S : List (List A)) → none_blank S ≡ true → (k : ℕ) → k < length S → NotBlank G S k
  none_blank-slots [] e k h = absurd (omega arith)
  none_blank-slots ([] ∷ S) e k h = absurd (true≢false (sym e))
  none_blank-slots ((a ∷ w) ∷ S) e zero h = cons≢nil
  none_blank-slots ((a ∷ w) ∷ S) e (suc k) h = none_blank-slots S e k (omega arith)

  pub slots-none_blank : (S : List (List A)) → ((k : ℕ) → k < length S → NotBlank G S k) → none_blank S ≡ true
  slots-none_blank [] h = refl
  slots-none_blank ([] ∷ S) h = absurd (h 0 (omega arith) refl)
  slots-none_blank ((a ∷ w) ∷ S) h = slots-none_blank S (λ k l. h (suc k) (omega arith))

module _ {A : Type 0} where
  rank_most : (S : List (List A)) → rank S ≤ length S
  rank_most [] = omega arith
  rank_most ([] ∷ S) = omega (arith, rank_most S)
  rank_most ((a ∷ w) ∷ S) = omega (arith, rank_most S)

  -- no slot is blank exactly when the rank is the number of slots
  pub rank_full : (S : List (List A)) → eqb (rank S) (length S) ≡ none_blank S
  rank_full [] = refl
  rank_full ([] ∷ S) = ne_eqb (rank S) (suc (length S)) (omega (arith, rank_most S))
  rank_full ((a ∷ w) ∷ S) = eqb-suc-suc (rank S) (length S) ∙ rank_full S
