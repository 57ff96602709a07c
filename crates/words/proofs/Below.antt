-- Laws of a list of numbered parts: its length, each of its parts, one part more, and what makes two such lists the same.
use Prim.Native.Nat.{ℕ, zero, suc, ◌+◌, ◌<◌}
use mathlib.Core.Path.{◌≡◌, refl, ap, ◌∙◌}
use mathlib.Core.List.{[], ◌∷◌}
use native.Mathlib.Omega.{arith}
use native.Mathlib.Numerals.{add-one}
use native.Mathlib.Decide.{dec_lt}
use lib.ListN.{get_or-eq_default, length, drop, get_or, length-append, get_or-append}
use lib.Seq.{drop-cons, get_or_at}
use Rattle.words.specs.Below.{below}

module _ {B : Type 0} (f : ℕ → B) where
  pub below_length : (n : ℕ) → length (below f n) ≡ n
  below_length zero = refl
  below_length (suc n) = rw (length-append (below f n) _, below_length n, add-one)

  pub below_at : (n k : ℕ) (d : B) → k < n → get_or (below f n) k d ≡ f k
  below_at zero k d h = absurd (omega arith)
  below_at (suc n) k d h = elim (dec_lt k n) [
    | yes l ↦ get_or-append (below f n) _ d k (rw (below_length n) l) ∙ below_at n k d l
    | no m ↦
        let last : n ≡ k = omega arith in
        get_or_at (below f n) _ [] d k (below_length n ∙ last) ∙ ap f last
  ]

  -- what holds of each part, and of the default, holds at every place
  pub below_each : (P : B → Type 0) (n : ℕ) (d : B) → P d → ((k : ℕ) → k < n → P (f k)) → (k : ℕ) → P (get_or (below f n) k d)
  below_each P n d blank each k = elim (dec_lt k n) [
    | yes h ↦ rw (below_at n k d h) (each k h)
    | no m ↦ rw (get_or-eq_default (below f n) d {n = k} (rw (below_length n) (omega arith))) blank
  ]

  pub below-drop : (n k : ℕ) → k < n → drop k (below f n) ≡ f k ∷ drop (k + 1) (below f n)
  below-drop n k h =
      rw (add-one k)
      (drop-cons (below f n) k (f k) (rw (below_length n) h)
      ∙ ap (λ (b : B). b ∷ drop (suc k) (below f n)) (below_at n k (f k) h))
