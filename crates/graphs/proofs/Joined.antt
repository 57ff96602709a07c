-- Two points made one: which numbers that changes, and that it makes none larger.
use Prim.Native.Nat.{max, min, ℕ, ◌+◌, ◌<◌, ◌≤◌}
use mathlib.Core.List.{List, ◌++◌, map}
use mathlib.Core.Logic.{◌⊎◌, inl, inr}
use mathlib.Core.Path.{◌≡◌}
use native.Mathlib.Decide.{ℕ_discrete}
use native.Mathlib.Omega.{arith}
use lib.ListN.{drop, get_or, length, set, take}
use borrow.Author.Tests.{eq-eqb, ne_eqb}
use Rattle.std.proofs.lemmas.List.{get_or_default}
use Rattle.std.proofs.lemmas.List.Edits.{map_over_more}
use Rattle.graphs.specs.Graphs.{joined}

pub joined_larger : (p q r : ℕ) → r ≡ max p q → joined p q r ≡ min p q
joined_larger p q r e = rw (eq-eqb r (max p q) e)

pub joined-same : (p q r : ℕ) → (r ≡ max p q → ⊥) → joined p q r ≡ r
joined-same p q r n = rw (ne_eqb r (max p q) n)

-- a point stays, or it is the larger one of the two
pub joined_cases : (p q r : ℕ) → (joined p q r ≡ r) ⊎ ((r ≡ max p q) × (joined p q r ≡ min p q))
joined_cases p q r = elim (ℕ_discrete r (max p q)) [
  | yes e ↦ inr (e, joined_larger p q r e)
  | no n ↦ inl (joined-same p q r n)
]

pub joined-le : (p q r : ℕ) → joined p q r ≤ r
joined-le p q r = elim (joined_cases p q r) [
  | inl e ↦ omega (arith, e)
  | inr h ↦ omega (arith, h.0, h.1)
]

pub joined_base : (p q : ℕ) → joined p q 0 ≡ 0
joined_base p q = omega (arith, joined-le p q 0)

-- made one once more, they stay as they are
pub joined_twice : (p q r : ℕ) → joined p q (joined p q r) ≡ joined p q r
joined_twice p q r = elim (joined_cases p q r) [
  | inl e ↦ rw (e) e
  | inr h ↦ rw (h.1) (go (joined_cases p q (min p q)))
]
  where
    go : (joined p q (min p q) ≡ min p q) ⊎ ((min p q ≡ max p q) × (joined p q (min p q) ≡ min p q)) → joined p q (min p q) ≡ min p q
    go (inl e) = e
    go (inr h) = h.1

-- two points are made one in each place up to i
pub joined_next : (one other : ℕ) (xs ys : List ℕ) (i : ℕ) {y : ℕ} → i < length xs → length ys ≡ length xs
    → ys ≡ map (joined one other) (take i xs) ++ drop i xs → y ≡ joined one other (get_or ys i 0)
    → set ys i y ≡ map (joined one other) (take (i + 1) xs) ++ drop (i + 1) xs
joined_next one other xs ys i h l e is = rw (is) (map_over_more (joined one other) xs ys i (get_or ys i 0) h e (get_or_default ys i 0 (get_or ys i 0) (omega (arith, h, l))))
