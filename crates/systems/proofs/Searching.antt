-- Laws of the two searches that the rules of the moves are made of: the first found among f 0, f 1, .. below a number, and whether a
-- test holds at some number below it. "The first pair and form found in this order is the move made."
use Prim.Native.Nat.{ℕ, zero, suc, ◌+◌, ◌<◌}
use mathlib.Core.Path.{◌≡◌, refl, sym, ◌∙◌}
use mathlib.Core.Logic.{inl, inr}
use mathlib.Core.Bool.{Bool, true, false, true≢false}
use Rattle.std.specs.Prelude.{None, Option, Some}
use Rattle.std.proofs.lemmas.Option.{none-some}
use native.Mathlib.Numerals.{add-one}
use native.Mathlib.Omega.{arith}
use native.Mathlib.Decide.{dec_lt}
use Rattle.systems.specs.Rules.{first, any_below}
use Rattle.systems.proofs.Logic.{not-none_some, option_cases, some_not-none}
use Rattle.std.proofs.lemmas.Bool.{both_ways, false_from_ne_true, or_cases, or_from, or_left, or_right}

module _ {B : Type 0} (f : ℕ → Option B) where
  -- nothing before n: what f n gives decides
  pub first_next : (n : ℕ) → first f n ≡ None → first f (suc n) ≡ f n
  first_next n e = rw e

  -- something before n stays the first
  pub first_kept : (n : ℕ) (b : B) → first f n ≡ Some b → first f (suc n) ≡ Some b
  first_kept n b e = rw e

  pub first_more : (n : ℕ) → first f n ≡ None → f n ≡ None → first f (suc n) ≡ None
  first_more n e d = first_next n e ∙ d

  pub first-more-one : (n : ℕ) → first f n ≡ None → f n ≡ None → first f (n + 1) ≡ None
  first-more-one n e d = rw add-one (first_more n e d)

  pub first_here : (n : ℕ) (b : B) → first f n ≡ None → f n ≡ Some b → first f (suc n) ≡ Some b
  first_here n b e d = first_next n e ∙ d

  -- nothing below n + 1: nothing below n, and nothing at n
  pub first_less : (n : ℕ) → first f (suc n) ≡ None → first f n ≡ None
  first_less n e = elim (option_cases (first f n)) [
    | inl d ↦ d
    | inr r ↦ absurd (some_not-none (first f (suc n)) r.0 (first_kept n r.0 r.1) e)
  ]

  pub first_last : (n : ℕ) → first f (suc n) ≡ None → f n ≡ None
  first_last n e = sym (first_next n (first_less n e)) ∙ e

  pub first-each : (n : ℕ) → first f n ≡ None → (i : ℕ) → i < n → f i ≡ None
  first-each zero e i h = absurd (omega arith)
  first-each (suc n) e i h = elim (dec_lt i n) [
    | yes l ↦ first-each n (first_less n e) i l
    | no l ↦ let p : i ≡ n = omega arith in rw p (first_last n e)
  ]

  pub first_nowhere : (n : ℕ) → ((i : ℕ) → i < n → f i ≡ None) → first f n ≡ None
  first_nowhere zero h = refl
  first_nowhere (suc n) h = first_more n (first_nowhere n (λ i l. h i (omega arith))) (h n (omega arith))

  -- what is found is given by a number below n, and by none before it
  pub first_some : (n : ℕ) (b : B) → first f n ≡ Some b → (i : ℕ) × (i < n) × (f i ≡ Some b) × ((j : ℕ) → j < i → f j ≡ None)
  first_some zero b e = absurd (none-some b e)
  first_some (suc n) b e = elim (option_cases (first f n)) [
    | inl d ↦ (n, omega arith, sym (first_next n d) ∙ e, first-each n d)
    | inr r ↦ widen (first_some n b (r.1 ∙ sym (first_kept n r.0 r.1) ∙ e))
  ]
    where
      widen : (i : ℕ) × (i < n) × (f i ≡ Some b) × ((j : ℕ) → j < i → f j ≡ None)
          → (i : ℕ) × (i < suc n) × (f i ≡ Some b) × ((j : ℕ) → j < i → f j ≡ None)
      widen s = (s.0, omega arith, s.2, s.3)

  -- the first number that gives something decides, however far the search goes
  pub first_found : (i n : ℕ) (b : B) → i < n → first f i ≡ None → f i ≡ Some b → first f n ≡ Some b
  first_found i zero b h e d = absurd (omega arith)
  first_found i (suc n) b h e d = elim (dec_lt i n) [
    | yes l ↦ first_kept n b (first_found i n b l e d)
    | no l ↦ let p : i ≡ n = omega arith in first_here n b (rw p at e) (rw p at d)
  ]

  -- a number below n that gives something: something is found
  pub first_exists : (i n : ℕ) (b : B) → i < n → f i ≡ Some b → (c : B) × (first f n ≡ Some c)
  first_exists i n b h e = not-none_some (first f n) (λ z. some_not-none (f i) b e (first-each n z i h))

module _ (f : ℕ → Bool) where
  pub any_more : (n : ℕ) → any_below f n ≡ false → f n ≡ false → any_below f (suc n) ≡ false
  any_more n e d = or_from (any_below f n) (f n) e d

  pub any_more-one : (n : ℕ) → any_below f n ≡ false → f n ≡ false → any_below f (n + 1) ≡ false
  any_more-one n e d = rw add-one (any_more n e d)

  pub any_found : (i n : ℕ) → i < n → f i ≡ true → any_below f n ≡ true
  any_found i zero h e = absurd (omega arith)
  any_found i (suc n) h e = elim (dec_lt i n) [
    | yes l ↦ or_left (any_below f n) (f n) (any_found i n l e)
    | no l ↦ let p : i ≡ n = omega arith in or_right (any_below f n) (f n) (rw p at e)
  ]

  pub any_where : (n : ℕ) → any_below f n ≡ true → (i : ℕ) × (i < n) × (f i ≡ true)
  any_where zero e = absurd (true≢false (sym e))
  any_where (suc n) e = elim (or_cases (any_below f n) (f n) e) [
    | inl d ↦ widen (any_where n d)
    | inr d ↦ (n, omega arith, d)
  ]
    where
      widen : (i : ℕ) × (i < n) × (f i ≡ true) → (i : ℕ) × (i < suc n) × (f i ≡ true)
      widen s = (s.0, omega arith, s.2)

  -- the test fails everywhere below n
  pub any_each : (n : ℕ) → any_below f n ≡ false → (i : ℕ) → i < n → f i ≡ false
  any_each n e i h = false_from_ne_true (f i) (λ t. both_ways (any_below f n) e (any_found i n h t))

  pub any_nowhere : (n : ℕ) → ((i : ℕ) → i < n → f i ≡ false) → any_below f n ≡ false
  any_nowhere zero h = refl
  any_nowhere (suc n) h = any_more n (any_nowhere n (λ i l. h i (omega arith))) (h n (omega arith))
