-- Laws of Bool and Option: cases, tests put together, and what a choice between two answers tells.
use Prim.Native.Nat.{ℕ, ◌<◌, ◌≤◌}
use mathlib.Core.Path.{◌≡◌, refl, sym, ◌∙◌}
use mathlib.Core.Logic.{◌↔◌, ◌⊎◌, inl, inr}
use mathlib.Core.Bool.{Bool, true, false, cond, not, ◌&&◌, ◌||◌, true≢false}
use Rattle.std.specs.Prelude.{None, Option, Some}
use Rattle.std.specs.Option.{option_map}
use Rattle.std.proofs.lemmas.Option.{none-some, same_Some}
use native.Mathlib.Decide.{dec_lt}
use native.Mathlib.Omega.{arith}
use lib.Dec.{eqb, leb}
use borrow.Author.Tests.{eqb-false, le-leb, lt-leb, not-true}

pub option_cases : {B : Type 0} (o : Option B) → (o ≡ None) ⊎ ((b : B) × (o ≡ Some b))
option_cases None = inl refl
option_cases (Some b) = inr (b, refl)

pub some_not-none : {B : Type 0} (o : Option B) (b : B) → o ≡ Some b → o ≡ None → ⊥
some_not-none o b e n = none-some b (sym n ∙ e)

pub not-none_some : {B : Type 0} (o : Option B) → (o ≡ None → ⊥) → (b : B) × (o ≡ Some b)
not-none_some None n = absurd (n refl)
not-none_some (Some b) n = (b, refl)

-- what a value or none under a function tells of the value
pub option_map-some : {A B : Type 0} (f : A → B) (o : Option A) {y : B} → option_map f o ≡ Some y → (x : A) × (o ≡ Some x) × (f x ≡ y)
option_map-some f None {y = y} e = absurd (none-some y e)
option_map-some f (Some x) {y = y} e = (x, refl, same_Some (f x) y e)

pub option_map-none : {A B : Type 0} (f : A → B) (o : Option A) → option_map f o ≡ None → o ≡ None
option_map-none f None e = refl
option_map-none f (Some x) e = absurd (none-some (f x) (sym e))

-- none of four tests holds
pub none_of_four : (a b c d : Bool) → (((a || b) || c) || d) ≡ false → (a ≡ false) × (b ≡ false) × (c ≡ false) × (d ≡ false)
none_of_four false false false d e = (refl, refl, refl, e)
none_of_four false false true d e = absurd (true≢false e)
none_of_four false true c d e = absurd (true≢false e)
none_of_four true b c d e = absurd (true≢false e)

-- four tests hold together
pub all_four : (a b c d : Bool) → a && b && c && d ≡ true → (a ≡ true) × (b ≡ true) × (c ≡ true) × (d ≡ true)
all_four true true true d e = (refl, refl, refl, e)
all_four true true false d e = absurd (true≢false (sym e))
all_four true false c d e = absurd (true≢false (sym e))
all_four false b c d e = absurd (true≢false (sym e))

pub four_all : (a b c d : Bool) → a ≡ true → b ≡ true → c ≡ true → d ≡ true → a && b && c && d ≡ true
four_all a b c d p q r s = rw (p, q, r, s)

pub nonzero : (n : ℕ) → not (eqb n 0) ≡ true → 0 < n
nonzero n e = let d : n ≡ 0 → ⊥ = eqb-false n 0 (not-true (eqb n 0) e) in omega arith

-- a test that holds exactly where one number is at most another
pub test_leb : (t : Bool) (a b : ℕ) → (t ≡ true) ↔ (a ≤ b) → t ≡ leb a b
test_leb true a b e = sym (le-leb a b (e.0 refl))
test_leb false a b e = elim (dec_lt b a) [
  | yes l ↦ sym (lt-leb a b l)
  | no l ↦ e.1 (omega arith) ∙ sym (le-leb a b (omega arith))
]

module _ {B : Type 0} where
  pub given-none : (t : Bool) (a : B) → cond t (Some a) None ≡ None → t ≡ false
  given-none true a e = absurd (none-some a (sym e))
  given-none false a e = refl

  pub unless_some : (t : Bool) (o : Option B) (b : B) → cond t None o ≡ Some b → (t ≡ false) × (o ≡ Some b)
  unless_some true o b e = absurd (none-some b e)
  unless_some false o b e = (refl, e)

  pub else_some : (t : Bool) (a : B) (o : Option B) (b : B) → cond t (Some a) o ≡ Some b
      → ((t ≡ true) × (b ≡ a)) ⊎ ((t ≡ false) × (o ≡ Some b))
  else_some true a o b e = inl (refl, cc)
  else_some false a o b e = inr (refl, e)

  pub else_none : (t : Bool) (a : B) (o : Option B) → cond t (Some a) o ≡ None → (t ≡ false) × (o ≡ None)
  else_none true a o e = absurd (none-some a (sym e))
  else_none false a o e = (refl, e)
