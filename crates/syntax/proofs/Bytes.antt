-- The bytes of a text are told apart: letters, digits and signs.
use Prim.Native.Nat.{◌≤◌, ℕ}
use mathlib.Core.Path.{◌≡◌}
use mathlib.Core.Bool.{◌&&◌, false, true}
use mathlib.Core.Logic.{inl, inr}
use native.Mathlib.Omega.{arith}
use lib.Dec.{eqb, leb}
use borrow.Author.Tests.{leb-true, ne_eqb}
use Rattle.records.specs.Records.{is_letter}
use Rattle.syntax.specs.Trees.{is_digit}
use Rattle.std.proofs.lemmas.Bool.{and_parts, both_ways, cases_Bool, or_cases}

pub letter_above : (x : ℕ) → is_letter x ≡ true → 65 ≤ x
letter_above x h = elim (or_cases (leb 65 x && leb x 90) (leb 97 x && leb x 122) h) [
  | inl e ↦ leb-true 65 x (and_parts (leb 65 x) (leb x 90) e).0
  | inr e ↦ omega (arith, leb-true 97 x (and_parts (leb 97 x) (leb x 122) e).0)
]

pub digit_below : (x : ℕ) → is_digit x ≡ true → x ≤ 57
digit_below x h = leb-true x 57 (and_parts (leb 48 x) (leb x 57) h).1

-- a letter is no digit
pub letter_no_digit : (x : ℕ) → is_letter x ≡ true → is_digit x ≡ false
letter_no_digit x h = elim (cases_Bool (is_digit x)) [
  | inl e ↦ absurd (omega (arith, letter_above x h, digit_below x e))
  | inr e ↦ e
]

-- a letter is none of the signs: y is one that is no letter
pub letter_no_sign : (x y : ℕ) → is_letter x ≡ true → is_letter y ≡ false → eqb x y ≡ false
letter_no_sign x y h k = ne_eqb x y (λ e. both_ways _ (rw e k) h)

pub digit_no_sign : (x y : ℕ) → is_digit x ≡ true → is_digit y ≡ false → eqb x y ≡ false
digit_no_sign x y h k = ne_eqb x y (λ e. both_ways _ (rw e k) h)
