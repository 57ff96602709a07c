-- The power at the beginning of a text, as the reader finds it.
use Prim.Native.Nat.{◌+◌, ◌≤◌, suc, ℕ}
use mathlib.Core.Path.{◌∙◌, ◌≡◌, ap, refl}
use mathlib.Core.Bool.{Bool, false, true}
use Rattle.std.specs.Prelude.{Option}
use Rattle.std.specs.Prelude.{IfSome, None, Option, Some}
use mathlib.Core.List.{List, [], ◌++◌, ◌∷◌}
use native.Mathlib.Omega.{arith}
use lib.ListN.{length}
use lib.Dec.{eqb}
use Rattle.syntax.specs.Trees.{Digits, Power, ProperDigits, ProperPower, one, plain, raised, spelled_digits, spelled_power, two}
use Rattle.syntax.specs.Within.{PowerWithin}
use Rattle.syntax.specs.TreeWords.{number_of}
use Rattle.parsing.specs.Reading.{powered_of, raised_by}
use Rattle.scanning.specs.Exponents.{digits_exponent, digits_size, exponent_of, exponent_size}
use Rattle.scanning.specs.declared.exponent.Exponent.{Exponent}
use Rattle.syntax.proofs.Parsing.{Quiet, digits_of_lem, first_digit}

abbrev pub exponent_for : Power → Option Exponent
exponent_for plain = None
exponent_for (raised minus d) = Some (record { minus = minus; number = number_of d; used = length (spelled_power (raised minus d)) })

digits_length : (d : Digits) → ProperDigits d → (r : List ℕ) → Quiet r → digits_size (spelled_digits d ++ r) ≡ length (spelled_digits d)
digits_length (one d) h [] k = refl
digits_length (one d) h (b ∷ r) k = rw k.1
digits_length (two d e) h r k = rw h.1

digits_exponent_lem : (minus : Bool) (before : ℕ) (d : Digits) → ProperDigits d → (r : List ℕ) → Quiet r
    → digits_exponent minus before (spelled_digits d ++ r) ≡ record { minus = minus; number = number_of d; used = before + length (spelled_digits d) }
digits_exponent_lem minus before d h r k = rw (digits_of_lem d h r k, digits_length d h r k)

no_minus : (x : ℕ) (s : List ℕ) → eqb x 45 ≡ false → exponent_of (94 ∷ x ∷ s) ≡ Some (digits_exponent false 1 (x ∷ s))
no_minus x s e = rw e

pub exponent_for_lem : (p : Power) → ProperPower p → (r : List ℕ) → Quiet r → exponent_of (spelled_power p ++ r) ≡ exponent_for p
exponent_for_lem plain h [] k = refl
exponent_for_lem plain h (b ∷ []) k = refl
exponent_for_lem plain h (b ∷ c ∷ r) k = rw k.0
exponent_for_lem (raised true d) h r k =
    let e : 2 + length (spelled_digits d) ≡ suc (suc (length (spelled_digits d))) = omega arith in
    rw (digits_exponent_lem true 2 d h r k, e)
exponent_for_lem (raised false d) h r k =
    let (x, s, e, n) = first_digit d h r in
    let f : 1 + length (spelled_digits d) ≡ suc (length (spelled_digits d)) = omega arith in
    ap (λ (l : List ℕ). exponent_of (94 ∷ l)) e ∙ no_minus x s n ∙ rw (← e, digits_exponent_lem false 1 d h r k, f)

pub size_for : (p : Power) → exponent_size (exponent_for p) ≡ length (spelled_power p)
size_for plain = refl
size_for (raised minus d) = refl

pub number_for : (p : Power) → PowerWithin p → IfSome (exponent_for p) (λ e. e.number ≤ 63)
number_for plain h = tt
number_for (raised minus d) h = h

pub raise_for : (p : Power) (o : Option (List ℕ)) → raised_by (exponent_for p) o ≡ powered_of p o
raise_for plain o = refl
raise_for (raised minus d) o = refl
