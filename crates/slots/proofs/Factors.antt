-- Products over slots as records: a factor comes back from its letter, and a product of at most 63 factors from its record.
use Prim.Native.Nat.{◌%◌, ◌+◌, ◌-◌, ◌<◌, ◌≤◌, ℕ}
use mathlib.Core.Bool.{Bool, false, true}
use mathlib.Core.List.{List, [], ◌∷◌, map}
use mathlib.Core.Path.{◌∙◌, ◌≡◌, ap, refl, sym}
use native.Mathlib.Omega.{arith}
use lib.ListN.{length, length-map}
use borrow.Author.Tests.{le-ltb, lt-ltb}
use Rattle.systems.specs.declared.Factor.{Factor}
use Rattle.systems.proofs.ProductLaws.{Named}
use Rattle.records.specs.Records.{AllLetters, is_letter, record_of}
use Rattle.records.specs.Refusals.{target_rules}
use Rattle.records.proofs.RoundTrip.{record_passes, word_back}
use Rattle.records.proofs.Rules.{letter_between}
use Rattle.records.proofs.Targets.{target_passes}
use Rattle.systems.specs.Factors.{factor_byte, factor_of}
use Rattle.slots.specs.Factors.{product_of}
use Rattle.slots.proofs.Systems.{record-length}
use Rattle.std.specs.Prelude.{Ok}

-- the byte of a factor is a letter, and names the factor
factor_letter : (k : ℕ) (b : Bool) → k < 26 → is_letter (factor_byte (record { slot = k; inverted = b })) ≡ true
factor_letter k true h = sym (letter_between (65 + k) (omega arith) (omega arith)) ∙ lt-ltb ((65 + k - 65) % 32) 26 (omega arith)
factor_letter k false h = sym (letter_between (97 + k) (omega arith) (omega arith)) ∙ lt-ltb ((97 + k - 65) % 32) 26 (omega arith)

factor_back : (k : ℕ) (b : Bool) → k < 26 → factor_of (factor_byte (record { slot = k; inverted = b })) ≡ record { slot = k; inverted = b }
factor_back k true h =
    let place : 65 + k - 65 ≡ k = omega arith in
    rw (lt-ltb (65 + k) 97 (omega arith)) (ap (λ (j : ℕ). record { slot = j; inverted = true }) place)
factor_back k false h =
    let place : 97 + k - 97 ≡ k = omega arith in
    rw (le-ltb (97 + k) 97 (omega arith)) (ap (λ (j : ℕ). record { slot = j; inverted = false }) place)

-- so are those of a whole product
product_letters_lem : (p : List Factor) → Named (λ k. k < 26) p → AllLetters (map factor_byte p)
product_letters_lem [] h = tt
product_letters_lem (f ∷ p) h = (factor_letter f.slot f.inverted h.0, product_letters_lem p h.1)

factors_back : (p : List Factor) → Named (λ k. k < 26) p → map factor_of (map factor_byte p) ≡ p
factors_back [] h = refl
factors_back (f ∷ p) h = rw (factor_back f.slot f.inverted h.0, factors_back p h.1)

-- a product of at most 63 factors, written as a record and read back
module _ (p : List Factor) (short : length p ≤ 63) (named : Named (λ k. k < 26) p) where
  product-short : length (map factor_byte p) ≤ 63
  product-short = rw (length-map p factor_byte) short

  pub product-length : length (record_of (map factor_byte p)) ≡ 64
  product-length = record-length (map factor_byte p) product-short

  pub product_back : product_of (record_of (map factor_byte p)) ≡ p
  product_back = ap (map factor_of) (word_back (map factor_byte p) product-short (product_letters_lem p named)) ∙ factors_back p named

  pub product_passes : target_rules (record_of (map factor_byte p)) ≡ Ok tt
  product_passes =
      target_passes (record_of (map factor_byte p)) product-length (record_passes (map factor_byte p) product-short 0 (product_letters_lem p named))
