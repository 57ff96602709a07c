-- The letters of a product: refusal 9, letter by letter, and the slots that a product which passes it names.
use Prim.Native.Nat.{◌+◌, ◌<◌, suc, zero, ℕ}
use mathlib.Core.List.{List, [], ◌∷◌, map}
use mathlib.Core.Path.{◌∙◌, ◌≡◌, ap, refl}
use native.Mathlib.Omega.{arith}
use lib.ListN.{drop, get_or, length}
use borrow.Author.Tests.{ltb-true}
use Rattle.systems.proofs.ProductLaws.{Named}
use Rattle.systems.specs.declared.Factor.{Factor}
use Rattle.records.specs.Records.{word_of}
use Rattle.records.specs.Refusals.{each_byte, must}
use Rattle.records.proofs.Chains.{fine_first, fine_next, must_fine}
use Rattle.slots.specs.Factors.{product_of}
use Rattle.systems.specs.Factors.{factor_of}
use Rattle.slots.specs.Systems.{freely_reduced_words, slots}
use Rattle.slots.proofs.RoundTrip.{words-length}
use Rattle.multiply.specs.SlotLetters.{has_slot, slot_rule}
use Rattle.records.specs.declared.refusals.Reason.TheVariants.{SlotMissing}
use Rattle.std.specs.Prelude.{Ok}

-- refusal 9, from the first letter of the product on
pub slots_begin : (n : ℕ) (r w : List ℕ) → w ≡ word_of r → slot_rule n r ≡ each_byte (has_slot n) SlotMissing (drop 0 w) 0
unfolding slot_rule
slots_begin n r w told = rw told refl

-- a list of letters that passes names only the first n slots
passed_named : (n : ℕ) (w : List ℕ) (at : ℕ) → each_byte (has_slot n) SlotMissing w at ≡ Ok tt → Named (λ k. k < n) (map factor_of w)
passed_named n [] at e = tt
passed_named n (b ∷ w) at e = (
  ltb-true _ _ (must_fine _ SlotMissing at (fine_first (must (has_slot n b) SlotMissing at) _ e)),
  passed_named n w (at + 1) (fine_next (must (has_slot n b) SlotMissing at) _ e),
)

named_at : (n : ℕ) (w : List ℕ) (i : ℕ) → Named (λ k. k < n) (map factor_of w) → i < length w → (factor_of (get_or w i 0)).slot < n
named_at n [] i h inside = absurd (omega arith)
named_at n (b ∷ w) zero h inside = h.0
named_at n (b ∷ w) (suc i) h inside = named_at n w i h.1 (omega arith)

-- a product that passes names only slots that the system has
pub slots-named : (n : ℕ) (r : List ℕ) → slot_rule n r ≡ Ok tt → Named (λ k. k < n) (product_of r)
unfolding slot_rule
slots-named n r e = passed_named n (word_of r) 0 e

-- and so does each of its letters, over the words that are taken in
pub slot_inside : (s r w : List ℕ) (S : List (List ℕ)) (i : ℕ) (f : Factor) → slot_rule (slots s) r ≡ Ok tt → w ≡ word_of r → S ≡ freely_reduced_words s
    → i < length w → f ≡ factor_of (get_or w i 0) → f.slot < length S
slot_inside s r w S i f e told loaded inside named =
    let below : (factor_of (get_or (word_of r) i 0)).slot < slots s = named_at (slots s) (word_of r) i (slots-named (slots s) r e) (rw told at inside) in
    omega (arith, ap length loaded ∙ words-length s, ap (λ (g : Factor). g.slot) named ∙ ap (λ (l : List ℕ). (factor_of (get_or l i 0)).slot) told, below)
