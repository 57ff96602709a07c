-- Halves of words: "a word of even length is E1 E2, two halves". A word begins with the first half of another, or with the inverse of its
-- second half, where the two have so many letters in common.
use Prim.Native.Nat.{ℕ, ◌-◌, ◌/◌, ◌%◌, ◌≤◌}
use mathlib.Core.Path.{◌≡◌, sym, ap, ap₂, ◌∙◌}
use mathlib.Core.Logic.{◌↔◌}
use mathlib.Core.Bool.{Bool, true, not}
use mathlib.Core.List.{List}
use native.Mathlib.Omega.{arith}
use lib.Dec.{leb}
use lib.ListN.{length, take}
use lib.Seq.{length-take-le}
use borrow.Author.Tests.{eqb-true, eq-eqb}
use Rattle.words.specs.Alphabet.{Alphabet}
use Rattle.words.specs.Words.{inverse, signed, common_prefix}
use Rattle.words.proofs.Alphabet.{AlphabetLaws}
use Rattle.words.proofs.Inverse.{inverse-length, inverse-drop, signed-inverse, signed-length}
use Rattle.words.proofs.Cancellation.{common_prefix_agree, common_prefix-most, common_prefix-begins, begins-common_prefix, common_prefix_le_left}
use Rattle.systems.specs.Rules.{begins, ends, first_half, second_half}
use Rattle.systems.proofs.Logic.{test_leb}

module _ {A : Type 0} (G : Alphabet A) (L : AlphabetLaws G) where
  -- a word begins with the first m letters of another
  begins_to : (m : ℕ) (w v : List A) → m ≤ length w → begins G (take m w) v ≡ true → m ≤ common_prefix G w v
  begins_to m w v h e =
      let n : length (take m w) ≡ m = length-take-le m w h in
      let b : take m v ≡ take m w = rw n at (common_prefix-begins G L (take m w) v (eqb-true _ _ e)) in
      common_prefix-most G L m w v h (sym b)

  begins_of : (m : ℕ) (w v : List A) → m ≤ common_prefix G w v → begins G (take m w) v ≡ true
  begins_of m w v c =
      let h : m ≤ length w = omega (arith, common_prefix_le_left G L w v) in
      eq-eqb _ _ (begins-common_prefix G L (take m w) v (rw (length-take-le m w h) (sym (common_prefix_agree G L m w v c))))

  -- the second half read backward is the first half of the inverse
  pub back_half : (w : List A) → length w % 2 ≡ 0 → inverse G (second_half G w) ≡ first_half G (inverse G w)
  back_half w e =
      let n : length w - length w / 2 ≡ length w / 2 = omega arith in
      rw (inverse-length G L) (inverse-drop G L (length w / 2) w ∙ ap (λ (m : ℕ). take m (inverse G w)) n)

  -- a word begins with the first half of another where the two have that half in common
  pub begins-half : (w v : List A) → (begins G (first_half G w) v ≡ true) ↔ (length w / 2 ≤ common_prefix G w v)
  begins-half w v = (begins_to (length w / 2) w v (omega arith), begins_of (length w / 2) w v)

  -- and with the inverse of the second half where the inverse has
  pub begins_back_half : (w v : List A) → length w % 2 ≡ 0
      → (begins G (inverse G (second_half G w)) v ≡ true) ↔ (length w / 2 ≤ common_prefix G (inverse G w) v)
  begins_back_half w v e = rw (back_half w e, ← inverse-length G L w) (begins-half (inverse G w) v)

  -- both by a count, for a word or its inverse
  pub begins-signed : (b : Bool) (w v : List A) → begins G (first_half G (signed G b w)) v ≡ leb (length w / 2) (common_prefix G (signed G b w) v)
  begins-signed b w v =
      test_leb _ (length (signed G b w) / 2) (common_prefix G (signed G b w) v) (begins-half (signed G b w) v)
      ∙ ap (λ (n : ℕ). leb (n / 2) (common_prefix G (signed G b w) v)) (signed-length G L b w)

  pub ends-signed : (b c : Bool) (w v : List A) → length w % 2 ≡ 0
      → ends G (second_half G (signed G b w)) (signed G c v) ≡ leb (length w / 2) (common_prefix G (signed G (not b) w) (signed G (not c) v))
  ends-signed b c w v even =
      ap₂ (begins G) (back_half (signed G b w) (rw (signed-length G L b w) even) ∙ ap (first_half G) (signed-inverse G L b w)) (signed-inverse G L c v)
      ∙ begins-signed (not b) w (signed G (not c) v)
