-- Counting what two words have in common: a loop compares one pair of letters after the other and stops at the first that differ.
use Prim.Native.Nat.{◌+◌, ◌-◌, ◌<◌, ◌≤◌, min, ℕ}
use mathlib.Core.Bool.{Bool}
use mathlib.Core.List.{List}
use mathlib.Core.Path.{◌∙◌, ◌≡◌, ap, sym}
use native.Mathlib.Omega.{arith}
use lib.ListN.{get_or, length}
use Rattle.words.specs.Alphabet.{bytes, flip_byte}
use Rattle.words.specs.Words.{common_prefix, inverse, signed}
use Rattle.words.proofs.Alphabet.{byte_laws}
use Rattle.words.proofs.Cancellation.{common_prefix_le_left, common_prefix_le_right, common_prefix-more, common_prefix_stop}
use Rattle.words.proofs.Inverse.{inverse-get_or, signed-length}

-- a letter of an inverse is the inverse of the letter as far from the end
pub letter_inverted : (w : List ℕ) (i x : ℕ) {f : ℕ} → i < length w → x ≡ get_or w (length w - 1 - i) 0 → f ≡ flip_byte x → f ≡ get_or (inverse bytes w) i 0
letter_inverted w i x h e p =
    p ∙ ap flip_byte e ∙ sym (inverse-get_or bytes byte_laws w i (length w - 1 - i) 0 0 (omega arith))

-- how far the beginnings of two words agree, each of them inverted or not
module _ (b c : Bool) (u v : List ℕ) (i most : ℕ) (here : i ≤ common_prefix bytes (signed bytes b u) (signed bytes c v))
    (bound : most ≡ min (length u) (length v)) where
  pub prefix_more : {x y : ℕ} → i < most → x ≡ get_or (signed bytes b u) i 0 → y ≡ get_or (signed bytes c v) i 0 → x ≡ y
      → i + 1 ≤ common_prefix bytes (signed bytes b u) (signed bytes c v)
  prefix_more h p q e =
      omega (
        arith,
        common_prefix-more bytes byte_laws (signed bytes b u) (signed bytes c v) i 0 0 here
            (omega (arith, signed-length bytes byte_laws b u))
            (omega (arith, signed-length bytes byte_laws c v))
            (sym p ∙ e ∙ q),
      )

  pub prefix_stop : {x y : ℕ} → x ≡ get_or (signed bytes b u) i 0 → y ≡ get_or (signed bytes c v) i 0 → (x ≡ y → ⊥)
      → i ≡ common_prefix bytes (signed bytes b u) (signed bytes c v)
  prefix_stop p q n =
      sym (common_prefix_stop bytes byte_laws (signed bytes b u) (signed bytes c v) i 0 0 here (λ e. n (p ∙ e ∙ sym q)))

  pub prefix_end : most ≤ i → most ≡ common_prefix bytes (signed bytes b u) (signed bytes c v)
  prefix_end h =
      omega (
        arith,
        common_prefix_le_left bytes byte_laws (signed bytes b u) (signed bytes c v),
        common_prefix_le_right bytes byte_laws (signed bytes b u) (signed bytes c v),
        signed-length bytes byte_laws b u,
        signed-length bytes byte_laws c v,
      )
