-- Joining words at the beginning of a buffer: a word or its inverse is put after what stands there, less what cancels.
use Prim.Native.Nat.{◌+◌, ◌-◌, ◌≤◌, suc, ℕ}
use mathlib.Core.Bool.{Bool, true}
use mathlib.Core.List.{List, [], ◌++◌, ◌∷◌, append_assoc, append-nil}
use mathlib.Core.Path.{◌∙◌, ◌≡◌, ap, ap₂, sym}
use native.Mathlib.Omega.{arith}
use lib.ListN.{drop, length, length-append, set, take, take-append-drop}
use lib.Seq.{drop-append_seam, drop-length, length-take-le, take-append_seam, take-length, take-suc-set, take-take}
use Rattle.words.specs.Alphabet.{bytes, flip_byte}
use Rattle.words.specs.Words.{cancellation, common_prefix, freely_reduce, inverse, signed}
use Rattle.words.proofs.Alphabet.{byte_laws}
use Rattle.words.proofs.Buffers.{front_part}
use Rattle.words.proofs.Cancellation.{cancellation-common_prefix, freely_reduce-cancellation}
use Rattle.words.proofs.Inverse.{drop-inverse, freely_reduce-inverse, inverse-cons, inverse-nil, signed_irreducible}
use Rattle.words.proofs.FreeReduction.{freely_reduce_twice, irreducible_of_same}

-- an inverse put after the first n letters, from its last letter to its first: i letters are there, and the rest of the word is to come
module _ (s w rest : List ℕ) (n i : ℕ) (whole : rest ≡ w) (first : i ≡ 0) where
  pub inverse_counted : i + length rest ≡ length w
  inverse_counted = omega (arith, ap length whole)

  pub inverse_whole : rest ≡ take (length rest) w
  inverse_whole = sym (take-length rest) ∙ ap (take (length rest)) whole

  pub inverse_begin : take (n + i) s ≡ take n s ++ inverse bytes (drop (length rest) w)
  inverse_begin =
      let none : n + i ≡ n = omega arith in
      ap (λ (k : ℕ). take k s) none
      ∙ sym (ap (λ (l : List ℕ). take n s ++ l) (ap (λ (k : ℕ). inverse bytes (drop k w)) (ap length whole) ∙ ap (inverse bytes) (drop-length w) ∙ inverse-nil bytes byte_laws) ∙ append-nil (take n s))

module _ (s₀ s w rest rest' : List ℕ) (n i x : ℕ) (last : rest ≡ rest' ++ (x ∷ [])) (begins : rest ≡ take (length rest) w) where
  one_less : length rest ≡ suc (length rest')
  one_less = ap length last ∙ length-append rest' (x ∷ []) ∙ omega arith

  pub inverse-counted_on : {i' : ℕ} → i + length rest ≡ length w → i' ≡ i + 1 → i' + length rest' ≡ length w
  inverse-counted_on e p = omega (arith, one_less)

  pub inverse-rest_begins : rest' ≡ take (length rest') w
  inverse-rest_begins =
      sym (take-append_seam rest' (x ∷ [])) ∙ ap (take (length rest')) (sym last ∙ begins) ∙ take-take (length rest') (length rest) w (omega (arith, one_less))

  letter : length rest ≤ length w → drop (length rest') w ≡ x ∷ drop (length rest) w
  letter h =
      let split : w ≡ rest' ++ (x ∷ drop (length rest) w) =
      sym (take-append-drop (length rest) w) ∙ ap (λ (l : List ℕ). l ++ drop (length rest) w) (sym begins ∙ last) ∙ append_assoc rest' (x ∷ []) _ in
      ap (drop (length rest')) split ∙ drop-append_seam rest' _

  pub inverse-more : (full : length s ≡ length s₀) (counted : i + length rest ≡ length w) (room : n + length w ≤ length s₀)
      (here : take (n + i) s ≡ take n s₀ ++ inverse bytes (drop (length rest) w)) {f i' j : ℕ} → f ≡ flip_byte x → j ≡ i → i' ≡ i + 1
      → take (n + i') (set s (n + j) f) ≡ take n s₀ ++ inverse bytes (drop (length rest') w)
  inverse-more full counted room here {f} {i'} {j} e p q =
      let next : n + i' ≡ suc (n + i) = omega arith in
      let place : n + j ≡ n + i = omega arith in
      ap₂ (λ (k m : ℕ). take k (set s m f)) next place ∙ take-suc-set s (n + i) f (omega (arith, one_less))
      ∙ ap₂ (λ (l : List ℕ) (y : ℕ). l ++ (y ∷ [])) here e ∙ append_assoc (take n s₀) _ _
      ∙ ap (λ (l : List ℕ). take n s₀ ++ l)
      (sym (inverse-cons bytes byte_laws x (drop (length rest) w)) ∙ ap (inverse bytes) (sym (letter (omega arith))))

-- what is left of a word or its inverse is put there
module _ (b : Bool) (s w : List ℕ) (n c : ℕ) (inside : c ≤ length w) (room : n + length w ≤ length s + c) where
  size : length (take (length w - c - 0) w) ≡ length w - c
  size = ap length (front_part w (length w - c)) ∙ length-take-le (length w - c) w (omega arith)

  pub inverse-rest : (t : List ℕ) → b ≡ true
      → take (n + length (take (length w - c - 0) w)) t ≡ take n s ++ inverse bytes (take (length w - c - 0) w)
      → take (n + length w - c) t ≡ take n s ++ drop c (signed bytes b w)
  inverse-rest t inverted e =
      let count : n + length w - c ≡ n + length (take (length w - c - 0) w) = omega (arith, size) in
      rw inverted
      (ap (λ (k : ℕ). take k t) count ∙ e
      ∙ ap (λ (l : List ℕ). take n s ++ l) (ap (inverse bytes) (front_part w (length w - c)) ∙ sym (drop-inverse bytes byte_laws c w)))

-- what stands there is multiplied by a word or its inverse
module _ (b : Bool) (s w : List ℕ) (n c : ℕ) (told : c ≡ common_prefix bytes (inverse bytes (take (n - 0) s)) (signed bytes b w)) where
  counted : c ≡ cancellation bytes (take n s) (signed bytes b w)
  counted =
      told ∙ ap (λ (l : List ℕ). common_prefix bytes (inverse bytes l) (signed bytes b w)) (front_part s n)
      ∙ sym (cancellation-common_prefix bytes byte_laws (take n s) (signed bytes b w))

  pub push-product : (t : List ℕ) → n + length w ≤ length s → freely_reduce bytes (take n s) ≡ take n s → freely_reduce bytes w ≡ w
      → take (n - c + length w - c) t ≡ take (n - c) s ++ drop c (signed bytes b w)
      → take (n - c + length w - c) t ≡ freely_reduce bytes (take n s ++ signed bytes b w)
  push-product t room freely word e =
      let long : length (take n s) ≡ n = length-take-le n s (omega arith) in
      let kept : length (take n s) - cancellation bytes (take n s) (signed bytes b w) ≡ n - c = omega (arith, counted) in
      e ∙ sym
      (freely_reduce-cancellation bytes byte_laws (take n s) (signed bytes b w) (irreducible_of_same bytes byte_laws (take n s) freely)
      (signed_irreducible bytes byte_laws b w (irreducible_of_same bytes byte_laws w word))
      ∙ ap₂ (λ (k m : ℕ). take k (take n s) ++ drop m (signed bytes b w)) kept (sym counted)
      ∙ ap (λ (l : List ℕ). l ++ drop c (signed bytes b w)) (take-take (n - c) n s (omega arith)))

-- a buffer that begins with a product begins with a freely reduced word
pub pushed_freely_reduced : (l t : List ℕ) (n : ℕ) → take n t ≡ freely_reduce bytes l → freely_reduce bytes (take n t) ≡ take n t
pushed_freely_reduced l t n e = ap (freely_reduce bytes) e ∙ freely_reduce_twice bytes byte_laws l ∙ sym e

-- and the inverse of a freely reduced word is freely reduced
pub inverse_freely_reduced : (w t : List ℕ) (n : ℕ) → freely_reduce bytes w ≡ w → take n t ≡ inverse bytes w → freely_reduce bytes (take n t) ≡ take n t
inverse_freely_reduced w t n h e =
    ap (freely_reduce bytes) e ∙ freely_reduce-inverse bytes byte_laws w ∙ ap (inverse bytes) h ∙ sym e
