-- Parts of one size, one for each item of a list, written one after the other into a buffer.
use Rattle.std.proofs.Common.{zero, ℕ, ◌*◌, ◌+◌, ◌-◌, ◌<◌, ◌≡◌, List, [], ◌++◌, ◌∷◌, suc, length, drop, get_or, take, add-one, append_assoc, append-nil, arith, ap, ap₂, ◌∙◌, sym, drop_at, drop-drop, length-append, length-take-le, take_at}
use native.Mathlib.Nat.{suc-mul}
use Rattle.words.specs.Buffers.{written}
use lib.Seq.{take_all}
use lib.ListN.{length-drop, take-append-drop}
use Rattle.std.specs.List.{flat_map}
use Rattle.std.specs.Simd.{first_chunks}
use Rattle.std.proofs.lemmas.Grind.{flat_map-append}
use Rattle.std.proofs.lemmas.List.{nil_from_length, take_more}
use Rattle.std.proofs.Math.Seq.{get_or-take}
use borrow.Rule.Slice.PartMut.{put_mid, same_len_mid}

-- a part put behind the bytes that are written already
part_put : (at k : ℕ) (done rest part out : List ℕ) → length done ≡ at → out ≡ done ++ rest → put_mid at k out part ≡ (done ++ part) ++ drop k rest
part_put at k done rest part out long here =
    ap₂ (λ (u v : List ℕ). u ++ (part ++ drop k v)) (ap (take at) here ∙ take_at done rest at long) (ap (drop at) here ∙ drop_at done rest at long)
    ∙ sym (append_assoc done part _)

-- the buffer has its length still where a part of it was lent and came back
pub mid_length : (a k n : ℕ) (s y : List ℕ) → length y ≡ length (take k (drop a s)) → length s ≡ n → length (put_mid a k s y) ≡ n
mid_length a k n s y kept e = same_len_mid a k s y kept ∙ e

-- the parts of some bytes, by their numbers
pub chunk_at : (size n k : ℕ) (s d : List ℕ) → k < n → get_or (first_chunks size n s) k d ≡ take size (drop (k * size) s)
chunk_at size zero k s d h = absurd (omega arith)
chunk_at size (suc n) zero s d h =
    let start : 0 ≡ 0 * size = omega arith in
    ap (λ (m : ℕ). take size (drop m s)) start
chunk_at size (suc n) (suc k) s d h =
    let place : size + k * size ≡ suc k * size = omega (arith, suc-mul k size) in
    chunk_at size n k (drop size s) d (omega arith) ∙ ap (take size) (drop-drop (k * size) size s ∙ ap (λ (m : ℕ). drop m s) place)

module _ {A : Type 0} (f : A → List ℕ) (size : ℕ) (d : A) where
  -- each part has the size
  abbrev pub Sized : List A → Type 0
  Sized xs = (k : ℕ) → k < length xs → length (f (get_or xs k d)) ≡ size

  pub parts-length : (xs : List A) → Sized xs → length (flat_map f xs) ≡ length xs * size
  parts-length [] sized = omega arith
  parts-length (x ∷ xs) sized =
      length-append (f x) (flat_map f xs)
      ∙ omega (arith, sized 0 (omega arith), parts-length xs (λ k h. sized (suc k) (omega arith)), suc-mul (length xs) size)

  -- the part of an item
  pub part_at : (xs : List A) → Sized xs → (k : ℕ) → k < length xs → take size (drop (k * size) (flat_map f xs)) ≡ f (get_or xs k d)
  part_at [] sized k h = absurd (omega arith)
  part_at (x ∷ xs) sized zero h =
      let start : 0 * size ≡ 0 = omega arith in
      ap (λ (m : ℕ). take size (drop m (f x ++ flat_map f xs))) start ∙ take_at (f x) (flat_map f xs) size (sized 0 (omega arith))
  part_at (x ∷ xs) sized (suc k) h =
      let place : suc k * size ≡ size + k * size = omega (arith, suc-mul k size) in
      ap (λ (m : ℕ). take size (drop m (f x ++ flat_map f xs))) place
      ∙ ap (take size)
      (sym (drop-drop (k * size) size (f x ++ flat_map f xs)) ∙ ap (drop (k * size)) (drop_at (f x) (flat_map f xs) size (sized 0 (omega arith))))
      ∙ part_at xs (λ j l. sized (suc j) (omega arith)) k (omega arith)

  -- bytes of which each item gives one part, in order, are the parts of all items
  pub parts_back : (xs : List A) (s : List ℕ) → length s ≡ length xs * size
      → ((k : ℕ) → k < length xs → f (get_or xs k d) ≡ take size (drop (k * size) s)) → flat_map f xs ≡ s
  parts_back [] s long each = sym (nil_from_length s (omega (arith, long)))
  parts_back (x ∷ xs) s long each =
      let start : 0 * size ≡ 0 = omega arith in
      let first : f x ≡ take size s = each 0 (omega arith) ∙ ap (λ (m : ℕ). take size (drop m s)) start in
      let rest : length (drop size s) ≡ length xs * size = omega (arith, long, length-drop size s, suc-mul (length xs) size) in
      let others : (k : ℕ) → k < length xs → f (get_or xs k d) ≡ take size (drop (k * size) (drop size s)) =
      λ k h.
      let place : size + k * size ≡ suc k * size = omega (arith, suc-mul k size) in
      each (suc k) (omega arith) ∙ ap (take size) (sym (drop-drop (k * size) size s ∙ ap (λ (m : ℕ). drop m s) place)) in
      ap₂ (λ (u v : List ℕ). u ++ v) first (parts_back xs (drop size s) rest others) ∙ take-append-drop size s

  -- one part more
  module _ (xs : List A) (sized : Sized xs) (k : ℕ) (inside : k < length xs) where
    front_sized : Sized (take k xs)
    front_sized j h =
        let count : length (take k xs) ≡ k = length-take-le k xs (omega arith) in
        ap (λ (x : A). length (f x)) (get_or-take k xs j d (omega (arith, count))) ∙ sized j (omega (arith, count))

    pub part_more : (buffer part out : List ℕ) → out ≡ flat_map f (take k xs) ++ drop (k * size) buffer → part ≡ f (get_or xs k d)
        → put_mid (k * size) (k * size + size - k * size) out part ≡ flat_map f (take (k + 1) xs) ++ drop ((k + 1) * size) buffer
    part_more buffer part out here told =
        let count : length (take k xs) ≡ k = length-take-le k xs (omega arith) in
        let long : length (flat_map f (take k xs)) ≡ k * size = parts-length (take k xs) front_sized ∙ ap (λ (m : ℕ). m * size) count in
        let next : k * size + size ≡ (k + 1) * size = sym (ap (λ (m : ℕ). m * size) (add-one k) ∙ suc-mul k size) in
        let step : k * size + (k * size + size - k * size) ≡ (k + 1) * size = omega (arith, next) in
        let more : flat_map f (take k xs) ++ part ≡ flat_map f (take (k + 1) xs) =
        ap (λ (l : List ℕ). flat_map f (take k xs) ++ l) (told ∙ sym (append-nil (f (get_or xs k d))))
        ∙ sym (flat_map-append f (take k xs) (get_or xs k d ∷ [])) ∙ ap (flat_map f) (sym (take_more xs k d inside)) in
        part_put (k * size) (k * size + size - k * size) (flat_map f (take k xs)) (drop (k * size) buffer) part out long here
        ∙ ap₂ (λ (u v : List ℕ). u ++ v) more (drop-drop (k * size + size - k * size) (k * size) buffer ∙ ap (λ (m : ℕ). drop m buffer) step)

  -- the parts of all items
  pub parts_all : (xs : List A) (sized : Sized xs) (k : ℕ) (buffer out : List ℕ) → k ≡ length xs → out ≡ flat_map f (take k xs) ++ drop (k * size) buffer
      → out ≡ written (flat_map f xs) buffer
  parts_all xs sized k buffer out all here =
      here ∙ ap₂ (λ (l : List A) (m : ℕ). flat_map f l ++ drop m buffer) (take_all k xs (omega (arith, all)))
      (ap (λ (n : ℕ). n * size) all ∙ sym (parts-length xs sized))
