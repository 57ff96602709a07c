-- The words of a system in an array that begins with them: a word put in the place of another, the inverse of another system's word put there,
-- a word more from a record, and a word more written to its slot.
use Rattle.std.proofs.Common.{ℕ, ◌*◌, ◌+◌, ◌-◌, ◌<◌, ◌≤◌, ◌≡◌, List, [], ◌++◌, ◌∷◌, length, map, drop, get_or, set, take, add-one, arith, ap, ap₂, ◌∙◌, sym, get_or-set_other, get_or-set_same, take-suc}
use Rattle.std.proofs.lemmas.Grind.{common_steps}
use native.Mathlib.Decide.{ℕ_discrete}
use borrow.Rule.Slice.PartMut.{put_mid}
use Rattle.words.specs.Alphabet.{bytes}
use Rattle.words.specs.Below.{below}
use Rattle.std.proofs.Math.Seq.{get_or-take, take-set-lt, take-suc-set}
use Rattle.std.proofs.lemmas.List.{get_or_default, map_push, length-map}
use Rattle.words.specs.Words.{Irreducible, freely_reduce, inverse}
use Rattle.words.proofs.Inverse.{inverse-length, inverse_irreducible}
use Rattle.words.proofs.Alphabet.{byte_laws}
use Rattle.words.proofs.Below.{below_length}
use Rattle.words.proofs.FreeReduction.{freely_reduce-same, irreducible_of_same}
use Rattle.systems.specs.Products.{FreelyReduced}
use Rattle.records.specs.Records.{record_of, word_of}
use Rattle.slots.specs.Systems.{AllShort, bytes_of, freely_reduced_words, record_at, slots, word_at}
use Rattle.slots.proofs.Systems.{bytes_of-parts, records_sized}
use Rattle.words.proofs.Parts.{parts_all, part_more}
use Rattle.words.specs.Buffers.{written}
use Rattle.std.specs.List.{flat_map}

-- a word in the place of another
module _ (S : List (List ℕ)) (k : ℕ) (w : List ℕ) where
  pub short_set : AllShort S → length w ≤ 63 → AllShort (set S k w)
  short_set short h j = grind (arith, common_steps, short j)

  pub freely_set : k < length S → FreelyReduced bytes S → freely_reduce bytes w ≡ w → FreelyReduced bytes (set S k w)
  freely_set inside freely h j = elim (ℕ_discrete j k) [
    | yes e ↦ rw (e, get_or-set_same S k w [] inside) (irreducible_of_same bytes byte_laws w h)
    | no m ↦ rw (get_or-set_other S k j w [] m) (freely j)
  ]

-- the inverse of a word of one system, put into the same slot of another
module _ (S T : List (List ℕ)) (k : ℕ) (w d : List ℕ) (inside : k < length S) (told : w ≡ inverse bytes (get_or S k d)) where
  inverse_told : w ≡ inverse bytes (get_or S k [])
  inverse_told = told ∙ ap (inverse bytes) (get_or_default S k d [] inside)

  pub short_inverted : AllShort S → AllShort T → AllShort (set T k w)
  short_inverted others short = short_set T k w short (rw (inverse_told, inverse-length bytes byte_laws (get_or S k [])) (others k))

  pub freely_inverted : k < length T → FreelyReduced bytes S → FreelyReduced bytes T → FreelyReduced bytes (set T k w)
  freely_inverted placed others freely =
      let turned : Irreducible bytes (inverse bytes (get_or S k [])) = inverse_irreducible bytes byte_laws (get_or S k []) (others k) in
      freely_set T k w placed freely (rw inverse_told (freely_reduce-same bytes byte_laws (inverse bytes (get_or S k [])) turned))

  pub inverse_set : (m n : ℕ) → k < m → k < n → take m (set T k w) ≡ set (take m T) k (inverse bytes (get_or (take n S) k []))
  inverse_set m n placed few = rw (take-set-lt m T k w placed, get_or-take n S k [] few) (ap (λ (v : List ℕ). set (take m T) k v) inverse_told)

  -- one slot more, where the slots before it have their inverses
  pub inverted_more : k < length T → take k T ≡ map (inverse bytes) (take k S) → take (k + 1) (set T k w) ≡ map (inverse bytes) (take (k + 1) S)
  inverted_more placed here =
      ap (λ (m : ℕ). take m (set T k w)) (add-one k) ∙ take-suc-set T k w placed ∙ ap₂ (λ (U : List (List ℕ)) (v : List ℕ). U ++ (v ∷ [])) here inverse_told
      ∙ sym (map_push (inverse bytes) (take k S) (get_or S k []))
      ∙ ap (map (inverse bytes)) (sym (ap (λ (m : ℕ). take m S) (add-one k) ∙ take-suc S k [] inside))

-- the words of k records, and one more from its record
module _ (s : List ℕ) (S : List (List ℕ)) (k : ℕ) (here : S ≡ map (freely_reduce bytes) (below (word_at s) k)) where
  pub load_count : length S ≡ k
  load_count = ap length here ∙ length-map (below (word_at s) k) (freely_reduce bytes) ∙ below_length (word_at s) k

  pub load_more : {x : List ℕ} {T : List (List ℕ)} → x ≡ record_at s k → T ≡ S ++ (freely_reduce bytes (word_of x) ∷ [])
      → T ≡ map (freely_reduce bytes) (below (word_at s) (k + 1))
  load_more part told =
      told ∙ ap₂ (λ (U : List (List ℕ)) (w : List ℕ). U ++ (w ∷ [])) here (ap (λ (l : List ℕ). freely_reduce bytes (word_of l)) part)
      ∙ sym (map_push (freely_reduce bytes) (below (word_at s) k) _)
      ∙ ap (λ (m : ℕ). map (freely_reduce bytes) (below (word_at s) m)) (sym (add-one k))

  pub load_all : k ≡ slots s → S ≡ freely_reduced_words s
  unfolding freely_reduced_words
  load_all all = here ∙ ap (λ (m : ℕ). map (freely_reduce bytes) (below (word_at s) m)) all

-- one word more is written into its slot
module _ (S : List (List ℕ)) (k : ℕ) (buffer out w y d : List ℕ) (short : AllShort S) (inside : k < length S)
    (here : out ≡ flat_map record_of (take k S) ++ drop (k * 64) buffer) (mine : w ≡ get_or S k d) (told : y ≡ record_of w) where
  pub store_more : put_mid (k * 64) (k * 64 + 64 - k * 64) out y ≡ flat_map record_of (take (k + 1) S) ++ drop ((k + 1) * 64) buffer
  store_more = part_more record_of 64 [] S (records_sized S short) k inside buffer y out here (told ∙ ap record_of (mine ∙ get_or_default S k d [] inside))

-- the words of all slots
pub stored_all : (S : List (List ℕ)) (k : ℕ) (buffer out : List ℕ) → AllShort S → k ≡ length S → out ≡ flat_map record_of (take k S) ++ drop (k * 64) buffer
    → out ≡ written (bytes_of S) buffer
stored_all S k buffer out short all here =
    parts_all record_of 64 [] S (records_sized S short) k buffer out all here ∙ ap (λ (l : List ℕ). written l buffer) (bytes_of-parts S)
