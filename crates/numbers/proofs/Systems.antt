-- Systems of numbers: the record in a slot, and the words of a system, each changed and written into its slot.
use Prim.Native.Nat.{ℕ, ◌+◌, ◌*◌, ◌-◌, ◌<◌, ◌≤◌}
use mathlib.Core.Bool.{Bool, not}
use mathlib.Core.List.{List, [], ◌++◌, map}
use mathlib.Core.Path.{◌≡◌, ◌∙◌, ap, sym}
use native.Mathlib.Omega.{arith}
use lib.ListN.{drop, get_or, length, length-append, length-map, length-replicate, take}
use borrow.Rule.Slice.PartMut.{put_mid}
use Rattle.std.proofs.Common.{length-take}
use Rattle.std.proofs.lemmas.List.{get_or-map}
use Rattle.std.specs.List.{flat_map, prefix_len}
use Rattle.std.specs.Simd.{first_chunks}
use Rattle.words.proofs.Below.{below_at, below_length}
use Rattle.words.proofs.FreeReduction.{length-freely_reduce}
use Rattle.words.proofs.Parts.{Sized, chunk_at, part_more, parts_all, parts-length}
use Rattle.words.specs.Below.{below}
use Rattle.words.specs.Buffers.{written}
use Rattle.words.specs.Words.{freely_reduce}
use Rattle.records.specs.Records.{record_of, word_of}
use Rattle.records.specs.Refusals.{Checked}
use Rattle.records.proofs.RoundTrip.{word-short}
use Rattle.slots.specs.Systems.{record_at, slots, system_of, word_at}
use Rattle.slots.proofs.Systems.{bytes_of-parts, record-length, room_enough}
use Rattle.numbers.specs.Numbers.{number_letter, letter_number, signed_numbers}
use Rattle.numbers.specs.Records.{is_zero, number_bytes, numbers_in, numbers_record, numbers_record_at, numbers_slots, numbers_system_of, numbers_word}
use Rattle.numbers.specs.Refusals.{letters_room, numbers_room, numbers_rules, numbers_slot_rules, numbers_system_rules}
use Rattle.slots.specs.Refusals.{system_rules}
use Rattle.std.specs.Prelude.{Ok}
use Rattle.records.proofs.Chains.{fine_first, fine_next}
use Rattle.numbers.specs.Calls.{as_letters, as_numbers, tidied_numbers}
use Rattle.numbers.proofs.Numbers.{number_laws}
use Rattle.numbers.proofs.Writing.{number_sized}

pub slot_told : (back : Bool) (s : List ℕ) (n k : ℕ) (d : List ℕ) {r : Checked} → k < n → r ≡ numbers_rules back (get_or (first_chunks 128 n s) k d) (k * 128)
    → r ≡ numbers_slot_rules back s k
slot_told back s n k d h told = told ∙ ap (λ (b : List ℕ). numbers_rules back b (k * 128)) (chunk_at 128 n k s d h)

-- a word of at most 63 numbers has a record of 128 bytes
pub numbers_record-length : (w : List ℕ) → length w ≤ 63 → length (numbers_record w) ≡ 128
numbers_record-length w short =
    length-append (flat_map number_bytes w) _
    ∙ omega (arith, parts-length number_bytes 2 0 w (number_sized w), length-replicate {A = ℕ} (128 - length w * 2) 0)

-- and the word in a record has no more
pub numbers_word-short : (r : List ℕ) → length (numbers_word r) ≤ 63
numbers_word-short r = omega (arith, length-take (prefix_len (λ x. not (is_zero x)) (take 63 (numbers_in r))) (take 63 (numbers_in r)), length-take 63 (numbers_in r))

-- the words of a system, each changed and then written as its record
module _ (item : List ℕ → List ℕ) (size : ℕ) (change : List ℕ → List ℕ) (word : ℕ → List ℕ) (sized : (k : ℕ) → length (item (change (word k))) ≡ size) (n : ℕ) where
  abbrev words : List (List ℕ)
  words = map change (below word n)

  count : length words ≡ n
  count = length-map (below word n) change ∙ below_length word n

  change_at : (k : ℕ) → k < n → get_or words k [] ≡ change (word k)
  change_at k h =
      get_or-map change (below word n) k [] [] (omega (arith, h, below_length word n)) ∙ ap change (below_at word n k [] h)

  all_sized : Sized item size [] words
  all_sized k h = ap (λ (w : List ℕ). length (item w)) (change_at k (omega (arith, h, count))) ∙ sized k

  slot_more : (k : ℕ) (buffer out part : List ℕ) → k < n → out ≡ flat_map item (take k words) ++ drop (k * size) buffer → part ≡ item (change (word k))
      → put_mid (k * size) (k * size + size - k * size) out part ≡ flat_map item (take (k + 1) words) ++ drop ((k + 1) * size) buffer
  slot_more k buffer out part h here told =
      part_more item size [] words all_sized k (omega (arith, h, count)) buffer part out here (told ∙ sym (ap item (change_at k h)))

  slots_all : (k : ℕ) (buffer out : List ℕ) → k ≡ n → out ≡ flat_map item (take k words) ++ drop (k * size) buffer → out ≡ written (flat_map item words) buffer
  slots_all k buffer out all here = parts_all item size [] words all_sized k buffer out (omega (arith, all, count)) here

-- the words that each of the three calls writes
abbrev pub numbered : List ℕ → List (List ℕ)
numbered s = map (map letter_number) (system_of s)

abbrev pub lettered : List ℕ → List (List ℕ)
lettered n = map (map number_letter) (numbers_system_of n)

abbrev pub reduced : List ℕ → List (List ℕ)
reduced n = map (freely_reduce signed_numbers) (numbers_system_of n)

-- what each call has written when it comes to a slot
module _ (s : List ℕ) where
  number_size : (k : ℕ) → length (numbers_record (map letter_number (word_at s k))) ≡ 128
  number_size k = numbers_record-length (map letter_number (word_at s k)) (omega (arith, length-map (word_at s k) letter_number, word-short (record_at s k)))

  pub numbered_more : (k : ℕ) (buffer out part d : List ℕ) → k < slots s → out ≡ flat_map numbers_record (take k (numbered s)) ++ drop (k * 128) buffer
      → part ≡ numbers_record (map letter_number (word_of (get_or (first_chunks 64 (slots s) s) k d)))
      → put_mid (k * 128) (k * 128 + 128 - k * 128) out part ≡ flat_map numbers_record (take (k + 1) (numbered s)) ++ drop ((k + 1) * 128) buffer
  numbered_more k buffer out part d h here told =
      slot_more numbers_record 128 (map letter_number) (word_at s) number_size (slots s) k buffer out part h here
      (told ∙ ap (λ (r : List ℕ). numbers_record (map letter_number (word_of r))) (chunk_at 64 (slots s) k s d h))

  pub numbered_all : (k : ℕ) (buffer out : List ℕ) → k ≡ slots s → out ≡ flat_map numbers_record (take k (numbered s)) ++ drop (k * 128) buffer
      → out ≡ written (as_numbers s) buffer
  unfolding as_numbers
  numbered_all k buffer out all here = slots_all numbers_record 128 (map letter_number) (word_at s) number_size (slots s) k buffer out all here

module _ (n : List ℕ) where
  abbrev slot_word : ℕ → List ℕ
  slot_word k = numbers_word (numbers_record_at n k)

  letter_size : (k : ℕ) → length (record_of (map number_letter (slot_word k))) ≡ 64
  letter_size k = record-length (map number_letter (slot_word k)) (omega (arith, length-map (slot_word k) number_letter, numbers_word-short (numbers_record_at n k)))

  pub lettered_more : (k : ℕ) (buffer out part d : List ℕ) → k < numbers_slots n → out ≡ flat_map record_of (take k (lettered n)) ++ drop (k * 64) buffer
      → part ≡ record_of (map number_letter (numbers_word (get_or (first_chunks 128 (numbers_slots n) n) k d)))
      → put_mid (k * 64) (k * 64 + 64 - k * 64) out part ≡ flat_map record_of (take (k + 1) (lettered n)) ++ drop ((k + 1) * 64) buffer
  lettered_more k buffer out part d h here told =
      slot_more record_of 64 (map number_letter) slot_word letter_size (numbers_slots n) k buffer out part h here
      (told ∙ ap (λ (r : List ℕ). record_of (map number_letter (numbers_word r))) (chunk_at 128 (numbers_slots n) k n d h))

  pub lettered_all : (k : ℕ) (buffer out : List ℕ) → k ≡ numbers_slots n → out ≡ flat_map record_of (take k (lettered n)) ++ drop (k * 64) buffer
      → out ≡ written (as_letters n) buffer
  unfolding as_letters
  lettered_all k buffer out all here =
      slots_all record_of 64 (map number_letter) slot_word letter_size (numbers_slots n) k buffer out all here
      ∙ ap (λ (l : List ℕ). written l buffer) (bytes_of-parts (lettered n))

  reduced_size : (k : ℕ) → length (numbers_record (freely_reduce signed_numbers (slot_word k))) ≡ 128
  reduced_size k =
      numbers_record-length (freely_reduce signed_numbers (slot_word k))
      (omega (arith, length-freely_reduce signed_numbers number_laws (slot_word k), numbers_word-short (numbers_record_at n k)))

  pub reduced_more : (k : ℕ) (buffer out part d : List ℕ) → k < numbers_slots n → out ≡ flat_map numbers_record (take k (reduced n)) ++ drop (k * 128) buffer
      → part ≡ numbers_record (freely_reduce signed_numbers (numbers_word (get_or (first_chunks 128 (numbers_slots n) n) k d)))
      → put_mid (k * 128) (k * 128 + 128 - k * 128) out part ≡ flat_map numbers_record (take (k + 1) (reduced n)) ++ drop ((k + 1) * 128) buffer
  reduced_more k buffer out part d h here told =
      slot_more numbers_record 128 (freely_reduce signed_numbers) slot_word reduced_size (numbers_slots n) k buffer out part h here
      (told ∙ ap (λ (r : List ℕ). numbers_record (freely_reduce signed_numbers (numbers_word r))) (chunk_at 128 (numbers_slots n) k n d h))

  pub reduced_all : (k : ℕ) (buffer out : List ℕ) → k ≡ numbers_slots n → out ≡ flat_map numbers_record (take k (reduced n)) ++ drop (k * 128) buffer
      → out ≡ written (tidied_numbers n) buffer
  unfolding tidied_numbers
  reduced_all k buffer out all here =
      slots_all numbers_record 128 (freely_reduce signed_numbers) slot_word reduced_size (numbers_slots n) k buffer out all here

-- the room of a call that goes on
pub letters_fit : (s : List ℕ) (room : ℕ) {x : Checked} → x ≡ letters_room s room → x ≡ Ok tt → slots s * 128 ≤ room
unfolding letters_room
letters_fit s room e h = room_enough (slots s * 128) room (fine_next (system_rules s) _ (sym e ∙ h))

pub numbers_fit : (back : Bool) (n : List ℕ) (size room : ℕ) {x : Checked} → x ≡ numbers_room back n size room → x ≡ Ok tt → numbers_slots n * size ≤ room
unfolding numbers_room
numbers_fit back n size room e h = room_enough (numbers_slots n * size) room (fine_next (numbers_system_rules back n) _ (sym e ∙ h))

-- and its system, or numbers, pass their tests
pub letters_fine : (s : List ℕ) (room : ℕ) → letters_room s room ≡ Ok tt → system_rules s ≡ Ok tt
unfolding letters_room
letters_fine s room e = fine_first (system_rules s) _ e

pub numbers_fine : (back : Bool) (n : List ℕ) (size room : ℕ) → numbers_room back n size room ≡ Ok tt → numbers_system_rules back n ≡ Ok tt
unfolding numbers_room
numbers_fine back n size room e = fine_first (numbers_system_rules back n) _ e
