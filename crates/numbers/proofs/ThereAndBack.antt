-- Systems of letters and of numbers: there and back, back and there, and free reduction before and after.
use Prim.Native.Nat.{ℕ, ◌%◌, ◌*◌, ◌+◌, ◌<◌, ◌≤◌}
use mathlib.Core.Bool.{Bool, false, true, true≢false}
use mathlib.Core.List.{List, [], ◌∷◌, map}
use mathlib.Core.Path.{◌∙◌, ◌≡◌, ap, ap₂, refl, sym}
use native.Mathlib.Decide.{dec_lt}
use native.Mathlib.Omega.{arith}
use lib.ListN.{drop, get_or, get_or-eq_default, length, length-drop, length-map}
use lib.Dec.{eqb, leb}
use lib.Seq.{ext_get_or, get_or-take}
use borrow.Author.Tests.{eq-eqb, eqb-true, le-leb, leb-true}
use Rattle.std.proofs.Common.{length-take, length-take-le}
use Rattle.std.proofs.lemmas.List.{get_or-drop, get_or-map}
use Rattle.std.specs.Prelude.{Ok}
use Rattle.words.specs.Alphabet.{bytes}
use Rattle.words.specs.Words.{Each, freely_reduce}
use Rattle.words.proofs.Alphabet.{byte_laws}
use Rattle.words.proofs.Below.{below_at, below_each, below_length}
use Rattle.words.proofs.Mapping.{each_at, each_both, each_from, each_map, map-freely_reduce, map_back, each_freely_reduce}
use Rattle.words.proofs.Parts.{Sized, part_at, parts_back, parts-length}
use Rattle.records.specs.Records.{AllLetters, is_letter}
use Rattle.records.specs.Refusals.{each_below, must}
use Rattle.records.specs.declared.refusals.Reason.TheVariants.{SystemTooLong, SystemUneven}
use Rattle.records.proofs.Chains.{each_passed, each_passes, fine_first, fine_next, must_fine}
use Rattle.records.proofs.RoundTrip.{letter-flip}
use Rattle.slots.specs.Refusals.{system_rules}
use Rattle.slots.specs.Systems.{AllShort, LetterWords, bytes_of, freely_reduced_words, slots, system_of, word_at}
use Rattle.slots.proofs.RoundTrip.{system-word, word_written, reduced-short, reduced_letters, system-length, system-short, system_back, system_letters, system_passes, system_same, bytes_of-length}
use Rattle.slots.proofs.Systems.{system-few}
use Rattle.numbers.specs.Calls.{as_letters, as_numbers, tidied_numbers}
use Rattle.numbers.specs.Numbers.{within_26, is_number, number_letter, letter_number, signed_numbers}
use Rattle.numbers.specs.Records.{numbers_bytes_of, numbers_record, numbers_record_at, numbers_slots, numbers_system_of, numbers_word}
use Rattle.numbers.specs.Refusals.{numbers_slot_rules, numbers_system_rules}
use Rattle.numbers.proofs.Numbers.{letter_back, letter_passes, number_apart, number_back, number_laws, number_passes, number_turned, number_within_26}
use Rattle.numbers.proofs.RoundTrip.{AllWithin26, AllNumbers, numbers_record_passes, numbers_record_same, numbers_word_back, word_lettered, word_numbers}
use Rattle.words.proofs.FreeReduction.{length-freely_reduce}
use Rattle.numbers.proofs.Systems.{lettered, numbered, reduced, numbers_record-length, numbers_word-short}

-- a system of words of numbers, and one of which each number has a letter
abbrev NumberWords : List (List ℕ) → Type 0
NumberWords S = (k : ℕ) → AllNumbers (get_or S k [])

abbrev Within26Words : List (List ℕ) → Type 0
Within26Words S = (k : ℕ) → AllWithin26 (get_or S k [])

-- letter by letter a word keeps its length
short_map : (f : ℕ → ℕ) (S : List (List ℕ)) → AllShort S → AllShort (map (map f) S)
short_map f S short =
    each_at (λ w. length w ≤ 63) [] (omega arith) (map (map f) S)
    (each_map (λ w. length w ≤ 63) (λ w. length w ≤ 63) (map f) (λ w h. omega (arith, length-map w f, h)) S (each_from (λ w. length w ≤ 63) [] S short))

-- words of at most 63 numbers, written as a system of records and read back
module _ (S : List (List ℕ)) (short : AllShort S) (all : NumberWords S) where
  sizes : Sized numbers_record 128 [] S
  sizes k h = numbers_record-length (get_or S k []) (short k)

  bytes-length : length (numbers_bytes_of S) ≡ length S * 128
  bytes-length = parts-length numbers_record 128 [] S sizes

  record_there : (k : ℕ) → k < length S → numbers_record_at (numbers_bytes_of S) k ≡ numbers_record (get_or S k [])
  record_there k h = part_at numbers_record 128 [] S sizes k h

  word_there : (k : ℕ) → k < length S → numbers_word (numbers_record_at (numbers_bytes_of S) k) ≡ get_or S k []
  word_there k h = ap numbers_word (record_there k h) ∙ numbers_word_back (get_or S k []) (short k) (all k)

  words_back : numbers_system_of (numbers_bytes_of S) ≡ S
  words_back =
      let each : (k : ℕ) → List ℕ = λ k. numbers_word (numbers_record_at (numbers_bytes_of S) k) in
      let count : numbers_slots (numbers_bytes_of S) ≡ length S = omega (arith, bytes-length) in
      ext_get_or [] (numbers_system_of (numbers_bytes_of S)) S (below_length each (numbers_slots (numbers_bytes_of S)) ∙ count)
      (λ k h.
      let inside : k < length S = omega (arith, h, below_length each (numbers_slots (numbers_bytes_of S)), count) in
      below_at each (numbers_slots (numbers_bytes_of S)) k [] (omega (arith, inside, count)) ∙ word_there k inside)

  words_pass : (back : Bool) → (back ≡ true → Within26Words S) → length S ≤ 16 → numbers_system_rules back (numbers_bytes_of S) ≡ Ok tt
  unfolding numbers_system_rules
  words_pass back lettered few =
      let even : length (numbers_bytes_of S) % 128 ≡ 0 = omega (arith, bytes-length) in
      let count : numbers_slots (numbers_bytes_of S) ≡ length S = omega (arith, bytes-length) in
      let each : each_below (numbers_slot_rules back (numbers_bytes_of S)) (length S) ≡ Ok tt =
      each_passes (numbers_slot_rules back (numbers_bytes_of S)) (length S)
      (λ k h. rw (record_there k h) (numbers_record_passes (get_or S k []) (short k) (all k) back (k * 128) (λ b. lettered b k))) in
      rw (le-leb (length (numbers_bytes_of S)) 2048 (omega (arith, bytes-length)), eq-eqb _ _ even, count) each

-- a system of numbers that passes its tests
module _ (n : List ℕ) (back : Bool) (e : numbers_system_rules back n ≡ Ok tt) where
  passed : each_below (numbers_slot_rules back n) (numbers_slots n) ≡ Ok tt
  unfolding numbers_system_rules
  passed = fine_next (must (eqb (length n % 128) 0) SystemUneven 0) _ (fine_next (must (leb (length n) 2048) SystemTooLong 0) _ e)

  even : length n % 128 ≡ 0
  unfolding numbers_system_rules
  even =
      eqb-true _ _
      (must_fine _ SystemUneven 0 (fine_first (must (eqb (length n % 128) 0) SystemUneven 0) _ (fine_next (must (leb (length n) 2048) SystemTooLong 0) _ e)))

  most : length n ≤ 2048
  unfolding numbers_system_rules
  most = leb-true _ _ (must_fine _ SystemTooLong 0 (fine_first (must (leb (length n) 2048) SystemTooLong 0) _ e))

  words-length : length (numbers_system_of n) ≡ numbers_slots n
  words-length = below_length (λ k. numbers_word (numbers_record_at n k)) (numbers_slots n)

  record-length : (k : ℕ) → k < numbers_slots n → length (numbers_record_at n k) ≡ 128
  record-length k h = length-take-le 128 (drop (k * 128) n) (omega (arith, length-drop (k * 128) n))

  read-each : (P : List ℕ → Type 0) → P [] → ((k : ℕ) → k < numbers_slots n → P (numbers_word (numbers_record_at n k))) → (k : ℕ) → P (get_or (numbers_system_of n) k [])
  read-each P blank each k = below_each (λ j. numbers_word (numbers_record_at n j)) P (numbers_slots n) [] blank each k

  slot_passed : (k : ℕ) → k < numbers_slots n → numbers_slot_rules back n k ≡ Ok tt
  slot_passed k h = each_passed (numbers_slot_rules back n) (numbers_slots n) k passed h

  read_short : AllShort (numbers_system_of n)
  read_short = read-each (λ w. length w ≤ 63) (omega arith) (λ k h. numbers_word-short (numbers_record_at n k))

  read_numbers : NumberWords (numbers_system_of n)
  read_numbers = read-each AllNumbers tt (λ k h. word_numbers (numbers_record_at n k) (k * 128) back (record-length k h) (slot_passed k h))

  read_lettered : back ≡ true → Within26Words (numbers_system_of n)
  read_lettered there = read-each AllWithin26 tt (λ k h. word_lettered (numbers_record_at n k) (k * 128) back (record-length k h) (slot_passed k h) there)

  module _ (fits : (i : ℕ) → get_or n i 0 < 256) where
    record_fits : (k i : ℕ) → get_or (numbers_record_at n k) i 0 < 256
    record_fits k i = elim (dec_lt i 128) [
      | yes h ↦ rw (get_or-take 128 (drop (k * 128) n) i 0 h, get_or-drop (k * 128) n i 0) (fits (k * 128 + i))
      | no m ↦ rw (get_or-eq_default (numbers_record_at n k) 0 {n = i} (omega (arith, length-take 128 (drop (k * 128) n)))) (omega arith)
    ]

    read_same : numbers_bytes_of (numbers_system_of n) ≡ n
    read_same =
        parts_back numbers_record 128 [] (numbers_system_of n) n (omega (arith, words-length, even))
        (λ k h.
        let inside : k < numbers_slots n = omega (arith, h, words-length) in
        ap numbers_record (below_at (λ j. numbers_word (numbers_record_at n j)) (numbers_slots n) k [] inside)
        ∙ numbers_record_same (numbers_record_at n k) (k * 128) back (record-length k inside) (slot_passed k inside) (record_fits k))

-- free reduction of numbers is that of words over their generators
pub reduced_alike : (w : List ℕ) → AllLetters w → map letter_number (freely_reduce bytes w) ≡ freely_reduce signed_numbers (map letter_number w)
reduced_alike w a =
    map-freely_reduce bytes byte_laws (λ b. is_letter b ≡ true) letter-flip signed_numbers number_laws letter_number number_turned (λ x y p q e. number_apart x y p q e) w a

all_reduced_alike : (S : List (List ℕ)) → Each AllLetters S
    → map (freely_reduce signed_numbers) (map (map letter_number) S) ≡ map (map letter_number) (map (freely_reduce bytes) S)
all_reduced_alike [] a = refl
all_reduced_alike (w ∷ S) a = ap₂ (λ (v : List ℕ) (T : List (List ℕ)). v ∷ T) (sym (reduced_alike w a.0)) (all_reduced_alike S a.1)

-- the words of a system of letters, as numbers
module _ (s : List ℕ) (e : system_rules s ≡ Ok tt) where
  letters_each : Each AllLetters (system_of s)
  letters_each = each_from AllLetters [] (system_of s) (system_letters s e)

  words_short : AllShort (numbered s)
  words_short = short_map letter_number (system_of s) (system-short s)

  words_numbers : NumberWords (numbered s)
  words_numbers =
      each_at AllNumbers [] tt (numbered s)
      (each_map AllLetters AllNumbers (map letter_number) (λ w a. each_map (λ b. is_letter b ≡ true) (λ x. is_number x ≡ true) letter_number number_passes w a) (system_of s) letters_each)

  words_lettered : Within26Words (numbered s)
  words_lettered =
      each_at AllWithin26 [] tt (numbered s)
      (each_map AllLetters AllWithin26 (map letter_number) (λ w a. each_map (λ b. is_letter b ≡ true) (λ x. within_26 x ≡ true) letter_number number_within_26 w a) (system_of s) letters_each)

  count : length (numbered s) ≡ slots s
  count = length-map (system_of s) (map letter_number) ∙ system-length s

  pub number_words : (k : ℕ) → k < slots s → numbers_word (numbers_record_at (as_numbers s) k) ≡ map letter_number (word_at s k)
  unfolding as_numbers
  number_words k h =
      word_there (numbered s) words_short words_numbers k (omega (arith, h, count))
      ∙ get_or-map (map letter_number) (system_of s) k [] [] (omega (arith, h, system-length s)) ∙ ap (map letter_number) (system-word s k h)

  pub there-length : length (as_numbers s) ≡ slots s * 128
  unfolding as_numbers
  there-length = bytes-length (numbered s) words_short words_numbers ∙ ap (λ (n : ℕ). n * 128) count

  pub there_accepted : (back : Bool) → numbers_system_rules back (as_numbers s) ≡ Ok tt
  unfolding as_numbers
  there_accepted back = words_pass (numbered s) words_short words_numbers back (λ b. words_lettered) (omega (arith, count, system-few s e))

  -- "Going there and back gives the same bytes"
  pub there_same : as_letters (as_numbers s) ≡ s
  unfolding as_letters as_numbers
  there_same =
      ap (λ (S : List (List ℕ)). bytes_of (map (map number_letter) S)) (words_back (numbered s) words_short words_numbers)
      ∙ ap bytes_of (map_back AllLetters (map letter_number) (map number_letter) (λ w a. map_back (λ b. is_letter b ≡ true) letter_number number_letter letter_back w a) (system_of s) letters_each)
      ∙ system_same s e

  -- a system tidied before or after it goes there
  pub tidied_alike : tidied_numbers (as_numbers s) ≡ as_numbers (bytes_of (freely_reduced_words s))
  unfolding as_numbers tidied_numbers freely_reduced_words
  tidied_alike =
      ap (λ (S : List (List ℕ)). numbers_bytes_of (map (freely_reduce signed_numbers) S)) (words_back (numbered s) words_short words_numbers)
      ∙ ap numbers_bytes_of (all_reduced_alike (system_of s) letters_each)
      ∙ ap (λ (S : List (List ℕ)). numbers_bytes_of (map (map letter_number) S)) (sym (system_back (freely_reduced_words s) (reduced_letters s e) (reduced-short s)))

-- a system of numbers that are accepted on the way back, as letters
module _ (n : List ℕ) (e : numbers_system_rules true n ≡ Ok tt) where
  abbrev Lettered : ℕ → Type 0
  Lettered x = (is_number x ≡ true) × (within_26 x ≡ true)

  lettered_each : Each (Each Lettered) (numbers_system_of n)
  lettered_each =
      each_from (Each Lettered) [] (numbers_system_of n)
      (λ k. each_both (λ x. is_number x ≡ true) (λ x. within_26 x ≡ true) (get_or (numbers_system_of n) k []) (read_numbers n true e k) (read_lettered n true e refl k))

  letters_read : LetterWords (lettered n)
  letters_read =
      each_at AllLetters [] tt (lettered n)
      (each_map (Each Lettered) AllLetters (map number_letter) (λ w a. each_map Lettered (λ b. is_letter b ≡ true) number_letter (λ x h. letter_passes x h.0 h.1) w a) (numbers_system_of n) lettered_each)

  letters_short : AllShort (lettered n)
  letters_short = short_map number_letter (numbers_system_of n) (read_short n true e)

  pub back_accepted : system_rules (as_letters n) ≡ Ok tt
  unfolding as_letters
  back_accepted =
      system_passes (lettered n) letters_read letters_short (omega (arith, length-map (numbers_system_of n) (map number_letter), words-length n true e, most n true e))

  pub letter_words : (k : ℕ) → k < numbers_slots n → word_at (as_letters n) k ≡ map number_letter (numbers_word (numbers_record_at n k))
  unfolding as_letters
  letter_words k h =
      word_written (lettered n) letters_read letters_short k (omega (arith, h, length-map (numbers_system_of n) (map number_letter), words-length n true e))
      ∙ get_or-map (map number_letter) (numbers_system_of n) k [] [] (omega (arith, h, words-length n true e))
      ∙ ap (map number_letter) (below_at (λ j. numbers_word (numbers_record_at n j)) (numbers_slots n) k [] h)

  -- "and so does back and there for numbers within 26"
  pub back_same : ((i : ℕ) → get_or n i 0 < 256) → as_numbers (as_letters n) ≡ n
  unfolding as_letters as_numbers
  back_same fits =
      ap (λ (S : List (List ℕ)). numbers_bytes_of (map (map letter_number) S)) (system_back (lettered n) letters_read letters_short)
      ∙ ap numbers_bytes_of (map_back (Each Lettered) (map number_letter) (map letter_number) (λ w a. map_back Lettered number_letter letter_number (λ x h. number_back x h.0 h.1) w a) (numbers_system_of n) lettered_each)
      ∙ read_same n true e fits

  pub back-length : length (as_letters n) ≡ numbers_slots n * 64
  unfolding as_letters
  back-length =
      bytes_of-length (lettered n) letters_short ∙ ap (λ (m : ℕ). m * 64) (length-map (numbers_system_of n) (map number_letter) ∙ words-length n true e)

-- a system of numbers, each word freely reduced
module _ (n : List ℕ) (e : numbers_system_rules false n ≡ Ok tt) where
  reduced_short : AllShort (reduced n)
  reduced_short =
      each_at (λ w. length w ≤ 63) [] (omega arith) (reduced n)
      (each_map (λ w. length w ≤ 63) (λ w. length w ≤ 63) (freely_reduce signed_numbers) (λ w h. omega (arith, length-freely_reduce signed_numbers number_laws w, h))
      (numbers_system_of n) (each_from (λ w. length w ≤ 63) [] (numbers_system_of n) (read_short n false e)))

  reduced_numbers : NumberWords (reduced n)
  reduced_numbers =
      each_at AllNumbers [] tt (reduced n)
      (each_map AllNumbers AllNumbers (freely_reduce signed_numbers) (λ w a. each_freely_reduce signed_numbers number_laws (λ x. is_number x ≡ true) w a)
      (numbers_system_of n) (each_from AllNumbers [] (numbers_system_of n) (read_numbers n false e)))

  pub tidied_word : (k : ℕ) → k < numbers_slots n
      → numbers_word (numbers_record_at (tidied_numbers n) k) ≡ freely_reduce signed_numbers (numbers_word (numbers_record_at n k))
  unfolding tidied_numbers
  tidied_word k h =
      word_there (reduced n) reduced_short reduced_numbers k (omega (arith, h, length-map (numbers_system_of n) (freely_reduce signed_numbers), words-length n false e))
      ∙ get_or-map (freely_reduce signed_numbers) (numbers_system_of n) k [] [] (omega (arith, h, words-length n false e))
      ∙ ap (freely_reduce signed_numbers) (below_at (λ j. numbers_word (numbers_record_at n j)) (numbers_slots n) k [] h)

  pub tidied_passes : numbers_system_rules false (tidied_numbers n) ≡ Ok tt
  unfolding tidied_numbers
  tidied_passes =
      words_pass (reduced n) reduced_short reduced_numbers false (λ b. absurd (true≢false (sym b)))
      (omega (arith, length-map (numbers_system_of n) (freely_reduce signed_numbers), words-length n false e, most n false e))

  pub tidied-length : length (tidied_numbers n) ≡ numbers_slots n * 128
  unfolding tidied_numbers
  tidied-length =
      bytes-length (reduced n) reduced_short reduced_numbers
      ∙ ap (λ (m : ℕ). m * 128) (length-map (numbers_system_of n) (freely_reduce signed_numbers) ∙ words-length n false e)
