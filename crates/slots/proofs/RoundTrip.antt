-- Words of letters, written as a system of records and read back: free reduction keeps them words of letters, and words of at most 63
-- letters come back from the records that hold them.
use Prim.Native.Nat.{◌%◌, ◌*◌, ◌/◌, ◌<◌, ◌≤◌, ℕ}
use mathlib.Core.List.{List, []}
use mathlib.Core.Path.{◌∙◌, ◌≡◌, ap, sym}
use native.Mathlib.Omega.{arith}
use lib.ListN.{drop, length, length-map, length-drop}
use lib.Seq.{ext_get_or}
use Rattle.words.specs.Alphabet.{bytes}
use Rattle.words.specs.Words.{freely_reduce}
use Rattle.words.proofs.Alphabet.{byte_laws}
use Rattle.words.proofs.Below.{below_each, below_at, below_length}
use Rattle.systems.specs.Products.{word}
use Rattle.systems.proofs.Equivalence.{reduced-word}
use Rattle.systems.proofs.Runs.{reduced-within}
use Rattle.records.specs.Records.{AllLetters, record_of, word_of}
use Rattle.records.specs.Refusals.{each_below}
use Rattle.records.proofs.Chains.{each_passed, each_passes}
use Rattle.records.proofs.RoundTrip.{letters_reduce, record_letters, record_passes, record_same, word_back, word-short}
use Rattle.slots.specs.Refusals.{slot_rules, system_rules}
use Rattle.slots.specs.Systems.{AllShort, LetterWords, bytes_of, freely_reduced_words, record_at, slots, system_of, word_at}
use Rattle.slots.proofs.Systems.{bytes_of-parts, records_passed, records_sized, system-even, system_records}
use Rattle.words.proofs.Parts.{part_at, parts_back, parts-length}
use Rattle.std.proofs.Common.{length-take-le}
use Rattle.std.specs.Prelude.{Ok}

pub system-length : (s : List ℕ) → length (system_of s) ≡ slots s
system-length s = below_length (word_at s) (slots s)

pub system-word : (s : List ℕ) (k : ℕ) → k < slots s → word bytes (system_of s) k ≡ word_of (record_at s k)
system-word s k h = below_at (word_at s) (slots s) k [] h

-- what holds of the word of each slot, and of the empty word, holds of each word of the system
system-each : (P : List ℕ → Type 0) (s : List ℕ) → P [] → ((k : ℕ) → k < slots s → P (word_of (record_at s k)))
    → (k : ℕ) → P (word bytes (system_of s) k)
system-each P s blank each k = below_each (word_at s) P (slots s) [] blank each k

pub system-short : (s : List ℕ) → AllShort (system_of s)
system-short s = system-each (λ w. length w ≤ 63) s (omega arith) (λ k h. word-short (record_at s k))

-- so are the words of a system that passes its tests
pub system_letters : (s : List ℕ) → system_rules s ≡ Ok tt → LetterWords (system_of s)
system_letters s e =
    let each : each_below (slot_rules s) (slots s) ≡ (Ok tt) = records_passed s e in
    system-each AllLetters s tt (λ k h. record_letters (record_at s k) (k * 64) (each_passed (slot_rules s) (slots s) k each h))

-- and so are they once freely reduced
pub reduced_letters : (s : List ℕ) → system_rules s ≡ Ok tt → LetterWords (freely_reduced_words s)
unfolding freely_reduced_words
reduced_letters s e k = rw (reduced-word bytes byte_laws (system_of s) k) (letters_reduce (word bytes (system_of s) k) (system_letters s e k))

pub reduced-short : (s : List ℕ) → AllShort (freely_reduced_words s)
unfolding freely_reduced_words
reduced-short s = reduced-within bytes byte_laws (system_of s) 63 (system-short s)

-- one word for each slot
pub words-length : (s : List ℕ) → length (freely_reduced_words s) ≡ slots s
unfolding freely_reduced_words
words-length s = length-map (system_of s) (freely_reduce bytes) ∙ system-length s

-- the bytes of a system of words
pub bytes_of-length : (ws : List (List ℕ)) → AllShort ws → length (bytes_of ws) ≡ length ws * 64
bytes_of-length ws short = ap length (sym (bytes_of-parts ws)) ∙ parts-length record_of 64 [] ws (records_sized ws short)

pub bytes_of-slots : (ws : List (List ℕ)) → AllShort ws → slots (bytes_of ws) ≡ length ws
bytes_of-slots ws short = omega (arith, bytes_of-length ws short)

pub bytes_of-record : (ws : List (List ℕ)) → AllShort ws → (k : ℕ) → k < length ws → record_at (bytes_of ws) k ≡ record_of (word bytes ws k)
bytes_of-record ws short k h =
    ap (λ (l : List ℕ). record_at l k) (sym (bytes_of-parts ws)) ∙ part_at record_of 64 [] ws (records_sized ws short) k h

-- words of letters, each of at most 63, come back from the records that hold them
module _ (ws : List (List ℕ)) (letters : LetterWords ws) (short : AllShort ws) where
  pub word_written : (k : ℕ) → k < length ws → word_at (bytes_of ws) k ≡ word bytes ws k
  word_written k h = ap word_of (bytes_of-record ws short k h) ∙ word_back (word bytes ws k) (short k) (letters k)

  pub system_back : system_of (bytes_of ws) ≡ ws
  system_back =
      ext_get_or [] (system_of (bytes_of ws)) ws (system-length (bytes_of ws) ∙ bytes_of-slots ws short)
      (λ k h.
      let inside : k < length ws = omega (arith, h, system-length (bytes_of ws), bytes_of-slots ws short) in
      system-word (bytes_of ws) k (rw (bytes_of-slots ws short) inside) ∙ word_written k inside)

  -- and those records, no more than 16, pass the tests of a system
  pub system_passes : length ws ≤ 16 → system_rules (bytes_of ws) ≡ Ok tt
  system_passes few =
      let even : length (bytes_of ws) % 64 ≡ 0 = omega (arith, bytes_of-length ws short) in
      let count : length (bytes_of ws) / 64 ≡ length ws = bytes_of-slots ws short in
      let each : each_below (slot_rules (bytes_of ws)) (length ws) ≡ (Ok tt) =
      each_passes (slot_rules (bytes_of ws)) (length ws)
      (λ k h. rw (bytes_of-record ws short k h) (record_passes (word bytes ws k) (short k) (k * 64) (letters k))) in
      system_records (bytes_of ws) even (rw count few) (rw count each)

-- a system that passes its tests is the records of its words
pub system_same : (s : List ℕ) → system_rules s ≡ Ok tt → bytes_of (system_of s) ≡ s
system_same s e =
    let each : (k : ℕ) → k < length (system_of s) → record_of (word bytes (system_of s) k) ≡ record_at s k =
    λ k h.
    let inside : k < slots s = omega (arith, h, system-length s) in
    let whole : length (record_at s k) ≡ 64 = length-take-le 64 (drop (k * 64) s) (omega (arith, length-drop (k * 64) s)) in
    ap record_of (system-word s k inside) ∙ record_same (record_at s k) (k * 64) whole (each_passed (slot_rules s) (slots s) k (records_passed s e) inside) in
    sym (bytes_of-parts (system_of s)) ∙ parts_back record_of 64 [] (system_of s) s (omega (arith, system-even s e, system-length s)) each
