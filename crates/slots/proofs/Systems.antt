-- Systems of records, one record after the other: their tests, what a system that passes them tells, and the bytes of its words.
use Prim.Native.Nat.{suc, ◌%◌, ◌*◌, ◌+◌, ◌-◌, ◌/◌, ◌<◌, ◌≤◌, ℕ}
use mathlib.Core.List.{cons≢nil, List, [], ◌++◌, ◌∷◌}
use mathlib.Core.Path.{◌∙◌, ◌≡◌, ap, refl, sym}
use native.Mathlib.Omega.{arith}
use lib.Dec.{eqb, leb}
use lib.ListN.{drop, get_or, length, length-append, length-replicate, take}
use borrow.Author.Tests.{eqb-true, eq-eqb, le-leb, leb-true}
use Rattle.std.specs.Simd.{first_chunks}
use mathlib.Core.Bool.{true≢false, Bool, false, not, true}
use Rattle.std.specs.Prelude.{◌↔◌, IsTrue, Ok}
use Rattle.std.specs.List.{filter, flat_map}
use Rattle.systems.specs.Rank.{rank}
use Rattle.words.specs.Alphabet.{bytes}
use Rattle.words.proofs.Parts.{Sized, chunk_at}
use Rattle.words.proofs.Alphabet.{byte_laws}
use Rattle.systems.specs.Products.{FreelyReduced}
use Rattle.systems.proofs.Equivalence.{words-freely_reduced}
use Rattle.records.specs.Records.{blanks, record_of}
use Rattle.records.specs.Refusals.{◌and_then◌, each_below, must, record_rules, Checked}
use Rattle.records.proofs.Chains.{fine_first, fine_next, must_fine, must_passed}
use Rattle.records.proofs.ByNumber.{NumberedTo, each_numbered, must_numbered, record_numbered, then_numbered}
use Rattle.slots.specs.Refusals.{slot_rules, system_room, system_rules, word_room}
use Rattle.slots.specs.Systems.{AllShort, bytes_of, freely_reduced_words, record_at, slots, system_of}
use Rattle.records.specs.declared.refusals.Reason.TheVariants.{SystemTooLong, SystemUneven, WordsBufferShort}

-- the 64 bytes of a slot, as a part that is handed on
pub slot_part : (k : ℕ) (s : List ℕ) → take (k * 64 + 64 - k * 64) (drop (k * 64) s) ≡ record_at s k
slot_part k s =
    let size : k * 64 + 64 - k * 64 ≡ 64 = omega arith in
    ap (λ (n : ℕ). take n (drop (k * 64) s)) size

-- the records of a system are its parts of 64 bytes
pub next_told : (s : List ℕ) (n k : ℕ) (d : List ℕ) {r : Checked} → k < n → r ≡ record_rules (get_or (first_chunks 64 n s) k d) (k * 64) → r ≡ slot_rules s k
next_told s n k d h told = told ∙ ap (λ (b : List ℕ). record_rules b (k * 64)) (chunk_at 64 n k s d h)

-- a system that passes refusal 2 has at most 16 records
pub few_records : {x : Checked} (s : List ℕ) → x ≡ must (leb (length s) 1024) SystemTooLong 0 → x ≡ Ok tt → length s / 64 ≤ 16
few_records s e h = omega (arith, leb-true (length s) 1024 (must_passed _ SystemTooLong 0 e h))

-- refusals 1 to 5 are passed where each record passes its own
pub system_records : (s : List ℕ) → length s % 64 ≡ 0 → length s / 64 ≤ 16 → each_below (slot_rules s) (length s / 64) ≡ Ok tt → system_rules s ≡ Ok tt
unfolding system_rules
system_records s even few e = rw (le-leb (length s) 1024 (omega arith), eq-eqb _ _ even, e)

-- refusal 10
pub room_fits : (output room : ℕ) → output ≤ room → word_room output room ≡ Ok tt
unfolding word_room
room_fits output room h = rw (le-leb _ _ h)

-- the words of a system, freely reduced, are freely reduced
pub loaded_freely_reduced : (s : List ℕ) → FreelyReduced bytes (freely_reduced_words s)
unfolding freely_reduced_words
loaded_freely_reduced s = words-freely_reduced bytes byte_laws (system_of s)

-- the record of a word of at most 63 letters is 64 bytes long
pub record-length : (w : List ℕ) → length w ≤ 63 → length (record_of w) ≡ 64
record-length w h =
    length-append w _ ∙ ap (λ (k : ℕ). length w + k) (length-append (blanks (63 - length w)) _ ∙ ap (λ (k : ℕ). k + 1) (length-replicate (63 - length w) 46))
    ∙ omega arith

-- each word of a system is a record of 64 bytes, and these are the system's bytes
pub records_sized : (S : List (List ℕ)) → AllShort S → Sized record_of 64 [] S
records_sized S short k h = record-length (get_or S k []) (short k)

pub bytes_of-parts : (S : List (List ℕ)) → flat_map record_of S ≡ bytes_of S
bytes_of-parts [] = refl
bytes_of-parts (w ∷ S) = ap (λ (l : List ℕ). record_of w ++ l) (bytes_of-parts S)

-- what a system that passes tells of its length, and of its records
pub system-size : (s : List ℕ) → system_rules s ≡ Ok tt → length s ≤ 1024
unfolding system_rules
system-size s e = leb-true _ _ (must_fine _ SystemTooLong 0 (fine_first (must (leb (length s) 1024) SystemTooLong 0) _ e))

pub system-few : (s : List ℕ) → system_rules s ≡ Ok tt → length s / 64 ≤ 16
system-few s e = omega (arith, system-size s e)

pub system-even : (s : List ℕ) → system_rules s ≡ Ok tt → length s % 64 ≡ 0
unfolding system_rules
system-even s e =
    eqb-true _ _
    (must_fine _ SystemUneven 0
    (fine_first (must (eqb (length s % 64) 0) SystemUneven 0) _ (fine_next (must (leb (length s) 1024) SystemTooLong 0) _ e)))

pub records_passed : (s : List ℕ) → system_rules s ≡ Ok tt → each_below (slot_rules s) (slots s) ≡ Ok tt
unfolding system_rules
records_passed s e = fine_next (must (eqb (length s % 64) 0) SystemUneven 0) _ (fine_next (must (leb (length s) 1024) SystemTooLong 0) _ e)

pub room_enough : (output room : ℕ) → word_room output room ≡ Ok tt → output ≤ room
unfolding word_room
room_enough output room e = leb-true _ _ (must_fine _ WordsBufferShort 0 e)

-- refusals 1 to 5, then 10
module _ (s : List ℕ) (room : ℕ) where
  module _ {x : Checked} (e : x ≡ system_room s room) (h : x ≡ Ok tt) where
    passed : system_room s room ≡ Ok tt
    passed = sym e ∙ h

    pub both_size : length s ≤ 1024
    unfolding system_room
    both_size = system-size s (fine_first (system_rules s) _ passed)

    pub both_fits : length s / 64 * 64 ≤ room
    unfolding system_room
    both_fits = room_enough (length s / 64 * 64) room (fine_next (system_rules s) _ passed)

-- a system with room passes its tests
pub room_fine : (s : List ℕ) (room : ℕ) → system_room s room ≡ Ok tt → system_rules s ≡ Ok tt
unfolding system_room
room_fine s room e = fine_first (system_rules s) _ e

-- the rank counts the words that are not empty
abbrev pub not_empty : List ℕ → Bool
not_empty [] = false
not_empty (b ∷ w) = true

pub rank_counts : (S : List (List ℕ)) → length (filter not_empty S) ≡ rank S
rank_counts [] = refl
rank_counts ([] ∷ S) = rank_counts S
rank_counts ((b ∷ w) ∷ S) = ap (λ (k : ℕ). suc k) (rank_counts S)

pub not_empty_told : (w : List ℕ) (b : Bool) → IsTrue b ↔ (w ≡ []) → not b ≡ not_empty w
not_empty_told [] true told = refl
not_empty_told [] false told = absurd (true≢false (sym (told.1 refl)))
not_empty_told (x ∷ w) true told = absurd (cons≢nil (told.0 refl))
not_empty_told (x ∷ w) false told = refl

-- a system's tests refuse with no number above 5
pub system_numbered : (s : List ℕ) → NumberedTo 5 (system_rules s)
unfolding system_rules
system_numbered s =
    then_numbered 5 (must (leb (length s) 1024) SystemTooLong 0) (must (eqb (length s % 64) 0) SystemUneven 0 and_then each_below (slot_rules s) (slots s))
    (must_numbered 5 (leb (length s) 1024) SystemTooLong 0 (omega arith))
    (then_numbered 5 (must (eqb (length s % 64) 0) SystemUneven 0) (each_below (slot_rules s) (slots s))
    (must_numbered 5 (eqb (length s % 64) 0) SystemUneven 0 (omega arith)) (each_numbered 5 (slot_rules s) (slots s) (λ k. record_numbered _ _)))

-- room for its words with none above 10
pub room_numbered : (output room : ℕ) → NumberedTo 10 (word_room output room)
unfolding word_room
room_numbered output room = must_numbered 10 (leb output room) WordsBufferShort 0 (omega arith)
