-- What the answers of the calls on records of numbers mean.
use Prim.Native.Nat.{ℕ, ◌*◌, ◌<◌, ◌≤◌}
use mathlib.Core.Bool.{Bool, false, true}
use mathlib.Core.List.{List}
use mathlib.Core.Path.{◌∙◌, ◌≡◌, ap, sym}
use native.Mathlib.Omega.{arith}
use lib.ListN.{get_or, length, take}
use Rattle.std.specs.Prelude.{Ok}
use Rattle.words.specs.Buffers.{written}
use Rattle.words.proofs.Buffers.{written-take}
use Rattle.records.specs.declared.answers.Answer.{Answer}
use Rattle.records.specs.declared.answers.Verdict.TheVariants.{Done}
use Rattle.records.proofs.Chains.{passed_buffer, verdict_done}
use Rattle.slots.specs.Refusals.{system_rules}
use Rattle.slots.specs.Systems.{bytes_of, freely_reduced_words, slots}
use Rattle.slots.proofs.RoundTrip.{bytes_of-slots, reduced-short, reduced_letters, system_passes, words-length}
use Rattle.slots.proofs.Systems.{room_fits, system-few}
use Rattle.numbers.specs.Calls.{as_letters, as_numbers, from_numbers_answer, from_numbers_buffer, tidied_numbers, tidy_numbers_answer, tidy_numbers_buffer, to_numbers_answer, to_numbers_buffer}
use Rattle.numbers.specs.Meaning.{CameBack, TidiedNumbers, WentThere}
use Rattle.numbers.specs.Numbers.{signed_numbers}
use Rattle.numbers.specs.Records.{numbers_record_at, numbers_slots, numbers_word}
use Rattle.numbers.specs.Refusals.{letters_room, numbers_room, numbers_system_rules}
use Rattle.numbers.proofs.Numbers.{number_laws}
use Rattle.numbers.proofs.Systems.{letters_fine, numbers_fine}
use Rattle.words.proofs.FreeReduction.{freely_reduces}
use Rattle.numbers.proofs.ThereAndBack.{letter_words, number_words, tidied_passes, back-length, back_accepted, back_same, there-length, there_accepted, there_same, tidied-length, tidied_alike, tidied_word}

-- the tests of a call that are passed, and what its buffer holds then
there_passes : (s : List ℕ) (room : ℕ) → system_rules s ≡ Ok tt → slots s * 128 ≤ room → letters_room s room ≡ Ok tt
unfolding letters_room
there_passes s room e h = rw e (room_fits (slots s * 128) room h)

back_passes : (back : Bool) (n : List ℕ) (size room : ℕ) → numbers_system_rules back n ≡ Ok tt → numbers_slots n * size ≤ room → numbers_room back n size room ≡ Ok tt
unfolding numbers_room
back_passes back n size room e h = rw e (room_fits (numbers_slots n * size) room h)

-- the numbers of a system
module _ (s : List ℕ) (e : system_rules s ≡ Ok tt) where
  from_passes : (words : List ℕ) → length s ≤ length words → numbers_room true (as_numbers s) 64 (length words) ≡ Ok tt
  from_passes words h =
      back_passes true (as_numbers s) 64 (length words) (there_accepted s e true) (omega (arith, there-length s e, h))

  tidy_passes : (buffer : List ℕ) → length (as_numbers s) ≤ length buffer → numbers_room false (as_numbers s) 128 (length buffer) ≡ Ok tt
  tidy_passes buffer h =
      back_passes false (as_numbers s) 128 (length buffer) (there_accepted s e false) (omega (arith, there-length s e, h))

  to_passes : (buffer : List ℕ) → length (as_numbers s) ≤ length buffer → letters_room (bytes_of (freely_reduced_words s)) (length buffer) ≡ Ok tt
  to_passes buffer h =
      there_passes (bytes_of (freely_reduced_words s)) (length buffer)
      (system_passes (freely_reduced_words s) (reduced_letters s e) (reduced-short s) (omega (arith, words-length s, system-few s e)))
      (omega (arith, bytes_of-slots (freely_reduced_words s) (reduced-short s), words-length s, there-length s e, h))

  went_there : WentThere s (as_numbers s)
  went_there =
      record {
        words = number_words s e;
        done = λ words h. (verdict_done (numbers_room true (as_numbers s) 64 (length words))).1 (from_passes words h);
        back = λ words h.
            passed_buffer (numbers_room true (as_numbers s) 64 (length words)) (written (as_letters (as_numbers s)) words) words (from_passes words h)
            ∙ ap (λ (l : List ℕ). written l words) (there_same s e);
        tidied_done = λ buffer h. (verdict_done (numbers_room false (as_numbers s) 128 (length buffer))).1 (tidy_passes buffer h);
        tidied = λ buffer h.
            passed_buffer (numbers_room false (as_numbers s) 128 (length buffer)) (written (tidied_numbers (as_numbers s)) buffer) buffer (tidy_passes buffer h)
            ∙ ap (λ (l : List ℕ). written l buffer) (tidied_alike s e)
            ∙ sym (passed_buffer (letters_room (bytes_of (freely_reduced_words s)) (length buffer)) (written (as_numbers (bytes_of (freely_reduced_words s))) buffer) buffer (to_passes buffer h));
      }

-- the letters of numbers
module _ (n : List ℕ) (fits : (i : ℕ) → get_or n i 0 < 256) (e : numbers_system_rules true n ≡ Ok tt) where
  returns_passes : (buffer : List ℕ) → length n ≤ length buffer → letters_room (as_letters n) (length buffer) ≡ Ok tt
  returns_passes buffer h =
      there_passes (as_letters n) (length buffer) (back_accepted n e) (omega (arith, back-length n e, h))

  came_back : CameBack n (as_letters n)
  came_back =
      record {
        words = letter_words n e;
        done = λ buffer h. (verdict_done (letters_room (as_letters n) (length buffer))).1 (returns_passes buffer h);
        there = λ buffer h.
            passed_buffer (letters_room (as_letters n) (length buffer)) (written (as_numbers (as_letters n)) buffer) buffer (returns_passes buffer h)
            ∙ ap (λ (l : List ℕ). written l buffer) (back_same n e fits);
      }

-- numbers, freely reduced
tidied_means : (n : List ℕ) → numbers_system_rules false n ≡ Ok tt → TidiedNumbers n (tidied_numbers n)
tidied_means n e =
    record {
      system = tidied_passes n e;
      words = λ k h. rw (tidied_word n e k h) (freely_reduces signed_numbers number_laws (numbers_word (numbers_record_at n k)));
    }

-- the three calls, where they are done
pub to_numbers_means : (s buffer new : List ℕ) {a : Answer} → a ≡ to_numbers_answer s buffer → new ≡ to_numbers_buffer s buffer → a.verdict ≡ Done
    → WentThere s (take (slots s * 128) new)
to_numbers_means s buffer new told wrote done =
    let passed : letters_room s (length buffer) ≡ Ok tt = (verdict_done (letters_room s (length buffer))).0 (ap (λ (x : Answer). x.verdict) (sym told) ∙ done) in
    let fine : system_rules s ≡ Ok tt = letters_fine s (length buffer) passed in
    let same : take (slots s * 128) new ≡ as_numbers s =
    ap (take (slots s * 128)) (wrote ∙ passed_buffer (letters_room s (length buffer)) (written (as_numbers s) buffer) buffer passed)
    ∙ written-take (as_numbers s) buffer (slots s * 128) (there-length s fine) in
    rw same (went_there s fine)

pub from_numbers_means : (n buffer new : List ℕ) {a : Answer} → ((i : ℕ) → get_or n i 0 < 256) → a ≡ from_numbers_answer n buffer → new ≡ from_numbers_buffer n buffer
    → a.verdict ≡ Done → CameBack n (take (numbers_slots n * 64) new)
from_numbers_means n buffer new fits told wrote done =
    let passed : numbers_room true n 64 (length buffer) ≡ Ok tt = (verdict_done (numbers_room true n 64 (length buffer))).0 (ap (λ (x : Answer). x.verdict) (sym told) ∙ done) in
    let fine : numbers_system_rules true n ≡ Ok tt = numbers_fine true n 64 (length buffer) passed in
    let same : take (numbers_slots n * 64) new ≡ as_letters n =
    ap (take (numbers_slots n * 64)) (wrote ∙ passed_buffer (numbers_room true n 64 (length buffer)) (written (as_letters n) buffer) buffer passed)
    ∙ written-take (as_letters n) buffer (numbers_slots n * 64) (back-length n fine) in
    rw same (came_back n fits fine)

pub tidy_numbers_means : (n buffer new : List ℕ) {a : Answer} → a ≡ tidy_numbers_answer n buffer → new ≡ tidy_numbers_buffer n buffer → a.verdict ≡ Done
    → TidiedNumbers n (take (numbers_slots n * 128) new)
tidy_numbers_means n buffer new told wrote done =
    let passed : numbers_room false n 128 (length buffer) ≡ Ok tt = (verdict_done (numbers_room false n 128 (length buffer))).0 (ap (λ (x : Answer). x.verdict) (sym told) ∙ done) in
    let fine : numbers_system_rules false n ≡ Ok tt = numbers_fine false n 128 (length buffer) passed in
    let same : take (numbers_slots n * 128) new ≡ tidied_numbers n =
    ap (take (numbers_slots n * 128)) (wrote ∙ passed_buffer (numbers_room false n 128 (length buffer)) (written (tidied_numbers n) buffer) buffer passed)
    ∙ written-take (tidied_numbers n) buffer (numbers_slots n * 128) (tidied-length n fine) in
    rw same (tidied_means n fine)
