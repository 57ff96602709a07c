-- What the answer of tidy means.
use Prim.Native.Nat.{ℕ, ◌*◌, ◌<◌}
use mathlib.Core.List.{List}
use mathlib.Core.Path.{◌∙◌, ◌≡◌, ap, sym}
use native.Mathlib.Omega.{arith}
use lib.ListN.{length, take}
use Rattle.std.specs.Prelude.{Ok}
use Rattle.words.specs.Alphabet.{bytes}
use Rattle.words.specs.Buffers.{written}
use Rattle.words.specs.Words.{freely_reduce}
use Rattle.words.proofs.Alphabet.{byte_laws}
use Rattle.words.proofs.Buffers.{written-take}
use Rattle.words.proofs.FreeReduction.{freely_reduces}
use Rattle.systems.proofs.Equivalence.{reduced-word}
use Rattle.records.specs.declared.answers.Answer.{Answer}
use Rattle.records.specs.declared.answers.Verdict.TheVariants.{Done}
use Rattle.records.proofs.Chains.{passed_buffer, verdict_done}
use Rattle.slots.specs.Refusals.{system_room, system_rules}
use Rattle.slots.specs.Systems.{bytes_of, freely_reduced_words, slots, system_of, word_at}
use Rattle.slots.proofs.RoundTrip.{bytes_of-length, reduced-short, reduced_letters, system-word, word_written, system_passes, words-length}
use Rattle.slots.proofs.Systems.{room_fine, system-few}
use Rattle.tidy.specs.Meaning.{Tidied}
use Rattle.tidy.specs.Tidy.{tidy_answer, tidy_buffer}

-- the words of a system that passes its tests, freely reduced and written
module _ (s : List ℕ) (e : system_rules s ≡ Ok tt) where
  word_left : (k : ℕ) → k < slots s → word_at (bytes_of (freely_reduced_words s)) k ≡ freely_reduce bytes (word_at s k)
  unfolding freely_reduced_words
  word_left k h =
      word_written (freely_reduced_words s) (reduced_letters s e) (reduced-short s) k (omega (arith, h, words-length s))
      ∙ reduced-word bytes byte_laws (system_of s) k ∙ ap (freely_reduce bytes) (system-word s k h)

  tidied : Tidied s (bytes_of (freely_reduced_words s))
  tidied =
      record {
        system = system_passes (freely_reduced_words s) (reduced_letters s e) (reduced-short s) (omega (arith, words-length s, system-few s e));
        words = λ k h. rw (word_left k h) (freely_reduces bytes byte_laws (word_at s k));
      }

pub tidy_means : (s buffer new : List ℕ) {a : Answer} → a ≡ tidy_answer s buffer → new ≡ tidy_buffer s buffer → a.verdict ≡ Done
    → Tidied s (take (slots s * 64) new)
tidy_means s buffer new told wrote done =
    let passed : system_room s (length buffer) ≡ Ok tt = (verdict_done (system_room s (length buffer))).0 (ap (λ (x : Answer). x.verdict) (sym told) ∙ done) in
    let fine : system_rules s ≡ Ok tt = room_fine s (length buffer) passed in
    let same : take (slots s * 64) new ≡ bytes_of (freely_reduced_words s) =
    ap (take (slots s * 64)) (wrote ∙ passed_buffer (system_room s (length buffer)) (written (bytes_of (freely_reduced_words s)) buffer) buffer passed)
    ∙ written-take (bytes_of (freely_reduced_words s)) buffer (slots s * 64) (bytes_of-length (freely_reduced_words s) (reduced-short s) ∙ ap (λ (n : ℕ). n * 64) (words-length s)) in
    rw same (tidied s fine)
