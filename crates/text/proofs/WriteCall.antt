-- The call write: its tests in their order, what they leave to the code after them, and the answer and the buffer from the text that it
-- writes.
use Prim.Native.Nat.{◌≤◌, ℕ}
use mathlib.Core.Path.{◌∙◌, ◌≡◌, ap, sym}
use mathlib.Core.List.{List}
use native.Mathlib.Omega.{arith}
use lib.ListN.{length}
use Rattle.words.specs.Buffers.{written}
use Rattle.records.specs.Records.{word_of}
use Rattle.records.specs.Refusals.{target_rules}
use Rattle.records.specs.declared.answers.Refusal.{Refusal}
use Rattle.records.specs.declared.answers.Verdict.TheVariants.{Done}
use Rattle.records.proofs.Chains.{fine_first, fine_next}
use Rattle.records.proofs.Targets.{target-sized}
use Rattle.slots.specs.Refusals.{word_room}
use Rattle.slots.proofs.Systems.{room_enough}
use Rattle.syntax.specs.WordTexts.{text_of}
use Rattle.text.specs.Write.{write_answer, write_rules, writing_of}
use Rattle.text.specs.declared.Writing.{Writing}
use Rattle.std.specs.Prelude.{Err, Ok}
use Rattle.records.specs.Refusals.{Checked}

module _ (word text : List ℕ) {x : Checked} (tests : x ≡ write_rules word (length text)) where
  pub answer-refused : {f : Refusal} {answer : Writing} → x ≡ Err f → answer ≡ writing_of x 0 → answer ≡ write_answer word text
  answer-refused e told = told ∙ rw (sym tests ∙ e, e)

  module _ (passed : x ≡ Ok tt) where
    pub passed_word : length word ≡ 64
    unfolding write_rules
    passed_word = target-sized word (fine_first (target_rules word) (word_room 256 (length text)) (sym tests ∙ passed))

    passed_room : 256 ≤ length text
    unfolding write_rules
    passed_room = room_enough 256 (length text) (fine_next (target_rules word) (word_room 256 (length text)) (sym tests ∙ passed))

    pub text_room : 128 ≤ length text
    text_room = omega (arith, passed_room)

    module _ {w : List ℕ} (is : w ≡ word_of word) where
      pub answer-done : (end : ℕ) → end ≡ length (text_of w) → record { verdict = Done; length = end } ≡ write_answer word text
      answer-done end e = rw (sym tests ∙ passed) (ap (writing_of (Ok tt)) (e ∙ ap (λ (v : List ℕ). length (text_of v)) is))

      pub text_written : {text' : List ℕ} → text' ≡ written (text_of w) text → text' ≡ written (text_of (word_of word)) text
      text_written e = e ∙ ap (λ (v : List ℕ). written (text_of v) text) is
