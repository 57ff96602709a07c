-- Write: "the writer, which reports its text's length".
use Rattle.std.specs.Prelude.{ℕ, List, length}
use Rattle.words.specs.Buffers.{written}
use Rattle.records.specs.Answers.{on_fine}
use Rattle.records.specs.Records.{word_of}
use Rattle.records.specs.Refusals.{◌and_then◌, target_rules}
use Rattle.records.specs.declared.answers.Verdict.TheVariants.{Done, Refused}
use Rattle.slots.specs.Refusals.{word_room}
use Rattle.syntax.specs.WordTexts.{text_of}
use Rattle.text.specs.declared.Writing.{Writing}
use Rattle.std.specs.Prelude.{Err, Ok}
use Rattle.records.specs.Refusals.{Checked}

-- 6: "So for the word that write is given." 10: ".. or the text buffer of write than 256."
unfoldable pub write_rules : List ℕ → ℕ → Checked
write_rules word room = target_rules word and_then word_room 256 room

-- the answer from what the tests found, and the length of the text
abbrev pub writing_of : Checked → ℕ → Writing
writing_of (Ok _) length = record { verdict = Done; length = length }
writing_of (Err f) length = record { verdict = Refused f; length = 0 }

abbrev pub write_answer : List ℕ → List ℕ → Writing
write_answer word text = writing_of (write_rules word (length text)) (length (text_of (word_of word)))

abbrev pub write_buffer : List ℕ → List ℕ → List ℕ
write_buffer word text = on_fine (write_rules word (length text)) (written (text_of (word_of word)) text) text
