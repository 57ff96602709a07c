-- Tidy: for every content of the lent buffers the answer, and each byte afterwards.
use Rattle.std.specs.Prelude.{ℕ, List, length}
use Rattle.words.specs.Buffers.{written}
use Rattle.records.specs.Answers.{answer_of, on_fine}
use Rattle.records.specs.declared.answers.Answer.{Answer}
use Rattle.slots.specs.Refusals.{system_room}
use Rattle.slots.specs.Systems.{bytes_of, freely_reduced_words}

-- the answer: refusals 1 to 5, then 10
abbrev pub tidy_answer : List ℕ → List ℕ → Answer
tidy_answer s buffer = answer_of (system_room s (length buffer))

-- "Tidy: freely reduce every record of a system."
abbrev pub tidy_buffer : List ℕ → List ℕ → List ℕ
tidy_buffer s buffer = on_fine (system_room s (length buffer)) (written (bytes_of (freely_reduced_words s)) buffer) buffer
