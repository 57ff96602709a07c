-- The calls on records of numbers: for every content of the lent buffers the answer, and each byte afterwards.
use Rattle.std.specs.Prelude.{ℕ, false, true, List, length, map}
use Rattle.words.specs.Buffers.{written}
use Rattle.words.specs.Words.{freely_reduce}
use Rattle.records.specs.Answers.{answer_of, on_fine}
use Rattle.records.specs.declared.answers.Answer.{Answer}
use Rattle.slots.specs.Systems.{bytes_of, system_of}
use Rattle.numbers.specs.Numbers.{number_letter, letter_number, signed_numbers}
use Rattle.numbers.specs.Records.{numbers_bytes_of, numbers_system_of}
use Rattle.numbers.specs.Refusals.{letters_room, numbers_room}

-- "a system in, the same words as records of numbers out"
unfoldable pub as_numbers : List ℕ → List ℕ
as_numbers s = numbers_bytes_of (map (map letter_number) (system_of s))

-- "a system of numbers in, the same words as records of letters out"
unfoldable pub as_letters : List ℕ → List ℕ
as_letters n = bytes_of (map (map number_letter) (numbers_system_of n))

-- "freely reduce every record of a system of numbers"
unfoldable pub tidied_numbers : List ℕ → List ℕ
tidied_numbers n = numbers_bytes_of (map (freely_reduce signed_numbers) (numbers_system_of n))

-- to_numbers: refusals 2, 1, 3 to 5, then 10, 128 bytes for each record
abbrev pub to_numbers_answer : List ℕ → List ℕ → Answer
to_numbers_answer s buffer = answer_of (letters_room s (length buffer))

abbrev pub to_numbers_buffer : List ℕ → List ℕ → List ℕ
to_numbers_buffer s buffer = on_fine (letters_room s (length buffer)) (written (as_numbers s) buffer) buffer

-- from_numbers: refusals 2, 1, 19 and 20, then 10, 64 bytes for each record
abbrev pub from_numbers_answer : List ℕ → List ℕ → Answer
from_numbers_answer n buffer = answer_of (numbers_room true n 64 (length buffer))

abbrev pub from_numbers_buffer : List ℕ → List ℕ → List ℕ
from_numbers_buffer n buffer = on_fine (numbers_room true n 64 (length buffer)) (written (as_letters n) buffer) buffer

-- tidy_numbers: refusals 2, 1 and 19, then 10, 128 bytes for each record
abbrev pub tidy_numbers_answer : List ℕ → List ℕ → Answer
tidy_numbers_answer n buffer = answer_of (numbers_room false n 128 (length buffer))

abbrev pub tidy_numbers_buffer : List ℕ → List ℕ → List ℕ
tidy_numbers_buffer n buffer = on_fine (numbers_room false n 128 (length buffer)) (written (tidied_numbers n) buffer) buffer
