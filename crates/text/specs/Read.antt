-- Read: "a reader from text of up to 256 bytes to a freely reduced record".
use Rattle.std.specs.Prelude.{ℕ, List, length}
use Rattle.words.specs.Alphabet.{bytes}
use Rattle.words.specs.Buffers.{written}
use Rattle.words.specs.Words.{freely_reduce}
use Rattle.records.specs.Answers.{answer_of, on_fine}
use Rattle.records.specs.Records.{record_of}
use Rattle.records.specs.Refusals.{◌and_then◌, must}
use Rattle.records.specs.declared.answers.Answer.{Answer}
use Rattle.slots.specs.Refusals.{word_room}
use Rattle.syntax.specs.TreeWords.{tree_word}
use Rattle.syntax.specs.Parse.{tree_of}
use Rattle.syntax.specs.Rules.{fits, text_rules}
use Rattle.records.specs.declared.refusals.Reason.TheVariants.{WordTooLong}
use Rattle.records.specs.Refusals.{Checked}

-- the freely reduced word of a text
unfoldable pub text_word : List ℕ → List ℕ
text_word text = freely_reduce bytes (tree_word (tree_of text))

-- refusals 16, 17 and 18, then 10
unfoldable pub read_tests : List ℕ → ℕ → Checked
read_tests text room = text_rules text and_then word_room 64 room

-- and then 12
unfoldable pub read_rules : List ℕ → ℕ → Checked
read_rules text room = read_tests text room and_then must (fits (tree_of text)) WordTooLong 0

abbrev pub read_answer : List ℕ → List ℕ → Answer
read_answer text word = answer_of (read_rules text (length word))

abbrev pub read_buffer : List ℕ → List ℕ → List ℕ
read_buffer text word = on_fine (read_rules text (length word)) (written (record_of (text_word text)) word) word
