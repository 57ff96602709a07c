-- Multiply: "a system and a product in, one freely reduced word out".
use Rattle.std.specs.Prelude.{ℕ, List, length, leb}
use Rattle.words.specs.Alphabet.{bytes}
use Rattle.systems.specs.Products.{multiplied}
use Rattle.slots.specs.Systems.{slots, system_of}
use Rattle.records.specs.Records.{record_of}
use Rattle.words.specs.Buffers.{written}
use Rattle.records.specs.Answers.{answer_of, on_fine}
use Rattle.records.specs.declared.answers.Answer.{Answer}
use Rattle.records.specs.Refusals.{must, ◌and_then◌, target_rules}
use Rattle.slots.specs.Refusals.{system_rules, word_room}
use Rattle.slots.specs.Factors.{product_of}
use Rattle.multiply.specs.SlotLetters.{slot_rule}
use Rattle.records.specs.declared.refusals.Reason.TheVariants.{WordTooLong}
use Rattle.records.specs.Refusals.{Checked}

-- what a product over a system multiplies out to
unfoldable pub product_word : List ℕ → List ℕ → List ℕ
product_word s p = multiplied bytes (system_of s) (product_of p)

-- refusals 1 to 5, 6, 9 and 10
unfoldable pub multiply_tests : List ℕ → List ℕ → ℕ → Checked
multiply_tests s p room = system_rules s and_then target_rules p and_then slot_rule (slots s) p and_then word_room 64 room

-- and then 12: "the result of multiply, freely reduces to more than 63 letters"
unfoldable pub multiply_rules : List ℕ → List ℕ → ℕ → Checked
multiply_rules s p room = multiply_tests s p room and_then must (leb (length (product_word s p)) 63) WordTooLong 0

abbrev pub multiply_answer : List ℕ → List ℕ → List ℕ → Answer
multiply_answer s p buffer = answer_of (multiply_rules s p (length buffer))

abbrev pub multiply_buffer : List ℕ → List ℕ → List ℕ → List ℕ
multiply_buffer s p buffer = on_fine (multiply_rules s p (length buffer)) (written (record_of (product_word s p)) buffer) buffer
