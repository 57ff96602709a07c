-- The program's whole output, from its whole input.
use Rattle.std.specs.Prelude.{◌%◌, ◌-◌, ℕ, cond, not, List, eqb, leb, drop, length, replicate, take, None, Option, Some, Err, Ok}
use Rattle.records.specs.Refusals.{◌and_then◌, must, Checked}
use Rattle.slots.specs.Systems.{slots}
use Rattle.reduction.specs.declared.answers.Reduction.{Reduction}
use Rattle.membership.specs.Membership.{member_answer, member_log, member_product, member_words}
use Rattle.lines.specs.Lines.{answer_lines, lines_after, refusal_in, refusal_line}
use Rattle.records.specs.declared.refusals.Reason.TheVariants.{SystemTooLong, SystemUneven, TargetOrProductMalformed}

-- "The program takes the last record on its standard input as the target and the earlier ones as the system"
abbrev pub given_system : List ℕ → List ℕ
given_system input = take (length input - 64) input

abbrev pub given_target : List ℕ → List ℕ
given_target input = drop (length input - 64) input

-- "no input at all gets 6, more than 1,088 bytes, those of 17 records, get 2, and then a length not a multiple of 64 gets 1"
unfoldable pub input_rules : ℕ → Checked
input_rules n = must (not (eqb n 0)) TargetOrProductMalformed 0 and_then must (leb n 1088) SystemTooLong 0 and_then must (eqb (n % 64) 0) SystemUneven 0

-- the buffers that the program lends to member, with room for 16 records, for the moves and for a product: "Its log buffer holds 8,192 moves."
-- None of these zeros is printed.
unfoldable pub program_words : List ℕ
program_words = replicate 1024 0

unfoldable pub program_log : List ℕ
program_log = replicate 65536 0

unfoldable pub program_product : List ℕ
program_product = replicate 64 0

-- what member answers to an input, and the lines of its answer and of what it leaves in those buffers
module _ (input : List ℕ) where
  abbrev pub answer : Reduction
  answer = member_answer (given_system input) (given_target input) program_words program_log program_product

  abbrev pub words : List ℕ
  words = member_words (given_system input) (given_target input) program_words program_log program_product

  abbrev pub log : List ℕ
  log = member_log (given_system input) (given_target input) program_words program_log program_product

  abbrev pub product : List ℕ
  product = member_product (given_system input) (given_target input) program_words program_log program_product

  unfoldable pub answer_output : List ℕ
  answer_output = lines_after (refusal_in answer.verdict) (answer_lines (slots (given_system input)) answer words log product)

-- the whole output: the line of a refusal of the length, and otherwise the lines of member's answer
unfoldable pub program_output : List ℕ → List ℕ
program_output input = lines_after (input_rules (length input)) (answer_output input)

-- the output where fewer bytes were kept than the length says: a refusal of the length
abbrev pub length_output : Checked → Option (List ℕ)
length_output (Ok _) = None
length_output (Err f) = Some (refusal_line f)

-- the output, from the bytes kept and the length of the input; none where the length is not refused and fewer bytes were kept
unfoldable pub output_from : List ℕ → ℕ → Option (List ℕ)
output_from kept size = cond (leb size (length kept)) (Some (program_output (take size kept))) (length_output (input_rules size))
