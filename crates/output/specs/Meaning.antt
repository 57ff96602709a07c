-- What the printed bytes mean, for the whole input of which bytes were kept.
use Rattle.records.specs.declared.refusals.Reason.TheVariants.{LogBufferShort}
use Rattle.std.specs.Prelude.{◌≤◌, ℕ, cond, List, [], ◌++◌, ◌≡◌, length, Ok}
use Rattle.words.specs.Buffers.{written}
use Rattle.records.specs.Refusals.{target_rules}
use Rattle.slots.specs.Refusals.{system_rules}
use Rattle.reduction.specs.Meaning.{EnoughMoves, Reduces}
use Rattle.reduction.specs.declared.answers.Reduction.{Reduction}
use Rattle.asking.specs.Meaning.{Answered, Decides}
use Rattle.lines.specs.Lines.{first_line, is_member, refusal_line}
use Rattle.output.specs.Output.{given_system, given_target, input_rules, program_output}
use Rattle.printing.specs.Printing.{Printed}

-- an input of 1 to 17 records, all well formed
pub record WellFormed (input : List ℕ) : Type 0 where
  pub sized : input_rules (length input) ≡ Ok tt
  pub system : system_rules (given_system input) ≡ Ok tt
  pub target : target_rules (given_target input) ≡ Ok tt

-- the printed lines are those of an answer that decides whether the last record is a member of what the earlier ones generate, with all that
-- reduce gives
pub record Decided (input output : List ℕ) : Type 0 where
  pub answer : Reduction
  pub W : List ℕ
  pub L : List ℕ
  pub P : List ℕ
  pub lines : output ≡ first_line answer ++ W ++ L ++ cond (is_member answer.verdict) P []
  pub answered : Answered answer.verdict
  pub decides : Decides (given_system input) (given_target input) W P answer.verdict
  pub reduces : Reduces (given_system input) W L answer

-- what was written for an input: its whole output, which decides where the records are well formed and the rules make at most 8,192
-- moves, and is refusal 13 where they make more
pub record PrintMeans (input out : List ℕ) (answer : Printed) (out' : List ℕ) : Type 0 where
  pub most : length (program_output input) ≤ 66704
  pub whole : answer ≡ Ok (length (program_output input))
  pub wrote : out' ≡ written (program_output input) out
  pub decided : WellFormed input → EnoughMoves (given_system input) 8192 → Decided input (program_output input)
  pub log_short : WellFormed input → (EnoughMoves (given_system input) 8192 → ⊥)
      → program_output input ≡ refusal_line (record { reason = LogBufferShort; place = 0 })
