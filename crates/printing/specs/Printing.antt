-- What printing answers and leaves in the lent buffer.
use Rattle.std.specs.Prelude.{◌≤◌, ℕ, cond, List, ◌≡◌, leb, length, Err, None, Ok, Option, Result, Some}
use Rattle.words.specs.Buffers.{written}
use Rattle.printing.specs.declared.answers.Unprinted.{Unprinted}
use Rattle.printing.specs.declared.answers.Unprinted.TheVariants.{Missing, Short}

-- what printing answers: how many bytes were written, or why none were
abbrev pub Printed : Type 0
Printed = Result ℕ Unprinted

-- an output is written where the lent buffer has room for all of it, and otherwise nothing is
abbrev pub printed_answer : Option (List ℕ) → ℕ → Printed
printed_answer None room = Err Missing
printed_answer (Some text) room = cond (leb (length text) room) (Ok (length text)) (Err (Short (length text)))

abbrev pub printed_buffer : Option (List ℕ) → List ℕ → List ℕ
printed_buffer None out = out
printed_buffer (Some text) out = cond (leb (length text) (length out)) (written text out) out

abbrev pub output_size : Option (List ℕ) → ℕ
output_size None = 0
output_size (Some text) = length text

-- an output is printed, and it has at most 66,704 bytes; no call's contract speaks of it
pub record Prints (output : Option (List ℕ)) (out : List ℕ) (answer : Printed) (out' : List ℕ) : Type 0 where
  pub answered : answer ≡ printed_answer output (length out)
  pub wrote : out' ≡ printed_buffer output out
  pub most : output_size output ≤ 66704
