-- The lines that the program prints.
use Rattle.std.specs.Prelude.{◌*◌, ℕ, Bool, cond, false, true, List, [], ◌++◌, ◌∷◌, take, Err, Ok}
use Prim.Native.String.{String}
use Rattle.records.specs.declared.answers.Refusal.{Refusal}
use Rattle.records.specs.declared.answers.Verdict.{Verdict}
use Rattle.records.specs.declared.answers.Verdict.TheVariants.{Done, Member, NotMember, Refused}
use Rattle.moves.specs.Logs.{move_size}
use Rattle.reduction.specs.declared.answers.Reduction.{Reduction}
use Rattle.lines.specs.Text.{bytes_in, decimal, yes_or_no}
use Rattle.records.specs.Refusals.{Checked}
use Rattle.records.specs.Reasons.{number_of}

-- a value with its name before it
abbrev pub named : String → List ℕ → List ℕ
named name value = bytes_in name ++ value

abbrev pub line_feed : List ℕ
line_feed = 10 ∷ []

-- "On a refusal it prints one line only, as `refused 1 at 0` (the number, then the place)."
unfoldable pub refusal_line : Refusal → List ℕ
refusal_line f = named "refused " (decimal (number_of f.reason)) ++ named " at " (decimal f.place) ++ line_feed

-- the refusal that a verdict carries
abbrev pub refusal_in : Verdict → Checked
refusal_in Done = Ok tt
refusal_in Member = Ok tt
refusal_in NotMember = Ok tt
refusal_in (Refused f) = Err f

-- "whether the target is a member"; 'done' is never member's verdict
abbrev pub is_member : Verdict → Bool
is_member Done = false
is_member Member = true
is_member NotMember = false
is_member (Refused f) = false

-- "First line: moves made, rank, the verdict on independence, whether the target is a member (yes or no each)."
unfoldable pub first_line : Reduction → List ℕ
first_line answer =
    named "moves " (decimal answer.moves)
    ++ named " rank " (decimal answer.rank)
    ++ named " independent " (yes_or_no answer.independent)
    ++ named " member " (yes_or_no (is_member answer.verdict))
    ++ line_feed

-- "Then the reduced slots in order, the log, and the product if member is yes": from the buffers that member wrote for so many slots
abbrev pub answer_lines : ℕ → Reduction → List ℕ → List ℕ → List ℕ → List ℕ
answer_lines n answer words log product =
    first_line answer ++ take (n * 64) words ++ take (answer.moves * move_size) log ++ cond (is_member answer.verdict) (take 64 product) []

-- "On a refusal it prints one line only .. Otherwise it prints" what a test or an answer that refuses nothing leads to
abbrev pub lines_after : Checked → List ℕ → List ℕ
lines_after (Ok _) lines = lines
lines_after (Err f) lines = refusal_line f
