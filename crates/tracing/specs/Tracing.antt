-- Trace: "a system, a target and a table of edges in; member or not, by the folded graph".
use Rattle.std.specs.Prelude.{ℕ, List, leb}
use Rattle.words.specs.Alphabet.{bytes}
use Rattle.graphs.specs.Folding.{member_by_graph}
use Rattle.records.specs.Records.{word_of}
use Rattle.records.specs.Refusals.{Checked, ◌and_then◌, must, target_rules}
use Rattle.records.specs.declared.answers.Answer.{Answer}
use Rattle.records.specs.declared.refusals.Reason.TheVariants.{EdgeTableShort}
use Rattle.slots.specs.Refusals.{system_rules}
use Rattle.slots.specs.Systems.{system_of}
use Rattle.asking.specs.Asking.{asked_of, verdict_of}

-- refusals 1 to 6, then 21. "The table has fewer than 1,008 edges."
unfoldable pub trace_tests : List ℕ → List ℕ → ℕ → Checked
trace_tests s t edges = system_rules s and_then target_rules t and_then must (leb 1008 edges) EdgeTableShort 0

-- the answer for a system, a target and a table of so many edges
abbrev pub trace_answer : List ℕ → List ℕ → ℕ → Answer
trace_answer s t edges = asked_of (trace_tests s t edges) (verdict_of (member_by_graph bytes (system_of s) (word_of t)))
