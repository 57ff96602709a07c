use mathlib.Core.Path.{◌≡◌}
use lib.ListN.{length}
use Rattle.subgroups.proofs.Parts.{Taken}
use Rattle.subgroups.proofs.reading.read_input.Given as goal

abbrev pub invariant-loop : goal.invariant-loop
invariant-loop g l = record {
  same_buffer : l.kept.bytes.ghost_name ≡ l.initial.kept.bytes.ghost_name;
  room : 4096 ≡ length l.chunk;
  taken : Taken (g.R.Read.remaining l.initial.input) (g.R.Read.remaining l.input)
      l.initial.kept.bytes.now l.initial.kept.size l.kept.bytes.now l.kept.size;
}
