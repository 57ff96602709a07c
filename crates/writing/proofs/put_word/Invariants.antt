use Rattle.std.proofs.Common.{length}
use Rattle.writing.proofs.Runs.{WrittenTo}
use Rattle.writing.proofs.put_word.Given as goal

abbrev pub invariant-loop-rest : goal.invariant-loop-rest
invariant-loop-rest l = WrittenTo l.word l.initial.text l.text l.rest

abbrev pub decreases-loop-rest : goal.decreases-loop-rest
decreases-loop-rest l = length l.rest
