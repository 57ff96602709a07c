use Rattle.factoring.proofs.Factoring.{Left}
use Rattle.std.proofs.Common.{length, ◌-◌, ◌≤◌}
use Rattle.factoring.proofs.factor.Given as goal

abbrev pub invariant-loop-letters : goal.invariant-loop-letters
invariant-loop-letters l = record {
  short : length l.word ≤ 63;
  few : length l.letters ≤ 63;
  left : Left l.system l.initial.word l.word l.letters;
}

abbrev pub decreases-loop-letters : goal.decreases-loop-letters
decreases-loop-letters l = 63 - length l.letters
