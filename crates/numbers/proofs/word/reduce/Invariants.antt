use Rattle.std.proofs.Common.{◌≤◌, ◌≡◌, take}
use Rattle.words.specs.Words.{freely_reduce}
use Rattle.numbers.specs.Numbers.{signed_numbers}
use Rattle.numbers.proofs.word.reduce.Given as goal

abbrev pub invariant-loop-x : goal.invariant-loop-x
invariant-loop-x l = (l.size ≤ l.x-index) × (take l.size l.stack ≡ freely_reduce signed_numbers (take l.x-index l.word))
