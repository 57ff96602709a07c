use Rattle.std.proofs.Common.{◌≡◌, map, take}
use Rattle.numbers.specs.Numbers.{number_letter}
use Rattle.numbers.proofs.word.put_letters.Given as goal

abbrev pub invariant-loop-i : goal.invariant-loop-i
invariant-loop-i l = take l.i l.letters ≡ map number_letter (take l.i l.word)
