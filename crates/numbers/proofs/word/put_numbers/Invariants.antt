use Rattle.std.proofs.Common.{◌≡◌, map, take}
use Rattle.numbers.specs.Numbers.{letter_number}
use Rattle.numbers.proofs.word.put_numbers.Given as goal

abbrev pub invariant-loop-i : goal.invariant-loop-i
invariant-loop-i l = take l.i l.word ≡ map letter_number (take l.i l.letters)
