use Rattle.std.proofs.Common.{◌≤◌, ◌≡◌, length, take}
use Rattle.words.specs.Alphabet.{bytes}
use Rattle.words.specs.Words.{freely_reduce}
use Rattle.words.proofs.word.Word.reduce.Given as goal

abbrev pub invariant-loop-letter : goal.invariant-loop-letter
invariant-loop-letter g l =
    (length l.self-inside.letters ≡ g.row.ROOM) × (l.size ≤ l.letter-index)
    × (take l.size l.self-inside.letters ≡ freely_reduce bytes (take l.letter-index l.letters))
