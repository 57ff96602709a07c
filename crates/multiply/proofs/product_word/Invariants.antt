use Rattle.std.proofs.Common.{◌*◌, ◌≤◌, ◌≡◌, length, take}
use mathlib.Core.List.{map}
use Rattle.words.specs.Alphabet.{bytes}
use Rattle.systems.specs.Products.{multiplied}
use Rattle.systems.specs.Factors.{factor_of}
use Rattle.multiply.proofs.product_word.Given as goal

abbrev pub invariant-loop-letter : goal.invariant-loop-letter
invariant-loop-letter l =
    (length l.word ≤ l.letter-index * 63) × (l.word ≡ multiplied bytes l.loaded (map factor_of (take l.letter-index l.letter-items)))
