use Rattle.std.proofs.Common.{◌≡◌, length, map, take}
use Rattle.words.specs.Alphabet.{bytes}
use Rattle.words.specs.Words.{inverse}
use Rattle.systems.specs.Products.{FreelyReduced}
use Rattle.slots.specs.Systems.{AllShort}
use Rattle.slots.proofs.system.System.invert.Given as goal

abbrev pub invariant-loop-slot : goal.invariant-loop-slot
invariant-loop-slot l =
    (length l.words ≡ 16) × AllShort l.words × FreelyReduced bytes l.words × (take l.slot l.words ≡ map (inverse bytes) (take l.slot l.others))
