-- The word that is left leads from here where the whole word leads from the base.
use Rattle.std.proofs.Common.{◌<◌, ◌≡◌, drop, length}
use Rattle.graphs.specs.Folding.{is_base, walk}
use Rattle.folding.specs.Filing.{lead}
use Rattle.folding.proofs.leads_back.Given as goal

abbrev pub invariant-loop-letter : goal.invariant-loop-letter
invariant-loop-letter l =
    (l.here < length l.points)
    × (is_base (walk (lead l.points l.index) l.here (drop l.letter-index l.word)) ≡ is_base (walk (lead l.points l.index) 0 l.word))
