-- `marks::Search::advance` meets its contract.
use Rattle.std.proofs.Common.{arith}
use Rattle.marks.proofs.Marking.{advanced_given, advanced_inside, next_inside, ready_advanced}
use Rattle.marks.proofs.Search.advance.Goals as goal

pub make-requires : goal.make-requires
make-requires c = record { inside = next_inside _ _ _ _ _ c.self.invariant c.self.view_is c.requires }

pub word-requires : goal.word-requires
word-requires c = rw c.words.ensures (advanced_inside _ _ _ _ _ c.self.invariant c.self.view_is c.requires _ c.make.ensures.fits c.make.ensures.made)

pub set_pairs-requires : goal.set_pairs-requires
set_pairs-requires c = omega (arith, next_inside _ _ _ _ _ c.self.invariant c.self.view_is c.requires)

pub invariant_of-self : goal.invariant_of-self
invariant_of-self c =
    ready_advanced _ _ _ _ _ c.self.invariant c.self.view_is c.requires _ c.make.ensures.fits c.make.ensures.made _ _ _ c.words.ensures
    c.word.ensures.word c.is_empty-blank.ensures c.set_pairs.ensures

pub returns : goal.returns
returns c = advanced_given _ _ _ _ _ c.self.invariant c.self.view_is c.requires _ c.make.ensures.fits c.make.ensures.made
