use Rattle.std.proofs.Common.{length, ◌+◌, ◌-◌, ◌*◌}
use Rattle.parsing.proofs.Readers.{ProductKept}
use Rattle.parsing.proofs.+reader.Given as goal

abbrev pub decreases-bracket : goal.decreases-bracket
decreases-bracket l = length l.text.now * 3

abbrev pub decreases-factor : goal.decreases-factor
decreases-factor l = length l.text.now * 3 + 1

abbrev pub decreases-product : goal.decreases-product
decreases-product l = length l.text.now * 3 + 2

abbrev pub invariant-product-loop-at : goal.invariant-product-loop-at
invariant-product-loop-at l = ProductKept l.room l.text l.word l.at

abbrev pub decreases-product-loop-at : goal.decreases-product-loop-at
decreases-product-loop-at l = length l.text - l.at
