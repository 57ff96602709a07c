-- `words::cancel::common_prefix_signed` meets its contract.
use borrow.Author.Rules.{rules}
use Rattle.words.proofs.Counting.{prefix_end, prefix_more, prefix_stop}
use Rattle.words.proofs.cancel.common_prefix_signed.Goals as goal

pub returns-then-letter_at-clause-common : goal.returns-then-letter_at-clause-common
returns-then-letter_at-clause-common c = search (prefix_stop, rules)

pub loop-i-preserved : goal.loop-i-preserved
loop-i-preserved c = search (prefix_more, rules)

pub returns-clause-common : goal.returns-clause-common
returns-clause-common c = search (prefix_end, rules)
