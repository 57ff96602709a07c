-- `numbers::word::put_numbers` meets its contract.
use borrow.Author.Rules.{rules}
use Rattle.numbers.proofs.Words.{map_more}
use Rattle.numbers.proofs.word.put_numbers.Goals as goal

pub loop-i-preserved : goal.loop-i-preserved
loop-i-preserved c = search (map_more, rules)
