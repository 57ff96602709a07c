-- `numbers::word::put_letters` meets its contract.
use borrow.Author.Rules.{rules}
use Rattle.numbers.proofs.Words.{map_more}
use Rattle.numbers.proofs.word.put_letters.Goals as goal

pub loop-i-preserved : goal.loop-i-preserved
loop-i-preserved c = search (map_more, rules)
