-- `writing::put_word` meets its contract.
use borrow.Author.Rules.{rules}
use Rattle.writing.proofs.Runs.{text_all, text_more}
use Rattle.writing.proofs.put_word.Goals as goal

pub loop-rest-preserved : goal.loop-rest-preserved
loop-rest-preserved c = search (text_more, rules)

pub returns : goal.returns
returns c = search (text_all, rules)
