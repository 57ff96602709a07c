-- `numbers::record::write_numbers_record` meets its contract.
use borrow.Author.Rules.{rules}
use Rattle.words.proofs.Parts.{mid_length}
use Rattle.numbers.proofs.Writing.{number_put, numbers_put}
use Rattle.numbers.proofs.record.write_numbers_record.Goals as goal

pub loop-i-preserved : goal.loop-i-preserved
loop-i-preserved c = (search (mid_length, rules), search (number_put, rules))

pub returns : goal.returns
returns c = search (numbers_put, rules)
