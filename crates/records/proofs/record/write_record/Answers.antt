-- `records::record::write_record` meets its contract.
use borrow.Author.Rules.{rules}
use Rattle.records.proofs.Filling.{record-written}
use Rattle.records.proofs.record.write_record.Goals as goal

pub returns : goal.returns
returns c = search (record-written, rules)
