-- `text::read` meets its contract.
use borrow.Author.Rules.{rules}
use Rattle.records.proofs.Chains.{answered, changed, unchanged}
use Rattle.text.proofs.ReadCall.{passed_readable, passed_room, rules_failed, rules_passed, too_long, word-written}
use Rattle.text.proofs.ReadMeaning.{read_means}
use Rattle.text.proofs.read.Goals as goal

pub returns-in_default : goal.returns-in_default
returns-in_default c = search (answered, read_means, rules_failed, unchanged, rules)

pub product-found-requires : goal.product-found-requires
product-found-requires c = search (passed_readable, rules)

pub returns-in_default-word : goal.returns-in_default-word
returns-in_default-word c = search (answered, read_means, too_long, unchanged, rules)

pub slice_bounds-write_record-end : goal.slice_bounds-write_record-end
slice_bounds-write_record-end c = search (passed_room, rules)

pub returns : goal.returns
returns c = search (answered, changed, read_means, rules_passed, word-written, rules)
