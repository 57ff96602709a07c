-- `numbers::record::check_record` meets its contract.
use borrow.Author.Rules.{rules}
use Rattle.numbers.proofs.Rules.{on_the_way_back, layout_alone, refused_layout}
use Rattle.numbers.proofs.record.check_record.Goals as goal

pub returns-in_default : goal.returns-in_default
returns-in_default c = search (refused_layout, rules)

pub returns-then-back : goal.returns-then-back
returns-then-back c = search (on_the_way_back, rules)

pub returns-else-back : goal.returns-else-back
returns-else-back c = search (layout_alone, rules)
