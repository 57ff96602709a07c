-- `multiply::multiply` meets its contract.
use borrow.Author.Rules.{rules}
use Rattle.records.proofs.Chains.{answered, changed, unchanged}
use Rattle.multiply.proofs.Calls.{passed_product, passed_room, passed_short, passed_size, passed_slots, rules_failed, rules_told, word-written}
use mathlib.Core.Path.{◌∙◌, ap}
use Rattle.multiply.specs.Multiply.{product_word}
use Rattle.multiply.proofs.multiply.Goals as goal

pub returns-in_default : goal.returns-in_default
returns-in_default c = search (answered, unchanged, rules_failed, rules)

pub as_record-requires : goal.as_record-requires
as_record-requires c = search (passed_product, rules)

pub product_word-requires : goal.product_word-requires
product_word-requires c = search (passed_size, passed_slots, rules)

pub returns-in_default-fitted-clause-answer : goal.returns-in_default-fitted-clause-answer
returns-in_default-fitted-clause-answer c = search (answered, rules_told, rules)

pub returns-in_default-fitted-clause-word : goal.returns-in_default-fitted-clause-word
returns-in_default-fitted-clause-word c = search (unchanged, rules_told, rules)

pub slice_bounds-write_record-end : goal.slice_bounds-write_record-end
slice_bounds-write_record-end c = search (passed_room, rules)

pub slice_bounds-write_record-end-2 : goal.slice_bounds-write_record-end-2
slice_bounds-write_record-end-2 c = search (passed_room, rules)

pub write_record-requires-clause-room : goal.write_record-requires-clause-room
write_record-requires-clause-room c = search (passed_room, rules)

pub returns-clause-answer : goal.returns-clause-answer
returns-clause-answer c = search (answered, rules_told, rules)

pub returns-clause-word : goal.returns-clause-word
returns-clause-word c =
    let told = c.product_word.ensures ∙ ap (product_word c.args.system.now) c.as_record.ensures in
    search (changed, rules_told, word-written, passed_short, told, rules)
