-- `text::write` meets its contract.
use borrow.Author.Rules.{rules}
use mathlib.Core.Path.{◌∙◌, ap}
use Rattle.records.specs.Records.{word_of}
use Rattle.records.proofs.Chains.{changed, unchanged}
use Rattle.text.proofs.WriteCall.{answer-done, answer-refused, passed_word, text_room, text_written}
use Rattle.text.proofs.WriteMeaning.{read_back_lem, write_means}
use Rattle.text.proofs.write.Goals as goal

pub returns-in_default-clause-means : goal.returns-in_default-clause-means
returns-in_default-clause-means c = search (answer-refused, unchanged, write_means, rules)

pub as_record-requires : goal.as_record-requires
as_record-requires c = search (passed_word, rules)

pub write_word-length-requires : goal.write_word-length-requires
write_word-length-requires c = search (text_room, rules)

pub returns : goal.returns
returns c =
    let is = c.word_in.ensures.word ∙ ap word_of c.as_record.ensures in
    search (answer-done, changed, is, read_back_lem c.args.word.now c.args.text.now, text_written, write_means, rules)
