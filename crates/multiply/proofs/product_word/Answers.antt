-- `multiply::product_word` meets its contract. The word is what the letters read so far come to, at most 63 letters for each.
use borrow.Author.Rules.{rules}
use Rattle.multiply.proofs.Multiplying.{read_all, read_more}
use Rattle.multiply.proofs.SlotLetters.{slot_inside}
use Rattle.multiply.proofs.product_word.Goals as goal

pub multiply-requires : goal.multiply-requires
multiply-requires c =
    let inside = slot_inside _ _ _ _ _ _ c.requires.named c.word_in-letter-items.ensures.word c.load.ensures (search rules) c.from.ensures in
    (search rules, (inside, search rules))

pub loop-letter-preserved : goal.loop-letter-preserved
loop-letter-preserved c = (search rules, search (read_more, rules))

pub returns : goal.returns
returns c = search (read_all, rules)
