-- `multiply::letters::check_slots` meets its contract. The letters from the present one on decide.
use borrow.Author.Rules.{rules}
use Rattle.multiply.proofs.SlotLetters.{slots_begin}
use Rattle.multiply.proofs.letters.check_slots.Goals as goal

pub loop-i-init : goal.loop-i-init
loop-i-init c = search (slots_begin, rules)
