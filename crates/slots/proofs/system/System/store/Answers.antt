-- `slots::system::System::store` meets its contract.
use borrow.Author.Rules.{rules}
use mathlib.Core.Path.{◌∙◌}
use Rattle.words.proofs.Parts.{mid_length}
use Rattle.slots.proofs.Arrays.{store_more, stored_all}
use Rattle.slots.proofs.system.System.store.Goals as goal

pub loop-k-preserved : goal.loop-k-preserved
loop-k-preserved c =
    let mine = c.letters.ensures.letters ∙ c.word-item.is in
    (search (mid_length, rules), search rules, search (store_more, rules))

pub returns : goal.returns
returns c = search (stored_all, rules)
