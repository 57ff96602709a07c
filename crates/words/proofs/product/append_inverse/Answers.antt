-- `words::product::append_inverse` meets its contract.
use borrow.Author.Rules.{rules}
use mathlib.Core.Path.{◌∙◌, ap}
use Rattle.std.specs.Slice.Iter.{iter_rest}
use Rattle.words.proofs.Joining.{inverse_begin, inverse_counted, inverse-counted_on, inverse-more, inverse-rest_begins, inverse_whole}
use Rattle.words.proofs.product.append_inverse.Goals as goal

-- the iterator gives the whole word, from its end
pub loop-i-init : goal.loop-i-init
loop-i-init c =
    let same = c.into_iter-i-iterator.ensures.into_iter_gives in
    let first = ap (λ e. e.count) same ∙ c.enumerate-i-items.ensures.count in
    let whole = ap (λ e. iter_rest e.iter.iter) same ∙ ap (λ r. iter_rest r.iter) c.enumerate-i-items.ensures.source ∙ ap iter_rest c.rev.ensures.source ∙ c.iter.ensures.rest in
    search (inverse_begin, inverse_counted, inverse_whole, rules)

pub loop-i-preserved : goal.loop-i-preserved
loop-i-preserved c =
    let last = c.in-Some.ensures.steps in
    search (inverse-more, inverse-counted_on, inverse-rest_begins, rules)
