-- `shortening::is_worth_trying` meets its contract.
use Rattle.shortening.proofs.Counting.{forms_apart, forms_blank}
use Rattle.shortening.proofs.is_worth_trying.Goals as goal

pub returns-then-shorter-lt2 : goal.returns-then-shorter-lt2
returns-then-shorter-lt2 c e = forms_blank c.args.system.now c.args.k c.args.i c.shorter_length-shorter.ensures.shorter c.if-shorter-lt2.true e

pub returns : goal.returns
returns c e =
    let a = c.args in
    forms_apart a.system.now a.k a.i c.shorter_length-shorter.ensures.shorter _ _ c.words-words.ensures c.inverses-inverses.ensures
    c.letter_pair-other.ensures c.letter_pair-changed.ensures c.letter_pair-other_inverse.ensures
    c.letter_pair-changed_inverse.ensures c.if-shorter-lt2.false e
