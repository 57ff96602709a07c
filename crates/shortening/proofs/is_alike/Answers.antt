-- `shortening::is_alike` meets its contract: the words of each form are those whose letters are compared.
use Rattle.std.proofs.Common.{refl}
use Rattle.systems.specs.declared.Form.TheVariants.{After, Before, InverseAfter, InverseBefore}
use Rattle.shortening.proofs.Counting.{held, held_inverse, seam_apart}
use Rattle.shortening.proofs.is_alike.Goals as goal

pub returns-in-Before : goal.returns-in-Before
returns-in-Before c e =
    let a = c.args in
    rw c.in-Before.is (seam_apart Before a.system.now a.k a.i _ _
    (held_inverse _ _ _ _ refl c.inverses-inverses.ensures) (held _ _ _ _ refl c.words-words.ensures)
    a.place c.letter_pair.ensures c.letter_pair-in-Before.ensures e)

pub returns-in-InverseBefore : goal.returns-in-InverseBefore
returns-in-InverseBefore c e =
    let a = c.args in
    rw c.in-InverseBefore.is (seam_apart InverseBefore a.system.now a.k a.i _ _
    (held _ _ _ _ refl c.words-words.ensures) (held _ _ _ _ refl c.words-words.ensures)
    a.place c.letter_pair-in-InverseBefore.ensures c.letter_pair-in-InverseBefore-2.ensures e)

pub returns-in-After : goal.returns-in-After
returns-in-After c e =
    let a = c.args in
    rw c.in-After.is (seam_apart After a.system.now a.k a.i _ _
    (held_inverse _ _ _ _ refl c.inverses-inverses.ensures) (held _ _ _ _ refl c.words-words.ensures)
    a.place c.letter_pair-in-After.ensures c.letter_pair-in-After-2.ensures e)

pub returns-in-InverseAfter : goal.returns-in-InverseAfter
returns-in-InverseAfter c e =
    let a = c.args in
    rw c.in-InverseAfter.is (seam_apart InverseAfter a.system.now a.k a.i _ _
    (held_inverse _ _ _ _ refl c.inverses-inverses.ensures) (held_inverse _ _ _ _ refl c.inverses-inverses.ensures)
    a.place c.letter_pair-in-InverseAfter.ensures c.letter_pair-in-InverseAfter-2.ensures e)
