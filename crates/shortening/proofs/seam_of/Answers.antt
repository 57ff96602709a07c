-- `shortening::seam_of` meets its contract: the words of each form are those whose beginnings are compared.
use Rattle.std.proofs.Common.{rules}
use Rattle.shortening.proofs.Counting.{held, held_inverse, seam_counted}
use Rattle.shortening.proofs.seam_of.Goals as goal

pub returns-in-Before-clause-seam : goal.returns-in-Before-clause-seam
returns-in-Before-clause-seam c = rw c.in-Before.is (search (seam_counted, held, held_inverse, rules))

pub returns-in-InverseBefore-clause-seam : goal.returns-in-InverseBefore-clause-seam
returns-in-InverseBefore-clause-seam c = rw c.in-InverseBefore.is (search (seam_counted, held, rules))

pub returns-in-After-clause-seam : goal.returns-in-After-clause-seam
returns-in-After-clause-seam c = rw c.in-After.is (search (seam_counted, held, held_inverse, rules))

pub returns-in-InverseAfter-clause-seam : goal.returns-in-InverseAfter-clause-seam
returns-in-InverseAfter-clause-seam c = rw c.in-InverseAfter.is (search (seam_counted, held_inverse, rules))
