-- `factoring::take_off` meets its contract: what leads a word leaves no longer word.
use borrow.Author.Rules.{rules}
use native.Mathlib.Omega.{arith}
use Prim.Native.Nat.{◌≤◌}
use lib.ListN.{length}
use Rattle.factoring.proofs.Factoring.{taken, taken_short}
use Rattle.factoring.proofs.take_off.Goals as goal

pub copy_from-requires : goal.copy_from-requires
copy_from-requires c =
    let short : length c.multiply-2.new.self ≤ 63 = search (taken_short, c.multiply.ensures.freely, rules) in
    (search rules, (search rules, omega (arith, short)))

pub returns-clause-size : goal.returns-clause-size
returns-clause-size c = search (taken_short, c.multiply.ensures.freely, rules)

pub returns-clause-word : goal.returns-clause-word
returns-clause-word c = search (taken, rules)
