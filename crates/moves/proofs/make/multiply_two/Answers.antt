-- `moves::make::multiply_two` meets its contract.
use mathlib.Core.Path.{◌∙◌, ap, sym}
use Rattle.std.proofs.Common.{◌++◌}
use Rattle.words.specs.Alphabet.{bytes}
use Rattle.words.specs.Words.{freely_reduce}
use Rattle.words.proofs.Alphabet.{byte_laws}
use Rattle.words.proofs.FreeReduction.{freely_reduce_left}
use Rattle.systems.specs.Products.{value}
use Rattle.moves.proofs.make.multiply_two.Goals as goal

pub returns : goal.returns
returns c =
    let u = value bytes c.args.system.now c.args.first in
    let v = value bytes c.args.system.now c.args.second in
    let first = c.multiply.ensures.product ∙ ap (λ w. freely_reduce bytes (w ++ u)) c.requires.empty in
    c.multiply-2.ensures.product ∙ ap (λ w. freely_reduce bytes (w ++ v)) first ∙ sym (freely_reduce_left bytes byte_laws u v)
