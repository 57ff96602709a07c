-- `folding::folds::back` meets its contract.
use Rattle.words.proofs.Alphabet.{flip_bit}
use Rattle.folding.proofs.folds.back.Goals as goal

pub returns : goal.returns
returns c = rw (flip_bit c.args.edge.letter)
