-- `words::letters::flip` meets its contract.
use Rattle.words.proofs.Alphabet.{flip_bit}
use Rattle.words.proofs.letters.flip.Goals as goal

pub returns : goal.returns
returns c = flip_bit c.args.x
