-- `words::word::Word::reduce` meets its contract. The buffer begins with what the letters read so far freely reduce to.
use borrow.Author.Rules.{rules}
use Rattle.words.specs.Alphabet.{bytes}
use Rattle.words.proofs.Alphabet.{byte_laws}
use Rattle.words.proofs.Stack.{read_freely_reduced, read_more}
use Rattle.words.proofs.word.Word.reduce.Goals as goal

pub push_last-size-requires-clause-freely : goal.push_last-size-requires-clause-freely
push_last-size-requires-clause-freely g c = search (read_freely_reduced bytes byte_laws, rules)

pub loop-letter-preserved : goal.loop-letter-preserved
loop-letter-preserved g c = (search rules, search rules, search (read_more bytes byte_laws, rules))

pub invariant_of-self : goal.invariant_of-self
invariant_of-self g c = (search rules, search (read_freely_reduced bytes byte_laws, rules))

pub returns-clause-freely : goal.returns-clause-freely
returns-clause-freely g c = search (read_freely_reduced bytes byte_laws, rules)
