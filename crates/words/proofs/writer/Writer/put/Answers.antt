-- `words::writer::Writer::put` meets its contract.
use borrow.Author.Rules.{rules}
use Rattle.words.proofs.Buffers.{byte_written}
use Rattle.words.proofs.writer.Writer.put.Goals as goal

pub returns : goal.returns
returns c = search (byte_written, rules)
