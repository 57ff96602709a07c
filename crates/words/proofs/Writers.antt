-- What a writer wrote: some bytes after others, and all of them from the beginning of the buffer.
use Rattle.std.proofs.Common.{ℕ, ◌≡◌, ◌∙◌, List, ◌++◌, arith, length-append}
use Rattle.words.specs.Writers.{Puts}
use Rattle.words.specs.declared.writer.Writer.{Writer}
use Rattle.words.proofs.Buffers.{written_next}

pub puts_next : (a b c : Writer) (u v w : List ℕ) → Puts a u b → Puts b v c → u ++ v ≡ w → Puts a w c
puts_next a b c u v w first second e =
    record {
      same_buffer = second.same_buffer ∙ first.same_buffer;
      size = second.size ∙ first.size;
      place = rw (← e) (omega (arith, first.place, second.place, length-append u v));
      buffer = written_next a.at u v w a.buffer.now e first.buffer first.place second.buffer;
    }
