-- A lent buffer that is written from its beginning on.
use Rattle.std.specs.Prelude.{◌+◌, ℕ, ◌≡◌, List, length}
use Rattle.words.specs.Buffers.{written_at}
use Rattle.words.specs.declared.writer.Writer.{Writer}

-- a writer, and the same after it wrote some bytes
pub record Puts (old : Writer) (bytes : List ℕ) (new : Writer) : Type 0 where
  pub same_buffer : new.buffer.ghost_name ≡ old.buffer.ghost_name
  pub size : length new.buffer.now ≡ length old.buffer.now
  pub place : new.at ≡ old.at + length bytes
  pub buffer : new.buffer.now ≡ written_at old.at bytes old.buffer.now
