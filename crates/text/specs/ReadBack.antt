-- What read gives for the text that write wrote, a law over both definitions.
use Rattle.std.specs.Prelude.{◌≤◌, ℕ, ◌≡◌, List, length, take}
use Rattle.words.specs.Alphabet.{bytes}
use Rattle.words.specs.Buffers.{written}
use Rattle.words.specs.Words.{Irreducible, freely_reduce}
use Rattle.records.specs.Records.{record_of, word_of}
use Rattle.records.specs.declared.answers.Verdict.TheVariants.{Done}
use Rattle.text.specs.Read.{read_answer, read_buffer}
use Rattle.text.specs.declared.Writing.{Writing}

-- the text lies at the beginning of text', and buffer is any word buffer with room for a record
pub record ReadBack (word : List ℕ) (answer : Writing) (text' : List ℕ) : Type 0 where
  pub done : answer.verdict ≡ Done → (buffer : List ℕ) → 64 ≤ length buffer → (read_answer (take answer.length text') buffer).verdict ≡ Done
  pub freely_reduced : answer.verdict ≡ Done → (buffer : List ℕ) → 64 ≤ length buffer
      → read_buffer (take answer.length text') buffer ≡ written (record_of (freely_reduce bytes (word_of word))) buffer
  -- "For a freely reduced word its text is read back as that word"
  pub same : answer.verdict ≡ Done → Irreducible bytes (word_of word) → (buffer : List ℕ) → 64 ≤ length buffer
      → read_buffer (take answer.length text') buffer ≡ written (record_of (word_of word)) buffer
