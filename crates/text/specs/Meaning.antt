-- What the answers of read and write mean, over the lent buffers alone and in the words of docs/REQUIREMENTS.md. No parser is spoken of.
use Rattle.std.specs.Prelude.{◌<◌, ◌≤◌, ℕ, ◌≡◌, ◌↔◌, List, length, take}
use Rattle.words.specs.Alphabet.{bytes}
use Rattle.words.specs.Buffers.{written}
use Rattle.words.specs.Words.{freely_reduce}
use Rattle.records.specs.Records.{record_of, word_of}
use Rattle.records.specs.Answers.{refused_with}
use Rattle.records.specs.Refusals.{refusal, target_rules}
use Rattle.records.specs.declared.answers.Answer.{Answer}
use Rattle.records.specs.declared.answers.Verdict.TheVariants.{Done}
use Rattle.syntax.specs.Trees.{Product, Spells}
use Rattle.syntax.specs.TreeWords.{SomeOver, measured, tree_word}
use Rattle.syntax.specs.Meaning.{OutOfRangeAt, TooDeepAt, TooLongOrMalformed, WithinLimits}
use Rattle.syntax.specs.WordTexts.{Run, RunsOf, runs_text}
use Rattle.text.specs.declared.Writing.{Writing}
use Rattle.records.specs.declared.refusals.Reason.TheVariants.{ExponentOutOfRange, NestingTooDeep, TargetOrProductMalformed, TextMalformed, WordTooLong as TooLong, WordsBufferShort}
use Rattle.std.specs.Prelude.{Ok}

-- 10: a text that 16, 17 and 18 let through, and a word buffer shorter than a record
pub record NoRoom (text word : List ℕ) : Type 0 where
  pub tree : Product
  pub allowed : WithinLimits text tree
  pub room : length word < 64

-- 12: with room, where "any factor, with or without its power, or any beginning of a product, freely reduces to over 63 letters"
pub record WordTooLong (text word : List ℕ) : Type 0 where
  pub tree : Product
  pub allowed : WithinLimits text tree
  pub room : 64 ≤ length word
  pub over : SomeOver (measured tree)

-- and with room, where none does
pub record Accepted (text word : List ℕ) : Type 0 where
  pub tree : Product
  pub allowed : WithinLimits text tree
  pub room : 64 ≤ length word
  pub short : SomeOver (measured tree) → ⊥

-- what read's answer means; word' is the word buffer afterwards
pub record ReadMeans (text word : List ℕ) (answer : Answer) (word' : List ℕ) : Type 0 where
  pub done : (answer.verdict ≡ Done) ↔ Accepted text word
  -- the record written holds the freely reduced word of the tree that the text spells, and a text spells one tree at most
  pub record' : answer.verdict ≡ Done → (tree : Product) → Spells text tree → word' ≡ written (record_of (freely_reduce bytes (tree_word tree))) word
  pub one_tree : (tree other : Product) → Spells text tree → Spells text other → tree ≡ other
  pub malformed : (k : ℕ) → (answer.verdict ≡ refused_with TextMalformed k) ↔ TooLongOrMalformed text k
  pub too_deep : (k : ℕ) → (answer.verdict ≡ refused_with NestingTooDeep k) ↔ TooDeepAt text k
  pub out_of_range : (k : ℕ) → (answer.verdict ≡ refused_with ExponentOutOfRange k) ↔ OutOfRangeAt text k
  pub no_room : (answer.verdict ≡ refused_with WordsBufferShort 0) ↔ NoRoom text word
  pub word_too_long : (answer.verdict ≡ refused_with TooLong 0) ↔ WordTooLong text word
  -- "a refusal changes no lent byte"
  pub unchanged : (answer.verdict ≡ Done → ⊥) → word' ≡ word

-- what write's answer means; text' is the text buffer afterwards
pub record WriteMeans (word text : List ℕ) (answer : Writing) (text' : List ℕ) : Type 0 where
  pub done : (answer.verdict ≡ Done) ↔ ((target_rules word ≡ Ok tt) × (256 ≤ length text))
  -- the text written is that of the runs of the word, each as long as can be, and a word has one row of such runs
  pub runs : answer.verdict ≡ Done
      → (rs : List Run) × RunsOf (word_of word) rs × (text' ≡ written (runs_text rs) text) × (answer.length ≡ length (runs_text rs))
  pub one_row : (rs others : List Run) → RunsOf (word_of word) rs → RunsOf (word_of word) others → rs ≡ others
  pub size : answer.length ≤ 125
  -- with room for a record it is a text that read is done with, and the word of its tree is the word itself
  pub accepted : answer.verdict ≡ Done → (buffer : List ℕ) → 64 ≤ length buffer → Accepted (take answer.length text') buffer
  pub same_word : answer.verdict ≡ Done → (tree : Product) → Spells (take answer.length text') tree → tree_word tree ≡ word_of word
  pub malformed : (k : ℕ) → (answer.verdict ≡ refused_with TargetOrProductMalformed k) ↔ (target_rules word ≡ refusal TargetOrProductMalformed k)
  pub no_room : (answer.verdict ≡ refused_with WordsBufferShort 0) ↔ ((target_rules word ≡ Ok tt) × (length text < 256))
  -- "a refusal changes no lent byte"
  pub unchanged : (answer.verdict ≡ Done → ⊥) → (text' ≡ text) × (answer.length ≡ 0)
