-- Systems of records, as lists of bytes: the words in their slots, and the bytes that hold given words.
use Rattle.std.specs.Prelude.{◌*◌, ◌/◌, ◌≤◌, ℕ, List, [], ◌++◌, ◌∷◌, map, drop, length, take}
use Rattle.words.specs.Alphabet.{bytes}
use Rattle.words.specs.Below.{below}
use Rattle.words.specs.Words.{freely_reduce}
use Rattle.systems.specs.Products.{word}
use Rattle.records.specs.Records.{AllLetters, record_of, word_of}

-- the record in a slot, the slots counted from 0
abbrev pub record_at : List ℕ → ℕ → List ℕ
record_at s k = take 64 (drop (k * 64) s)

-- the word in a slot
abbrev pub word_at : List ℕ → ℕ → List ℕ
word_at s k = word_of (record_at s k)

-- how many records a system has: "A system is 0 to 16 records with no header."
abbrev pub slots : List ℕ → ℕ
slots s = length s / 64

-- the words of a system, one for each slot
abbrev pub system_of : List ℕ → List (List ℕ)
system_of s = below (word_at s) (slots s)

-- "each word is written into the 64 bytes of its own slot, blank ones too"
abbrev pub bytes_of : List (List ℕ) → List ℕ
bytes_of [] = []
bytes_of (w ∷ ws) = record_of w ++ bytes_of ws

-- the words of a system, each freely reduced
unfoldable pub freely_reduced_words : List ℕ → List (List ℕ)
freely_reduced_words s = map (freely_reduce bytes) (system_of s)

-- every word of a system fits a record
abbrev pub AllShort : List (List ℕ) → Type 0
AllShort S = (k : ℕ) → length (word bytes S k) ≤ 63

-- and every word is of letters alone
abbrev pub LetterWords : List (List ℕ) → Type 0
LetterWords S = (k : ℕ) → AllLetters (word bytes S k)
