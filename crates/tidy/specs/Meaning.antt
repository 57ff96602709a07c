-- What the answer of tidy means, over the lent buffers alone.
use Rattle.std.specs.Prelude.{ℕ, ◌<◌, ◌≡◌, List, Ok}
use Rattle.words.specs.Alphabet.{bytes}
use Rattle.words.specs.Words.{FreelyReducesTo}
use Rattle.slots.specs.Refusals.{system_rules}
use Rattle.slots.specs.Systems.{slots, word_at}

-- the bytes t that tidy wrote for a system s: a system too, and in each slot the word that free reduction leaves of the given one. "freely
-- reduce every record of a system"
pub record Tidied (s t : List ℕ) : Type 0 where
  pub system : system_rules t ≡ Ok tt
  pub words : (k : ℕ) → k < slots s → FreelyReducesTo bytes (word_at s k) (word_at t k)
