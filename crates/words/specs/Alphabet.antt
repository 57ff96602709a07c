-- Letters, each with its inverse. docs/REQUIREMENTS.md: "A generator is one of a to z; its inverse is the capital."
use Rattle.std.specs.Prelude.{ℕ, ◌+◌, ◌-◌, ◌%◌, Bool, cond, ltb, eqb}

-- what the definitions of words take of their letters: the inverse of a letter, and whether two letters are the same
pub record Alphabet (A : Type 0) : Type 0 where
  pub flip : A → A
  pub same : A → A → Bool

-- the inverse of a letter as a byte: a small letter stands 32 places after its capital (97 is a, 65 is A)
unfoldable pub flip_byte : ℕ → ℕ
flip_byte x = cond (ltb (x % 64) 32) (x + 32) (x - 32)

-- the letters a to z and their capitals, as bytes
abbrev pub bytes : Alphabet ℕ
bytes = record { flip = flip_byte; same = eqb }
