-- What the product reader and the factor reader find at the beginning of a text. No call's contract speaks of it.
use Rattle.std.specs.Prelude.{◌+◌, ℕ, ◌≡◌, Bool, ◌||◌, false, List, [], ◌++◌, ◌∷◌, None, Some, eqb, drop, length}
use Rattle.std.specs.Prelude.{Option, Some}
use Rattle.records.specs.Records.{is_letter}
use Rattle.syntax.specs.Trees.{Power, Product, Proper, bracket, group, is_digit, letter, nothing, plain, raised, spelled, spelled_power}
use Rattle.syntax.specs.TreeWords.{number_of}
use Rattle.syntax.specs.Limits.{bracket_size, group_size}
use Rattle.syntax.specs.Within.{NestsWithin, PowersWithin}
use Rattle.scanning.specs.Exponents.{exponent_of, exponent_size}
use Rattle.scanning.specs.declared.exponent.Exponent.{Exponent}
use Rattle.powers.specs.Bounded.{commute_of, join_of, raise_of}
use Rattle.parsing.specs.declared.Reading.{Reading}

-- a factor's word with its power
abbrev pub powered_of : Power → Option (List ℕ) → Option (List ℕ)
powered_of plain w = w
powered_of (raised minus d) w = raise_of minus (number_of d) w

-- the word of a product after the word of what stands before it; none where 12 is due
abbrev pub read_after : Option (List ℕ) → Product → Option (List ℕ)
read_after w nothing = w
read_after w (letter x p t) = read_after (join_of w (powered_of p (Some (x ∷ [])))) t
read_after w (group u p t) = read_after (join_of w (powered_of p (read_after (Some []) u))) t
read_after w (bracket u v p t) = read_after (join_of w (powered_of p (commute_of (read_after (Some []) u) (read_after (Some []) v)))) t

-- a byte that starts a factor
abbrev pub starts_factor : ℕ → Bool
starts_factor b = is_letter b || (eqb b 40 || eqb b 91)

-- here no factor starts and no power goes on
abbrev pub Stops : List ℕ → Type 0
Stops [] = Unit
Stops (b ∷ r) = (starts_factor b ≡ false) × (eqb b 94 ≡ false) × (is_digit b ≡ false)

-- a text that begins with the spelling of a product and stops after it; so many more signs may nest
pub record StartsWith (room : ℕ) (text : List ℕ) (t : Product) (rest : List ℕ) : Type 0 where
  pub proper : Proper t
  pub nests : NestsWithin room t
  pub powers : PowersWithin t
  pub stops : Stops rest
  pub same : text ≡ spelled t ++ rest

pub record Readable (room : ℕ) (text : List ℕ) : Type 0 where
  pub tree : Product
  pub rest : List ℕ
  pub starts : StartsWith room text tree rest

-- a whole product was read
pub record ReadAll (t : Product) (r : Reading) : Type 0 where
  pub used : r.used ≡ length (spelled t)
  pub word : r.word ≡ read_after (Some []) t

abbrev pub ProductReads : ℕ → List ℕ → Reading → Type 0
ProductReads room text r = (t : Product) (rest : List ℕ) → StartsWith room text t rest → ReadAll t r

-- the first factor of a product: how many bytes it has, and its word
abbrev pub first_size : Product → ℕ
first_size nothing = 0
first_size (letter x p t) = 1 + length (spelled_power p)
first_size (group u p t) = group_size u + length (spelled_power p)
first_size (bracket u v p t) = bracket_size u v + length (spelled_power p)

abbrev pub first_word : Product → Option (List ℕ)
first_word nothing = Some []
first_word (letter x p t) = powered_of p (Some (x ∷ []))
first_word (group u p t) = powered_of p (read_after (Some []) u)
first_word (bracket u v p t) = powered_of p (commute_of (read_after (Some []) u) (read_after (Some []) v))

pub record ReadFirst (t : Product) (r : Reading) : Type 0 where
  pub used : r.used ≡ first_size t
  pub word : r.word ≡ first_word t

abbrev pub FactorReads : ℕ → List ℕ → Reading → Type 0
FactorReads room text r = (t : Product) (rest : List ℕ) → StartsWith room text t rest → ReadFirst t r

-- a word with the power that was found, if one was
abbrev pub raised_by : Option Exponent → Option (List ℕ) → Option (List ℕ)
raised_by None w = w
raised_by (Some e) w = raise_of e.minus e.number w

-- a word with the power at a place of a text
pub record PowerReads (text : List ℕ) (at : ℕ) (w : Option (List ℕ)) (r : Reading) : Type 0 where
  pub used : r.used ≡ at + exponent_size (exponent_of (drop at text))
  pub word : r.word ≡ raised_by (exponent_of (drop at text)) w
