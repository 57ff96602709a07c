-- Texts: "letters, a power such as (ab)^-3, and [u,v]". A text is well formed where it is the spelling of a tree.
use Rattle.std.specs.Prelude.{◌<◌, ◌≤◌, suc, ℕ, ◌≡◌, Bool, ◌&&◌, false, true, List, [], ◌++◌, ◌∷◌, length, take, leb}
use Rattle.records.specs.Records.{is_letter}

abbrev pub is_digit : ℕ → Bool
is_digit b = leb 48 b && leb b 57

-- "with 1 or 2 digits", as bytes
pub data Digits : Type 0 where
  one : ℕ → Digits
  two : ℕ → ℕ → Digits

-- "at most one power after it": none, or an exponent as it is written, with a minus sign or without
pub data Power : Type 0 where
  plain : Power
  raised : Bool → Digits → Power

-- "A product is any number of factors, none included; a factor is a letter, a group or a bracket, with at most one power after it": no
-- factor, or a first factor and the product of those after it
pub data Product : Type 0 where
  nothing : Product
  letter : ℕ → Power → Product → Product
  group : Product → Power → Product → Product
  bracket : Product → Product → Power → Product → Product

abbrev pub spelled_digits : Digits → List ℕ
spelled_digits (one d) = d ∷ []
spelled_digits (two d e) = d ∷ e ∷ []

-- a minus sign (45) or none: "without a plus sign"
abbrev pub spelled_minus : Bool → List ℕ
spelled_minus true = 45 ∷ []
spelled_minus false = []

-- a caret (94), the sign and the digits
abbrev pub spelled_power : Power → List ℕ
spelled_power plain = []
spelled_power (raised minus d) = 94 ∷ (spelled_minus minus ++ spelled_digits d)

-- the bytes of a product: "there are no spaces"; a group stands in ( and ) (40, 41), a bracket in [ and ] (91, 93) with a comma (44)
abbrev pub spelled : Product → List ℕ
spelled nothing = []
spelled (letter x p t) = x ∷ (spelled_power p ++ spelled t)
spelled (group u p t) = 40 ∷ (spelled u ++ (41 ∷ (spelled_power p ++ spelled t)))
spelled (bracket u v p t) = 91 ∷ (spelled u ++ (44 ∷ (spelled v ++ (93 ∷ (spelled_power p ++ spelled t)))))

-- the digits of a tree are digits
abbrev pub ProperDigits : Digits → Type 0
ProperDigits (one d) = is_digit d ≡ true
ProperDigits (two d e) = (is_digit d ≡ true) × (is_digit e ≡ true)

abbrev pub ProperPower : Power → Type 0
ProperPower plain = Unit
ProperPower (raised minus d) = ProperDigits d

-- and its letters letters
abbrev pub Proper : Product → Type 0
Proper nothing = Unit
Proper (letter x p t) = (is_letter x ≡ true) × ProperPower p × Proper t
Proper (group u p t) = Proper u × ProperPower p × Proper t
Proper (bracket u v p t) = Proper u × Proper v × ProperPower p × Proper t

-- a text is the spelling of this tree
pub record Spells (text : List ℕ) (tree : Product) : Type 0 where
  pub proper : Proper tree
  pub spelling : spelled tree ≡ text

-- a well-formed text, "of any length, depth or exponent of 1 or 2 digits"
pub record WellFormed (text : List ℕ) : Type 0 where
  pub tree : Product
  pub spells : Spells text tree

-- a text with which a well-formed text can begin
pub record Begins (text : List ℕ) : Type 0 where
  pub rest : List ℕ
  pub whole : WellFormed (text ++ rest)

-- the place of 16: "the first byte with which no well-formed text .. can go on, or the text's length"
pub record MalformedAt (text : List ℕ) (k : ℕ) : Type 0 where
  pub within : k ≤ length text
  pub before : Begins (take k text)
  pub there : k < length text → Begins (take (suc k) text) → ⊥
  pub malformed : WellFormed text → ⊥
