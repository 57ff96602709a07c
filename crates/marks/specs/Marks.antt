-- Which pairs of slots need not be tried again. No call's contract speaks of these.
use Rattle.std.specs.Prelude.{◌-◌, ◌<◌, ◌≤◌, ◌≡◌, ◌⊎◌, ℕ, Bool, false, true, List, [], None, get_or, length}
use Rattle.std.specs.declared.ops.Range.{Range}
use Rattle.words.specs.Alphabet.{bytes}
use Rattle.systems.specs.Products.{FreelyReduced}
use Rattle.systems.specs.Rules.{try_other}
use Rattle.slots.specs.Systems.{AllShort}

-- the mark of slot k with slot i in a table, a row for each slot
abbrev pub mark_of : List (List Bool) → ℕ → ℕ → Bool
mark_of marks k i = get_or (get_or marks k []) i false

-- where a pair is marked, slot i shortens slot k by no form
abbrev pub Marked : List (List ℕ) → List (List Bool) → Type 0
Marked S marks = (k i : ℕ) → k < length S → i < length S → mark_of marks k i ≡ true → try_other bytes S k i ≡ None

-- a table after all pairs with slot c, either way round, were set to a mark: the others stay
abbrev pub PairsSet : ℕ → Bool → List (List Bool) → List (List Bool) → Type 0
PairsSet c mark marks marks' =
    (k i : ℕ) → k < 16 → i < 16
    → (((k ≡ c) ⊎ (i ≡ c)) × (mark_of marks' k i ≡ mark)) ⊎ ((k ≡ c → ⊥) × (i ≡ c → ⊥) × (mark_of marks' k i ≡ mark_of marks k i))

-- after a move that changed slot c, no slot before c is shortened by one other than c
abbrev pub Settled : List (List ℕ) → ℕ → Type 0
Settled S c = (k i : ℕ) → k < c → i < length S → (i ≡ c → ⊥) → try_other bytes S k i ≡ None

-- a slot outside a range shortens slot k by no form
abbrev pub Outside : List (List ℕ) → ℕ → Range ℕ → Type 0
Outside S k range = (i : ℕ) → i < length S → (range.start ≤ i → i < range.end → ⊥) → try_other bytes S k i ≡ None

-- the words as a search has them, and what it knows of their pairs
pub record Ready (S : List (List ℕ)) (marks : List (List Bool)) (last : ℕ) : Type 0 where
  pub few : length S ≤ 16
  pub short : AllShort S
  pub freely : FreelyReduced bytes S
  pub marked : Marked S marks
  pub last_within : last ≤ length S - 1
  pub settled : Settled S last
