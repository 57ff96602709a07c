-- The rules of docs/REQUIREMENTS.md, 'The moves': which move is made next, and the moves of a whole run. They are read on freely reduced words.
-- "Only slots that are not blank take part": a blank slot neither shortens a word nor is shortened, and a half has at least one letter.
use Rattle.std.specs.Prelude.{ℕ, zero, suc, ◌/◌, ◌%◌, Bool, false, cond, not, ◌&&◌, ◌||◌, List, [], ◌∷◌, length, take, drop, ltb, eqb}
use Rattle.std.specs.Prelude.{None, Option, Some}
use Rattle.std.specs.Option.{option_map}
use Rattle.words.specs.Alphabet.{Alphabet}
use Rattle.words.specs.Words.{freely_reduce, inverse, common_prefix}
use Rattle.systems.specs.Products.{word}
use Rattle.systems.specs.Moves.{formed, made, made_all}
use Rattle.systems.specs.declared.Form.{Form}
use Rattle.systems.specs.declared.Move.{Move}
use Rattle.systems.specs.declared.Found.{Found}
use Rattle.systems.specs.declared.Rule.{Rule}
use Rattle.systems.specs.declared.Rule.TheVariants.{HalfEnd, Shortening}
use Rattle.systems.specs.declared.Form.TheVariants.{After, Before, InverseAfter, InverseBefore}

-- the first found among f 0, f 1, .. below n
abbrev pub first : {B : Type 0} → (ℕ → Option B) → ℕ → Option B
first f zero = None
first f (suc n) = elim (first f n) [ None ↦ f n | Some b ↦ Some b ]

-- whether a test holds at some number below n
abbrev pub any_below : (ℕ → Bool) → ℕ → Bool
any_below f zero = false
any_below f (suc n) = any_below f n || f n

-- "forms 1 to 4", counted from 0
abbrev pub form_at : ℕ → Form
form_at zero = Before
form_at (suc zero) = InverseBefore
form_at (suc (suc zero)) = After
form_at (suc (suc (suc n))) = InverseAfter

-- "s for a shortening or h for a half-end move"
abbrev pub rule_letter : Rule → ℕ
rule_letter Shortening = 115
rule_letter HalfEnd = 104

-- a move that a rule makes, if there is one
abbrev pub with_rule : Rule → Option Move → Option Found
with_rule rule found = option_map (λ m. record { next = m; rule = rule }) found

module _ {A : Type 0} (G : Alphabet A) where
  -- "if the freely reduced result is strictly shorter than w(k)"
  abbrev pub try_form : List (List A) → ℕ → ℕ → Form → Option Move
  try_form S k i form =
      cond (ltb (length (freely_reduce G (formed G form (word G S i) (word G S k)))) (length (word G S k)))
      (Some (record { changed = k; form = form; other = i }))
      None

  -- "for i from the first slot up except k, for forms 1 to 4"
  abbrev pub try_other : List (List A) → ℕ → ℕ → Option Move
  try_other S k i = cond (eqb i k) None (first (λ j. try_form S k i (form_at j)) 4)

  abbrev pub try_changed : List (List A) → ℕ → Option Move
  try_changed S k = first (try_other S k) (length S)

  -- Shortening: "for k from the first slot up": "The first pair and form found in this order is the move made."
  unfoldable pub shortening : List (List A) → Option Move
  shortening S = first (try_changed S) (length S)

  -- "a word of even length is E1 E2, two halves"
  abbrev pub first_half : List A → List A
  first_half w = take (length w / 2) w

  abbrev pub second_half : List A → List A
  second_half w = drop (length w / 2) w

  -- w begins with u
  abbrev pub begins : List A → List A → Bool
  begins u w = eqb (common_prefix G u w) (length u)

  -- w ends with u
  abbrev pub ends : List A → List A → Bool
  ends u w = begins (inverse G u) (inverse G w)

  -- "another slot's word or its inverse begins with" u
  abbrev pub elsewhere : List (List A) → ℕ → List A → ℕ → Bool
  elsewhere S h u i = not (eqb i h) && (begins u (word G S i) || begins u (inverse G (word G S i)))

  abbrev pub begins_elsewhere : List (List A) → ℕ → List A → Bool
  begins_elsewhere S h u = any_below (elsewhere S h u) (length S)

  -- "It qualifies if another slot's word or its inverse begins with E1, and another slot's word or its inverse begins with the inverse
  -- of E2 (the two may be the same slot)."
  abbrev pub qualifies : List (List A) → ℕ → Bool
  qualifies S h =
      not (eqb (length (word G S h)) 0) && eqb (length (word G S h) % 2) 0 && begins_elsewhere S h (first_half (word G S h))
      && begins_elsewhere S h (inverse G (second_half (word G S h)))

  -- "Take the shortest qualifying word, lowest slot on a tie; call its slot h." The best so far, then slot k.
  abbrev pub or_shorter : List (List A) → Option ℕ → ℕ → Option ℕ
  or_shorter S None k = Some k
  or_shorter S (Some h) k = Some (cond (ltb (length (word G S k)) (length (word G S h))) k h)

  abbrev pub shortest_below : List (List A) → ℕ → Option ℕ
  shortest_below S zero = None
  shortest_below S (suc n) = let best = shortest_below S n in cond (qualifies S n) (or_shorter S best n) best

  -- "if w(k) ends with E2, make form 4 with i = h; otherwise, if w(k) begins with the inverse of E2, make form 1 with i = h"
  abbrev pub try_half : List (List A) → ℕ → ℕ → Option Move
  try_half S h k =
      cond (eqb k h) None
      (cond (ends (second_half (word G S h)) (word G S k)) (Some (record { changed = k; form = InverseAfter; other = h }))
      (cond (begins (inverse G (second_half (word G S h))) (word G S k)) (Some (record { changed = k; form = Before; other = h })) None))

  -- "For k from the first slot up except h"; "Make only the first such move"
  unfoldable pub half_end : List (List A) → Option Move
  half_end S = elim (shortest_below S (length S)) [ None ↦ None | Some h ↦ first (try_half S h) (length S) ]

  -- the next move: "Half-end move, only when nothing shortens"
  unfoldable pub next : List (List A) → Option Move
  next S = elim (shortening S) [ None ↦ half_end S | Some m ↦ Some m ]

  -- the rule that makes it, where there is one: half-end, "only when nothing shortens"
  unfoldable pub rule_of : List (List A) → Rule
  rule_of S = elim (shortening S) [ None ↦ HalfEnd | Some m ↦ Shortening ]

  -- the next move with its rule
  unfoldable pub found_next : List (List A) → Option Found
  found_next S = with_rule (rule_of S) (next S)

  -- the moves of a run, at most n of them: "repeat until neither rule applies"
  abbrev pub moves_within : ℕ → List (List A) → List Move
  moves_within zero S = []
  moves_within (suc n) S = elim (next S) [ None ↦ [] | Some m ↦ m ∷ moves_within n (made G S m) ]

  -- what those moves leave
  abbrev pub run_within : ℕ → List (List A) → List (List A)
  run_within n S = made_all G S (moves_within n S)
