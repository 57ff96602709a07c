-- Refusal 16 as a scan from the left: what was read last (Mode), and which signs are open, say what may come next.
use Rattle.std.specs.Prelude.{◌+◌, ℕ, Bool, cond, false, true, List, [], ◌∷◌, None, Option, Some, eqb}
use Rattle.records.specs.Records.{is_letter}
use Rattle.records.specs.Refusals.{refusal}
use Rattle.syntax.specs.Trees.{is_digit}
use Rattle.syntax.specs.declared.Mode.{Mode}
use Rattle.syntax.specs.declared.Mode.TheVariants.{After, Caret, Minus, OneDigit, Ready}
use Rattle.syntax.specs.declared.Open.{Open}
use Rattle.syntax.specs.declared.Open.TheVariants.{First, Round, Second}
use Rattle.records.specs.declared.refusals.Reason.TheVariants.{TextMalformed}
use Rattle.std.specs.Prelude.{Ok}
use Rattle.records.specs.Refusals.{Checked}

pub record State : Type 0 where
  pub mode : Mode
  pub opens : List Open

abbrev pub state : Mode → List Open → State
state m s = record { mode = m; opens = s }

-- the byte that an open sign waits for: ) or , or ]
abbrev pub awaited : Open → ℕ
awaited Round = 41
awaited First = 44
awaited Second = 93

-- and what it leads to
abbrev pub closed : Open → List Open → State
closed Round s = state After s
closed First s = state Ready (Second ∷ s)
closed Second s = state After s

abbrev pub closing : ℕ → List Open → Option State
closing b [] = None
closing b (o ∷ s) = cond (eqb b (awaited o)) (Some (closed o s)) None

-- where a factor may start, or the last open sign be closed
abbrev pub step_product : ℕ → List Open → Option State
step_product b s =
    cond (is_letter b) (Some (state After s))
    (cond (eqb b 40) (Some (state Ready (Round ∷ s)))
    (cond (eqb b 91) (Some (state Ready (First ∷ s)))
    (closing b s)))

-- one byte more; none where no well-formed text can go on with it
abbrev pub step : Mode → List Open → ℕ → Option State
step Ready s b = step_product b s
step After s b = cond (eqb b 94) (Some (state Caret s)) (step_product b s)
step Caret s b = cond (eqb b 45) (Some (state Minus s)) (cond (is_digit b) (Some (state OneDigit s)) None)
step Minus s b = cond (is_digit b) (Some (state OneDigit s)) None
step OneDigit s b = cond (is_digit b) (Some (state Ready s)) (step_product b s)

-- whether a text may end here
abbrev pub complete : Mode → List Open → Bool
complete Ready [] = true
complete After [] = true
complete Caret [] = false
complete Minus [] = false
complete OneDigit [] = true
complete m (o ∷ s) = false

-- the state after a text, none where a byte of it is refused
abbrev pub state_after : State → List ℕ → Option State
state_after q [] = Some q
state_after q (b ∷ r) = elim (step q.mode q.opens b) [ None ↦ None | Some q' ↦ state_after q' r ]

-- 16 from a state on, the next byte at a place
abbrev pub scan : State → List ℕ → ℕ → Checked
scan q [] k = cond (complete q.mode q.opens) (Ok tt) (refusal TextMalformed k)
scan q (b ∷ r) k = elim (step q.mode q.opens b) [ None ↦ refusal TextMalformed k | Some q' ↦ scan q' r (k + 1) ]

abbrev pub start : State
start = state Ready []

-- 16 but for the length, at "the first byte with which no well-formed text .. can go on, or the text's length"
unfoldable pub shape_rule : List ℕ → Checked
shape_rule text = scan start text 0
