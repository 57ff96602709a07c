-- Moves on systems of words, made and undone. A move is an elementary Nielsen transformation.
use Rattle.std.specs.Prelude.{ℕ, List, [], ◌∷◌, ◌++◌, set}
use Rattle.words.specs.Alphabet.{Alphabet}
use Rattle.words.specs.Words.{freely_reduce, inverse, cancellation}
use Rattle.systems.specs.Products.{word}
use Rattle.systems.specs.declared.Form.{Form}
use Rattle.systems.specs.declared.Form.TheVariants.{After, Before, InverseAfter, InverseBefore}
use Rattle.systems.specs.declared.Move.{Move}

-- the digit of a form, 1 to 4
abbrev pub form_digit : Form → ℕ
form_digit Before = 49
form_digit InverseBefore = 50
form_digit After = 51
form_digit InverseAfter = 52

-- the form that takes a move back
abbrev pub undoing : Form → Form
undoing Before = InverseBefore
undoing InverseBefore = Before
undoing After = InverseAfter
undoing InverseAfter = After

-- the move that takes a move back
abbrev pub undo : Move → Move
undo m = record { changed = m.changed; form = undoing m.form; other = m.other }

module _ {A : Type 0} (G : Alphabet A) where
  -- "1. w(i) w(k)  2. inverse of w(i), then w(k)  3. w(k) w(i)  4. w(k), then inverse of w(i)"
  abbrev pub formed : Form → List A → List A → List A
  formed Before wi wk = wi ++ wk
  formed InverseBefore wi wk = inverse G wi ++ wk
  formed After wi wk = wk ++ wi
  formed InverseAfter wi wk = wk ++ inverse G wi

  -- how many letters cancel in a form, between its two freely reduced words; the search counts it, and no rule speaks of it
  abbrev pub seam : Form → List A → List A → ℕ
  seam Before wi wk = cancellation G wi wk
  seam InverseBefore wi wk = cancellation G (inverse G wi) wk
  seam After wi wk = cancellation G wk wi
  seam InverseAfter wi wk = cancellation G wk (inverse G wi)

  -- the word that a move puts into its slot
  abbrev pub moved_word : List (List A) → Move → List A
  moved_word S m = freely_reduce G (formed m.form (word G S m.other) (word G S m.changed))

  -- the system after a move: "replace w(k)" by the freely reduced result
  abbrev pub made : List (List A) → Move → List (List A)
  made S m = set S m.changed (moved_word S m)

  -- the system before a move that gave S
  abbrev pub undone : List (List A) → Move → List (List A)
  undone S m = made S (undo m)

  -- the system after a list of moves, the first made first
  abbrev pub made_all : List (List A) → List Move → List (List A)
  made_all S [] = S
  made_all S (m ∷ ms) = made_all (made S m) ms

  -- the system before a list of moves: "Backward undoes the last move first."
  abbrev pub undone_all : List (List A) → List Move → List (List A)
  undone_all S [] = S
  undone_all S (m ∷ ms) = undone (undone_all S ms) m
