-- The words that moves leave are words of letters, as the given ones are.
use Prim.Native.Nat.{ℕ}
use mathlib.Core.List.{List, [], ◌∷◌}
use Rattle.words.specs.Alphabet.{bytes}
use Rattle.words.specs.Words.{inverse}
use Rattle.systems.specs.Moves.{formed, made, made_all, moved_word}
use Rattle.systems.specs.declared.Form.{Form}
use Rattle.systems.specs.declared.Move.{Move}
use Rattle.systems.specs.declared.Form.TheVariants.{After, Before, InverseAfter, InverseBefore}
use Rattle.systems.specs.Products.{word}
use Rattle.systems.proofs.Undoing.{set_holds}
use Rattle.records.proofs.RoundTrip.{letters_append, letters_inverse, letters_reduce}
use Rattle.records.specs.Records.{AllLetters}
use Rattle.slots.specs.Systems.{LetterWords}

-- moves of words of letters
letters_formed : (form : Form) (wi wk : List ℕ) → AllLetters wi → AllLetters wk → AllLetters (formed bytes form wi wk)
letters_formed Before wi wk a b = letters_append wi wk a b
letters_formed InverseBefore wi wk a b = letters_append (inverse bytes wi) wk (letters_inverse wi a) b
letters_formed After wi wk a b = letters_append wk wi b a
letters_formed InverseAfter wi wk a b = letters_append wk (inverse bytes wi) b (letters_inverse wi a)

pub letters_made : (S : List (List ℕ)) (m : Move) → LetterWords S → LetterWords (made bytes S m)
letters_made S m a = set_holds (λ k w. AllLetters w) S m.changed (moved_word bytes S m) [] a
    (letters_reduce (formed bytes m.form (word bytes S m.other) (word bytes S m.changed))
    (letters_formed m.form (word bytes S m.other) (word bytes S m.changed) (a m.other) (a m.changed)))

pub letters_made_all : (S : List (List ℕ)) (ms : List Move) → LetterWords S → LetterWords (made_all bytes S ms)
letters_made_all S [] a = a
letters_made_all S (m ∷ ms) a = letters_made_all (made bytes S m) ms (letters_made S m a)
