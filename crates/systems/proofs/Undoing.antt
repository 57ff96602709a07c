-- Moves made and taken back. A move keeps the number of slots and leaves freely reduced words. Where the words are freely reduced and a
-- move names two different slots, undoing the move gives the system back, and so does making it again.
use Prim.Native.Nat.{ℕ, zero, suc, ◌≤◌, ◌<◌}
use mathlib.Core.Path.{◌≡◌, refl, sym, ap, ◌∙◌}
use mathlib.Core.List.{List, [], ◌∷◌, ◌++◌}
use native.Mathlib.Omega.{arith}
use native.Mathlib.Decide.{dec_lt, ℕ_discrete}
use lib.ListN.{length, take, drop, get_or, set, take-append-drop, length-set}
use lib.Seq.{get_or-set_same, get_or-set_other, set_out, set-set, set-get_or}
use Rattle.words.specs.Alphabet.{Alphabet}
use Rattle.words.specs.Words.{freely_reduce, Irreducible}
use Rattle.words.proofs.Alphabet.{AlphabetLaws}
use Rattle.words.proofs.FreeReduction.{freely_reduce_irreducible, freely_reduce-same}
use Rattle.words.proofs.Inverse.{freely_reduce-undo_left, freely_reduce_redo_left, freely_reduce-undo_right, freely_reduce_redo_right}
use Rattle.systems.specs.Products.{word, FreelyReduced}
use Rattle.systems.specs.Moves.{undoing, formed, moved_word, made, undone, made_all, undone_all, undo}
use Rattle.systems.specs.declared.Form.{Form}
use Rattle.systems.specs.declared.Move.{Move}
use Rattle.systems.specs.declared.Form.TheVariants.{After, Before, InverseAfter, InverseBefore}

-- "with two different slots"
abbrev pub Apart : Move → Type 0
Apart m = m.changed ≡ m.other → ⊥

abbrev pub AllApart : List Move → Type 0
AllApart [] = Unit
AllApart (m ∷ ms) = Apart m × AllApart ms

abbrev pub back : List Move → List Move
back [] = []
back (m ∷ ms) = back ms ++ (undo m ∷ [])

apart_drop : (i : ℕ) (ms : List Move) → AllApart ms → AllApart (drop i ms)
apart_drop zero ms a = a
apart_drop (suc i) [] a = a
apart_drop (suc i) (m ∷ ms) a = apart_drop i ms a.1

undoing_twice : (form : Form) → undoing (undoing form) ≡ form
undoing_twice Before = refl
undoing_twice InverseBefore = refl
undoing_twice After = refl
undoing_twice InverseAfter = refl

-- what holds of each item of a list, and of the new one, holds of each after the change
pub set_holds : {B : Type 0} (P : ℕ → B → Type 0) (l : List B) (i : ℕ) (b d : B) → ((k : ℕ) → P k (get_or l k d)) → P i b
    → (k : ℕ) → P k (get_or (set l i b) k d)
set_holds P l i b d h p k = elim (dec_lt i (length l)) [
  | no n ↦ rw (set_out l i b (omega arith)) (h k)
  | yes q ↦ elim (ℕ_discrete k i) [
    | yes e ↦ rw (e, get_or-set_same l i b d q) p
    | no n ↦ rw (get_or-set_other l i k b d n) (h k)
  ]
]

module _ {A : Type 0} (G : Alphabet A) where
  pub made-length : (S : List (List A)) (m : Move) → length (made G S m) ≡ length S
  made-length S m = length-set S m.changed (moved_word G S m)

  pub made-changed : (S : List (List A)) (m : Move) → m.changed < length S → word G (made G S m) m.changed ≡ moved_word G S m
  made-changed S m h = get_or-set_same S m.changed (moved_word G S m) [] h

  pub made_others : (S : List (List A)) (m : Move) (k : ℕ) → (k ≡ m.changed → ⊥) → word G (made G S m) k ≡ word G S k
  made_others S m k n = get_or-set_other S m.changed k (moved_word G S m) [] n

  -- a move without its slot does nothing
  pub made_outside : (S : List (List A)) (m : Move) → length S ≤ m.changed → made G S m ≡ S
  made_outside S m h = set_out S m.changed (moved_word G S m) h

  pub made_all-length : (S : List (List A)) (ms : List Move) → length (made_all G S ms) ≡ length S
  made_all-length S [] = refl
  made_all-length S (m ∷ ms) = made_all-length (made G S m) ms ∙ made-length S m

  pub made_all-append : (S : List (List A)) (ms ns : List Move) → made_all G S (ms ++ ns) ≡ made_all G (made_all G S ms) ns
  made_all-append S [] ns = refl
  made_all-append S (m ∷ ms) ns = made_all-append (made G S m) ms ns

  pub made_all-snoc : (S : List (List A)) (ms : List Move) (m : Move) → made_all G S (ms ++ (m ∷ [])) ≡ made G (made_all G S ms) m
  made_all-snoc S ms m = made_all-append S ms (m ∷ [])

  -- to undo a list of moves is to make the list that takes it back
  pub undone_all_back : (S : List (List A)) (ms : List Move) → undone_all G S ms ≡ made_all G S (back ms)
  undone_all_back S [] = refl
  undone_all_back S (m ∷ ms) = rw (made_all-snoc S (back ms) (undo m), undone_all_back S ms)

  pub undone_all-length : (S : List (List A)) (ms : List Move) → length (undone_all G S ms) ≡ length S
  undone_all-length S ms = rw (undone_all_back S ms) (made_all-length S (back ms))

module _ {A : Type 0} (G : Alphabet A) (L : AlphabetLaws G) where
  -- "The words are freely reduced first, and so is each result"
  pub made-freely_reduced : (S : List (List A)) (m : Move) → FreelyReduced G S → FreelyReduced G (made G S m)
  made-freely_reduced S m h = set_holds (λ k w. Irreducible G w) S m.changed (moved_word G S m) [] h
      (freely_reduce_irreducible G L (formed G m.form (word G S m.other) (word G S m.changed)))

  pub made_all-freely_reduced : (S : List (List A)) (ms : List Move) → FreelyReduced G S → FreelyReduced G (made_all G S ms)
  made_all-freely_reduced S [] h = h
  made_all-freely_reduced S (m ∷ ms) h = made_all-freely_reduced (made G S m) ms (made-freely_reduced S m h)

  pub undone_all-freely_reduced : (S : List (List A)) (ms : List Move) → FreelyReduced G S → FreelyReduced G (undone_all G S ms)
  undone_all-freely_reduced S ms h = rw (undone_all_back G S ms) (made_all-freely_reduced S (back ms) h)

  -- one word: the undoing form takes the factor away again
  formed-undone : (form : Form) (wi wk : List A) → freely_reduce G (formed G (undoing form) wi (freely_reduce G (formed G form wi wk))) ≡ freely_reduce G wk
  formed-undone Before wi wk = freely_reduce-undo_left G L wi wk
  formed-undone InverseBefore wi wk = freely_reduce_redo_left G L wi wk
  formed-undone After wi wk = freely_reduce-undo_right G L wk wi
  formed-undone InverseAfter wi wk = freely_reduce_redo_right G L wk wi

  -- a move made and undone gives the system back
  pub made-undone : (S : List (List A)) (m : Move) → FreelyReduced G S → Apart m → undone G (made G S m) m ≡ S
  made-undone S m h a = elim (dec_lt m.changed (length S)) [
    | no n ↦ rw (made_outside G S m (omega arith)) (made_outside G S (undo m) (omega arith))
    | yes q ↦ rw (
      set-set,
      made-changed G S m q,
      made_others G S m m.other (λ e. a (sym e)),
      formed-undone,
      freely_reduce-same G L (word G S m.changed) (h m.changed),
    )
        (set-get_or S m.changed [])
  ]

  -- and so does a move undone and made
  pub undone-made : (S : List (List A)) (m : Move) → FreelyReduced G S → Apart m → made G (undone G S m) m ≡ S
  undone-made S m h a = rw (undoing_twice m.form) at (made-undone S (undo m) h a)

  -- a list of moves made, then undone from the last to the first
  pub made_all-undone : (S : List (List A)) (ms : List Move) → FreelyReduced G S → AllApart ms → undone_all G (made_all G S ms) ms ≡ S
  made_all-undone S [] h a = refl
  made_all-undone S (m ∷ ms) h a = rw (made_all-undone (made G S m) ms (made-freely_reduced S m h) a.1) (made-undone S m h a.0)

  -- undone only back to move i, the list leaves what its first i moves had made
  pub made_all-undone_to : (S : List (List A)) (ms : List Move) (i : ℕ) → FreelyReduced G S → AllApart ms
      → undone_all G (made_all G S ms) (drop i ms) ≡ made_all G S (take i ms)
  made_all-undone_to S ms i h a =
      let halfway : List (List A) = made_all G S (take i ms) in
      let e : made_all G S ms ≡ made_all G halfway (drop i ms) =
      ap (made_all G S) (sym (take-append-drop i ms)) ∙ made_all-append G S (take i ms) (drop i ms) in
      rw e (made_all-undone halfway (drop i ms) (made_all-freely_reduced S (take i ms) h) (apart_drop i ms a))

  -- a list of moves undone, then made again
  pub undone_all-made : (S : List (List A)) (ms : List Move) → FreelyReduced G S → AllApart ms → made_all G (undone_all G S ms) ms ≡ S
  undone_all-made S [] h a = refl
  undone_all-made S (m ∷ ms) h a = rw (undone-made (undone_all G S ms) m (undone_all-freely_reduced S ms h) a.0) (undone_all-made S ms h a.1)
