-- Independence (Nielsen, section 2), of all the words of a system, blank ones too. Along a list of moves a relation of the words after the
-- moves goes back to one of the words before them, and the other way round, and a product that cancels over the slots to one that cancels:
-- so moves keep independence. A blank slot is itself a relation.
use Prim.Native.Nat.{ℕ, ◌<◌}
use mathlib.Core.Path.{◌≡◌, refl, sym, ap, ◌∙◌}
use mathlib.Core.Logic.{◌↔◌}
use mathlib.Core.Bool.{Bool, true, false}
use mathlib.Core.List.{List, [], ◌∷◌, cons≢nil}
use native.Mathlib.Omega.{arith}
use native.Mathlib.Decide.{dec_lt}
use lib.ListN.{length, get_or-eq_default}
use Rattle.words.specs.Alphabet.{Alphabet}
use Rattle.words.specs.Words.{freely_reduce, Irreducible, inverse}
use Rattle.words.proofs.Alphabet.{AlphabetLaws}
use Rattle.words.proofs.Inverse.{inverse_singleton}
use Rattle.systems.specs.Products.{factors, word, value, spelled, Independent, FreelyReduced}
use Rattle.systems.specs.declared.Factor.{Factor}
use Rattle.systems.specs.Moves.{formed, moved_word, made, made_all}
use Rattle.systems.specs.declared.Form.{Form}
use Rattle.systems.specs.declared.Move.{Move}
use Rattle.systems.specs.declared.Form.TheVariants.{After, Before, InverseAfter, InverseBefore}
use Rattle.systems.specs.Rank.{none_blank}
use Rattle.systems.proofs.Factors.{factor_laws}
use Rattle.systems.proofs.ProductLaws.{Named, named-append, named-inverse, named-freely_reduce, named-over, over-named, multiplied_trivial}
use Rattle.systems.proofs.Undoing.{AllApart, back, set_holds, made_all-length, undone_all-made, undone_all_back}
use Rattle.systems.proofs.Equivalence.{slot_letter, slot_letters, slot_letters_length, slot_letters_word, before, after, multiplied-before, multiplied-after}
use Rattle.systems.proofs.Rank.{slots-none_blank}

-- a slot's letter, or nothing
slot_letters_hold : (Q : List Factor → Type 0) (n k : ℕ) → (k < n → Q (slot_letter k)) → Q [] → Q (word factors (slot_letters n) k)
slot_letters_hold Q n k h e = elim (dec_lt k n) [
  | yes q ↦ rw (slot_letters_word n k q) (h q)
  | no q ↦ rw (get_or-eq_default (slot_letters n) [] {n = k} (omega (arith, slot_letters_length n))) e
]

module _ (P : ℕ → Type 0) where
  named-formed : (form : Form) (p q : List Factor) → Named P p → Named P q → Named P (formed factors form p q)
  named-formed Before p q h k = named-append P p q h k
  named-formed InverseBefore p q h k = named-append P (inverse factors p) q (named-inverse P p h) k
  named-formed After p q h k = named-append P q p k h
  named-formed InverseAfter p q h k = named-append P q (inverse factors p) k (named-inverse P p h)

  -- the products in the slots name only slots of which P holds
  abbrev SlotsNamed : List (List Factor) → Type 0
  SlotsNamed E = (k : ℕ) → Named P (word factors E k)

  slots_named_made_all : (E : List (List Factor)) (ms : List Move) → SlotsNamed E → SlotsNamed (made_all factors E ms)
  slots_named_made_all E [] h = h
  slots_named_made_all E (m ∷ ms) h =
      let wi : List Factor = word factors E m.other in
      let wk : List Factor = word factors E m.changed in
      slots_named_made_all (made factors E m) ms
      (set_holds (λ k p. Named P p) E m.changed (moved_word factors E m) [] h
      (named-freely_reduce P (formed factors m.form wi wk) (named-formed m.form wi wk (h m.other) (h m.changed))))

  named-spelled : (E : List (List Factor)) (p : List Factor) → SlotsNamed E → Named P (spelled factors E p)
  named-spelled E [] h = tt
  named-spelled E (f ∷ p) h = named-append P (value factors E f) (spelled factors E p) (go f.inverted) (named-spelled E p h)
    where
      go : (b : Bool) → Named P (value factors E (record { slot = f.slot; inverted = b }))
      go true = named-inverse P (word factors E f.slot) (h f.slot)
      go false = h f.slot

module _ (n : ℕ) (ms : List Move) where
  -- the product before the moves names only slots that there are
  pub named-before : (p : List Factor) → Named (λ k. k < n) (before n ms p)
  named-before p = named-spelled (λ k. k < n) (made_all factors (slot_letters n) ms) p
      (slots_named_made_all (λ k. k < n) (slot_letters n) ms (λ k. slot_letters_hold (Named (λ j. j < n)) n k (λ h. (h, tt)) tt))

  slot_letters_value : (f : Factor) → f.slot < n → value factors (slot_letters n) f ≡ f ∷ []
  slot_letters_value f h = go f.inverted
    where
      go : (b : Bool) → value factors (slot_letters n) (record { slot = f.slot; inverted = b }) ≡ record { slot = f.slot; inverted = b } ∷ []
      go true = rw (slot_letters_word n f.slot h) (inverse_singleton factors factor_laws _)
      go false = slot_letters_word n f.slot h

  slot_letters_spelled : (p : List Factor) → Named (λ k. k < n) p → spelled factors (slot_letters n) p ≡ p
  slot_letters_spelled [] h = refl
  slot_letters_spelled (f ∷ p) h = rw (slot_letters_value f h.0, slot_letters_spelled p h.1)

  slot_letters_freely_reduced : FreelyReduced factors (slot_letters n)
  slot_letters_freely_reduced k = slot_letters_hold (Irreducible factors) n k (λ h. tt) tt

  -- over the slots there are, a product changed to one after the moves and back is the same but for what cancels
  pub before-after : (p : List Factor) → AllApart ms → Named (λ k. k < n) p → freely_reduce factors (before n ms (after n ms p)) ≡ freely_reduce factors p
  before-after p a h = rw (slot_letters_length n, slot_letters_spelled p h)
      at (sym (multiplied-after factors factor_laws (slot_letters n) ms p slot_letters_freely_reduced a))

  -- and so is one changed to one before the moves and back
  pub after-before : (p : List Factor) → AllApart ms → Named (λ k. k < n) p → freely_reduce factors (after n ms (before n ms p)) ≡ freely_reduce factors p
  after-before p a h =
      let E : List (List Factor) = made_all factors (slot_letters n) (back ms) in
      let e : made_all factors E ms ≡ slot_letters n =
      ap (λ (F : List (List Factor)). made_all factors F ms) (sym (undone_all_back factors (slot_letters n) ms))
      ∙ undone_all-made factors factor_laws (slot_letters n) ms slot_letters_freely_reduced a in
      rw (made_all-length factors (slot_letters n) (back ms) ∙ slot_letters_length n, e, slot_letters_spelled p h)
      at (sym (multiplied-before factors factor_laws E ms p))

  -- a product that cancels over the slots becomes one that cancels
  pub before_trivial : (p : List Factor) → freely_reduce factors p ≡ [] → freely_reduce factors (before n ms p) ≡ []
  before_trivial p e = multiplied_trivial factors factor_laws (made_all factors (slot_letters n) ms) p e

module _ {A : Type 0} (G : Alphabet A) (L : AlphabetLaws G) (S : List (List A)) where
  -- a blank slot is a relation: its letter comes to the empty word and does not cancel
  pub independent-none_blank : Independent G S → none_blank S ≡ true
  independent-none_blank independent = slots-none_blank G S (λ k h e. cons≢nil (independent (slot_letter k) (h, tt) (rw e)))

  module _ (ms : List Move) (freely : FreelyReduced G S) (apart : AllApart ms) where
    same-slots : length (made_all G S ms) ≡ length S
    same-slots = made_all-length G S ms

    independent-after : Independent G S → Independent G (made_all G S ms)
    independent-after independent p over e =
        let q : List Factor = before (length S) ms p in
        let trivial : freely_reduce factors q ≡ [] =
        independent q (named-over G L S q (named-before (length S) ms p)) (sym (multiplied-before G L S ms p) ∙ e) in
        sym (after-before (length S) ms p apart (rw same-slots at (over-named G L (made_all G S ms) p over)))
        ∙ before_trivial (length S) (back ms) q trivial

    independent-before : Independent G (made_all G S ms) → Independent G S
    independent-before independent p over e =
        let q : List Factor = after (length S) ms p in
        let named : Named (λ k. k < length (made_all G S ms)) q = rw same-slots (named-before (length S) (back ms) p) in
        let trivial : freely_reduce factors q ≡ [] =
        independent q (named-over G L (made_all G S ms) q named) (sym (multiplied-after G L S ms p freely apart) ∙ e) in
        sym (before-after (length S) ms p apart (over-named G L S p over)) ∙ before_trivial (length S) ms q trivial

    -- Nielsen's lemma before theorem 2, along a list of moves: where the words before the moves are independent, so are those after
    -- them, and the other way round
    pub independent-moves : Independent G S ↔ Independent G (made_all G S ms)
    independent-moves = (independent-after, independent-before)
