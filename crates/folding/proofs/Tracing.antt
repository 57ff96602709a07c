-- Where every step is filed, a word is traced as the folded graph says.
use Prim.Native.Nat.{ℕ, zero, suc, ◌≤◌, ◌<◌}
use mathlib.Core.Bool.{Bool, true}
use mathlib.Core.List.{List, [], ◌∷◌}
use mathlib.Core.Path.{◌≡◌, refl, sym, ap, ◌∙◌, subst}
use native.Mathlib.Omega.{arith}
use lib.ListN.{get_or, length}
use Rattle.std.specs.Prelude.{None, Option, Some}
use Rattle.std.proofs.lemmas.Option.{none-some, same_Some}
use Rattle.words.specs.Alphabet.{bytes}
use Rattle.words.specs.Words.{freely_reduce}
use Rattle.words.proofs.Alphabet.{byte_laws}
use Rattle.graphs.specs.Folding.{is_base, leads, traces_back, walk}
use Rattle.graphs.specs.Graphs.{NoneLeft, Step, edge}
use Rattle.graphs.specs.declared.Edge.{Edge}
use Rattle.graphs.proofs.Steps.{step_of_moved}
use Rattle.graphs.proofs.Walks.{leads_sound, leads_step, walk-cons, walk-nil, walk-stops}
use Rattle.records.specs.Records.{AllLetters, is_letter}
use Rattle.records.proofs.RoundTrip.{letter_high, letter_low}
use Rattle.folding.specs.Filing.{Fits, entry_point, lead, leads_back, place, point}
use Rattle.folding.specs.Sweeps.{Folded, TracedIn, folded_edges}
use Rattle.folding.proofs.Keeping.{lead_settled}

-- a letter of a word of letters
letter_of : (w : List ℕ) → AllLetters w → (i : ℕ) → i < length w → is_letter (get_or w i 0) ≡ true
letter_of [] l i h = absurd (omega arith)
letter_of (x ∷ w) l zero h = l.0
letter_of (x ∷ w) l (suc i) h = letter_of w l.1 i (omega arith)

module _ (w : List ℕ) (i : ℕ) {x : ℕ} (l : AllLetters w) (inside : i < length w) (is : x ≡ get_or w i 0) where
  pub letter_from : 65 ≤ x
  letter_from = rw (is) (letter_low (get_or w i 0) (letter_of w l i inside))

  pub letter_to : x < 123
  letter_to = rw (is) (let h = letter_high (get_or w i 0) (letter_of w l i inside) in omega arith)

-- where a point leads is one of the points
pub lead_inside : (points index : List ℕ) → Fits points index → (p x : ℕ) {q : ℕ} → Some q ≡ lead points index p x → q < length points
unfolding lead
lead_inside points index f p x {q = q} h = go (get_or index (place p x) 0) (f.filed_low (place p x)) (sym h)
  where
    go : (k : ℕ) → k ≤ length points → entry_point points k ≡ Some q → q < length points
    go zero l e = absurd (none-some q e)
    go (suc k) l e = subst (λ (z : ℕ). z < length points) (same_Some (point points k) q e) (f.low k (omega arith))

-- where every step is filed, the points lead as in the folded graph, and none are left to fold
module _ (edges : List Edge) (points index : List ℕ) (f : Folded edges points index) where
  abbrev graph : List Edge
  graph = folded_edges edges points

  filed_step : (p x q : ℕ) → Step bytes graph p x q → lead points index p x ≡ Some q
  filed_step p x q h =
      let (a, b, s, e, d) = step_of_moved bytes byte_laws (point points) edges p x q h in
      rw (e, d) at (f.filed (edge a x b) s)

  filed_none_left : NoneLeft bytes graph
  filed_none_left p x q r h k = same_Some q r (sym (filed_step p x q h) ∙ filed_step p x r k)

  lead-graph : (p x : ℕ) → is_letter x ≡ true → point points p ≡ p → lead points index p x ≡ leads bytes graph p x
  lead-graph p x l o = go (lead points index p x) (leads bytes graph p x) refl refl
    where
      go : (a b : Option ℕ) → lead points index p x ≡ a → leads bytes graph p x ≡ b → a ≡ b
      go (Some q) b h k = sym (leads_step bytes byte_laws graph filed_none_left p x q (f.folding.sound p x q l o h)) ∙ k
      go None (Some q) h k = absurd (none-some q (sym h ∙ filed_step p x q (leads_sound bytes byte_laws graph p x q k)))
      go None None h k = refl

  same_walk : (w : List ℕ) → AllLetters w → (p : ℕ) → point points p ≡ p → walk (lead points index) p w ≡ walk (leads bytes graph) p w
  same_walk [] l p o = walk-nil (lead points index) p ∙ sym (walk-nil (leads bytes graph) p)
  same_walk (x ∷ w) l p o = go (lead points index p x) refl (same_walk w l.1)
    where
      same : lead points index p x ≡ leads bytes graph p x
      same = lead-graph p x l.0 o

      go : (a : Option ℕ) → lead points index p x ≡ a → ((q : ℕ) → point points q ≡ q → walk (lead points index) q w ≡ walk (leads bytes graph) q w)
          → walk (lead points index) p (x ∷ w) ≡ walk (leads bytes graph) p (x ∷ w)
      go None e ih = walk-stops (lead points index) p x w e ∙ sym (walk-stops (leads bytes graph) p x w (sym same ∙ e))
      go (Some q) e ih = walk-cons (lead points index) p x w e ∙ ih q (lead_settled edges points index f.folding p x q e).0
          ∙ sym (walk-cons (leads bytes graph) p x w (sym same ∙ e))

  same_answer : (w : List ℕ) → freely_reduce bytes w ≡ w → is_base (walk (leads bytes graph) 0 w) ≡ traces_back bytes graph w
  unfolding traces_back
  same_answer w e = ap (λ (v : List ℕ). is_base (walk (leads bytes graph) 0 v)) (sym e)

  -- so the answer is told by the folded graph
  pub traced_in : (w : List ℕ) → AllLetters w → freely_reduce bytes w ≡ w → {b : Bool} → b ≡ leads_back points index w → TracedIn edges w b
  traced_in w l r e =
      record {
        graph = graph;
        folded = record { folds = f.folding.folds; none_left = filed_none_left };
        told = e ∙ ap is_base (same_walk w l 0 f.folding.base) ∙ same_answer w r;
      }
