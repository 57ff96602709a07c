-- The function that folds: it finds a fold where one is left, and ends where none is.
use Prim.Native.Nat.{ℕ, zero, suc, ◌<◌}
use mathlib.Core.Bool.{Bool, true, false, cond}
use mathlib.Core.List.{List, [], ◌∷◌, map}
use mathlib.Core.Logic.{inl, inr}
use mathlib.Core.Path.{◌≡◌, refl, sym, ap, ◌∙◌}
use native.Mathlib.Omega.{arith}
use lib.Dec.{eqb}
use borrow.Author.Tests.{eqb-false, eqb-true}
use Rattle.std.specs.Prelude.{Contains, None, Option, Some}
use Rattle.std.proofs.lemmas.Option.{none-some, same_Some}
use Rattle.words.specs.Alphabet.{Alphabet}
use Rattle.words.proofs.Alphabet.{AlphabetLaws}
use Rattle.words.proofs.Contained.{contains-cons_cases, contains-nil, contains_head, contains_tail}
use Rattle.graphs.specs.Folding.{first_fold, folded_graph, folded_within, leads, total}
use Rattle.graphs.specs.Graphs.{Fold, FoldedGraph, Folds, NoneLeft, edge, joined, more, moved_edge, none as no_fold, loops_of, steps}
use Rattle.graphs.specs.declared.Edge.{Edge}
use Rattle.graphs.proofs.Folds.{fold_falls}
use Rattle.graphs.proofs.Walks.{leads_none, leads_sound}

-- two points made one
abbrev after : ℕ × ℕ → List Edge → List Edge
after c t = map (moved_edge (joined c.0 c.1)) t

module _ (G : Alphabet ℕ) (L : AlphabetLaws G) (t : List Edge) where
  abbrev Within : List Edge → Type 0
  Within s = (e : Edge) → Contains s e → Contains (steps G t) e

  within_tail : (e : Edge) (s : List Edge) → Within (e ∷ s) → Within s
  within_tail e s h y k = h y (contains_tail e s y k)

  fold_none : (s : List Edge) → Within s → first_fold G t s ≡ None → (e : Edge) → Contains s e → leads G t e.from e.letter ≡ Some e.to
  unfolding first_fold
  fold_none [] h n e k = absurd (contains-nil e k)
  fold_none (y ∷ s) h n e k = go (leads G t y.from y.letter) refl n (fold_none s (within_tail y s h))
    where
      found : (q : ℕ) → leads G t y.from y.letter ≡ Some q → (b : Bool) → eqb q y.to ≡ b → cond b (first_fold G t s) (Some (q, y.to)) ≡ None
          → (first_fold G t s ≡ None → (e : Edge) → Contains s e → leads G t e.from e.letter ≡ Some e.to) → leads G t e.from e.letter ≡ Some e.to
      found q a true b n ih = elim (contains-cons_cases y s e k) [
        | inl i ↦ rw (i) (a ∙ ap (λ (z : ℕ). Some z) (eqb-true q y.to b))
        | inr i ↦ ih n e i
      ]
      found q a false b n ih = absurd (none-some (q, y.to) (sym n))

      go : (o : Option ℕ) → leads G t y.from y.letter ≡ o
          → (elim o as (λ z. Option (ℕ × ℕ)) [ None ↦ first_fold G t s | Some q ↦ cond (eqb q y.to) (first_fold G t s) (Some (q, y.to)) ]) ≡ None
          → (first_fold G t s ≡ None → (e : Edge) → Contains s e → leads G t e.from e.letter ≡ Some e.to) → leads G t e.from e.letter ≡ Some e.to
      go None a n ih = absurd (leads_none G L t y.from y.letter y.to a (h y (contains_head y s)))
      go (Some q) a n ih = found q a (eqb q y.to) refl n ih

  fold_found : (s : List Edge) → Within s → (c : ℕ × ℕ) → first_fold G t s ≡ Some c → Fold G t (after c t)
  unfolding first_fold
  fold_found [] h c n = absurd (none-some c n)
  fold_found (y ∷ s) h c n = go (leads G t y.from y.letter) refl n (fold_found s (within_tail y s h) c)
    where
      found : (q : ℕ) → leads G t y.from y.letter ≡ Some q → (b : Bool) → eqb q y.to ≡ b → cond b (first_fold G t s) (Some (q, y.to)) ≡ Some c
          → (first_fold G t s ≡ Some c → Fold G t (after c t)) → Fold G t (after c t)
      found q a true b n ih = ih n
      found q a false b n ih =
          rw (← same_Some (q, y.to) c n)
          (record {
            point = y.from;
            letter = y.letter;
            one = q;
            other = y.to;
            two_points = eqb-false q y.to b;
            to_one = leads_sound G L t y.from y.letter q a;
            to_other = h y (contains_head y s);
            folded_together = refl;
          })

      go : (o : Option ℕ) → leads G t y.from y.letter ≡ o
          → (elim o as (λ z. Option (ℕ × ℕ)) [ None ↦ first_fold G t s | Some q ↦ cond (eqb q y.to) (first_fold G t s) (Some (q, y.to)) ]) ≡ Some c
          → (first_fold G t s ≡ Some c → Fold G t (after c t)) → Fold G t (after c t)
      go None a n ih = ih n
      go (Some q) a n ih = found q a (eqb q y.to) refl n ih

module _ (G : Alphabet ℕ) (L : AlphabetLaws G) where
  fold_none_left : (t : List Edge) → first_fold G t (steps G t) ≡ None → NoneLeft G t
  fold_none_left t n p x q r s k =
      let there = fold_none G L t (steps G t) (λ e h. h) n in
      same_Some q r (sym (there (edge p x q) s) ∙ there (edge p x r) k)

  folded_within_is : (n : ℕ) (t : List Edge) → total t < n → Folds G t (folded_within G n t) × NoneLeft G (folded_within G n t)
  unfolding folded_within
  folded_within_is zero t h = absurd (omega arith)
  folded_within_is (suc n) t h = go (first_fold G t (steps G t)) refl (folded_within_is n)
    where
      go : (o : Option (ℕ × ℕ)) → first_fold G t (steps G t) ≡ o
          → ((s : List Edge) → total s < n → Folds G s (folded_within G n s) × NoneLeft G (folded_within G n s))
          → Folds G t (elim o as (λ z. List Edge) [ None ↦ t | Some c ↦ folded_within G n (after c t) ])
          × NoneLeft G (elim o as (λ z. List Edge) [ None ↦ t | Some c ↦ folded_within G n (after c t) ])
      go None e ih = (no_fold refl, fold_none_left t e)
      go (Some c) e ih =
          let f = fold_found G L t (steps G t) (λ e h. h) c e in
          let r = ih (after c t) (omega (arith, fold_falls G L f)) in
          (more f r.0, r.1)

  -- the function gives a folded graph
  pub folded_graph_is : (S : List (List ℕ)) → FoldedGraph G S (folded_graph G S)
  folded_graph_is S =
      let r = folded_within_is (suc (total (loops_of G S))) (loops_of G S) (omega arith) in
      record { folds = r.0; none_left = r.1 }
