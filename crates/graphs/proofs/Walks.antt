-- Where the walk along a graph ends, a path leads there; and where no fold is left, it ends wherever a path leads.
use Prim.Native.Nat.{ℕ, ◌+◌, ◌≤◌, ◌<◌}
use mathlib.Core.Bool.{Bool, true, false, cond, ◌&&◌, true≢false}
use mathlib.Core.List.{List, [], ◌∷◌}
use mathlib.Core.Logic.{◌↔◌, ◌⊎◌, inl, inr}
use mathlib.Core.Path.{◌≡◌, refl, sym, ap, ◌∙◌}
use native.Mathlib.Numerals.{add-one}
use lib.Dec.{eqb}
use lib.ListN.{drop, drop_of_length-le, get_or, length}
use lib.Seq.{drop-cons}
use borrow.Author.Tests.{eq-eqb, eqb-true}
use Rattle.std.specs.Prelude.{Contains, None, Option, Some}
use Rattle.std.proofs.lemmas.Option.{none-some, same_Some}
use Rattle.words.specs.Alphabet.{Alphabet}
use Rattle.words.specs.Words.{freely_reduce}
use Rattle.words.proofs.Alphabet.{AlphabetLaws, same_yes}
use Rattle.words.proofs.Contained.{contains-cons_cases, contains-nil, contains_head, contains_tail}
use Rattle.graphs.specs.Folding.{first_to, is_base, leads, traces_back, walk}
use Rattle.graphs.specs.Graphs.{NoneLeft, Path, Step, edge, steps}
use Rattle.graphs.specs.declared.Edge.{Edge}

-- a walk, letter by letter
module _ (to : ℕ → ℕ → Option ℕ) (p : ℕ) where
  pub walk-nil : walk to p [] ≡ Some p
  unfolding walk
  walk-nil = refl

  module _ (x : ℕ) (w : List ℕ) where
    pub walk-cons : {q : ℕ} → to p x ≡ Some q → walk to p (x ∷ w) ≡ walk to q w
    unfolding walk
    walk-cons e = ap (λ (o : Option ℕ). elim o as (λ z. Option ℕ) [ None ↦ None | Some q ↦ walk to q w ]) e

    pub walk-stops : to p x ≡ None → walk to p (x ∷ w) ≡ None
    unfolding walk
    walk-stops e = ap (λ (o : Option ℕ). elim o as (λ z. Option ℕ) [ None ↦ None | Some q ↦ walk to q w ]) e

-- a walk goes on from where it has come to, or stops, so the answer at the end is the answer from there on
module _ (to : ℕ → ℕ → Option ℕ) (w : List ℕ) where
  module _ (i p : ℕ) (inside : i < length w) (before : is_base (walk to p (drop i w)) ≡ is_base (walk to 0 w)) where
    here : drop i w ≡ get_or w i 0 ∷ drop (i + 1) w
    here = drop-cons w i 0 inside ∙ ap (λ (k : ℕ). get_or w i 0 ∷ drop k w) (sym (add-one i))

    pub walk_on : {q : ℕ} → Some q ≡ to p (get_or w i 0) → is_base (walk to q (drop (i + 1) w)) ≡ is_base (walk to 0 w)
    walk_on e = ap is_base (sym (ap (walk to p) here ∙ walk-cons to p (get_or w i 0) (drop (i + 1) w) (sym e))) ∙ before

    pub walk_over : {o : Option ℕ} → o ≡ to p (get_or w i 0) → o ≡ None → false ≡ is_base (walk to 0 w)
    walk_over e n = ap is_base (sym (ap (walk to p) here ∙ walk-stops to p (get_or w i 0) (drop (i + 1) w) (sym e ∙ n))) ∙ before

  pub walk_all : (p : ℕ) {i : ℕ} → length w ≤ i → is_base (walk to p (drop i w)) ≡ is_base (walk to 0 w) → eqb p 0 ≡ is_base (walk to 0 w)
  walk_all p h before = ap is_base (sym (ap (walk to p) (drop_of_length-le w h) ∙ walk-nil to p)) ∙ before

module _ (G : Alphabet ℕ) (L : AlphabetLaws G) where
  open G use {same}
  open L use {same_sound}

  leaving : (a b : Bool) → a && b ≡ true → (a ≡ true) × (b ≡ true)
  leaving true true e = (refl, refl)
  leaving true false e = absurd (true≢false (sym e))
  leaving false b e = absurd (true≢false (sym e))

  pub first_to_sound : (s : List Edge) (p x q : ℕ) → first_to G s p x ≡ Some q → Contains s (edge p x q)
  unfolding first_to
  first_to_sound [] p x q h = absurd (none-some q h)
  first_to_sound (e ∷ s) p x q h = go (eqb e.from p && same e.letter x) refl h (first_to_sound s p x q)
    where
      go : (b : Bool) → eqb e.from p && same e.letter x ≡ b → cond b (Some e.to) (first_to G s p x) ≡ Some q
          → (first_to G s p x ≡ Some q → Contains s (edge p x q)) → Contains (e ∷ s) (edge p x q)
      go true t k ih =
          let a : e.from ≡ p = eqb-true e.from p (leaving (eqb e.from p) (same e.letter x) t).0 in
          let b : e.letter ≡ x = same_sound e.letter x (leaving (eqb e.from p) (same e.letter x) t).1 in
          rw (← a, ← b, ← same_Some e.to q k) (contains_head e s)
      go false t k ih = contains_tail e s (edge p x q) (ih k)

  pub first_to_there : (s : List Edge) (p x q : ℕ) → Contains s (edge p x q) → (r : ℕ) × (first_to G s p x ≡ Some r)
  unfolding first_to
  first_to_there [] p x q h = absurd (contains-nil (edge p x q) h)
  first_to_there (e ∷ s) p x q h = go (eqb e.from p && same e.letter x) refl (contains-cons_cases e s (edge p x q) h) (first_to_there s p x q)
    where
      go : (b : Bool) → eqb e.from p && same e.letter x ≡ b → (edge p x q ≡ e) ⊎ Contains s (edge p x q)
          → (Contains s (edge p x q) → (r : ℕ) × (first_to G s p x ≡ Some r)) → (r : ℕ) × (cond b (Some e.to) (first_to G s p x) ≡ Some r)
      go true t k ih = (e.to, refl)
      go false t (inl k) ih = absurd (true≢false (sym (rw (← k, eq-eqb p p refl, same_yes G L x x refl)) ∙ t))
      go false t (inr k) ih = ih k

  pub leads_sound : (t : List Edge) (p x q : ℕ) → leads G t p x ≡ Some q → Step G t p x q
  leads_sound t p x q h = first_to_sound (steps G t) p x q h

  pub leads_none : (t : List Edge) (p x q : ℕ) → leads G t p x ≡ None → Step G t p x q → ⊥
  leads_none t p x q h s = let r = first_to_there (steps G t) p x q s in none-some r.0 (sym h ∙ r.1)

  pub leads_step : (t : List Edge) → NoneLeft G t → (p x q : ℕ) → Step G t p x q → leads G t p x ≡ Some q
  leads_step t n p x q s =
      let r = first_to_there (steps G t) p x q s in
      r.1 ∙ ap (λ (z : ℕ). Some z) (n p x r.0 q (leads_sound t p x r.0 r.1) s)

  walk_sound : (t : List Edge) (w : List ℕ) (p q : ℕ) → walk (leads G t) p w ≡ Some q → Path G t p w q
  unfolding walk
  walk_sound t [] p q h = same_Some p q h
  walk_sound t (x ∷ w) p q h = go (leads G t p x) refl h (walk_sound t w)
    where
      go : (o : Option ℕ) → leads G t p x ≡ o → (elim o as (λ z. Option ℕ) [ None ↦ None | Some m ↦ walk (leads G t) m w ]) ≡ Some q
          → ((m q : ℕ) → walk (leads G t) m w ≡ Some q → Path G t m w q) → Path G t p (x ∷ w) q
      go None e k ih = absurd (none-some q k)
      go (Some m) e k ih = (m, leads_sound t p x m e, ih m q k)

  walk_path : (t : List Edge) → NoneLeft G t → (w : List ℕ) (p q : ℕ) → Path G t p w q → walk (leads G t) p w ≡ Some q
  walk_path t n [] p q h = walk-nil (leads G t) p ∙ ap (λ (z : ℕ). Some z) h
  walk_path t n (x ∷ w) p q h = walk-cons (leads G t) p x w (leads_step t n p x h.0 h.1) ∙ walk_path t n w h.0 q h.2

  pub traces_back_path : (t : List Edge) → NoneLeft G t → (w : List ℕ) → (traces_back G t w ≡ true) ↔ Path G t 0 (freely_reduce G w) 0
  unfolding traces_back
  traces_back_path t n w =
      (go (walk (leads G t) 0 (freely_reduce G w)) refl, λ h. ap is_base (walk_path t n (freely_reduce G w) 0 0 h))
    where
      go : (o : Option ℕ) → walk (leads G t) 0 (freely_reduce G w) ≡ o → is_base o ≡ true → Path G t 0 (freely_reduce G w) 0
      go None e h = absurd (true≢false (sym h))
      go (Some q) e h = walk_sound t (freely_reduce G w) 0 0 (e ∙ ap (λ (z : ℕ). Some z) (eqb-true q 0 h))
