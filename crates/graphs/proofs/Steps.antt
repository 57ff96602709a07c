-- The steps in a graph: each can be taken back, and they go along with the points.
use Prim.Native.Nat.{ℕ}
use mathlib.Core.List.{List, map}
use mathlib.Core.Logic.{◌⊎◌, inl, inr}
use mathlib.Core.Path.{◌≡◌, sym, ap, ◌∙◌, subst}
use Rattle.std.specs.Prelude.{Contains}
use Rattle.std.proofs.lemmas.List.Elements.{Contains-append_cases, Contains-append_left, Contains-append_right}
use Rattle.words.specs.Alphabet.{Alphabet}
use Rattle.words.proofs.Alphabet.{AlphabetLaws}
use Rattle.words.proofs.Contained.{contains-map, contains_of_map}
use Rattle.graphs.specs.Graphs.{Step, back, edge, moved_edge}
use Rattle.graphs.specs.declared.Edge.{Edge}

module _ (G : Alphabet ℕ) (L : AlphabetLaws G) where
  open G use {flip}
  open L use {twice}

  -- a step is an edge, or an edge taken backward
  pub step_edge : (t : List Edge) (p x q : ℕ) → Contains t (edge p x q) → Step G t p x q
  step_edge t p x q h = Contains-append_left t (map (back G) t) (edge p x q) h

  pub step_backward : (t : List Edge) (p x q : ℕ) → Contains t (edge p x q) → Step G t q (flip x) p
  step_backward t p x q h = Contains-append_right t (map (back G) t) (edge q (flip x) p) (contains-map (back G) t (edge p x q) h)

  back_twice : (e : Edge) → back G (back G e) ≡ e
  back_twice e = ap (λ (x : ℕ). edge e.from x e.to) (twice e.letter)

  pub step_cases : (t : List Edge) (p x q : ℕ) → Step G t p x q → Contains t (edge p x q) ⊎ Contains t (edge q (flip x) p)
  step_cases t p x q h = elim (Contains-append_cases t (map (back G) t) (edge p x q) h) [
    | inl k ↦ inl k
    | inr k ↦ (
        let r = contains_of_map (back G) t (edge p x q) k in
        inr (subst (Contains t) (sym (back_twice r.0) ∙ ap (back G) r.2) r.1))
  ]

  pub step_back : (t : List Edge) (p x q : ℕ) → Step G t p x q → Step G t q (flip x) p
  step_back t p x q h = elim (step_cases t p x q h) [
    | inl k ↦ step_backward t p x q k
    | inr k ↦ step_edge t q (flip x) p k
  ]

  pub step_within : (s t : List Edge) → ((e : Edge) → Contains s e → Contains t e) → (p x q : ℕ) → Step G s p x q → Step G t p x q
  step_within s t f p x q h = elim (step_cases s p x q h) [
    | inl k ↦ step_edge t p x q (f (edge p x q) k)
    | inr k ↦ rw (twice) at (step_backward t q (flip x) p (f (edge q (flip x) p) k))
  ]

  module _ (f : ℕ → ℕ) (t : List Edge) where
    pub step_moved : (p x q : ℕ) → Step G t p x q → Step G (map (moved_edge f) t) (f p) x (f q)
    step_moved p x q h = elim (step_cases t p x q h) [
      | inl k ↦ step_edge (map (moved_edge f) t) (f p) x (f q) (contains-map (moved_edge f) t (edge p x q) k)
      | inr k ↦ rw (twice) at (step_backward (map (moved_edge f) t) (f q) (flip x) (f p) (contains-map (moved_edge f) t (edge q (flip x) p) k))
    ]

    -- and each step between the new points comes from one between old points
    abbrev Before : ℕ → ℕ → ℕ → Type 0
    Before p x q = (a : ℕ) × (b : ℕ) × Step G t a x b × (f a ≡ p) × (f b ≡ q)

    pub step_of_moved : (p x q : ℕ) → Step G (map (moved_edge f) t) p x q → Before p x q
    step_of_moved p x q h = elim (step_cases (map (moved_edge f) t) p x q h) [
      | inl k ↦ (
          let r = contains_of_map (moved_edge f) t (edge p x q) k in
          let e : Edge = r.0 in (
            e.from,
            e.to,
            step_edge t e.from x e.to (subst (Contains t) (ap (λ (y : ℕ). edge e.from y e.to) (ap (λ (z : Edge). z.letter) r.2)) r.1),
            ap (λ (z : Edge). z.from) r.2,
            ap (λ (z : Edge). z.to) r.2,
          ))
      | inr k ↦ (
          let r = contains_of_map (moved_edge f) t (edge q (flip x) p) k in
          let e : Edge = r.0 in
          let there : Contains t (edge e.from (flip x) e.to) = subst (Contains t) (ap (λ (y : ℕ). edge e.from y e.to) (ap (λ (z : Edge). z.letter) r.2)) r.1 in
          (e.to, e.from, rw (twice) at (step_backward t e.from (flip x) e.to there), ap (λ (z : Edge). z.to) r.2, ap (λ (z : Edge). z.from) r.2))
    ]
