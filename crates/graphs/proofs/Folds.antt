-- What a fold keeps: a word for each point, such that the words of its steps lie in its coset, and the paths from base to base. And a fold
-- makes the sum of the points' numbers smaller.
use Prim.Native.Nat.{ℕ, ◌+◌, ◌≤◌, ◌<◌, max, min}
use mathlib.Core.List.{List, [], ◌∷◌, ◌++◌, map, append-nil, append_assoc}
use mathlib.Core.Logic.{◌⊎◌, inl, inr}
use mathlib.Core.Path.{◌≡◌}
use native.Mathlib.Decide.{dec_lt}
use native.Mathlib.Omega.{arith}
use Rattle.std.specs.Prelude.{Contains}
use Rattle.std.proofs.lemmas.List.Sums.{sum_by-cons}
use Rattle.words.specs.Alphabet.{Alphabet}
use Rattle.words.specs.Words.{freely_reduce}
use Rattle.words.proofs.Alphabet.{AlphabetLaws}
use Rattle.words.proofs.Contained.{contains-cons_cases, contains-nil}
use Rattle.words.proofs.FreeReduction.{freely_reduce_pair_flip}
use Rattle.systems.proofs.Cosets.{SameCoset, same_coset-freely_reduce, same_coset_refl, same_coset_sym, same_coset_times, same_coset_trans}
use Rattle.graphs.specs.Folding.{total}
use Rattle.graphs.specs.Graphs.{Fold, Folds, Path, Step, edge, joined, more, moved_edge, none as no_fold}
use Rattle.graphs.specs.declared.Edge.{Edge}
use Rattle.graphs.proofs.Joined.{joined-le, joined_base, joined_cases, joined_larger}
use Rattle.graphs.proofs.Paths.{path_moved}
use Rattle.graphs.proofs.Steps.{step_cases, step_of_moved}

module _ (G : Alphabet ℕ) (L : AlphabetLaws G) where
  open G use {flip}
  open L use {twice}

  pub folds_then : {r s t : List Edge} → Folds G r s → Folds G s t → Folds G r t
  folds_then (no_fold e) g = rw (e) g
  folds_then (more f h) g = more f (folds_then h g)

  pub folds_path : {s t : List Edge} → Folds G s t → (w : List ℕ) → Path G s 0 w 0 → Path G t 0 w 0
  folds_path (no_fold e) w h = rw (e) at h
  folds_path {s = s} (more f g) w h = folds_path g w
      (rw (f.folded_together) (rw (joined_base) at (path_moved G L (joined f.one f.other) s w 0 0 h)))

  -- each point has a word, and a step by x leads from the coset of the word u to that of u, then x
  module _ (S : List (List ℕ)) (word_of : ℕ → List ℕ) where
    abbrev pub Marked : List Edge → Type 0
    Marked t = (p x q : ℕ) → Step G t p x q → SameCoset G L S (word_of p ++ (x ∷ [])) (word_of q)

    -- it is enough that this holds of the edges
    pub marked_edges : (t : List Edge) → ((p x q : ℕ) → Contains t (edge p x q) → SameCoset G L S (word_of p ++ (x ∷ [])) (word_of q)) → Marked t
    marked_edges t h p x q s = elim (step_cases G L t p x q s) [
      | inl k ↦ h p x q k
      | inr k ↦ (
          let a = same_coset_times G L S (word_of q ++ (flip x ∷ [])) (word_of p) (x ∷ []) (h q (flip x) p k) in
          same_coset_sym G L S (word_of q) (word_of p ++ (x ∷ []))
          (same_coset-freely_reduce G L S ((word_of q ++ (flip x ∷ [])) ++ (x ∷ [])) (word_of q) (word_of p ++ (x ∷ [])) (taken_back (word_of q) x) a))
    ]
      where
        taken_back : (u : List ℕ) (x : ℕ) → freely_reduce G ((u ++ (flip x ∷ [])) ++ (x ∷ [])) ≡ freely_reduce G u
        taken_back u x = rw (append_assoc u (flip x ∷ []) (x ∷ []), freely_reduce_pair_flip G L u x [], append-nil)

    -- the words of the two points that a fold makes one lie in one coset
    fold_joins : {s t : List Edge} (f : Fold G s t) → Marked s → SameCoset G L S (word_of f.one) (word_of f.other)
    fold_joins f h = same_coset_trans G L S (word_of f.one) (word_of f.point ++ (f.letter ∷ [])) (word_of f.other)
        (same_coset_sym G L S (word_of f.point ++ (f.letter ∷ [])) (word_of f.one) (h f.point f.letter f.one f.to_one))
        (h f.point f.letter f.other f.to_other)

    joined_coset : (p q : ℕ) → SameCoset G L S (word_of p) (word_of q) → (r : ℕ) → SameCoset G L S (word_of (joined p q r)) (word_of r)
    joined_coset p q h r = elim (joined_cases p q r) [
      | inl e ↦ rw (e) (same_coset_refl G L S (word_of r))
      | inr k ↦ rw (k.1, k.0) (elim (dec_lt q p) [
        | yes l ↦ (
            let a : min p q ≡ q = omega arith in
            let b : max p q ≡ p = omega arith in
            rw (a, b) (same_coset_sym G L S (word_of p) (word_of q) h))
        | no l ↦ (
            let a : min p q ≡ p = omega arith in
            let b : max p q ≡ q = omega arith in
            rw (a, b) h)
      ])
    ]

    pub fold_marked : {s t : List Edge} → Fold G s t → Marked s → Marked t
    fold_marked {s = s} f h p x q k =
        let r = step_of_moved G L j s p x q (rw (f.folded_together) at k) in
        go r.0 r.1 p q r.3 r.4 r.2
      where
        j : ℕ → ℕ
        j = joined f.one f.other

        same : (r : ℕ) → SameCoset G L S (word_of (joined f.one f.other r)) (word_of r)
        same = joined_coset f.one f.other (fold_joins f h)

        go : (a b p q : ℕ) → joined f.one f.other a ≡ p → joined f.one f.other b ≡ q → Step G s a x b → SameCoset G L S (word_of p ++ (x ∷ [])) (word_of q)
        go a b p q e d k = rw (← e, ← d)
            (same_coset_trans G L S (word_of (joined f.one f.other a) ++ (x ∷ [])) (word_of a ++ (x ∷ [])) (word_of (joined f.one f.other b))
            (same_coset_times G L S (word_of (joined f.one f.other a)) (word_of a) (x ∷ []) (same a))
            (same_coset_trans G L S (word_of a ++ (x ∷ [])) (word_of b) (word_of (joined f.one f.other b)) (h a x b k)
            (same_coset_sym G L S (word_of (joined f.one f.other b)) (word_of b) (same b))))

    pub folds_marked : {s t : List Edge} → Folds G s t → Marked s → Marked t
    folds_marked (no_fold e) h = rw (e) at h
    folds_marked (more f g) h = folds_marked g (fold_marked f h)

-- the sum of the points' numbers
total-cons : (e : Edge) (t : List Edge) → total (e ∷ t) ≡ e.from + e.to + total t
total-cons e t = sum_by-cons (λ (y : Edge). y.from + y.to) e t

module _ (p q : ℕ) where
  abbrev moved : List Edge → List Edge
  moved t = map (moved_edge (joined p q)) t

  moved-cons : (e : Edge) (t : List Edge) → total (moved (e ∷ t)) ≡ joined p q e.from + joined p q e.to + total (moved t)
  moved-cons e t = total-cons (moved_edge (joined p q) e) (moved t)

  total-le : (t : List Edge) → total (moved t) ≤ total t
  total-le [] = omega arith
  total-le (e ∷ t) = omega (arith, moved-cons e t, total-cons e t, joined-le p q e.from, joined-le p q e.to, total-le t)

  -- falls where an edge ends in the larger of two points
  total_falls : (p ≡ q → ⊥) → (t : List Edge) (e : Edge) → Contains t e → (e.from ≡ max p q) ⊎ (e.to ≡ max p q) → total (moved t) < total t
  total_falls n [] e h k = absurd (contains-nil e h)
  total_falls n (y ∷ t) e h k = elim (contains-cons_cases y t e h) [
    | inl i ↦ omega (arith, moved-cons y t, total-cons y t, ends (rw (i) at k), total-le t)
    | inr i ↦ omega (arith, moved-cons y t, total-cons y t, joined-le p q y.from, joined-le p q y.to, total_falls n t e i k)
  ]
    where
      ends : (y.from ≡ max p q) ⊎ (y.to ≡ max p q) → joined p q y.from + joined p q y.to < y.from + y.to
      ends (inl i) = omega (arith, i, joined_larger p q y.from i, joined-le p q y.to)
      ends (inr i) = omega (arith, i, joined_larger p q y.to i, joined-le p q y.from)

module _ (G : Alphabet ℕ) (L : AlphabetLaws G) where
  step_ends : (t : List Edge) (p x q m : ℕ) → q ≡ m → Step G t p x q → (e : Edge) × Contains t e × ((e.from ≡ m) ⊎ (e.to ≡ m))
  step_ends t p x q m e s = elim (step_cases G L t p x q s) [
    | inl k ↦ (edge p x q, k, inr e)
    | inr k ↦ (edge q (G.flip x) p, k, inl e)
  ]

  -- so every list of folds ends
  pub fold_falls : {s t : List Edge} → Fold G s t → total t < total s
  fold_falls {s = s} f = rw (f.folded_together) (elim (dec_lt f.other f.one) [
    | yes l ↦ go (step_ends s f.point f.letter f.one (max f.one f.other) (omega arith) f.to_one)
    | no l ↦ go (step_ends s f.point f.letter f.other (max f.one f.other) (omega arith) f.to_other)
  ])
    where
      go : (e : Edge) × Contains s e × ((e.from ≡ max f.one f.other) ⊎ (e.to ≡ max f.one f.other)) → total (map (moved_edge (joined f.one f.other)) s) < total s
      go r = total_falls f.one f.other f.two_points s r.0 r.1 r.2
