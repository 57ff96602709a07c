-- Paths in graphs: put together, turned round, freely reduced where no fold is left, and taken along with the points.
use Prim.Native.Nat.{ℕ}
use mathlib.Core.List.{List, [], ◌∷◌, ◌++◌, map}
use mathlib.Core.Path.{◌≡◌, refl, sym, ap}
use Rattle.std.specs.Prelude.{Contains}
use Rattle.words.specs.Alphabet.{Alphabet}
use Rattle.words.specs.Words.{freely_reduce, inverse, push}
use Rattle.words.proofs.Alphabet.{AlphabetLaws, same?}
use Rattle.words.proofs.FreeReduction.{push_cancel, push_keep}
use Rattle.words.proofs.Inverse.{inverse-cons, inverse-nil}
use Rattle.graphs.specs.Graphs.{NoneLeft, Path, Step, moved_edge}
use Rattle.graphs.specs.declared.Edge.{Edge}
use Rattle.graphs.proofs.Steps.{step_back, step_moved, step_within}

module _ (G : Alphabet ℕ) (L : AlphabetLaws G) where
  open G use {flip}

  module _ (t : List Edge) where
    pub path_append : (u v : List ℕ) (p q r : ℕ) → Path G t p u q → Path G t q v r → Path G t p (u ++ v) r
    path_append [] v p q r s k = rw (s) k
    path_append (x ∷ u) v p q r s k = (s.0, s.1, path_append u v s.0 q r s.2 k)

    pub path_inverse : (u : List ℕ) (p q : ℕ) → Path G t p u q → Path G t q (inverse G u) p
    path_inverse [] p q h = rw (inverse-nil G L) (sym h)
    path_inverse (x ∷ u) p q h = rw (inverse-cons G L x u)
        (path_append (inverse G u) (flip x ∷ []) q h.0 p (path_inverse u h.0 q h.2) (p, step_back G L t p x h.0 h.1, refl))

    module _ (none_left : NoneLeft G t) where
      path_push : (x : ℕ) (w : List ℕ) (p q r : ℕ) → Step G t p x q → Path G t q w r → Path G t p (push G x w) r
      path_push x [] p q r s h = (q, s, h)
      path_push x (y ∷ w) p q r s h = elim (same? G L y (flip x)) [
        | yes e ↦ (
            let m : h.0 ≡ p = none_left q (flip x) h.0 p (rw (e) at h.1) (step_back G L t p x q s) in
            rw (push_cancel G L x y w e) (rw (m) at h.2))
        | no n ↦ rw (push_keep G L x y w n) (q, s, h)
      ]

      -- the word of a path, freely reduced, is the word of a path between the same points
      pub path-freely_reduce : (u : List ℕ) (p q : ℕ) → Path G t p u q → Path G t p (freely_reduce G u) q
      path-freely_reduce [] p q h = h
      path-freely_reduce (x ∷ u) p q h = path_push x (freely_reduce G u) p h.0 q h.1 (path-freely_reduce u h.0 q h.2)

  pub path_moved : (f : ℕ → ℕ) (t : List Edge) (u : List ℕ) (p q : ℕ) → Path G t p u q → Path G (map (moved_edge f) t) (f p) u (f q)
  path_moved f t [] p q h = ap f h
  path_moved f t (x ∷ u) p q h = (f h.0, step_moved G L f t p x h.0 h.1, path_moved f t u h.0 q h.2)

  pub path_within : (s t : List Edge) → ((e : Edge) → Contains s e → Contains t e) → (u : List ℕ) (p q : ℕ) → Path G s p u q → Path G t p u q
  path_within s t f [] p q h = h
  path_within s t f (x ∷ u) p q h = (h.0, step_within G L s t f p x h.0 h.1, path_within s t f u h.0 q h.2)
