-- A folded graph of a system as a function, and the walk that traces a word.
use Rattle.std.specs.Prelude.{ℕ, zero, suc, ◌+◌, Bool, false, cond, ◌&&◌, List, [], ◌∷◌, None, Option, Some, eqb, map, sum_by}
use Rattle.words.specs.Alphabet.{Alphabet}
use Rattle.words.specs.Words.{freely_reduce}
use Rattle.graphs.specs.Graphs.{joined, loops_of, moved_edge, steps}
use Rattle.graphs.specs.declared.Edge.{Edge}

-- the sum of the points' numbers over the ends of all edges: each fold makes it smaller
abbrev pub total : List Edge → ℕ
total t = sum_by (λ e. e.from + e.to) t

-- the point to which the letters of a word lead from p, where each letter leads as `to` says
unfoldable pub walk : (ℕ → ℕ → Option ℕ) → ℕ → List ℕ → Option ℕ
walk to p [] = Some p
walk to p (x ∷ w) = elim (to p x) [ None ↦ None | Some q ↦ walk to q w ]

-- whether it is the base
abbrev pub is_base : Option ℕ → Bool
is_base None = false
is_base (Some q) = eqb q 0

module _ (G : Alphabet ℕ) where
  open G use {same}

  -- where the first of some steps that leaves p by x leads
  unfoldable pub first_to : List Edge → ℕ → ℕ → Option ℕ
  first_to [] p x = None
  first_to (e ∷ s) p x = cond (eqb e.from p && same e.letter x) (Some e.to) (first_to s p x)

  -- where the graph leads from p by x
  abbrev pub leads : List Edge → ℕ → ℕ → Option ℕ
  leads t p x = first_to (steps G t) p x

  -- "its freely reduced letters trace a path from the base back to the base"
  unfoldable pub traces_back : List Edge → List ℕ → Bool
  traces_back t w = is_base (walk (leads t) 0 (freely_reduce G w))

  -- of some steps of t the first whose point leads elsewhere by its letter: the points to which both lead are those that the first fold makes
  -- one
  unfoldable pub first_fold : List Edge → List Edge → Option (ℕ × ℕ)
  first_fold t [] = None
  first_fold t (e ∷ s) = elim (leads t e.from e.letter) [
    | None ↦ first_fold t s
    | Some q ↦ cond (eqb q e.to) (first_fold t s) (Some (q, e.to))
  ]

  -- "folded together until none are left", at most n times
  unfoldable pub folded_within : ℕ → List Edge → List Edge
  folded_within zero t = t
  folded_within (suc n) t = elim (first_fold t (steps G t)) [
    | None ↦ t
    | Some c ↦ folded_within n (map (moved_edge (joined c.0 c.1)) t)
  ]

  -- the loops of a system, folded as often as there is a fold; `folded_graph_is` says that none is left then
  abbrev pub folded_graph : List (List ℕ) → List Edge
  folded_graph S = folded_within (suc (total (loops_of G S))) (loops_of G S)

  -- "A target is a member when its freely reduced letters trace a path from the base back to the base."
  abbrev pub member_by_graph : List (List ℕ) → List ℕ → Bool
  member_by_graph S w = traces_back (folded_graph S) w
