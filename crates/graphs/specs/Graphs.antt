-- Graphs with letters on their edges: Stallings' picture of a subgroup. A graph is a list of edges, which may name an edge twice; points are
-- numbers, and the base point is 0.
use Rattle.std.specs.Prelude.{ℕ, suc, ◌+◌, ◌-◌, ◌≡◌, cond, List, [], ◌∷◌, ◌++◌, Contains, eqb, length, map, max, min}
use Rattle.words.specs.Alphabet.{Alphabet}
use Rattle.words.specs.Words.{freely_reduce}
use Rattle.graphs.specs.declared.Edge.{Edge}

-- the edge from p to q by the letter x
abbrev pub edge : ℕ → ℕ → ℕ → Edge
edge p x q = record { from = p; letter = x; to = q }

-- an edge between the points that f makes of its ends
abbrev pub moved_edge : (ℕ → ℕ) → Edge → Edge
moved_edge f e = edge (f e.from) e.letter (f e.to)

-- two points become one, which keeps the smaller number: so the base remains 0
abbrev pub joined : ℕ → ℕ → ℕ → ℕ
joined p q r = cond (eqb r (max p q)) (min p q) r

-- a path from p that spells w and ends at the base, over the new points n, n + 1 and on
abbrev pub loop : ℕ → ℕ → List ℕ → List Edge
loop p n [] = []
loop p n (x ∷ []) = edge p x 0 ∷ []
loop p n (x ∷ y ∷ w) = edge p x n ∷ loop n (suc n) (y ∷ w)

-- a loop at the base for each word that isn't empty, over the new points n, n + 1 and on
abbrev pub loops : ℕ → List (List ℕ) → List Edge
loops n [] = []
loops n (w ∷ S) = loop 0 n w ++ loops (n + (length w - 1)) S

module _ (G : Alphabet ℕ) where
  open G use {flip}

  -- an edge taken backward
  abbrev pub back : Edge → Edge
  back e = edge e.to (flip e.letter) e.from

  -- the steps in a graph: along each edge, and backward along each. So an edge that enters a point is a step that leaves it, by the inverse
  -- letter, and an edge with a capital is one with its small letter the other way round.
  abbrev pub steps : List Edge → List Edge
  steps t = t ++ map back t

  -- a step leads from p by x to q
  abbrev pub Step : List Edge → ℕ → ℕ → ℕ → Type 0
  Step t p x q = Contains (steps t) (edge p x q)

  -- a path leads from p to q, and its steps spell w
  abbrev pub Path : List Edge → ℕ → List ℕ → ℕ → Type 0
  Path t p [] q = p ≡ q
  Path t p (x ∷ w) q = (m : ℕ) × Step t p x m × Path t m w q

  -- "two edges with the same letter leaving, or entering, one point": two steps by one letter from one point. They "are folded together": the
  -- points to which they lead become one.
  pub record Fold (s t : List Edge) : Type 0 where
    pub point : ℕ
    pub letter : ℕ
    pub one : ℕ
    pub other : ℕ
    pub two_points : one ≡ other → ⊥
    pub to_one : Step s point letter one
    pub to_other : Step s point letter other
    pub folded_together : t ≡ map (moved_edge (joined one other)) s

  -- any list of folds, one after the other
  pub data Folds : List Edge → List Edge → Type 0 where
    none : {s t : List Edge} → s ≡ t → Folds s t
    more : {s t r : List Edge} → Fold s t → Folds t r → Folds s r

  -- none is left to fold: from no point do two steps by one letter lead to two points
  abbrev pub NoneLeft : List Edge → Type 0
  NoneLeft t = (p x q r : ℕ) → Step t p x q → Step t p x r → q ≡ r

  -- t comes of s where edges "are folded together until none are left", in whatever order
  pub record FoldedFrom (s t : List Edge) : Type 0 where
    pub folds : Folds s t
    pub none_left : NoneLeft t

  -- "Each word that isn't empty after free reduction is a loop at a base point"
  abbrev pub loops_of : List (List ℕ) → List Edge
  loops_of S = loops 1 (map (freely_reduce G) S)

  -- a folded graph of a system
  abbrev pub FoldedGraph : List (List ℕ) → List Edge → Type 0
  FoldedGraph S t = FoldedFrom (loops_of S) t
