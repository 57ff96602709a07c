-- How far the folding of a list of edges has come: what holds of the points and of what is filed all the time, and at the end.
use Rattle.std.specs.Prelude.{ℕ, ◌-◌, ◌<◌, ◌≡◌, ◌⊎◌, Bool, cond, false, true, List, All, Contains, Some, get_or, length, map}
use Rattle.words.specs.Alphabet.{bytes}
use Rattle.graphs.specs.Folding.{total, traces_back}
use Rattle.graphs.specs.Graphs.{FoldedFrom, Folds, Step, back, edge, moved_edge, steps}
use Rattle.graphs.specs.declared.Edge.{Edge}
use Rattle.records.specs.Records.{is_letter}
use Rattle.folding.specs.Filing.{Fits, lead, point}

-- an edge between two of n points, by a letter
abbrev pub EdgeAmong : ℕ → Edge → Type 0
EdgeAmong n e = (e.from < n) × (e.to < n) × (is_letter e.letter ≡ true)

-- the edges, each end replaced by the point that it has become
abbrev pub folded_edges : List Edge → List ℕ → List Edge
folded_edges edges points = map (moved_edge (point points)) edges

-- what holds all the time while edges are folded
pub record FoldedSoFar (edges : List Edge) (points index : List ℕ) : Type 0 where
  pub fits : Fits points index
  pub among : All (EdgeAmong (length points)) edges
  -- some folds have made the graph what it is
  pub folds : Folds bytes edges (folded_edges edges points)
  pub base : point points 0 ≡ 0
  pub settled : (p : ℕ) → point points (point points p) ≡ point points p
  -- a point that has not become another one leads only where the graph has a step
  pub sound : (p x q : ℕ) → is_letter x ≡ true → point points p ≡ p → lead points index p x ≡ Some q → Step bytes (folded_edges edges points) p x q

-- a step is filed where what its own point has become leads to what the other one has become
abbrev pub IsFiled : List ℕ → List ℕ → Edge → Type 0
IsFiled points index s = lead points index (point points s.from) s.letter ≡ Some (point points s.to)

-- in a sweep so far: two points have become one, which makes the sum of the edges' points smaller; or all points are those before, and the
-- steps that are done are filed
pub record Swept (edges : List Edge) (before : List ℕ) (Done : Edge → Type 0) (changed : Bool) (points index : List ℕ) : Type 0 where
  pub folding : FoldedSoFar edges points index
  pub smaller : changed ≡ true → total (folded_edges edges points) < total (folded_edges edges before)
  pub same : changed ≡ false → points ≡ before
  pub filed : changed ≡ false → (s : Edge) → Done s → IsFiled points index s

-- a sweep goes over the edges from the first one up, or from the last one down
abbrev pub edge_at_turn : List Edge → Bool → ℕ → Edge
edge_at_turn edges down turn = get_or edges (cond down (length edges - 1 - turn) turn) (edge 0 0 0)

-- the steps along the edges of the first turns
abbrev pub StepBefore : List Edge → Bool → ℕ → Edge → Type 0
StepBefore edges down turns s =
    (turn : ℕ) × (turn < turns) × ((s ≡ edge_at_turn edges down turn) ⊎ (s ≡ back bytes (edge_at_turn edges down turn)))

-- all steps
abbrev pub AnyStep : List Edge → Edge → Type 0
AnyStep edges s = Contains (steps bytes edges) s

-- every step is filed, so that none are left to fold
pub record Folded (edges : List Edge) (points index : List ℕ) : Type 0 where
  pub folding : FoldedSoFar edges points index
  pub filed : (s : Edge) → AnyStep edges s → IsFiled points index s

-- the answer whether a word is traced back to the base, told by some graph that comes of the edges by folding
pub record TracedIn (edges : List Edge) (w : List ℕ) (answer : Bool) : Type 0 where
  pub graph : List Edge
  pub folded : FoldedFrom bytes edges graph
  pub told : answer ≡ traces_back bytes graph w
