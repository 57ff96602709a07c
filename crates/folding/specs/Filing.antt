-- Beside the edges folding keeps two lists: the point that each point of the loops has become, and an index, which says where points lead by
-- letters, as far as steps have been filed in it.
use Rattle.std.specs.Prelude.{ℕ, zero, suc, ◌+◌, ◌-◌, ◌*◌, ◌<◌, ◌≤◌, Bool, false, cond, not, List, None, Option, Some, eqb, get_or, length, map, set}
use Rattle.graphs.specs.Folding.{is_base, walk}
use Rattle.graphs.specs.Graphs.{joined}
use Rattle.graphs.specs.declared.Edge.{Edge}

-- the point that a point has become
abbrev pub point : List ℕ → ℕ → ℕ
point points p = get_or points p 0

-- where a point and a letter have their place in the index: a row of 58 for each point, from A (65) to z
abbrev pub place : ℕ → ℕ → ℕ
place p x = p * 58 + (x - 65)

-- what stands there: 0 for no point, and q + 1 for the point that q has become
abbrev pub entry_point : List ℕ → ℕ → Option ℕ
entry_point points zero = None
entry_point points (suc q) = Some (point points q)

-- where p leads by x
unfoldable pub lead : List ℕ → List ℕ → ℕ → ℕ → Option ℕ
lead points index p x = entry_point points (get_or index (place p x) 0)

-- whether the letters of a word lead from the base back to the base
abbrev pub leads_back : List ℕ → List ℕ → List ℕ → Bool
leads_back points index w = is_base (walk (lead points index) 0 w)

-- whether a step to q has to be folded together with the one that is filed at its place, which leads to r
abbrev pub to_fold : Option ℕ → ℕ → Bool
to_fold None q = false
to_fold (Some r) q = not (eqb r q)

-- then r and q become one
abbrev pub folded_points : Option ℕ → ℕ → List ℕ → List ℕ
folded_points None q points = points
folded_points (Some r) q points = cond (eqb r q) points (map (joined r q) points)

-- and where none is filed there, the step is
abbrev pub filed_index : Option ℕ → ℕ → ℕ → List ℕ → List ℕ
filed_index None q at index = set index at (suc q)
filed_index (Some r) q at index = index

-- a step is filed under the points that its ends have become: whether it has to be folded, and what becomes of points and index
module _ (points index : List ℕ) (step : Edge) where
  abbrev pub filed_lead : Option ℕ
  filed_lead = lead points index (point points step.from) step.letter

  unfoldable pub step_folds : Bool
  step_folds = to_fold filed_lead (point points step.to)

  unfoldable pub points_after : List ℕ
  points_after = folded_points filed_lead (point points step.to) points

  unfoldable pub index_after : List ℕ
  index_after = filed_index filed_lead (point points step.to) (place (point points step.from) step.letter) index

-- "the points at most 993"; each has become one of them, has its row in the index, and what stands there is one of them
pub record Fits (points index : List ℕ) : Type 0 where
  pub few : length points ≤ 993
  pub room : length points * 58 ≤ length index
  pub low : (p : ℕ) → p < length points → point points p < length points
  pub filed_low : (i : ℕ) → get_or index i 0 ≤ length points
