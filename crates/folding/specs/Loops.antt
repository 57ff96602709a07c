-- The loops of a system in a table of edges: where their steps lead, and how many points they take.
use Rattle.std.specs.Prelude.{ℕ, ◌+◌, ◌-◌, cond, List, [], ◌∷◌, length, ltb}

-- the point to which the step along letter i of a word leads, over the new points n, n + 1 and on
abbrev pub loop_point : List ℕ → ℕ → ℕ → ℕ
loop_point w n i = cond (ltb (i + 1) (length w)) (n + i) 0

-- the number of points, n before and those that the loops of a system take
abbrev pub points_with_loops : ℕ → List (List ℕ) → ℕ
points_with_loops n [] = n
points_with_loops n (w ∷ S) = points_with_loops (n + (length w - 1)) S
