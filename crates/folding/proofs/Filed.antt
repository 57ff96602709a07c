-- A place of the index looked up, and a step filed there, case by case.
use Prim.Native.Nat.{ℕ, zero, suc, ◌+◌, ◌-◌}
use mathlib.Core.Bool.{cond, false, not, true}
use mathlib.Core.List.{List, map}
use mathlib.Core.Path.{◌≡◌, refl, sym, ap, ◌∙◌}
use native.Mathlib.Numerals.{add-one}
use native.Mathlib.Omega.{arith}
use lib.Dec.{eqb}
use lib.ListN.{get_or, set}
use borrow.Author.Tests.{eq-eqb, ne_eqb}
use Rattle.std.specs.Prelude.{None, Option, Some}
use Rattle.graphs.specs.Graphs.{joined}
use Rattle.graphs.specs.declared.Edge.{Edge}
use Rattle.folding.specs.Filing.{to_fold, step_folds, filed_index, entry_point, folded_points, lead, index_after, place, point, points_after}

module _ (points index : List ℕ) where
  module _ (p x : ℕ) where
    pub lead_none : {at : ℕ} → at ≡ place p x → get_or index at 0 ≡ 0 → None ≡ lead points index p x
    unfolding lead
    lead_none {at = at} e h = ap (entry_point points) (sym h ∙ ap (λ (i : ℕ). get_or index i 0) e)

    pub lead_some : {at : ℕ} → at ≡ place p x → (get_or index at 0 ≡ 0 → ⊥) → Some (get_or points (get_or index at 0 - 1) 0) ≡ lead points index p x
    unfolding lead
    lead_some {at = at} e n = go (get_or index at 0) n ∙ ap (λ (i : ℕ). entry_point points (get_or index i 0)) e
      where
        go : (q : ℕ) → (q ≡ 0 → ⊥) → Some (get_or points (q - 1) 0) ≡ entry_point points q
        go zero n = absurd (n refl)
        go (suc q) n = let e : suc q - 1 ≡ q = omega arith in rw (e) refl

  -- the three cases of filing a step
  module _ (e : Edge) where
    module _ {o : Option ℕ} (is : o ≡ lead points index (get_or points e.from 0) e.letter) (nowhere : o ≡ None) where
      pub vacant_folds : false ≡ step_folds points index e
      unfolding step_folds
      vacant_folds = ap (λ (z : Option ℕ). to_fold z (point points e.to)) (sym nowhere ∙ is)

      pub vacant_points : points ≡ points_after points index e
      unfolding points_after
      vacant_points = ap (λ (z : Option ℕ). folded_points z (point points e.to) points) (sym nowhere ∙ is)

      pub vacant_set : set index (place (get_or points e.from 0) e.letter) (suc (get_or points e.to 0)) ≡ index_after points index e
      unfolding index_after
      vacant_set = ap (λ (z : Option ℕ). filed_index z (point points e.to) (place (point points e.from) e.letter) index) (sym nowhere ∙ is)

      pub vacant_index : {at : ℕ} → at ≡ place (get_or points e.from 0) e.letter → set index at (get_or points e.to 0 + 1) ≡ index_after points index e
      vacant_index a = rw (a, add-one) vacant_set

    module _ {r : ℕ} (is : Some r ≡ lead points index (get_or points e.from 0) e.letter) where
      to_folds : not (eqb r (point points e.to)) ≡ step_folds points index e
      unfolding step_folds
      to_folds = ap (λ (z : Option ℕ). to_fold z (point points e.to)) is

      to_points : cond (eqb r (point points e.to)) points (map (joined r (point points e.to)) points) ≡ points_after points index e
      unfolding points_after
      to_points = ap (λ (z : Option ℕ). folded_points z (point points e.to) points) is

      pub found_index : index ≡ index_after points index e
      unfolding index_after
      found_index = ap (λ (z : Option ℕ). filed_index z (point points e.to) (place (point points e.from) e.letter) index) is

      pub agrees_folds : r ≡ get_or points e.to 0 → false ≡ step_folds points index e
      agrees_folds same = rw (eq-eqb r (get_or points e.to 0) same) at to_folds

      pub agrees_points : r ≡ get_or points e.to 0 → points ≡ points_after points index e
      agrees_points same = rw (eq-eqb r (get_or points e.to 0) same) at to_points

      pub differs_folds : (r ≡ get_or points e.to 0 → ⊥) → true ≡ step_folds points index e
      differs_folds n = rw (ne_eqb r (get_or points e.to 0) n) at to_folds

      pub differs_points : (r ≡ get_or points e.to 0 → ⊥) → map (joined r (get_or points e.to 0)) points ≡ points_after points index e
      differs_points n = rw (ne_eqb r (get_or points e.to 0) n) at to_points
