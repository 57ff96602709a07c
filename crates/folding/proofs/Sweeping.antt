-- Sweeps: what filing one step more makes of them, and what holds after the last turn.
use Prim.Native.Nat.{ℕ, ◌+◌, ◌-◌, ◌≤◌, ◌<◌}
use mathlib.Core.Bool.{Bool, true, false, cond, ◌||◌, true≢false}
use mathlib.Core.List.{List, map}
use mathlib.Core.Logic.{◌⊎◌, inl, inr}
use mathlib.Core.Path.{◌≡◌, refl, sym, ap, ◌∙◌, subst}
use native.Mathlib.Decide.{ℕ_discrete}
use native.Mathlib.Omega.{arith}
use lib.ListN.{get_or, length}
use Rattle.std.specs.Prelude.{Contains, None, Option, Some}
use Rattle.std.proofs.lemmas.List.{get_or_default}
use Rattle.std.proofs.lemmas.List.Elements.{Contains-append_cases, Contains-append_left, Contains-append_right, Contains-get_or}
use Rattle.words.specs.Alphabet.{bytes}
use Rattle.words.proofs.Contained.{contains-map, contains_of_map}
use Rattle.graphs.specs.Folding.{total}
use Rattle.graphs.specs.Graphs.{back, edge}
use Rattle.graphs.specs.declared.Edge.{Edge}
use Rattle.records.specs.Records.{is_letter}
use Rattle.records.proofs.RoundTrip.{letter_high, letter_low}
use Rattle.folding.specs.Filing.{Fits, step_folds, lead, index_after, point, points_after}
use Rattle.folding.specs.Sweeps.{AnyStep, FoldedSoFar, IsFiled, StepBefore, Swept, edge_at_turn, folded_edges}
use Rattle.folding.proofs.Filed.{agrees_folds, agrees_points, differs_folds, differs_points, found_index, vacant_folds, vacant_points, vacant_set}
use Rattle.folding.proofs.Keeping.{joined_falls, joined_kept, step_among, vacant_filed, vacant_kept, vacant_stays}

-- what filing a step does
record Files (edges : List Edge) (points index : List ℕ) (s : Edge) (folds : Bool) (points' index' : List ℕ) : Type 0 where
  kept : FoldedSoFar edges points' index'
  falls : folds ≡ true → total (folded_edges edges points') < total (folded_edges edges points)
  same : folds ≡ false → points' ≡ points
  filed : folds ≡ false → IsFiled points' index' s
  stays : folds ≡ false → (t : Edge) → IsFiled points index t → IsFiled points' index' t

module _ (edges : List Edge) (points index : List ℕ) (f : FoldedSoFar edges points index) (s : Edge) (there : AnyStep edges s) where
  files : Files edges points index s (step_folds points index s) (points_after points index s) (index_after points index s)
  files = go (lead points index (point points s.from) s.letter) refl
    where
      found : (r : ℕ) → lead points index (point points s.from) s.letter ≡ Some r → Dec (r ≡ point points s.to)
          → Files edges points index s (step_folds points index s) (points_after points index s) (index_after points index s)
      found r is (yes e) = rw (← (agrees_folds points index s (sym is) e), ← (agrees_points points index s (sym is) e), ← (found_index points index s (sym is)))
          (record { kept = f; falls = λ h. absurd (true≢false (sym h)); same = λ _. refl; filed = λ _. is ∙ ap (λ (z : ℕ). Some z) e; stays = λ _ t h. h })
      found r is (no n) = rw (← (differs_folds points index s (sym is) n), ← (differs_points points index s (sym is) n), ← (found_index points index s (sym is)))
          (record {
            kept = joined_kept edges points index f s there r is n;
            falls = λ _. joined_falls edges points index f s there r is n;
            same = λ h. absurd (true≢false h);
            filed = λ h. absurd (true≢false h);
            stays = λ h. absurd (true≢false h);
          })

      go : (o : Option ℕ) → lead points index (point points s.from) s.letter ≡ o
          → Files edges points index s (step_folds points index s) (points_after points index s) (index_after points index s)
      go None is = rw (← (vacant_folds points index s (sym is) refl), ← (vacant_points points index s (sym is) refl), ← (vacant_set points index s (sym is) refl))
          (record {
            kept = vacant_kept edges points index f s there is;
            falls = λ h. absurd (true≢false (sym h));
            same = λ _. refl;
            filed = λ _. vacant_filed edges points index f s there is;
            stays = λ _. vacant_stays edges points index f s there is;
          })
      go (Some r) is = found r is (ℕ_discrete r (point points s.to))

module _ (edges : List Edge) where
  -- one step more is filed
  swept_one : (before points index points' index' : List ℕ) (some : Edge → Type 0) (changed folds : Bool) (s : Edge)
      → Swept edges before some changed points index → Files edges points index s folds points' index'
      → Swept edges before (λ t. some t ⊎ (t ≡ s)) (changed || folds) points' index'
  swept_one before points index points' index' some true folds s w f =
      record {
        folding = f.kept;
        smaller = λ _. less folds f.falls f.same;
        same = λ h. absurd (true≢false h);
        filed = λ h. absurd (true≢false h);
      }
    where
      less : (b : Bool) → (b ≡ true → total (folded_edges edges points') < total (folded_edges edges points)) → (b ≡ false → points' ≡ points)
          → total (folded_edges edges points') < total (folded_edges edges before)
      less true h k = omega (arith, h refl, w.smaller refl)
      less false h k = rw (k refl) (w.smaller refl)
  swept_one before points index points' index' some false folds s w f =
      record {
        folding = f.kept;
        smaller = λ h. subst (λ (z : List ℕ). total (folded_edges edges points') < total (folded_edges edges z)) (w.same refl) (f.falls h);
        same = λ h. f.same h ∙ w.same refl;
        filed = λ h t k. elim k [ inl i ↦ f.stays h t (w.filed refl t i) | inr e ↦ rw (e) (f.filed h) ];
      }

  swept_some : (before points index : List ℕ) (some more : Edge → Type 0) (changed : Bool) → ((s : Edge) → more s → some s)
      → Swept edges before some changed points index → Swept edges before more changed points index
  swept_some before points index some more changed h w =
      record { folding = w.folding; smaller = w.smaller; same = w.same; filed = λ e s k. w.filed e s (h s k) }

  module _ (down : Bool) (turn : ℕ) (inside : turn < length edges) where
    place_inside : cond down (length edges - 1 - turn) turn < length edges
    place_inside = go down
      where
        go : (b : Bool) → cond b (length edges - 1 - turn) turn < length edges
        go true = omega arith
        go false = inside

    edge_among : Contains edges (edge_at_turn edges down turn)
    edge_among = Contains-get_or edges (cond down (length edges - 1 - turn) turn) (edge 0 0 0) place_inside

    pub along_step : AnyStep edges (edge_at_turn edges down turn)
    along_step = Contains-append_left edges (map (back bytes) edges) (edge_at_turn edges down turn) edge_among

    pub backward_step : AnyStep edges (back bytes (edge_at_turn edges down turn))
    backward_step = Contains-append_right edges (map (back bytes) edges) (back bytes (edge_at_turn edges down turn))
        (contains-map (back bytes) edges (edge_at_turn edges down turn) edge_among)

    -- the edge taken backward has a letter too
    module _ {points index : List ℕ} (f : FoldedSoFar edges points index) {e s : Edge} (is : e ≡ edge_at_turn edges down turn) (back_is : s ≡ back bytes e) where
      letter_backward : is_letter s.letter ≡ true
      letter_backward = (step_among (length points) edges f.among s (rw (back_is, is) backward_step)).2

      pub backward_low : 65 ≤ s.letter
      backward_low = letter_low s.letter letter_backward

      pub backward_high : s.letter < 123
      backward_high = omega (arith, letter_high s.letter letter_backward)

    -- an edge is filed, along it and backward
    module _ {points index : List ℕ} (f : FoldedSoFar edges points index) {e : Edge} (is : e ≡ edge_at_turn edges down turn)
        {folds : Bool} {points₁ index₁ : List ℕ} (c : folds ≡ step_folds points index e) (p : points₁ ≡ points_after points index e)
        (l : index₁ ≡ index_after points index e) where
      along : Files edges points index e folds points₁ index₁
      along = rw (c, p, l) (files edges points index f e (rw (is) along_step))

      folding_along : FoldedSoFar edges points₁ index₁
      folding_along = along.kept

      -- so the edge taken backward can be filed too
      pub fits_along : Fits points₁ index₁
      fits_along = folding_along.fits

      pub swept_next : {before : List ℕ} {changed : Bool} → Swept edges before (StepBefore edges down turn) changed points index
          → {s : Edge} → s ≡ back bytes e → {folds₁ : Bool} {points₂ index₂ : List ℕ} → folds₁ ≡ step_folds points₁ index₁ s
          → points₂ ≡ points_after points₁ index₁ s → index₂ ≡ index_after points₁ index₁ s
          → Swept edges before (StepBefore edges down (turn + 1)) ((changed || folds) || folds₁) points₂ index₂
      swept_next {before = before} {changed = changed} w {s = s} back_is {folds₁ = folds₁} {points₂ = points₂} {index₂ = index₂} c₁ p₁ l₁ =
          swept_some before points₂ index₂ (λ t. (StepBefore edges down turn t ⊎ (t ≡ e)) ⊎ (t ≡ s)) (StepBefore edges down (turn + 1)) ((changed || folds) || folds₁) visited
          (swept_one before points₁ index₁ points₂ index₂ (λ t. StepBefore edges down turn t ⊎ (t ≡ e)) (changed || folds) folds₁ s
          (swept_one before points index points₁ index₁ (StepBefore edges down turn) changed folds e w along)
          (rw (c₁, p₁, l₁) (files edges points₁ index₁ folding_along s (rw (back_is, is) backward_step))))
        where
          visited : (t : Edge) → StepBefore edges down (turn + 1) t → (StepBefore edges down turn t ⊎ (t ≡ e)) ⊎ (t ≡ s)
          visited t (at, less, k) = elim (ℕ_discrete at turn) [
            | yes i ↦ elim k [ inl j ↦ inl (inr (j ∙ rw (i) (sym is))) | inr j ↦ inr (j ∙ rw (i, back_is, is) refl) ]
            | no n ↦ inl (inl (at, omega (arith, less, n), k))
          ]

  -- after the last turn every step is filed
  pub swept_all : (down : Bool) {before points index : List ℕ} {changed : Bool} {turns : ℕ} → length edges ≤ turns
      → Swept edges before (StepBefore edges down turns) changed points index → Swept edges before (AnyStep edges) changed points index
  swept_all down {before = before} {points = points} {index = index} {changed = changed} {turns = turns} h w =
      swept_some before points index (StepBefore edges down turns) (AnyStep edges) changed visited w
    where
      turn_of : (i : ℕ) → i < length edges → (b : Bool) → (j : ℕ) × (j < turns) × (cond b (length edges - 1 - j) j ≡ i)
      turn_of i l true = (length edges - 1 - i, omega arith, omega arith)
      turn_of i l false = (i, omega arith, refl)

      edge_turn : (e : Edge) → Contains edges e → (j : ℕ) × (j < turns) × (e ≡ edge_at_turn edges down j)
      edge_turn e k =
          let (j, less, is) = turn_of k.0 k.1 down in
          (j, less, sym k.2 ∙ get_or_default edges k.0 e (edge 0 0 0) k.1 ∙ ap (λ (i : ℕ). get_or edges i (edge 0 0 0)) (sym is))

      visited : (s : Edge) → AnyStep edges s → StepBefore edges down turns s
      visited s k = elim (Contains-append_cases edges (map (back bytes) edges) s k) [
        | inl i ↦ (let r = edge_turn s i in (r.0, r.1, inl r.2))
        | inr i ↦ (
            let e = contains_of_map (back bytes) edges s i in
            let r = edge_turn e.0 e.1 in
            (r.0, r.1, inr (sym e.2 ∙ ap (back bytes) r.2)))
      ]
