-- The search for a shortening move: three nested loops over the changed slot, the other slot and the form, and what is known of those that
-- were tried. One law for each turn and each way out.
use Rattle.std.proofs.Common.{◌*◌, ◌+◌, ◌-◌, ◌<◌, ◌≤◌, ◌≡◌, ℕ, zero, suc, List, [], ◌∷◌, Option, None, Some, get_or, length, max, arith, refl, sym}
use native.Mathlib.Decide.{dec_lt, ℕ_discrete}
use Rattle.std.specs.declared.ops.Range.{Range}
use Rattle.words.specs.Alphabet.{bytes}
use Rattle.words.specs.Words.{inverse}
use Rattle.words.proofs.Alphabet.{byte_laws}
use Rattle.words.proofs.Cancellation.{cancellation-inverse_left, cancellation-inverse_right, common_prefix_comm}
use Rattle.systems.specs.Moves.{seam}
use Rattle.systems.specs.Products.{FreelyReduced, word}
use Rattle.systems.specs.Rules.{first, form_at, shortening, try_changed, try_form, try_other}
use Rattle.systems.specs.declared.Form.{Form}
use Rattle.systems.specs.declared.Form.TheVariants.{After, Before, InverseAfter, InverseBefore}
use Rattle.systems.specs.declared.Move.{Move}
use Rattle.systems.proofs.Searching.{first-more-one, first_nowhere}
use Rattle.systems.proofs.Shortening.{formed_shorter, other_missed, shortening-found, try_shorter}
use Rattle.marks.specs.Marks.{Outside}
use Rattle.marks.proofs.Marking.{form-none, pair_none}
use Rattle.shortening.specs.Halves.{HalfAtMost}

-- the same letters cancel in a pair the other way round
turned : Form → Form
turned Before = After
turned InverseBefore = InverseBefore
turned After = Before
turned InverseAfter = InverseAfter

seam-turned : (form : Form) (u v : List ℕ) → seam bytes form v u ≡ seam bytes (turned form) u v
unfolding turned
seam-turned Before u v = refl
seam-turned InverseBefore u v =
    omega (
      arith,
      cancellation-inverse_left bytes byte_laws u v,
      cancellation-inverse_left bytes byte_laws v u,
      common_prefix_comm bytes byte_laws u v,
    )
seam-turned After u v = refl
seam-turned InverseAfter u v =
    omega (
      arith,
      cancellation-inverse_right bytes byte_laws u v,
      cancellation-inverse_right bytes byte_laws v u,
      common_prefix_comm bytes byte_laws (inverse bytes u) (inverse bytes v),
    )

-- what holds of the four forms in their order holds of each
each_form : (P : Form → Type 0) → ((j : ℕ) → j < 4 → P (form_at j)) → (form : Form) → P form
each_form P told Before = told 0 (omega arith)
each_form P told InverseBefore = told 1 (omega arith)
each_form P told After = told 2 (omega arith)
each_form P told InverseAfter = told 3 (omega arith)

-- the four forms in their order
pub form_there : (j : ℕ) (d : Form) → j < 4 → get_or (Before ∷ InverseBefore ∷ After ∷ InverseAfter ∷ []) j d ≡ form_at j
form_there zero d h = refl
form_there (suc zero) d h = refl
form_there (suc (suc zero)) d h = refl
form_there (suc (suc (suc zero))) d h = refl
form_there (suc (suc (suc (suc j)))) d h = absurd (omega arith)

-- slot k is not shortened by slot i; nor slot i by slot k, where at most half of slot k's word cancelled
pub record Tried (S : List (List ℕ)) (k i most : ℕ) : Type 0 where
  pub failed : try_other bytes S k i ≡ None
  pub back : 2 * most ≤ length (word bytes S k) → try_other bytes S i k ≡ None

-- slot k is not shortened by slot i in an earlier form; at most half of its word cancelled in each, or the most that was counted
pub record Forms (S : List (List ℕ)) (k i place most : ℕ) : Type 0 where
  pub before : first (λ j. try_form bytes S k i (form_at j)) place ≡ None
  pub counts : (j : ℕ) → j < place → 2 * seam bytes (form_at j) (word bytes S i) (word bytes S k) ≤ max (2 * most) (length (word bytes S k))

-- nothing is found yet, and no slot before k is shortened
pub record Changed (S : List (List ℕ)) (k : ℕ) (found : Option Move) : Type 0 where
  pub freely : FreelyReduced bytes S
  pub nothing : found ≡ None
  pub before : first (try_changed bytes S) k ≡ None

-- nor slot k by a slot outside those that are left
pub record Others (S : List (List ℕ)) (k : ℕ) (left : Range ℕ) (found : Option Move) : Type 0 where
  pub changed : Changed S k found
  pub k_inside : k < length S
  pub within : left.end ≤ length S
  pub outside : Outside S k left

module _ (S : List (List ℕ)) (freely : FreelyReduced bytes S) (k i : ℕ) where
  back_failed : (most : ℕ) → ((form : Form) → 2 * seam bytes form (word bytes S i) (word bytes S k) ≤ max (2 * most) (length (word bytes S k)))
      → 2 * most ≤ length (word bytes S k) → try_other bytes S i k ≡ None
  back_failed most counts half =
      pair_none S freely i k (λ form. omega (arith, seam-turned form (word bytes S i) (word bytes S k), counts (turned form)))

  -- a pair whose forms all failed
  pub pair_tried : {place most most' : ℕ} → Forms S k i place most → 4 ≤ place → place ≤ 4 → most' ≡ most → Tried S k i most'
  pair_tried {place} {most} f full all e =
      let same : place ≡ 4 = omega arith in
      rw e (record {
        failed = other_missed bytes byte_laws S k i (rw same at f.before);
        back = back_failed most (each_form (λ form. 2 * seam bytes form (word bytes S i) (word bytes S k) ≤ max (2 * most) (length (word bytes S k)))
            (λ j l. f.counts j (omega arith)));
      })

  -- and one that is not worth trying
  pub pair_passed : (T : List (List ℕ)) {most : ℕ} → T ≡ S → ((form : Form) → HalfAtMost form (word bytes T i) (word bytes T k)) → most ≡ 0
      → Tried S k i most
  pair_passed T same small e =
      rw e (record {
        failed = pair_none S freely k i (λ form. (rw same at (small form)).0);
        back = back_failed 0 (λ form. omega (arith, (rw same at (small form)).1));
      })

  module _ (place most : ℕ) (f : Forms S k i place most) {form : Form} (mine : form ≡ form_at place) where
    forms_next : (most' : ℕ) → most ≤ most' → 2 * seam bytes form (word bytes S i) (word bytes S k) ≤ length (word bytes S i)
        → 2 * seam bytes form (word bytes S i) (word bytes S k) ≤ max (2 * most') (length (word bytes S k)) → Forms S k i (place + 1) most'
    forms_next most' more missed counted =
        record {
          before =
              first-more-one (λ (j : ℕ). try_form bytes S k i (form_at j)) place f.before
              (form-none S freely k i (form_at place) (rw mine at missed));
          counts = λ j l. elim (dec_lt j place) [
            | yes a ↦ omega (arith, f.counts j a)
            | no a ↦ let p : j ≡ place = omega arith in rw (p, ← mine) counted
          ];
        }

    -- a form passed over
    pub forms_passed : HalfAtMost form (word bytes S i) (word bytes S k) → Forms S k i (place + 1) most
    forms_passed small = forms_next most (omega arith) small.0 (omega (arith, small.1))

    module _ (c : ℕ) (told : c ≡ seam bytes form (word bytes S i) (word bytes S k)) where
      -- a form that was counted and fails
      pub forms_counted : (most' : ℕ) → most' ≡ max most c → 2 * c ≤ length (word bytes S i) → Forms S k i (place + 1) most'
      forms_counted most' e few = forms_next most' (omega arith) (omega (arith, told)) (omega (arith, told))

      -- "The first pair and form found in this order is the move made."
      pub forms_found : {left : Range ℕ} {found : Option Move} → Others S k left found → i ≡ left.start → k < length S → i < length S → (i ≡ k → ⊥)
          → place < 4 → length (word bytes S i) < 2 * c → Some (record { changed = k; form = form; other = i }) ≡ shortening bytes S
      forms_found o e k_in i-in apart few more =
          let u : List ℕ = word bytes S i in
          let v : List ℕ = word bytes S k in
          let most_cancels : length u < 2 * seam bytes form u v = omega (arith, told) in
          let m : Move = record { changed = k; form = form_at place; other = i } in
          rw mine (sym (shortening-found bytes byte_laws S k i place m k_in o.changed.before i-in
          (first_nowhere (try_other bytes S k) i (λ j l. o.outside j (omega arith) (λ a b. omega arith))) apart few f.before
          (try_shorter bytes byte_laws S k i (form_at place)
          ((formed_shorter bytes byte_laws (form_at place) u v (freely i) (freely k)).1 (rw mine at most_cancels)))))

module _ (S : List (List ℕ)) (k : ℕ) {found : Option Move} where
  -- one slot less is left
  pub others_next : {left : Range ℕ} (next : Range ℕ) {found' : Option Move} {i : ℕ} → Others S k left found → found' ≡ None → i ≡ left.start
      → try_other bytes S k i ≡ None → next.end ≡ left.end → next.start ≡ left.start + 1 → Others S k next found'
  others_next {left} next o nothing here failed e s =
      record {
        changed = record { freely = o.changed.freely; nothing = nothing; before = o.changed.before };
        k_inside = o.k_inside;
        within = omega (arith, o.within);
        outside = λ j h out. elim (ℕ_discrete j left.start) [
          | yes p ↦ rw (p, ← here) failed
          | no n ↦ o.outside j h (λ a b. out (omega arith) (omega arith))
        ];
      }

  -- none is left
  pub others_end : {left : Range ℕ} → Others S k left found → left.end - left.start ≡ 0 → Changed S (k + 1) found
  others_end o none =
      record {
        freely = o.changed.freely;
        nothing = o.changed.nothing;
        before =
            first-more-one (try_changed bytes S) k o.changed.before
            (first_nowhere (try_other bytes S k) (length S) (λ j l. o.outside j l (λ a b. omega arith)));
      }

  -- all slots passed: nothing shortens
  pub changed_end : Changed S k found → length S ≤ k → k ≤ length S → found ≡ shortening bytes S
  unfolding shortening
  changed_end c full all =
      let same : k ≡ length S = omega arith in
      rw c.nothing (sym (rw same at c.before))
