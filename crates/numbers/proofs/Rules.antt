-- The tests of a record of numbers, by searches for the first number that breaks a rule.
use Prim.Native.Nat.{ℕ, zero, suc, ◌+◌, ◌*◌, ◌≤◌}
use mathlib.Core.Bool.{Bool, false, not, true}
use mathlib.Core.List.{List, [], ◌∷◌}
use mathlib.Core.Path.{◌≡◌, ◌∙◌, ap, refl, sym}
use native.Mathlib.Omega.{arith}
use lib.ListN.{drop, length, take}
use Rattle.std.proofs.Common.{length-take-le}
use Rattle.std.proofs.lemmas.List.Sums.{prefix_len-le-length}
use Rattle.std.proofs.lemmas.Grind.{common_steps}
use Rattle.std.proofs.lemmas.Iterator.Adapters.{position_from-zero}
use Rattle.std.specs.List.{position, position_from, position_or_len}
use Rattle.std.specs.Option.{unwrap_or}
use Rattle.std.specs.Prelude.{None, Ok, Option, Some, Err}
use Rattle.records.specs.Refusals.{Checked, refusal}
use Rattle.records.specs.declared.refusals.Reason.{Reason}
use Rattle.records.specs.declared.refusals.Reason.TheVariants.{NumbersMalformed}
use Rattle.numbers.specs.Numbers.{is_number}
use Rattle.numbers.specs.Records.{is_zero, numbers_in}
use Rattle.numbers.specs.Refusals.{each_number, layout_rule, within_26_rule, numbers_rules}
use Rattle.records.specs.declared.answers.Refusal.{Refusal}
use Rattle.records.proofs.Chains.{then_failed, then_fine}

-- a test on each number fails at the first that breaks it
module _ (test : ℕ → Bool) (why : Reason) where
  abbrev at_first : ℕ → Option ℕ → Checked
  at_first at None = Ok tt
  at_first at (Some k) = refusal why (at + 2 * k)

  numbers_from : (at i : ℕ) (r : List ℕ) → each_number test why r (at + 2 * i) ≡ at_first at (position_from (λ x. not (test x)) i r)
  numbers_from at i [] = refl
  numbers_from at i (x ∷ r) = go (test x) refl (numbers_from at (i + 1) r)
    where
      next : at + 2 * i + 2 ≡ at + 2 * (i + 1)
      next = omega arith

      go : (t : Bool) → test x ≡ t → each_number test why r (at + 2 * (i + 1)) ≡ at_first at (position_from (λ x. not (test x)) (i + 1) r)
          → each_number test why (x ∷ r) (at + 2 * i) ≡ at_first at (position_from (λ x. not (test x)) i (x ∷ r))
      go true e rest = rw (e, next) rest
      go false e rest = rw e refl

  pub numbers_pass : (r : List ℕ) (at : ℕ) {o : Option ℕ} → o ≡ position (λ x. not (test x)) r → o ≡ None → Ok tt ≡ each_number test why r at
  numbers_pass r at found none =
      let start : at + 2 * 0 ≡ at = omega arith in
      sym (ap (each_number test why r) (sym start) ∙ numbers_from at 0 r ∙ ap (at_first at) (sym (position_from-zero (λ x. not (test x)) r) ∙ sym found ∙ none))

  pub numbers_fail : (r : List ℕ) (at : ℕ) {o : Option ℕ} {k : ℕ} {y : Checked} → o ≡ position (λ x. not (test x)) r → o ≡ Some k → y ≡ refusal why (at + 2 * k)
      → y ≡ each_number test why r at
  numbers_fail r at found there e =
      let start : at + 2 * 0 ≡ at = omega arith in
      e ∙ sym (ap (each_number test why r) (sym start) ∙ numbers_from at 0 r ∙ ap (at_first at) (sym (position_from-zero (λ x. not (test x)) r) ∙ sym found ∙ there))

-- the numbers that may stand before the zeros, and what is judged of those after them
abbrev numbers_before : ℕ → List ℕ → ℕ
numbers_before most r = position_or_len (λ x. not (is_number x)) (take most r)

abbrev zeros_from : ℕ → List ℕ → ℕ → Checked
zeros_from n r at = each_number is_zero NumbersMalformed (drop n r) (at + 2 * n)

zeros_after : (most at : ℕ) (r : List ℕ) → layout_rule most r at ≡ zeros_from (numbers_before most r) r at
zeros_after zero at [] = refl
zeros_after (suc most) at [] = refl
zeros_after zero at (x ∷ r) =
    let start : at + 0 ≡ at = omega arith in
    ap (each_number is_zero NumbersMalformed (x ∷ r)) (sym start)
zeros_after (suc most) at (x ∷ r) = go (is_number x) refl (zeros_after most (at + 2) r)
  where
    go : (t : Bool) → is_number x ≡ t → layout_rule most r (at + 2) ≡ zeros_from (numbers_before most r) r (at + 2)
        → layout_rule (suc most) (x ∷ r) at ≡ zeros_from (numbers_before (suc most) (x ∷ r)) (x ∷ r) at
    go true e rest =
        let step : suc (numbers_before most r) ≡ 1 + numbers_before most r = omega arith in
        let place : at + 2 + 2 * numbers_before most r ≡ at + 2 * suc (numbers_before most r) = omega arith in
        rw e
        (rest ∙ ap (each_number is_zero NumbersMalformed (drop (numbers_before most r) r)) place
        ∙ ap (λ (n : ℕ). zeros_from n (x ∷ r) at) step)
    go false e rest =
        let start : at + 0 ≡ at = omega arith in
        rw e (ap (each_number is_zero NumbersMalformed (x ∷ r)) (sym start))

before_first : (w : List ℕ) (k : ℕ) → position (λ x. not (is_number x)) w ≡ Some k → position_or_len (λ x. not (is_number x)) w ≡ k
before_first w k same = grind (arith, common_steps)

before_all : (w : List ℕ) → position (λ x. not (is_number x)) w ≡ None → length w ≤ position_or_len (λ x. not (is_number x)) w
before_all w same = grind (arith, common_steps)

module _ (r : List ℕ) (at : ℕ) (long : length r ≡ 64) {o : Option ℕ} (found : o ≡ position (λ x. not (is_number x)) (take 63 r)) {e : ℕ}
    (ended : e ≡ unwrap_or o 63) {p : Option ℕ} (late : p ≡ position (λ x. not (is_zero x)) (drop e r)) where
  numbers_end : numbers_before 63 r ≡ e
  numbers_end = go o found ended
    where
      go : (q : Option ℕ) → q ≡ position (λ x. not (is_number x)) (take 63 r) → e ≡ unwrap_or q 63 → numbers_before 63 r ≡ e
      go None same told =
          let all : length (take 63 r) ≤ numbers_before 63 r = before_all (take 63 r) (sym same) in
          omega (arith, all, prefix_len-le-length (λ x. not (not (is_number x))) (take 63 r), length-take-le 63 r (omega arith), told)
      go (Some k) same told = before_first (take 63 r) k (sym same) ∙ sym told

  from_end : layout_rule 63 r at ≡ zeros_from e r at
  from_end = zeros_after 63 at r ∙ ap (λ (n : ℕ). zeros_from n r at) numbers_end

  pub laid_out : p ≡ None → Ok tt ≡ layout_rule 63 r at
  laid_out none = numbers_pass is_zero NumbersMalformed (drop e r) (at + 2 * e) late none ∙ sym from_end

  pub laid_late : {k : ℕ} {y : Checked} → p ≡ Some k → y ≡ refusal NumbersMalformed (at + 2 * (e + k)) → y ≡ layout_rule 63 r at
  laid_late {k} there told =
      let place : at + 2 * (e + k) ≡ at + 2 * e + 2 * k = omega arith in
      numbers_fail is_zero NumbersMalformed (drop e r) (at + 2 * e) late there (told ∙ ap (refusal NumbersMalformed) place) ∙ sym from_end

-- a record: its layout, and on the way back its letters
module _ (bytes : List ℕ) (at : ℕ) {numbers : List ℕ} (read : numbers ≡ numbers_in bytes) {x : Checked} (laid : x ≡ layout_rule 63 numbers at) where
  judged : x ≡ layout_rule 63 (numbers_in bytes) at
  judged = laid ∙ ap (λ (r : List ℕ). layout_rule 63 r at) read

  pub refused_layout : {f : Refusal} (back : Bool) → x ≡ Err f → x ≡ numbers_rules back bytes at
  unfolding numbers_rules
  refused_layout back bad = then_failed (layout_rule 63 (numbers_in bytes) at) _ judged bad

  pub layout_alone : {back : Bool} → back ≡ false → x ≡ Ok tt → x ≡ numbers_rules back bytes at
  unfolding numbers_rules
  layout_alone alone fine = then_fine (layout_rule 63 (numbers_in bytes) at) _ judged fine (rw alone fine)

  pub on_the_way_back : {back : Bool} {y : Checked} → back ≡ true → x ≡ Ok tt → y ≡ within_26_rule numbers at → y ≡ numbers_rules back bytes at
  unfolding numbers_rules
  on_the_way_back is_back fine told =
      then_fine (layout_rule 63 (numbers_in bytes) at) _ judged fine
      (rw is_back (told ∙ ap (λ (r : List ℕ). within_26_rule r at) read))
