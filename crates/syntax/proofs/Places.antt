-- The scan's verdict is the meant one: it accepts the well-formed texts, and refuses the others at the first byte with which no
-- well-formed text can go on, or at their end.
use Prim.Native.Nat.{◌+◌, ◌<◌, ◌≤◌, suc, ℕ}
use mathlib.Core.Path.{◌∙◌, ◌≡◌, ap, refl, subst, sym}
use mathlib.Core.Logic.{◌↔◌, ◌⊎◌, inl, inr}
use mathlib.Core.Bool.{false}
use Rattle.std.specs.Prelude.{Option, None, Some}
use mathlib.Core.List.{List, [], ◌++◌, ◌∷◌, append_assoc}
use native.Mathlib.Omega.{arith}
use native.Mathlib.Decide.{dec_lt}
use lib.ListN.{drop, length, take, take-append-drop}
use lib.Seq.{take-length, take-take}
use Rattle.records.specs.Refusals.{refusal}
use Rattle.syntax.specs.Trees.{Begins, MalformedAt, WellFormed}
use Rattle.syntax.specs.Scan.{State, complete, scan, shape_rule, start, state, state_after, step}
use Rattle.syntax.specs.declared.Open.{Open}
use Rattle.syntax.specs.declared.Open.TheVariants.{First, Round, Second}
use Rattle.syntax.specs.declared.Mode.{Mode}
use Rattle.syntax.specs.declared.Mode.TheVariants.{After, Caret, Minus, OneDigit, Ready}
use Rattle.syntax.proofs.Scanning.{Accepted, Between, after-step, after_stop, complete_between, spelled-accepted, step_close}
use Rattle.syntax.proofs.Sound.{accepted_well_formed}
use Rattle.records.specs.declared.refusals.Reason.TheVariants.{TextMalformed}
use Rattle.std.specs.Prelude.{Err, Ok}
use Rattle.records.specs.Refusals.{Checked}
use Rattle.std.proofs.lemmas.Bool.{both_ways, cases_Bool}

-- the state after one text and then another
scan_on : (u v : List ℕ) (q q' : State) → state_after q u ≡ Some q' → state_after q (u ++ v) ≡ state_after q' v
scan_on [] v q q' e = let k : q ≡ q' = cc in ap (λ (x : State). state_after x v) k
scan_on (b ∷ u) v q q' e = go (step q.mode q.opens b) refl (scan_on u v)
  where
    go : (o : Option State) → step q.mode q.opens b ≡ o → ((q q' : State) → state_after q u ≡ Some q' → state_after q (u ++ v) ≡ state_after q' v) → state_after q (b ∷ (u ++ v)) ≡ state_after q' v
    go None h ih = cc (sym (after_stop q.mode q.opens b u h) ∙ e)
    go (Some p) h ih = after-step q.mode q.opens b (u ++ v) p h ∙ ih p q' (sym (after-step q.mode q.opens b u p h) ∙ e)

-- a text that is gone through was gone through in its beginning
scan_back : (u v : List ℕ) (q q' : State) → state_after q (u ++ v) ≡ Some q' → (p : State) × (state_after q u ≡ Some p)
scan_back [] v q q' e = (q, refl)
scan_back (b ∷ u) v q q' e = go (step q.mode q.opens b) refl (scan_back u v)
  where
    go : (o : Option State) → step q.mode q.opens b ≡ o → ((q q' : State) → state_after q (u ++ v) ≡ Some q' → (p : State) × (state_after q u ≡ Some p)) → (p : State) × (state_after q (b ∷ u) ≡ Some p)
    go None h ih = cc (sym (after_stop q.mode q.opens b (u ++ v) h) ∙ e)
    go (Some x) h ih =
        let (p, f) = ih x q' (sym (after-step q.mode q.opens b (u ++ v) x h) ∙ e) in
        (p, after-step q.mode q.opens b u x h ∙ f)

-- what closes the open signs
abbrev closers : List Open → List ℕ
closers [] = []
closers (Round ∷ s) = 41 ∷ closers s
closers (First ∷ s) = 44 ∷ 93 ∷ closers s
closers (Second ∷ s) = 93 ∷ closers s

closes : (m : Mode) (s : List Open) → Between m → Accepted (state m s) (closers s)
closes m [] h = record { last = state m []; reaches = refl; ends = complete_between m h }
closes m (Round ∷ s) h =
    let a = closes After s tt in
    record { last = a.last; reaches = after-step m (Round ∷ s) 41 (closers s) _ (step_close m Round s h) ∙ a.reaches; ends = a.ends }
closes m (First ∷ s) h =
    let a = closes After s tt in
    record { last = a.last; reaches = after-step m (First ∷ s) 44 (93 ∷ closers s) _ (step_close m First s h) ∙ a.reaches; ends = a.ends }
closes m (Second ∷ s) h =
    let a = closes After s tt in
    record { last = a.last; reaches = after-step m (Second ∷ s) 93 (closers s) _ (step_close m Second s h) ∙ a.reaches; ends = a.ends }

-- every state can be brought to an end
finish : (m : Mode) (s : List Open) → (r : List ℕ) × Accepted (state m s) r
finish Ready s = (closers s, closes Ready s tt)
finish After s = (closers s, closes After s tt)
finish Caret s =
    let a = closes OneDigit s tt in
    (48 ∷ closers s, record { last = a.last; reaches = a.reaches; ends = a.ends })
finish Minus s =
    let a = closes OneDigit s tt in
    (48 ∷ closers s, record { last = a.last; reaches = a.reaches; ends = a.ends })
finish OneDigit s = (closers s, closes OneDigit s tt)

pub well_formed-accepted : (r : List ℕ) → WellFormed r → Accepted start r
well_formed-accepted r w = rw w.spells.spelling at (spelled-accepted w.tree w.spells.proper)

-- the beginnings of well-formed texts are the texts that the scan goes through
pub scan_begins : (r : List ℕ) (q : State) → state_after start r ≡ Some q → Begins r
scan_begins r q e =
    let (v, a) = finish q.mode q.opens in
    record {
      rest = v;
      whole = accepted_well_formed (r ++ v) (record { last = a.last; reaches = scan_on r v start q e ∙ a.reaches; ends = a.ends });
    }

pub begins-scan : (r : List ℕ) → Begins r → (q : State) × (state_after start r ≡ Some q)
begins-scan r b =
    let a = well_formed-accepted (r ++ b.rest) b.whole in
    scan_back r b.rest start a.last a.reaches

begins_shorter : (r : List ℕ) (i j : ℕ) → i ≤ j → Begins (take j r) → Begins (take i r)
begins_shorter r i j h b =
    let e : take i r ++ drop i (take j r) ≡ take j r = ap (λ (l : List ℕ). l ++ drop i (take j r)) (sym (take-take i j r h)) ∙ take-append-drop i (take j r) in
    record {
      rest = drop i (take j r) ++ b.rest;
      whole = rw (← append_assoc (take i r) (drop i (take j r)) b.rest, e) b.whole;
    }

-- where the scan stops
record Stopped (q : State) (r : List ℕ) (i : ℕ) : Type 0 where
  within : i ≤ length r
  last : State
  reaches : state_after q (take i r) ≡ Some last
  there : i < length r → state_after q (take (suc i) r) ≡ None
  ends : i ≡ length r → complete last.mode last.opens ≡ false

pub scan_step : (m : Mode) (s : List Open) (b : ℕ) (r : List ℕ) (k : ℕ) (p : State) → step m s b ≡ Some p → scan (state m s) (b ∷ r) k ≡ scan p r (k + 1)
scan_step m s b r k p e = rw e

pub scan_stop : (m : Mode) (s : List Open) (b : ℕ) (r : List ℕ) (k : ℕ) → step m s b ≡ None → scan (state m s) (b ∷ r) k ≡ refusal TextMalformed k
scan_stop m s b r k e = rw e

scan_says : (r : List ℕ) (q : State) (k : ℕ) → (Accepted q r × (scan q r k ≡ Ok tt)) ⊎ ((i : ℕ) × Stopped q r i × (scan q r k ≡ refusal TextMalformed (k + i)))
scan_says [] q k = elim (cases_Bool (complete q.mode q.opens)) [
  | inl h ↦ inl (record { last = q; reaches = refl; ends = h }, rw h)
  | inr h ↦ inr (0, record { within = omega arith; last = q; reaches = refl; there = λ x. absurd (omega arith); ends = λ x. h }, rw h (ap (refusal TextMalformed) (omega arith)))
]
scan_says (b ∷ r) q k = go (step q.mode q.opens b) refl (scan_says r)
  where
    next_place : k ≡ k + 0
    next_place = omega arith

    further : (i : ℕ) → k + 1 + i ≡ k + suc i
    further i = omega arith

    go : (o : Option State) → step q.mode q.opens b ≡ o
        → ((q : State) (k : ℕ) → (Accepted q r × (scan q r k ≡ Ok tt)) ⊎ ((i : ℕ) × Stopped q r i × (scan q r k ≡ refusal TextMalformed (k + i))))
        → (Accepted q (b ∷ r) × (scan q (b ∷ r) k ≡ Ok tt)) ⊎ ((i : ℕ) × Stopped q (b ∷ r) i × (scan q (b ∷ r) k ≡ refusal TextMalformed (k + i)))
    go None e ih =
        inr (
          0,
          record { within = omega arith; last = q; reaches = refl; there = λ x. after_stop q.mode q.opens b [] e; ends = λ x. absurd (omega arith) },
          scan_stop q.mode q.opens b r k e ∙ ap (refusal TextMalformed) next_place,
        )
    go (Some p) e ih = elim (ih p (k + 1)) [
      | inl (a, s) ↦ inl (record { last = a.last; reaches = after-step q.mode q.opens b r p e ∙ a.reaches; ends = a.ends }, scan_step q.mode q.opens b r k p e ∙ s)
      | inr (i, t, s) ↦
          inr (
            suc i,
            record {
              within = omega (arith, t.within);
              last = t.last;
              reaches = after-step q.mode q.opens b (take i r) p e ∙ t.reaches;
              there = λ x. after-step q.mode q.opens b (take (suc i) r) p e ∙ t.there (omega arith);
              ends = λ x. t.ends (omega arith);
            },
            scan_step q.mode q.opens b r k p e ∙ s ∙ ap (refusal TextMalformed) (further i),
          )
    ]

stopped-malformed : (r : List ℕ) (i : ℕ) → Stopped start r i → MalformedAt r i
stopped-malformed r i t =
    record {
      within = t.within;
      before = scan_begins (take i r) t.last t.reaches;
      there = λ h b. cc (sym (t.there h) ∙ (begins-scan (take (suc i) r) b).1);
      malformed = λ w. elim (dec_lt i (length r)) [
        | yes h ↦ cc (sym (t.there h) ∙ (scan_back (take (suc i) r) (drop (suc i) r) start (well_formed-accepted r w).last (rw take-append-drop (well_formed-accepted r w).reaches)).1)
        | no n ↦
            let z : i ≡ length r = omega (arith, t.within) in
            let e : take i r ≡ r = rw z (take-length r) in
            let a = well_formed-accepted r w in
            let k : t.last ≡ a.last = cc (sym t.reaches ∙ ap (state_after start) e ∙ a.reaches) in
            both_ways _ (t.ends z) (rw k a.ends)
      ];
    }

malformed_once : (r : List ℕ) (i j : ℕ) → MalformedAt r i → MalformedAt r j → i ≡ j
malformed_once r i j a b = elim (dec_lt i j) [
  | yes h ↦ absurd (a.there (omega (arith, b.within)) (begins_shorter r (suc i) j h b.before))
  | no n ↦ elim (dec_lt j i) [
    | yes h ↦ absurd (b.there (omega (arith, a.within)) (begins_shorter r (suc j) i h a.before))
    | no m ↦ omega arith
  ]
]

passed_or : {k : ℕ} → Ok tt ≡ refusal TextMalformed k → ⊥
passed_or e = cc

abbrev place_of : Checked → ℕ
place_of (Ok _) = 0
place_of (Err f) = f.place

same_place : {i j : ℕ} → refusal TextMalformed i ≡ refusal TextMalformed j → i ≡ j
same_place e = ap place_of e

-- 16 is not given exactly where the text is well formed
pub shape_passed : (text : List ℕ) → (shape_rule text ≡ Ok tt) ↔ WellFormed text
unfolding shape_rule
shape_passed text = elim (scan_says text start 0) [
  | inl (a, s) ↦ (λ e. accepted_well_formed text a, λ w. s)
  | inr (i, t, s) ↦ (λ e. absurd (passed_or (sym e ∙ s)), λ w. absurd ((stopped-malformed text i t).malformed w))
]

-- and is given at a place exactly where the card means that place
pub shape_refused : (text : List ℕ) (k : ℕ) → (shape_rule text ≡ refusal TextMalformed k) ↔ MalformedAt text k
unfolding shape_rule
shape_refused text k = elim (scan_says text start 0) [
  | inl (a, s) ↦ (λ e. absurd (passed_or (sym s ∙ e)), λ m. absurd (m.malformed (accepted_well_formed text a)))
  | inr (i, t, s) ↦
      let p : scan start text 0 ≡ refusal TextMalformed i = s ∙ ap (refusal TextMalformed) (omega arith) in (
        λ e. subst (MalformedAt text) (same_place (sym p ∙ e)) (stopped-malformed text i t),
        λ m. p ∙ ap (refusal TextMalformed) (malformed_once text i k (stopped-malformed text i t) m),
      )
]
