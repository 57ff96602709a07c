-- Refusals 16, 17 and 18 are given exactly where they are meant.
use Prim.Native.Nat.{◌+◌, ◌<◌, ◌≤◌, suc, zero, ℕ}
use mathlib.Core.Path.{◌≡◌, refl, sym}
use mathlib.Core.Logic.{◌↔◌, inl, inr}
use mathlib.Core.Bool.{◌||◌, cond, false, true}
use Rattle.std.specs.Prelude.{Option, None, Some}
use mathlib.Core.List.{List, [], ◌∷◌}
use native.Mathlib.Omega.{arith}
use lib.Dec.{eqb, leb}
use lib.ListN.{length}
use borrow.Author.Tests.{le-leb, leb-false, leb-true}
use Rattle.records.specs.Refusals.{◌and_then◌, must, refusal}
use Rattle.records.proofs.ByNumber.{Never, fine_never, must-given, must_never, never_then, other_never, then_first, then_next}
use Rattle.records.proofs.Chains.{fine_first, fine_next, must_fine, must_pass}
use Rattle.syntax.specs.Trees.{Product, Spells}
use Rattle.syntax.specs.Meaning.{OutOfRangeAt, TooDeepAt, TooLongOrMalformed, WithinLimits}
use Rattle.syntax.specs.Scan.{State, complete, scan, shape_rule, start, step}
use Rattle.syntax.specs.Parse.{power_of, tree_of}
use Rattle.syntax.specs.Rules.{exponent_rule, nesting_rule, power_within, text_rules}
use Rattle.syntax.proofs.Places.{scan_step, scan_stop, shape_passed, shape_refused}
use Rattle.syntax.proofs.Parsing.{tree_well_formed}
use Rattle.syntax.proofs.Limits.{exponents_passed, exponents-refused, nesting_passed, nesting_refused}
use Rattle.records.specs.declared.refusals.Reason.TheVariants.{ExponentOutOfRange, NestingTooDeep, TextMalformed}
use Rattle.std.specs.Prelude.{Ok}
use Rattle.records.specs.Refusals.{Checked}
use Rattle.records.specs.Reasons.{number_of}
use Rattle.records.specs.declared.refusals.Reason.{Reason}
use Rattle.std.proofs.lemmas.Bool.{cases_Bool}

-- each test gives its own reason alone
scan_never : (n : Reason) → (16 ≡ number_of n → ⊥) → (r : List ℕ) (q : State) (k : ℕ) → Never n (scan q r k)
scan_never n h [] q k = elim (cases_Bool (complete q.mode q.opens)) [
  | inl e ↦ rw e (fine_never n)
  | inr e ↦ rw e (other_never n TextMalformed k h)
]
scan_never n h (b ∷ r) q k = go (step q.mode q.opens b) refl (scan_never n h r)
  where
    go : (o : Option State) → step q.mode q.opens b ≡ o → ((q : State) (k : ℕ) → Never n (scan q r k)) → Never n (scan q (b ∷ r) k)
    go None e ih = rw (scan_stop q.mode q.opens b r k e) (other_never n TextMalformed k h)
    go (Some p) e ih = rw (scan_step q.mode q.opens b r k p e) (ih p (k + 1))

shape_never : (n : Reason) → (16 ≡ number_of n → ⊥) → (text : List ℕ) → Never n (shape_rule text)
unfolding shape_rule
shape_never n h text = scan_never n h text start 0

nesting_never : (n : Reason) → (17 ≡ number_of n → ⊥) → (text : List ℕ) (room k : ℕ) → Never n (nesting_rule room text k)
nesting_never n h [] room k = fine_never n
nesting_never n h (b ∷ r) room k = elim (cases_Bool (eqb b 40 || eqb b 91)) [
  | inl e ↦ opened room e (nesting_never n h r)
  | inr e ↦ rw (e, nesting_rule) (nesting_never n h r (cond (eqb b 41 || eqb b 93) (suc room) room) (k + 1))
]
  where
    opened : (room : ℕ) → (eqb b 40 || eqb b 91) ≡ true → ((room k : ℕ) → Never n (nesting_rule room r k)) → Never n (nesting_rule room (b ∷ r) k)
    opened zero e ih = rw (e, nesting_rule) (other_never n NestingTooDeep k h)
    opened (suc m) e ih = rw (e, nesting_rule) (ih m (k + 1))

exponent_never : (n : Reason) → (18 ≡ number_of n → ⊥) → (text : List ℕ) (k : ℕ) → Never n (exponent_rule text k)
exponent_never n h [] k = fine_never n
exponent_never n h (b ∷ r) k =
    never_then n (must (power_within (power_of (b ∷ r))) ExponentOutOfRange k) (exponent_rule r (k + 1)) (must_never (power_within (power_of (b ∷ r))) n ExponentOutOfRange k h)
    (exponent_never n h r (k + 1))

module _ (text : List ℕ) where
  abbrev sized : Checked
  sized = must (leb (length text) 256) TextMalformed 0

  abbrev shaped : Checked
  shaped = shape_rule text

  abbrev nested : Checked
  nested = nesting_rule 8 text 0

  abbrev raised : Checked
  raised = exponent_rule text 0

  sized_fine : length text ≤ 256 → sized ≡ Ok tt
  sized_fine h = must_pass (leb (length text) 256) TextMalformed 0 (le-leb (length text) 256 h)

  fine_sized : sized ≡ Ok tt → length text ≤ 256
  fine_sized e = leb-true (length text) 256 (must_fine (leb (length text) 256) TextMalformed 0 e)

  shaped_fine : (t : Product) → Spells text t → shaped ≡ Ok tt
  shaped_fine t h = (shape_passed text).1 (record { tree = t; spells = h })

  fine_shaped : shaped ≡ Ok tt → Spells text (tree_of text)
  fine_shaped e = tree_well_formed text ((shape_passed text).0 e)

  -- none of the three
  pub text_passed : text_rules text ≡ Ok tt → WithinLimits text (tree_of text)
  unfolding text_rules
  text_passed e =
      let a = fine_first sized (shaped and_then nested and_then raised) e in
      let f = fine_next sized (shaped and_then nested and_then raised) e in
      let b = fine_first shaped (nested and_then raised) f in
      let g = fine_next shaped (nested and_then raised) f in
      let s = fine_shaped b in
      record {
        size = fine_sized a;
        spells = s;
        nests = (nesting_passed text (tree_of text) s).0 (fine_first nested raised g);
        exponents = (exponents_passed text (tree_of text) s).0 (fine_next nested raised g);
      }

  pub passed_text : (t : Product) → WithinLimits text t → text_rules text ≡ Ok tt
  unfolding text_rules
  passed_text t h =
      let c : nested ≡ (Ok tt) = (nesting_passed text t h.spells).1 h.nests in
      let d : raised ≡ (Ok tt) = (exponents_passed text t h.spells).1 h.exponents in
      rw (sized_fine h.size, shaped_fine t h.spells, c, d)

  pub text_16 : (k : ℕ) → (text_rules text ≡ refusal TextMalformed k) ↔ TooLongOrMalformed text k
  unfolding text_rules
  text_16 k = elim (cases_Bool (leb (length text) 256)) [
    | inl h ↦
        let l : length text ≤ 256 = leb-true (length text) 256 h in
        let (to, from) = shape_refused text k in
        let (in-shape, of-shape) = then_first TextMalformed shaped (nested and_then raised) k
        (never_then TextMalformed nested raised (nesting_never TextMalformed (λ e. absurd (omega arith)) text 8 0) (exponent_never TextMalformed (λ e. absurd (omega arith)) text 0)) in (
          λ e. inr (l, to (in-shape (rw h at e))),
          λ x. rw h (of-shape (from (elim x [ inl (o, z) ↦ absurd (omega arith) | inr (o, m) ↦ m ]))),
        )
    | inr h ↦
        let o : 256 < length text = leb-false (length text) 256 h in
        let (to, from) = must-given false TextMalformed 0 k in (
          λ e. inl (o, sym (to (rw h at e)).1),
          λ x. rw h (elim x [ inl (p, z) ↦ from (refl, sym z) | inr (p, m) ↦ absurd (omega arith) ]),
        )
  ]

  pub text_17 : (k : ℕ) → (text_rules text ≡ refusal NestingTooDeep k) ↔ TooDeepAt text k
  unfolding text_rules
  text_17 k =
      let (after-size, of_size) = then_next NestingTooDeep sized (shaped and_then nested and_then raised) k (must_never (leb (length text) 256) NestingTooDeep TextMalformed 0 (λ e. absurd (omega arith))) in
      let (after-shape, of-shape) = then_next NestingTooDeep shaped (nested and_then raised) k (shape_never NestingTooDeep (λ e. absurd (omega arith)) text) in
      let (in-nesting, of-nesting) = then_first NestingTooDeep nested raised k (exponent_never NestingTooDeep (λ e. absurd (omega arith)) text 0) in (
        λ e.
            let (a, f) = after-size e in
            let (b, g) = after-shape f in
            let s = fine_shaped b in
            record { tree = tree_of text; size = fine_sized a; spells = s; first = (nesting_refused text (tree_of text) s k).0 (in-nesting g) },
        λ x. of_size (sized_fine x.size, of-shape (shaped_fine x.tree x.spells, of-nesting ((nesting_refused text x.tree x.spells k).1 x.first))),
      )

  pub text_18 : (k : ℕ) → (text_rules text ≡ refusal ExponentOutOfRange k) ↔ OutOfRangeAt text k
  unfolding text_rules
  text_18 k =
      let (after-size, of_size) = then_next ExponentOutOfRange sized (shaped and_then nested and_then raised) k (must_never (leb (length text) 256) ExponentOutOfRange TextMalformed 0 (λ e. absurd (omega arith))) in
      let (after-shape, of-shape) = then_next ExponentOutOfRange shaped (nested and_then raised) k (shape_never ExponentOutOfRange (λ e. absurd (omega arith)) text) in
      let (after-nesting, of-nesting) = then_next ExponentOutOfRange nested raised k (nesting_never ExponentOutOfRange (λ e. absurd (omega arith)) text 8 0) in (
        λ e.
            let (a, f) = after-size e in
            let (b, g) = after-shape f in
            let (c, d) = after-nesting g in
            let s = fine_shaped b in
            record {
              tree = tree_of text;
              size = fine_sized a;
              spells = s;
              nests = (nesting_passed text (tree_of text) s).0 c;
              first = (exponents-refused text (tree_of text) s k).0 d;
            },
        λ x.
            let c : nested ≡ (Ok tt) = (nesting_passed text x.tree x.spells).1 x.nests in
            of_size (sized_fine x.size, of-shape (shaped_fine x.tree x.spells, of-nesting (c, (exponents-refused text x.tree x.spells k).1 x.first))),
      )

  -- no other reason
  pub text_never : (n : Reason) → (16 ≡ number_of n → ⊥) → (17 ≡ number_of n → ⊥) → (18 ≡ number_of n → ⊥) → Never n (text_rules text)
  unfolding text_rules
  text_never n a b c =
      never_then n sized (shaped and_then nested and_then raised) (must_never (leb (length text) 256) n TextMalformed 0 a)
      (never_then n shaped (nested and_then raised) (shape_never n a text)
      (never_then n nested raised (nesting_never n b text 8 0) (exponent_never n c text 0)))
