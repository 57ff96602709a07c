-- 17 and 18 walk over the signs and the carets of a text in their order, and are given at the first that is out of its limit.
use Prim.Native.Nat.{◌+◌, ◌≤◌, suc, zero, ℕ}
use mathlib.Core.Path.{◌∙◌, ◌≡◌, ap, refl, sym}
use mathlib.Core.Logic.{◌↔◌, inl, inr}
use mathlib.Core.Bool.{Bool, ◌||◌, false, true}
use mathlib.Core.List.{List, [], ◌++◌, ◌∷◌, append_assoc, append-nil}
use native.Mathlib.Omega.{arith}
use lib.Dec.{eqb, leb}
use lib.ListN.{length, length-append}
use borrow.Author.Tests.{le-leb, leb-false, leb-true, lt-leb}
use Rattle.records.specs.Records.{is_letter}
use Rattle.records.specs.Refusals.{◌and_then◌, must, refusal}
use Rattle.records.proofs.Chains.{fine_first, fine_next, must_fine}
use Rattle.syntax.specs.Trees.{Digits, Power, Product, Proper, ProperDigits, ProperPower, Spells, bracket, group, is_digit, letter, nothing, one, plain, raised, spelled, spelled_digits, spelled_minus, spelled_power, two}
use Rattle.syntax.specs.TreeWords.{number_of}
use Rattle.syntax.specs.Limits.{FirstOver, NoneOver, Occurrence, after, bracket_size, caret, carets, carets_from, group_size, signs, signs_from}
use Rattle.syntax.specs.Within.{NestsWithin, PowerWithin, PowersWithin}
use Rattle.syntax.specs.Parse.{power_of}
use Rattle.syntax.specs.Rules.{exponent_rule, nesting_rule}
use Rattle.syntax.proofs.Bytes.{digit_no_sign, letter_no_sign}
use Rattle.syntax.proofs.Parsing.{Quiet, Stops, power_of_lem, quiet_spelled}
use Rattle.records.specs.declared.refusals.Reason.TheVariants.{ExponentOutOfRange, NestingTooDeep}
use Rattle.std.specs.Prelude.{Err, Ok}
use Rattle.records.specs.Refusals.{Checked}
use Rattle.records.specs.declared.refusals.Reason.{Reason}
use Rattle.std.proofs.lemmas.Bool.{cases_Bool}

-- the first occurrence whose number is over a limit is refused
abbrev each_occurrence : Reason → ℕ → List Occurrence → Checked
each_occurrence why limit [] = Ok tt
each_occurrence why limit (m ∷ ms) = must (leb m.number limit) why m.place and_then each_occurrence why limit ms

then_assoc : (a b c : Checked) → (a and_then b) and_then c ≡ a and_then (b and_then c)
then_assoc (Ok _) b c = refl
then_assoc (Err f) b c = refl

then_end : (a : Checked) → a and_then (Ok tt) ≡ a
then_end (Ok _) = refl
then_end (Err f) = refl

module _ (why : Reason) (limit : ℕ) where
  abbrev each : List Occurrence → Checked
  each ms = each_occurrence why limit ms

  occurrences_append : (ms ns : List Occurrence) → each (ms ++ ns) ≡ each ms and_then each ns
  occurrences_append [] ns = refl
  occurrences_append (m ∷ ms) ns =
      let a : Checked = must (leb m.number limit) why m.place in
      ap (◌and_then◌ a) (occurrences_append ms ns) ∙ sym (then_assoc a (each ms) (each ns))

  -- one row of marks, then another, where the scans go on after each
  occurrences_then : (ms ns : List Occurrence) (a b c : Checked) → a ≡ each ms and_then b → b ≡ each ns and_then c → a ≡ each (ms ++ ns) and_then c
  occurrences_then ms ns a b c e f =
      e ∙ ap (◌and_then◌ (each ms)) f ∙ sym (then_assoc (each ms) (each ns) c) ∙ ap (λ (x : Checked). x and_then c) (sym (occurrences_append ms ns))

  occurrences_both : (ms ns : List Occurrence) → (each (ms ++ ns) ≡ Ok tt) ↔ ((each ms ≡ Ok tt) × (each ns ≡ Ok tt))
  occurrences_both ms ns = (
    λ e. (fine_first (each ms) (each ns) (sym (occurrences_append ms ns) ∙ e), fine_next (each ms) (each ns) (sym (occurrences_append ms ns) ∙ e)),
    λ x. occurrences_append ms ns ∙ rw (x.0, x.1),
  )

  occurrences_passed : (ms : List Occurrence) → (each ms ≡ Ok tt) ↔ NoneOver limit ms
  occurrences_passed [] = (λ e. tt, λ x. refl)
  occurrences_passed (m ∷ ms) =
      let a : Checked = must (leb m.number limit) why m.place in
      let (to, from) = occurrences_passed ms in (
        λ e. (leb-true m.number limit (must_fine (leb m.number limit) why m.place (fine_first a (each ms) e)), to (fine_next a (each ms) e)),
        λ x. rw (le-leb m.number limit x.0) (from x.1),
      )

  passed_or : {k : ℕ} → Ok tt ≡ refusal why k → ⊥
  passed_or e = cc

  abbrev place_of : Checked → ℕ
  place_of (Ok _) = 0
  place_of (Err f) = f.place

  occurrences_refused : (ms : List Occurrence) (k : ℕ) → (each ms ≡ refusal why k) ↔ FirstOver limit ms k
  occurrences_refused [] k = (λ e. passed_or e, λ x. absurd x)
  occurrences_refused (m ∷ ms) k = elim (cases_Bool (leb m.number limit)) [
    | inl h ↦
        let l : m.number ≤ limit = leb-true m.number limit h in
        let (to, from) = occurrences_refused ms k in (
          λ e. inr (l, to (rw h at e)),
          λ x. rw h (from (elim x [ inl (o, p) ↦ absurd (omega arith) | inr (o, f) ↦ f ])),
        )
    | inr h ↦ (
      λ e. inl (leb-false m.number limit h, ap place_of (rw h at e)),
      λ x. rw h (elim x [ inl (o, p) ↦ ap (refusal why) p | inr (o, f) ↦ absurd (omega (arith, leb-false m.number limit h)) ]),
    )
  ]

-- a byte that neither opens nor closes
abbrev Calm : ℕ → Type 0
Calm b = (eqb b 40 ≡ false) × (eqb b 91 ≡ false) × (eqb b 41 ≡ false) × (eqb b 93 ≡ false)

calm : (n b : ℕ) (r : List ℕ) (k : ℕ) → Calm b → nesting_rule n (b ∷ r) k ≡ nesting_rule n r (k + 1)
calm n b r k h =
    let e : (eqb b 40 || eqb b 91) ≡ false = rw (h.0, h.1) in
    let f : (eqb b 41 || eqb b 93) ≡ false = rw (h.2, h.3) in
    rw (e, nesting_rule, f)

calm_letter : (x : ℕ) → is_letter x ≡ true → Calm x
calm_letter x h = (letter_no_sign x 40 h refl, letter_no_sign x 91 h refl, letter_no_sign x 41 h refl, letter_no_sign x 93 h refl)

calm_digit : (x : ℕ) → is_digit x ≡ true → Calm x
calm_digit x h = (digit_no_sign x 40 h refl, digit_no_sign x 91 h refl, digit_no_sign x 41 h refl, digit_no_sign x 93 h refl)

-- the same scan from an equal place
nest_at : (n : ℕ) (r : List ℕ) (j k : ℕ) → j ≡ k → nesting_rule n r j ≡ nesting_rule n r k
nest_at n r j k e = ap (nesting_rule n r) e

nest_digits : (n : ℕ) (d : Digits) (r : List ℕ) (k : ℕ) → ProperDigits d
    → nesting_rule n (spelled_digits d ++ r) k ≡ nesting_rule n r (k + length (spelled_digits d))
nest_digits n (one d) r k h = calm n d r k (calm_digit d h)
nest_digits n (two d e) r k h =
    calm n d (e ∷ r) k (calm_digit d h.0) ∙ calm n e r (k + 1) (calm_digit e h.1) ∙ nest_at n r (k + 1 + 1) (k + 2) (omega arith)

nest_power : (n : ℕ) (p : Power) (r : List ℕ) (k : ℕ) → ProperPower p
    → nesting_rule n (spelled_power p ++ r) k ≡ nesting_rule n r (k + length (spelled_power p))
nest_power n plain r k h = nest_at n r k (k + 0) (omega arith)
nest_power n (raised true d) r k h = nest_digits n d r (k + 1 + 1) h ∙ nest_at n r _ _ (omega arith)
nest_power n (raised false d) r k h = nest_digits n d r (k + 1) h ∙ nest_at n r _ _ (omega arith)

-- a power and the product after it
nest_tail : (n limit : ℕ) (p : Power) (t : Product) (r : List ℕ) (j k : ℕ) (ms : List Occurrence) → ProperPower p → j + length (spelled_power p) ≡ k
    → nesting_rule n (spelled t ++ r) k ≡ each_occurrence NestingTooDeep limit ms and_then nesting_rule n r (k + length (spelled t))
    → nesting_rule n ((spelled_power p ++ spelled t) ++ r) j ≡ each_occurrence NestingTooDeep limit ms and_then nesting_rule n r (k + length (spelled t))
nest_tail n limit p t r j k ms h e f =
    ap (λ (w : List ℕ). nesting_rule n w j) (append_assoc (spelled_power p) (spelled t) r) ∙ nest_power n p (spelled t ++ r) j h
    ∙ nest_at n (spelled t ++ r) _ _ e ∙ f

module _ (limit : ℕ) where
  -- 17 from a sign on: so many more may stand open, and so many do
  sign_open : (n d k : ℕ) (b : Checked) → suc n + d ≡ limit → must (leb (d + 1) limit) NestingTooDeep k and_then b ≡ b
  sign_open n d k b l =
      let h : leb (d + 1) limit ≡ true = le-leb (d + 1) limit (omega arith) in
      rw h

  first_sign : (n d k : ℕ) (a b c : Checked) → suc n + d ≡ limit → a ≡ b and_then c → a ≡ (must (leb (d + 1) limit) NestingTooDeep k and_then b) and_then c
  first_sign n d k a b c l e = rw (sign_open n d k b l) e

  last_sign : (d k : ℕ) (b c : Checked) → d ≡ limit → refusal NestingTooDeep k ≡ (must (leb (d + 1) limit) NestingTooDeep k and_then b) and_then c
  last_sign d k b c l =
      let h : leb (d + 1) limit ≡ false = lt-leb (d + 1) limit (omega arith) in
      rw h

  nest_occurrences : (t : Product) → Proper t → (n d : ℕ) → n + d ≡ limit → (r : List ℕ) (k : ℕ)
      → nesting_rule n (spelled t ++ r) k ≡ each_occurrence NestingTooDeep limit (signs_from d k t) and_then nesting_rule n r (k + length (spelled t))
  nest_occurrences nothing h n d l r k = nest_at n r k (k + 0) (omega arith)
  nest_occurrences (letter x p t) h n d l r k =
      let s : ℕ = after k 1 p in
      calm n x ((spelled_power p ++ spelled t) ++ r) k (calm_letter x h.0)
      ∙ nest_tail n limit p t r (k + 1) s (signs_from d s t) h.1 refl (nest_occurrences t h.2 n d l r s)
      ∙ ap (λ (j : ℕ). each_occurrence NestingTooDeep limit (signs_from d s t) and_then nesting_rule n r j) (omega (arith, length-append (spelled_power p) (spelled t)))
  nest_occurrences (group u p t) h zero d l r k = last_sign d k _ _ (omega arith)
  nest_occurrences (group u p t) h (suc n) d l r k =
      let z : List ℕ = (spelled_power p ++ spelled t) ++ r in
      let s : ℕ = after k (group_size u) p in
      let e : length (spelled u ++ (41 ∷ (spelled_power p ++ spelled t))) ≡ length (spelled u) + suc (length (spelled_power p) + length (spelled t)) =
      rw (length-append, length-append) in
      first_sign n d k _ _ _ l
      (ap (λ (w : List ℕ). nesting_rule n w (k + 1)) (append_assoc (spelled u) (41 ∷ (spelled_power p ++ spelled t)) r)
      ∙ occurrences_then NestingTooDeep limit (signs_from (d + 1) (k + 1) u) (signs_from d s t) _ (nesting_rule n (41 ∷ z) (k + 1 + length (spelled u))) _
      (nest_occurrences u h.0 n (d + 1) (omega arith) (41 ∷ z) (k + 1))
      (nest_tail (suc n) limit p t r (k + 1 + length (spelled u) + 1) s (signs_from d s t) h.1 (omega arith) (nest_occurrences t h.2 (suc n) d l r s))
      ∙ ap (λ (j : ℕ). each_occurrence NestingTooDeep limit (signs_from (d + 1) (k + 1) u ++ signs_from d s t) and_then nesting_rule (suc n) r j) (omega arith))
  nest_occurrences (bracket u v p t) h zero d l r k = last_sign d k _ _ (omega arith)
  nest_occurrences (bracket u v p t) h (suc n) d l r k =
      let z : List ℕ = (spelled_power p ++ spelled t) ++ r in
      let y : List ℕ = 93 ∷ (spelled_power p ++ spelled t) in
      let m : ℕ = k + group_size u in
      let s : ℕ = after k (bracket_size u v) p in
      let e : length (spelled u ++ (44 ∷ (spelled v ++ y))) ≡ length (spelled u) + suc (length (spelled v) + suc (length (spelled_power p) + length (spelled t))) =
      rw (length-append, length-append, length-append) in
      first_sign n d k _ _ _ l
      (ap (λ (w : List ℕ). nesting_rule n w (k + 1))
      (append_assoc (spelled u) (44 ∷ (spelled v ++ y)) r ∙ ap (λ (w : List ℕ). spelled u ++ (44 ∷ w)) (append_assoc (spelled v) y r))
      ∙ occurrences_then NestingTooDeep limit (signs_from (d + 1) (k + 1) u) (signs_from (d + 1) m v ++ signs_from d s t) _
      (nesting_rule n (44 ∷ (spelled v ++ (93 ∷ z))) (k + 1 + length (spelled u))) _
      (nest_occurrences u h.0 n (d + 1) (omega arith) (44 ∷ (spelled v ++ (93 ∷ z))) (k + 1))
      (nest_at n (spelled v ++ (93 ∷ z)) _ m (omega arith)
      ∙ occurrences_then NestingTooDeep limit (signs_from (d + 1) m v) (signs_from d s t) _ (nesting_rule n (93 ∷ z) (m + length (spelled v))) _
      (nest_occurrences v h.1 n (d + 1) (omega arith) (93 ∷ z) m)
      (nest_tail (suc n) limit p t r (m + length (spelled v) + 1) s (signs_from d s t) h.2 (omega arith) (nest_occurrences t h.3 (suc n) d l r s)))
      ∙ ap (λ (j : ℕ). each_occurrence NestingTooDeep limit (signs_from (d + 1) (k + 1) u ++ (signs_from (d + 1) m v ++ signs_from d s t)) and_then nesting_rule (suc n) r j) (omega arith))

  sign_shut : (d k : ℕ) (b : Checked) → d ≡ limit → must (leb (d + 1) limit) NestingTooDeep k and_then b ≡ Ok tt → ⊥
  sign_shut d k b l e =
      let h : leb (d + 1) limit ≡ false = lt-leb (d + 1) limit (omega arith) in
      passed_or NestingTooDeep limit (sym (rw h at e))

  signs-within : (t : Product) (n d : ℕ) → n + d ≡ limit → (k : ℕ) → (each_occurrence NestingTooDeep limit (signs_from d k t) ≡ Ok tt) ↔ NestsWithin n t
  signs-within nothing n d l k = (λ e. tt, λ x. refl)
  signs-within (letter x p t) n d l k = signs-within t n d l (after k 1 p)
  signs-within (group u p t) zero d l k = (λ e. sign_shut d k _ (omega arith) e, λ x. absurd x)
  signs-within (group u p t) (suc n) d l k =
      let ms : List Occurrence = signs_from (d + 1) (k + 1) u in
      let ns : List Occurrence = signs_from d (after k (group_size u) p) t in
      let (a, b) = signs-within u n (d + 1) (omega arith) (k + 1) in
      let (f, g) = signs-within t (suc n) d l (after k (group_size u) p) in
      let (to, from) = occurrences_both NestingTooDeep limit ms ns in
      let o = sign_open n d k (each_occurrence NestingTooDeep limit (ms ++ ns)) l in (
        λ e. (a (to (sym o ∙ e)).0, f (to (sym o ∙ e)).1),
        λ x. o ∙ from (b x.0, g x.1),
      )
  signs-within (bracket u v p t) zero d l k = (λ e. sign_shut d k _ (omega arith) e, λ x. absurd x)
  signs-within (bracket u v p t) (suc n) d l k =
      let ms : List Occurrence = signs_from (d + 1) (k + 1) u in
      let os : List Occurrence = signs_from (d + 1) (k + group_size u) v in
      let ns : List Occurrence = signs_from d (after k (bracket_size u v) p) t in
      let (a, b) = signs-within u n (d + 1) (omega arith) (k + 1) in
      let (c, i) = signs-within v n (d + 1) (omega arith) (k + group_size u) in
      let (f, g) = signs-within t (suc n) d l (after k (bracket_size u v) p) in
      let (to, from) = occurrences_both NestingTooDeep limit ms (os ++ ns) in
      let (to-too, from-too) = occurrences_both NestingTooDeep limit os ns in
      let o = sign_open n d k (each_occurrence NestingTooDeep limit (ms ++ (os ++ ns))) l in (
        λ e. (a (to (sym o ∙ e)).0, c (to-too (to (sym o ∙ e)).1).0, f (to-too (to (sym o ∙ e)).1).1),
        λ x. o ∙ from (b x.0, from-too (i x.1, g x.2)),
      )

nesting_occurrences : (text : List ℕ) (t : Product) → Spells text t → nesting_rule 8 text 0 ≡ each_occurrence NestingTooDeep 8 (signs t)
nesting_occurrences text t h =
    ap (λ (w : List ℕ). nesting_rule 8 w 0) (sym h.spelling ∙ sym (append-nil (spelled t))) ∙ nest_occurrences 8 t h.proper 8 0 refl [] 0
    ∙ then_end (each_occurrence NestingTooDeep 8 (signs t))

pub nesting_passed : (text : List ℕ) (t : Product) → Spells text t → (nesting_rule 8 text 0 ≡ Ok tt) ↔ NoneOver 8 (signs t)
nesting_passed text t h =
    let (to, from) = occurrences_passed NestingTooDeep 8 (signs t) in
    (λ e. to (sym (nesting_occurrences text t h) ∙ e), λ x. nesting_occurrences text t h ∙ from x)

-- the same by the parts of the tree
pub none-nests : (t : Product) → NoneOver 8 (signs t) ↔ NestsWithin 8 t
none-nests t =
    let (to, from) = occurrences_passed NestingTooDeep 8 (signs t) in
    let (a, b) = signs-within 8 t 8 0 refl 0 in
    (λ x. a (from x), λ x. to (b x))

pub nesting_refused : (text : List ℕ) (t : Product) → Spells text t → (k : ℕ) → (nesting_rule 8 text 0 ≡ refusal NestingTooDeep k) ↔ FirstOver 8 (signs t) k
nesting_refused text t h k =
    let (to, from) = occurrences_refused NestingTooDeep 8 (signs t) k in
    (λ e. to (sym (nesting_occurrences text t h) ∙ e), λ x. nesting_occurrences text t h ∙ from x)

-- a byte that is no caret
no_caret : (b : ℕ) (r : List ℕ) (k : ℕ) → eqb b 94 ≡ false → exponent_rule (b ∷ r) k ≡ exponent_rule r (k + 1)
no_caret b [] k h = refl
no_caret b (c ∷ r) k h =
    let e : power_of (b ∷ c ∷ r) ≡ plain = rw h in
    rw e

exponent_at : (r : List ℕ) (j k : ℕ) → j ≡ k → exponent_rule r j ≡ exponent_rule r k
exponent_at r j k e = ap (exponent_rule r) e

exponent_digits : (d : Digits) (r : List ℕ) (k : ℕ) → ProperDigits d → exponent_rule (spelled_digits d ++ r) k ≡ exponent_rule r (k + length (spelled_digits d))
exponent_digits (one d) r k h = no_caret d r k (digit_no_sign d 94 h refl)
exponent_digits (two d e) r k h =
    no_caret d (e ∷ r) k (digit_no_sign d 94 h.0 refl) ∙ no_caret e r (k + 1) (digit_no_sign e 94 h.1 refl)
    ∙ exponent_at r (k + 1 + 1) (k + 2) (omega arith)

exponent_sign : (minus : Bool) (d : Digits) (r : List ℕ) (k : ℕ) → ProperDigits d
    → exponent_rule ((spelled_minus minus ++ spelled_digits d) ++ r) k ≡ exponent_rule r (k + length (spelled_minus minus ++ spelled_digits d))
exponent_sign true d r k h = no_caret 45 (spelled_digits d ++ r) k refl ∙ exponent_digits d r (k + 1) h ∙ exponent_at r _ _ (omega arith)
exponent_sign false d r k h = exponent_digits d r k h

-- the caret of a power, and the bytes after it
exponent_power : (p : Power) (r : List ℕ) (k : ℕ) → ProperPower p → Quiet r
    → exponent_rule (spelled_power p ++ r) k ≡ each_occurrence ExponentOutOfRange 63 (caret k p) and_then exponent_rule r (k + length (spelled_power p))
exponent_power plain r k h q = exponent_at r k (k + 0) (omega arith)
exponent_power (raised minus d) r k h q =
    let e : power_of (spelled_power (raised minus d) ++ r) ≡ raised minus d = power_of_lem (raised minus d) h r q in
    let m : Checked = must (leb (number_of d) 63) ExponentOutOfRange k in
    caret_judged ((spelled_minus minus ++ spelled_digits d) ++ r) e
    ∙ ap (◌and_then◌ m) (exponent_sign minus d r (k + 1) h ∙ exponent_at r _ _ (omega arith))
    ∙ ap (λ (c : Checked). c and_then exponent_rule r (k + length (spelled_power (raised minus d)))) (sym (then_end m))
  where
    caret_judged : (w : List ℕ) → power_of (94 ∷ w) ≡ raised minus d → exponent_rule (94 ∷ w) k ≡ must (leb (number_of d) 63) ExponentOutOfRange k and_then exponent_rule w (k + 1)
    caret_judged w e = rw e

-- a power and the product after it
exponent_tail : (p : Power) (t : Product) (r : List ℕ) (j k : ℕ) → ProperPower p → Quiet (spelled t ++ r) → j + length (spelled_power p) ≡ k
    → exponent_rule (spelled t ++ r) k ≡ each_occurrence ExponentOutOfRange 63 (carets_from k t) and_then exponent_rule r (k + length (spelled t))
    → exponent_rule ((spelled_power p ++ spelled t) ++ r) j ≡ each_occurrence ExponentOutOfRange 63 (caret j p ++ carets_from k t) and_then exponent_rule r (k + length (spelled t))
exponent_tail p t r j k h q e f =
    ap (λ (w : List ℕ). exponent_rule w j) (append_assoc (spelled_power p) (spelled t) r)
    ∙ occurrences_then ExponentOutOfRange 63 (caret j p) (carets_from k t) _ _ _ (exponent_power p (spelled t ++ r) j h q) (exponent_at (spelled t ++ r) _ _ e ∙ f)

caret_occurrences : (t : Product) → Proper t → (r : List ℕ) → Stops r → (k : ℕ)
    → exponent_rule (spelled t ++ r) k ≡ each_occurrence ExponentOutOfRange 63 (carets_from k t) and_then exponent_rule r (k + length (spelled t))
caret_occurrences nothing h r s k = exponent_at r k (k + 0) (omega arith)
caret_occurrences (letter x p t) h r s k =
    let m : ℕ = after k 1 p in
    no_caret x ((spelled_power p ++ spelled t) ++ r) k (letter_no_sign x 94 h.0 refl)
    ∙ exponent_tail p t r (k + 1) m h.1 (quiet_spelled t h.2 r s) refl (caret_occurrences t h.2 r s m)
    ∙ ap (λ (j : ℕ). each_occurrence ExponentOutOfRange 63 (caret (k + 1) p ++ carets_from m t) and_then exponent_rule r j) (omega (arith, length-append (spelled_power p) (spelled t)))
caret_occurrences (group u p t) h r s k =
    let z : List ℕ = (spelled_power p ++ spelled t) ++ r in
    let i : ℕ = k + group_size u in
    let m : ℕ = after k (group_size u) p in
    let e : length (spelled u ++ (41 ∷ (spelled_power p ++ spelled t))) ≡ length (spelled u) + suc (length (spelled_power p) + length (spelled t)) =
    rw (length-append, length-append) in
    no_caret 40 ((spelled u ++ (41 ∷ (spelled_power p ++ spelled t))) ++ r) k refl
    ∙ ap (λ (w : List ℕ). exponent_rule w (k + 1)) (append_assoc (spelled u) (41 ∷ (spelled_power p ++ spelled t)) r)
    ∙ occurrences_then ExponentOutOfRange 63 (carets_from (k + 1) u) (caret i p ++ carets_from m t) _ (exponent_rule (41 ∷ z) (k + 1 + length (spelled u))) _
    (caret_occurrences u h.0 (41 ∷ z) (refl, refl, refl, refl, refl) (k + 1))
    (no_caret 41 z (k + 1 + length (spelled u)) refl ∙ exponent_at z _ i (omega arith)
    ∙ exponent_tail p t r i m h.1 (quiet_spelled t h.2 r s) refl (caret_occurrences t h.2 r s m))
    ∙ ap (λ (j : ℕ). each_occurrence ExponentOutOfRange 63 (carets_from (k + 1) u ++ (caret i p ++ carets_from m t)) and_then exponent_rule r j) (omega arith)
caret_occurrences (bracket u v p t) h r s k =
    let z : List ℕ = (spelled_power p ++ spelled t) ++ r in
    let y : List ℕ = 93 ∷ (spelled_power p ++ spelled t) in
    let c : ℕ = k + group_size u in
    let i : ℕ = k + bracket_size u v in
    let m : ℕ = after k (bracket_size u v) p in
    let e : length (spelled u ++ (44 ∷ (spelled v ++ y))) ≡ length (spelled u) + suc (length (spelled v) + suc (length (spelled_power p) + length (spelled t))) =
    rw (length-append, length-append, length-append) in
    no_caret 91 ((spelled u ++ (44 ∷ (spelled v ++ y))) ++ r) k refl
    ∙ ap (λ (w : List ℕ). exponent_rule w (k + 1))
    (append_assoc (spelled u) (44 ∷ (spelled v ++ y)) r ∙ ap (λ (w : List ℕ). spelled u ++ (44 ∷ w)) (append_assoc (spelled v) y r))
    ∙ occurrences_then ExponentOutOfRange 63 (carets_from (k + 1) u) (carets_from c v ++ (caret i p ++ carets_from m t)) _
    (exponent_rule (44 ∷ (spelled v ++ (93 ∷ z))) (k + 1 + length (spelled u))) _
    (caret_occurrences u h.0 (44 ∷ (spelled v ++ (93 ∷ z))) (refl, refl, refl, refl, refl) (k + 1))
    (no_caret 44 (spelled v ++ (93 ∷ z)) (k + 1 + length (spelled u)) refl ∙ exponent_at (spelled v ++ (93 ∷ z)) _ c (omega arith)
    ∙ occurrences_then ExponentOutOfRange 63 (carets_from c v) (caret i p ++ carets_from m t) _ (exponent_rule (93 ∷ z) (c + length (spelled v))) _
    (caret_occurrences v h.1 (93 ∷ z) (refl, refl, refl, refl, refl) c)
    (no_caret 93 z (c + length (spelled v)) refl ∙ exponent_at z _ i (omega arith)
    ∙ exponent_tail p t r i m h.2 (quiet_spelled t h.3 r s) refl (caret_occurrences t h.3 r s m)))
    ∙ ap (λ (j : ℕ). each_occurrence ExponentOutOfRange 63 (carets_from (k + 1) u ++ (carets_from c v ++ (caret i p ++ carets_from m t))) and_then exponent_rule r j) (omega arith)

caret-within : (p : Power) (k : ℕ) → (each_occurrence ExponentOutOfRange 63 (caret k p) ≡ Ok tt) ↔ PowerWithin p
caret-within plain k = (λ e. tt, λ x. refl)
caret-within (raised minus d) k = (
  λ e. leb-true (number_of d) 63 (must_fine (leb (number_of d) 63) ExponentOutOfRange k (sym (then_end (must (leb (number_of d) 63) ExponentOutOfRange k)) ∙ e)),
  λ x. rw (le-leb (number_of d) 63 x),
)

-- a power and the product after it
tail_within : (p : Power) (t : Product) (i k : ℕ) → (each_occurrence ExponentOutOfRange 63 (carets_from k t) ≡ Ok tt) ↔ PowersWithin t
    → (each_occurrence ExponentOutOfRange 63 (caret i p ++ carets_from k t) ≡ Ok tt) ↔ (PowerWithin p × PowersWithin t)
tail_within p t i k (f, g) =
    let (a, b) = caret-within p i in
    let (to, from) = occurrences_both ExponentOutOfRange 63 (caret i p) (carets_from k t) in
    (λ e. (a (to e).0, f (to e).1), λ x. from (b x.0, g x.1))

carets-within : (t : Product) (k : ℕ) → (each_occurrence ExponentOutOfRange 63 (carets_from k t) ≡ Ok tt) ↔ PowersWithin t
carets-within nothing k = (λ e. tt, λ x. refl)
carets-within (letter x p t) k = tail_within p t (k + 1) (after k 1 p) (carets-within t (after k 1 p))
carets-within (group u p t) k =
    let i : ℕ = k + group_size u in
    let m : ℕ = after k (group_size u) p in
    let (a, b) = carets-within u (k + 1) in
    let (f, g) = tail_within p t i m (carets-within t m) in
    let (to, from) = occurrences_both ExponentOutOfRange 63 (carets_from (k + 1) u) (caret i p ++ carets_from m t) in (
      λ e. (a (to e).0, (f (to e).1).0, (f (to e).1).1),
      λ x. from (b x.0, g (x.1, x.2)),
    )
carets-within (bracket u v p t) k =
    let c : ℕ = k + group_size u in
    let i : ℕ = k + bracket_size u v in
    let m : ℕ = after k (bracket_size u v) p in
    let (a, b) = carets-within u (k + 1) in
    let (d, e) = carets-within v c in
    let (f, g) = tail_within p t i m (carets-within t m) in
    let (to, from) = occurrences_both ExponentOutOfRange 63 (carets_from (k + 1) u) (carets_from c v ++ (caret i p ++ carets_from m t)) in
    let (to-too, from-too) = occurrences_both ExponentOutOfRange 63 (carets_from c v) (caret i p ++ carets_from m t) in (
      λ x. (a (to x).0, d (to-too (to x).1).0, (f (to-too (to x).1).1).0, (f (to-too (to x).1).1).1),
      λ x. from (b x.0, from-too (e x.1, g (x.2, x.3))),
    )

exponent_occurrences : (text : List ℕ) (t : Product) → Spells text t → exponent_rule text 0 ≡ each_occurrence ExponentOutOfRange 63 (carets t)
exponent_occurrences text t h =
    ap (λ (w : List ℕ). exponent_rule w 0) (sym h.spelling ∙ sym (append-nil (spelled t))) ∙ caret_occurrences t h.proper [] tt 0
    ∙ then_end (each_occurrence ExponentOutOfRange 63 (carets t))

pub exponents_passed : (text : List ℕ) (t : Product) → Spells text t → (exponent_rule text 0 ≡ Ok tt) ↔ NoneOver 63 (carets t)
exponents_passed text t h =
    let (to, from) = occurrences_passed ExponentOutOfRange 63 (carets t) in
    (λ e. to (sym (exponent_occurrences text t h) ∙ e), λ x. exponent_occurrences text t h ∙ from x)

pub none-powers : (t : Product) → NoneOver 63 (carets t) ↔ PowersWithin t
none-powers t =
    let (to, from) = occurrences_passed ExponentOutOfRange 63 (carets t) in
    let (a, b) = carets-within t 0 in
    (λ x. a (from x), λ x. to (b x))

pub exponents-refused : (text : List ℕ) (t : Product) → Spells text t → (k : ℕ) → (exponent_rule text 0 ≡ refusal ExponentOutOfRange k) ↔ FirstOver 63 (carets t) k
exponents-refused text t h k =
    let (to, from) = occurrences_refused ExponentOutOfRange 63 (carets t) k in
    (λ e. to (sym (exponent_occurrences text t h) ∙ e), λ x. exponent_occurrences text t h ∙ from x)
