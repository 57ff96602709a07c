-- A text that the scan accepts is the spelling of a tree.
use Prim.Native.Nat.{ℕ}
use mathlib.Core.Path.{◌∙◌, ◌≡◌, ap, refl, subst, sym}
use mathlib.Core.Logic.{◌⊎◌, inl, inr}
use mathlib.Core.Bool.{Bool, false, true}
use Rattle.std.specs.Prelude.{Option, None, Some}
use mathlib.Core.List.{List, [], ◌++◌, ◌∷◌, append_assoc}
use lib.Dec.{eqb}
use borrow.Author.Tests.{eqb-true}
use Rattle.records.specs.Records.{is_letter}
use Rattle.syntax.specs.Trees.{Digits, Power, Product, Proper, ProperDigits, ProperPower, WellFormed, bracket, group, is_digit, letter, nothing, one, plain, raised, spelled, spelled_digits, spelled_minus, spelled_power, two}
use Rattle.syntax.specs.Scan.{State, awaited, closed, closing, complete, state, step, step_product}
use Rattle.syntax.specs.declared.Open.{Open}
use Rattle.syntax.specs.declared.Open.TheVariants.{First, Round, Second}
use Rattle.syntax.specs.declared.Mode.{Mode}
use Rattle.syntax.specs.declared.Mode.TheVariants.{After, Caret, Minus, OneDigit, Ready}
use Rattle.syntax.proofs.Scanning.{Accepted, after-step, after_stop}
use Rattle.std.proofs.lemmas.Bool.{both_ways, cases_Bool}

-- a product, a sign, a power, and what follows
record Closes (b : ℕ) (T : List ℕ → Type 0) (r : List ℕ) : Type 0 where
  tree : Product
  proper : Proper tree
  power : Power
  power_proper : ProperPower power
  rest : List ℕ
  tail : T rest
  same : r ≡ spelled tree ++ (b ∷ (spelled_power power ++ rest))

-- a product, a comma, and what follows
record Comma (T : List ℕ → Type 0) (r : List ℕ) : Type 0 where
  tree : Product
  proper : Proper tree
  rest : List ℕ
  tail : T rest
  same : r ≡ spelled tree ++ (44 ∷ rest)

-- what may follow where a factor may start, for the signs that are open
abbrev Tail : List Open → List ℕ → Type 0
Tail [] r = WellFormed r
Tail (Round ∷ s) r = Closes 41 (Tail s) r
Tail (First ∷ s) r = Comma (Closes 93 (Tail s)) r
Tail (Second ∷ s) r = Closes 93 (Tail s) r

-- and after a factor, a caret, a minus sign, a digit
record Powered (s : List Open) (r : List ℕ) : Type 0 where
  power : Power
  proper : ProperPower power
  rest : List ℕ
  tail : Tail s rest
  same : r ≡ spelled_power power ++ rest

record Signed (s : List Open) (r : List ℕ) : Type 0 where
  minus : Bool
  digits : Digits
  proper : ProperDigits digits
  rest : List ℕ
  tail : Tail s rest
  same : r ≡ spelled_minus minus ++ (spelled_digits digits ++ rest)

record Numbered (s : List Open) (r : List ℕ) : Type 0 where
  digits : Digits
  proper : ProperDigits digits
  rest : List ℕ
  tail : Tail s rest
  same : r ≡ spelled_digits digits ++ rest

record Digit (s : List Open) (r : List ℕ) : Type 0 where
  byte : ℕ
  proper : is_digit byte ≡ true
  rest : List ℕ
  tail : Tail s rest
  same : r ≡ byte ∷ rest

abbrev Goes : Mode → List Open → List ℕ → Type 0
Goes Ready s r = Tail s r
Goes After s r = Powered s r
Goes Caret s r = Signed s r
Goes Minus s r = Numbered s r
Goes OneDigit s r = Tail s r ⊎ Digit s r

-- a factor's bytes, and the product with it before another
record Factor (u : List ℕ) : Type 0 where
  before : Product → Product
  proper : (t : Product) → Proper t → Proper (before t)
  same : (t : Product) → spelled (before t) ≡ u ++ spelled t

longer : {u : List ℕ} (f : Factor u) (t : Product) (v r : List ℕ) → r ≡ spelled t ++ v → u ++ r ≡ spelled (f.before t) ++ v
longer {u} f t v r e = ap (◌++◌ u) e ∙ sym (append_assoc u (spelled t) v) ∙ ap (λ (l : List ℕ). l ++ v) (sym (f.same t))

prepend : (s : List Open) {u : List ℕ} (r : List ℕ) → Factor u → Tail s r → Tail s (u ++ r)
prepend [] {u} r f h =
    record {
      tree = f.before h.tree;
      spells = record { proper = f.proper h.tree h.spells.proper; spelling = f.same h.tree ∙ ap (◌++◌ u) h.spells.spelling };
    }
prepend (Round ∷ s) {u} r f h =
    record {
      tree = f.before h.tree;
      proper = f.proper h.tree h.proper;
      power = h.power;
      power_proper = h.power_proper;
      rest = h.rest;
      tail = h.tail;
      same = longer f h.tree (41 ∷ (spelled_power h.power ++ h.rest)) r h.same;
    }
prepend (First ∷ s) {u} r f h =
    record {
      tree = f.before h.tree;
      proper = f.proper h.tree h.proper;
      rest = h.rest;
      tail = h.tail;
      same = longer f h.tree (44 ∷ h.rest) r h.same;
    }
prepend (Second ∷ s) {u} r f h =
    record {
      tree = f.before h.tree;
      proper = f.proper h.tree h.proper;
      power = h.power;
      power_proper = h.power_proper;
      rest = h.rest;
      tail = h.tail;
      same = longer f h.tree (93 ∷ (spelled_power h.power ++ h.rest)) r h.same;
    }

a_letter : (x : ℕ) (p : Power) → is_letter x ≡ true → ProperPower p → Factor (x ∷ spelled_power p)
a_letter x p h k = record { before = letter x p; proper = λ t f. (h, k, f); same = λ t. refl }

a_group : (u : Product) (p : Power) → Proper u → ProperPower p → Factor (40 ∷ (spelled u ++ (41 ∷ spelled_power p)))
a_group u p h k =
    record {
      before = group u p;
      proper = λ t f. (h, k, f);
      same = λ t. ap (◌∷◌ 40) (sym (append_assoc (spelled u) (41 ∷ spelled_power p) (spelled t)));
    }

a_bracket : (u v : Product) (p : Power) → Proper u → Proper v → ProperPower p
    → Factor (91 ∷ (spelled u ++ (44 ∷ (spelled v ++ (93 ∷ spelled_power p)))))
a_bracket u v p h k l =
    record {
      before = bracket u v p;
      proper = λ t f. (h, k, l, f);
      same = λ t.
          ap (λ (m : List ℕ). 91 ∷ (spelled u ++ (44 ∷ m))) (sym (append_assoc (spelled v) (93 ∷ spelled_power p) (spelled t)))
          ∙ ap (◌∷◌ 91) (sym (append_assoc (spelled u) (44 ∷ (spelled v ++ (93 ∷ spelled_power p))) (spelled t)));
    }

abbrev GoesFrom : State → List ℕ → Type 0
GoesFrom q r = Goes q.mode q.opens r

carry : {p q : State} (r : List ℕ) → p ≡ q → GoesFrom q r → GoesFrom p r
carry r e g = subst (λ (x : State). GoesFrom x r) (sym e) g

from_letter : (x : ℕ) (s : List Open) (r : List ℕ) → is_letter x ≡ true → Powered s r → Tail s (x ∷ r)
from_letter x s r h g = rw g.same (prepend s g.rest (a_letter x g.power h g.proper) g.tail)

from_group : (s : List Open) (r : List ℕ) → Closes 41 (Tail s) r → Tail s (40 ∷ r)
from_group s r g =
    let same : (40 ∷ (spelled g.tree ++ (41 ∷ spelled_power g.power))) ++ g.rest ≡ 40 ∷ r =
    ap (◌∷◌ 40) (append_assoc (spelled g.tree) (41 ∷ spelled_power g.power) g.rest ∙ sym g.same) in
    rw same at (prepend s g.rest (a_group g.tree g.power g.proper g.power_proper) g.tail)

from_bracket : (s : List Open) (r : List ℕ) → Comma (Closes 93 (Tail s)) r → Tail s (91 ∷ r)
from_bracket s r c =
    let g = c.tail in
    let same : (91 ∷ (spelled c.tree ++ (44 ∷ (spelled g.tree ++ (93 ∷ spelled_power g.power))))) ++ g.rest ≡ 91 ∷ r =
    ap (◌∷◌ 91) (append_assoc (spelled c.tree) (44 ∷ (spelled g.tree ++ (93 ∷ spelled_power g.power))) g.rest
    ∙ ap (λ (m : List ℕ). spelled c.tree ++ (44 ∷ m)) (append_assoc (spelled g.tree) (93 ∷ spelled_power g.power) g.rest ∙ sym g.same)
    ∙ sym c.same) in
    rw same at (prepend s g.rest (a_bracket c.tree g.tree g.power c.proper g.proper g.power_proper) g.tail)

from_close : (o : Open) (s : List Open) (r : List ℕ) → GoesFrom (closed o s) r → Tail (o ∷ s) (awaited o ∷ r)
from_close Round s r g =
    record { tree = nothing; proper = tt; power = g.power; power_proper = g.proper; rest = g.rest; tail = g.tail; same = ap (◌∷◌ 41) g.same }
from_close First s r g = record { tree = nothing; proper = tt; rest = r; tail = g; same = refl }
from_close Second s r g =
    record { tree = nothing; proper = tt; power = g.power; power_proper = g.proper; rest = g.rest; tail = g.tail; same = ap (◌∷◌ 93) g.same }

from_closing : (b : ℕ) (s : List Open) (r : List ℕ) (q : State) → closing b s ≡ Some q → GoesFrom q r → Tail s (b ∷ r)
from_closing b [] r q e g = cc e
from_closing b (o ∷ s) r q e g = elim (cases_Bool (eqb b (awaited o))) [
  | inl h ↦
      let z : Some (closed o s) ≡ Some q = rw h at e in
      let k : closed o s ≡ q = cc in
      rw (eqb-true b (awaited o) h) (from_close o s r (rw k g))
  | inr h ↦ cc (rw h at e)
]

from_product : (b : ℕ) (s : List Open) (r : List ℕ) (q : State) → step_product b s ≡ Some q → GoesFrom q r → Tail s (b ∷ r)
from_product b s r q e g = elim (cases_Bool (is_letter b)) [
  | inl h ↦
      let k : state After s ≡ q = cc (rw h at e) in
      let g' : GoesFrom (state After s) r = carry r k g in
      from_letter b s r h g'
  | inr h ↦ elim (cases_Bool (eqb b 40)) [
    | inl i ↦
        let k : state Ready (Round ∷ s) ≡ q = cc (rw (h, i) at e) in
        let g' : GoesFrom (state Ready (Round ∷ s)) r = carry r k g in
        rw (eqb-true b 40 i) (from_group s r g')
    | inr i ↦ elim (cases_Bool (eqb b 91)) [
      | inl j ↦
          let k : state Ready (First ∷ s) ≡ q = cc (rw (h, i, j) at e) in
          let g' : GoesFrom (state Ready (First ∷ s)) r = carry r k g in
          rw (eqb-true b 91 j) (from_bracket s r g')
      | inr j ↦ from_closing b s r q (rw (h, i, j) at e) g
    ]
  ]
]

from_digit : (b : ℕ) (s : List Open) (r : List ℕ) → is_digit b ≡ true → Tail s r ⊎ Digit s r → Numbered s (b ∷ r)
from_digit b s r h (inl t) = record { digits = one b; proper = h; rest = r; tail = t; same = refl }
from_digit b s r h (inr d) =
    record { digits = two b d.byte; proper = (h, d.proper); rest = d.rest; tail = d.tail; same = ap (◌∷◌ b) d.same }

from_caret : (b : ℕ) (s : List Open) (r : List ℕ) → b ≡ 94 → Signed s r → Powered s (b ∷ r)
from_caret b s r h g =
    record {
      power = raised g.minus g.digits;
      proper = g.proper;
      rest = g.rest;
      tail = g.tail;
      same = ap (λ (x : ℕ). x ∷ r) h ∙ ap (◌∷◌ 94) (g.same ∙ sym (append_assoc (spelled_minus g.minus) (spelled_digits g.digits) g.rest));
    }

from_minus : (b : ℕ) (s : List Open) (r : List ℕ) → b ≡ 45 → Numbered s r → Signed s (b ∷ r)
from_minus b s r h g =
    record {
      minus = true;
      digits = g.digits;
      proper = g.proper;
      rest = g.rest;
      tail = g.tail;
      same = ap (λ (x : ℕ). x ∷ r) h ∙ ap (◌∷◌ 45) g.same;
    }

-- one byte more
from_step : (m : Mode) (s : List Open) (b : ℕ) (r : List ℕ) (q : State) → step m s b ≡ Some q → GoesFrom q r → Goes m s (b ∷ r)
from_step Ready s b r q e g = from_product b s r q e g
from_step After s b r q e g = elim (cases_Bool (eqb b 94)) [
  | inl h ↦
      let k : state Caret s ≡ q = cc (rw h at e) in
      let g' : Signed s r = carry r k g in
      from_caret b s r (eqb-true b 94 h) g'
  | inr h ↦ record { power = plain; proper = tt; rest = b ∷ r; tail = from_product b s r q (rw h at e) g; same = refl }
]
from_step Caret s b r q e g = elim (cases_Bool (eqb b 45)) [
  | inl h ↦
      let k : state Minus s ≡ q = cc (rw h at e) in
      let g' : Numbered s r = carry r k g in
      from_minus b s r (eqb-true b 45 h) g'
  | inr h ↦ elim (cases_Bool (is_digit b)) [
    | inl i ↦
        let k : state OneDigit s ≡ q = cc (rw (h, i) at e) in
        let g' : Tail s r ⊎ Digit s r = carry r k g in
        let n = from_digit b s r i g' in
        record { minus = false; digits = n.digits; proper = n.proper; rest = n.rest; tail = n.tail; same = n.same }
    | inr i ↦ cc (rw (h, i) at e)
  ]
]
from_step Minus s b r q e g = elim (cases_Bool (is_digit b)) [
  | inl i ↦
      let k : state OneDigit s ≡ q = cc (rw i at e) in
      let g' : Tail s r ⊎ Digit s r = carry r k g in
      from_digit b s r i g'
  | inr i ↦ cc (rw i at e)
]
from_step OneDigit s b r q e g = elim (cases_Bool (is_digit b)) [
  | inl i ↦
      let k : state Ready s ≡ q = cc (rw i at e) in
      let g' : Tail s r = carry r k g in
      inr (record { byte = b; proper = i; rest = r; tail = g'; same = refl })
  | inr i ↦ inl (from_product b s r q (rw i at e) g)
]

-- the end of the text
from_end : (m : Mode) (s : List Open) → complete m s ≡ true → Goes m s []
from_end Ready [] e = record { tree = nothing; spells = record { proper = tt; spelling = refl } }
from_end After [] e =
    record { power = plain; proper = tt; rest = []; tail = record { tree = nothing; spells = record { proper = tt; spelling = refl } }; same = refl }
from_end Caret [] e = absurd (both_ways _ refl e)
from_end Minus [] e = absurd (both_ways _ refl e)
from_end OneDigit [] e = inl (record { tree = nothing; spells = record { proper = tt; spelling = refl } })
from_end m (o ∷ s) e = absurd (both_ways _ refl e)

accepted_goes : (r : List ℕ) (q : State) → Accepted q r → Goes q.mode q.opens r
accepted_goes [] q a =
    let k : q ≡ a.last = cc a.reaches in
    from_end q.mode q.opens (rw k a.ends)
accepted_goes (b ∷ r) q a = go (step q.mode q.opens b) refl (accepted_goes r)
  where
    go : (o : Option State) → step q.mode q.opens b ≡ o → ((q : State) → Accepted q r → Goes q.mode q.opens r) → Goes q.mode q.opens (b ∷ r)
    go None e ih = cc (sym (after_stop q.mode q.opens b r e) ∙ a.reaches)
    go (Some q') e ih =
        from_step q.mode q.opens b r q' e (ih q' (record { last = a.last; reaches = sym (after-step q.mode q.opens b r q' e) ∙ a.reaches; ends = a.ends }))

pub accepted_well_formed : (r : List ℕ) → Accepted (state Ready []) r → WellFormed r
accepted_well_formed r a = accepted_goes r (state Ready []) a
