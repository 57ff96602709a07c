-- The tree of a text is the one that the text spells; so a text spells at most one.
use Prim.Native.Nat.{◌+◌, ◌<◌, suc, zero, ℕ}
use mathlib.Core.Path.{◌∙◌, ◌≡◌, ap, refl, sym}
use mathlib.Core.Bool.{false, true}
use mathlib.Core.List.{List, [], ◌++◌, ◌∷◌, append_assoc, append-nil}
use native.Mathlib.Omega.{arith}
use lib.ListN.{drop, length, length-append}
use lib.Dec.{eqb}
use Rattle.records.specs.Records.{is_letter}
use Rattle.syntax.specs.Trees.{Digits, Power, Product, Proper, ProperDigits, ProperPower, Spells, WellFormed, bracket, group, is_digit, letter, nothing, one, plain, raised, spelled, spelled_digits, spelled_power, two}
use Rattle.syntax.specs.Parse.{Parsed, after_digits, after_power, digits_of, parse, parsed, power_of, tree_of}
use Rattle.syntax.proofs.Bytes.{digit_no_sign, letter_no_digit, letter_no_sign}

-- no power goes on here
abbrev pub Quiet : List ℕ → Type 0
Quiet [] = Unit
Quiet (b ∷ r) = (eqb b 94 ≡ false) × (is_digit b ≡ false)

-- and no factor starts
abbrev pub Stops : List ℕ → Type 0
Stops [] = Unit
Stops (b ∷ r) = (is_letter b ≡ false) × (eqb b 40 ≡ false) × (eqb b 91 ≡ false) × (eqb b 94 ≡ false) × (is_digit b ≡ false)

pub quiet_spelled : (t : Product) → Proper t → (r : List ℕ) → Stops r → Quiet (spelled t ++ r)
quiet_spelled nothing h [] k = tt
quiet_spelled nothing h (b ∷ r) k = (k.3, k.4)
quiet_spelled (letter x p t) h r k = (letter_no_sign x 94 h.0 refl, letter_no_digit x h.0)
quiet_spelled (group u p t) h r k = (refl, refl)
quiet_spelled (bracket u v p t) h r k = (refl, refl)

pub digits_of_lem : (d : Digits) → ProperDigits d → (r : List ℕ) → Quiet r → digits_of (spelled_digits d ++ r) ≡ d
digits_of_lem (one d) h [] k = refl
digits_of_lem (one d) h (b ∷ r) k = rw k.1
digits_of_lem (two d e) h r k = rw h.1

after_digits_lem : (d : Digits) → ProperDigits d → (r : List ℕ) → Quiet r → after_digits (spelled_digits d ++ r) ≡ r
after_digits_lem (one d) h [] k = refl
after_digits_lem (one d) h (b ∷ r) k = rw k.1
after_digits_lem (two d e) h r k = rw h.1

pub first_digit : (d : Digits) → ProperDigits d → (r : List ℕ)
    → (x : ℕ) × (s : List ℕ) × (spelled_digits d ++ r ≡ x ∷ s) × (eqb x 45 ≡ false)
first_digit (one d) h r = (d, r, refl, digit_no_sign d 45 h refl)
first_digit (two d e) h r = (d, e ∷ r, refl, digit_no_sign d 45 h.0 refl)

positive : (x : ℕ) (s : List ℕ) → eqb x 45 ≡ false
    → (power_of (94 ∷ x ∷ s) ≡ raised false (digits_of (x ∷ s))) × (after_power (94 ∷ x ∷ s) ≡ after_digits (x ∷ s))
positive x s e = (rw e, rw e)

pub power_of_lem : (p : Power) → ProperPower p → (r : List ℕ) → Quiet r → power_of (spelled_power p ++ r) ≡ p
power_of_lem plain h [] k = refl
power_of_lem plain h (b ∷ []) k = refl
power_of_lem plain h (b ∷ c ∷ r) k = rw k.0
power_of_lem (raised true d) h r k = ap (raised true) (digits_of_lem d h r k)
power_of_lem (raised false d) h r k =
    let (x, s, e, n) = first_digit d h r in
    ap (λ (l : List ℕ). power_of (94 ∷ l)) e ∙ (positive x s n).0 ∙ ap (λ (l : List ℕ). raised false (digits_of l)) (sym e) ∙ ap (raised false) (digits_of_lem d h r k)

pub after_power_lem : (p : Power) → ProperPower p → (r : List ℕ) → Quiet r → after_power (spelled_power p ++ r) ≡ r
after_power_lem plain h [] k = refl
after_power_lem plain h (b ∷ []) k = refl
after_power_lem plain h (b ∷ c ∷ r) k = rw k.0
after_power_lem (raised true d) h r k = after_digits_lem d h r k
after_power_lem (raised false d) h r k =
    let (x, s, e, n) = first_digit d h r in
    ap (λ (l : List ℕ). after_power (94 ∷ l)) e ∙ (positive x s n).1 ∙ ap after_digits (sym e) ∙ after_digits_lem d h r k

-- a factor's power and the product after it, where that is found
ending : ℕ → (Power → Product → Product) → List ℕ → Parsed
ending n f q = parsed (f (power_of q) (parse n (after_power q)).tree) (parse n (after_power q)).rest

parse-letter : (n x : ℕ) (r : List ℕ) → is_letter x ≡ true → parse (suc n) (x ∷ r) ≡ ending n (letter x) r
unfolding ending
parse-letter n x r e = rw (e, parse)

parse-group : (n : ℕ) (r : List ℕ) → parse (suc n) (40 ∷ r) ≡ ending n (group (parse n r).tree) (drop 1 (parse n r).rest)
unfolding ending
parse-group n r = refl

parse-bracket : (n : ℕ) (r : List ℕ)
    → parse (suc n) (91 ∷ r)
    ≡ ending n (bracket (parse n r).tree (parse n (drop 1 (parse n r).rest)).tree) (drop 1 (parse n (drop 1 (parse n r).rest)).rest)
unfolding ending
parse-bracket n r = refl

parse-nothing : (n b : ℕ) (r : List ℕ) → is_letter b ≡ false → eqb b 40 ≡ false → eqb b 91 ≡ false → parse (suc n) (b ∷ r) ≡ parsed nothing (b ∷ r)
parse-nothing n b r e f g = rw (e, f, g, parse)

parse_ending : (n : ℕ) (f : Power → Product → Product) (p : Power) (t : Product) (r : List ℕ) → ProperPower p → Quiet (spelled t ++ r)
    → parse n (spelled t ++ r) ≡ parsed t r → ending n f ((spelled_power p ++ spelled t) ++ r) ≡ parsed (f p t) r
unfolding ending
parse_ending n f p t r h k e =
    let a : power_of ((spelled_power p ++ spelled t) ++ r) ≡ p = rw append_assoc (power_of_lem p h (spelled t ++ r) k) in
    let b : after_power ((spelled_power p ++ spelled t) ++ r) ≡ spelled t ++ r = rw append_assoc (after_power_lem p h (spelled t ++ r) k) in
    rw (a, b, e)

pub parse-spelled : (t : Product) → Proper t → (n : ℕ) → length (spelled t) < n → (r : List ℕ) → Stops r → parse n (spelled t ++ r) ≡ parsed t r
parse-spelled nothing h zero l r k = absurd (omega arith)
parse-spelled nothing h (suc n) l [] k = refl
parse-spelled nothing h (suc n) l (b ∷ r) k = parse-nothing n b r k.0 k.1 k.2
parse-spelled (letter x p t) h zero l r k = absurd (omega arith)
parse-spelled (letter x p t) h (suc n) l r k =
    let short : length (spelled t) < n = omega (arith, length-append (spelled_power p) (spelled t)) in
    parse-letter n x ((spelled_power p ++ spelled t) ++ r) h.0
    ∙ parse_ending n (letter x) p t r h.1 (quiet_spelled t h.2 r k) (parse-spelled t h.2 n short r k)
parse-spelled (group u p t) h zero l r k = absurd (omega arith)
parse-spelled (group u p t) h (suc n) l r k =
    let w = (spelled_power p ++ spelled t) ++ r in
    let size : length (spelled u ++ (41 ∷ (spelled_power p ++ spelled t))) ≡ length (spelled u) + suc (length (spelled_power p) + length (spelled t)) =
    rw (length-append, length-append) in
    let e : parse n ((spelled u ++ (41 ∷ (spelled_power p ++ spelled t))) ++ r) ≡ parsed u (41 ∷ w) =
    rw append_assoc (parse-spelled u h.0 n (omega arith) (41 ∷ w) (refl, refl, refl, refl, refl)) in
    parse-group n ((spelled u ++ (41 ∷ (spelled_power p ++ spelled t))) ++ r)
    ∙ ap (λ (q : Parsed). ending n (group q.tree) (drop 1 q.rest)) e
    ∙ parse_ending n (group u) p t r h.1 (quiet_spelled t h.2 r k) (parse-spelled t h.2 n (omega arith) r k)
parse-spelled (bracket u v p t) h zero l r k = absurd (omega arith)
parse-spelled (bracket u v p t) h (suc n) l r k =
    let w = (spelled_power p ++ spelled t) ++ r in
    let z : List ℕ = spelled v ++ (93 ∷ (spelled_power p ++ spelled t)) in
    let size : length (spelled u ++ (44 ∷ z)) ≡ length (spelled u) + suc (length (spelled v) + suc (length (spelled_power p) + length (spelled t))) =
    rw (length-append, length-append, length-append) in
    let e : parse n ((spelled u ++ (44 ∷ z)) ++ r) ≡ parsed u (44 ∷ (z ++ r)) =
    rw append_assoc (parse-spelled u h.0 n (omega arith) (44 ∷ (z ++ r)) (refl, refl, refl, refl, refl)) in
    let f : parse n (z ++ r) ≡ parsed v (93 ∷ w) =
    rw append_assoc (parse-spelled v h.1 n (omega arith) (93 ∷ w) (refl, refl, refl, refl, refl)) in
    parse-bracket n ((spelled u ++ (44 ∷ z)) ++ r)
    ∙ ap (λ (q : Parsed). ending n (bracket q.tree (parse n (drop 1 q.rest)).tree) (drop 1 (parse n (drop 1 q.rest)).rest)) e
    ∙ ap (λ (q : Parsed). ending n (bracket u q.tree) (drop 1 q.rest)) f
    ∙ parse_ending n (bracket u v) p t r h.2 (quiet_spelled t h.3 r k) (parse-spelled t h.3 n (omega arith) r k)

-- the tree of a spelling is the tree that was spelled
pub tree-spelled : (t : Product) → Proper t → tree_of (spelled t) ≡ t
unfolding tree_of
tree-spelled t h =
    let e : parse (suc (length (spelled t))) (spelled t) ≡ parsed t [] =
    ap (parse (suc (length (spelled t)))) (sym (append-nil (spelled t))) ∙ parse-spelled t h (suc (length (spelled t))) (omega arith) [] tt in
    ap (λ (q : Parsed). q.tree) e

-- a text spells at most one tree
pub one-tree : (text : List ℕ) (t u : Product) → Spells text t → Spells text u → t ≡ u
one-tree text t u h k = sym (tree-spelled t h.proper) ∙ ap tree_of (h.spelling ∙ sym k.spelling) ∙ tree-spelled u k.proper

-- the tree of a text is the one that it spells
pub tree_of_lem : (text : List ℕ) (t : Product) → Spells text t → tree_of text ≡ t
tree_of_lem text t h = ap tree_of (sym h.spelling) ∙ tree-spelled t h.proper

pub tree_well_formed : (text : List ℕ) → WellFormed text → Spells text (tree_of text)
tree_well_formed text w = rw (tree_of_lem text w.tree w.spells) w.spells
