-- The two readers: what each finds at the beginning of a text, and what the product's loop keeps.
use Prim.Native.Nat.{◌*◌, ◌+◌, ◌-◌, ◌<◌, ◌^◌, ◌≤◌, suc, zero, ℕ}
use mathlib.Core.Path.{◌∙◌, ◌≡◌, ap, refl, sym}
use mathlib.Core.Bool.{Bool, false, true}
use Rattle.std.specs.Prelude.{Option, Some}
use Rattle.std.specs.Prelude.{IfSome}
use mathlib.Core.List.{List, [], ◌++◌, ◌∷◌, append_assoc}
use native.Mathlib.Omega.{arith}
use lib.ListN.{drop, get_or, length, length-append, length-drop, take}
use lib.Seq.{drop_at, drop-cons, drop-drop}
use mir.Syntax.{w64}
use mir.Val.{Fits}
use Rattle.syntax.specs.Trees.{Power, Product, Proper, ProperPower, bracket, group, letter, nothing, spelled, spelled_power}
use Rattle.syntax.specs.Within.{NestsWithin, PowerWithin, PowersWithin}
use Rattle.powers.specs.Bounded.{commute_of, join_of}
use Rattle.scanning.specs.Exponents.{exponent_of}
use Rattle.parsing.specs.Reading.{FactorReads, PowerReads, ProductReads, ReadAll, ReadFirst, Readable, StartsWith, Stops, first_size, first_word, read_after, starts_factor}
use Rattle.parsing.specs.declared.Reading.{Reading}
use Rattle.syntax.proofs.Bytes.{letter_no_digit, letter_no_sign}
use Rattle.syntax.proofs.Parsing.{Quiet}
use Rattle.parsing.proofs.Exponents.{exponent_for_lem, exponent_for, number_for, raise_for, size_for}
use Rattle.std.proofs.lemmas.Bool.{both_ways}
use Rattle.std.proofs.lemmas.List.{take_rest}

-- three times the length of a text bounds the readers' calls, with one more for the factor's and two for the product's
shorter : (s : List ℕ) (k n t : ℕ) → 0 < length s → 0 < k → length s * 3 ≤ t → n < 3 → length (take (length s - k) (drop k s)) * 3 + n < t
shorter s k n t h l e m = rw take_rest (omega (arith, length-drop k s))

pub product_calls : (s : List ℕ) (k t : ℕ) → length s * 3 + 2 ≡ t → length (take (length s - k) (drop k s)) * 3 + 1 < t
product_calls s k t e = rw take_rest (omega (arith, length-drop k s))

pub factor_calls : (s : List ℕ) (t : ℕ) → 0 < length s → length s * 3 + 1 ≡ t → length (take (length s - 1) (drop 1 s)) * 3 + 2 < t
factor_calls s t h e = shorter s 1 2 t h (omega arith) (omega arith) (omega arith)

pub opens_full : (s : List ℕ) → get_or s 0 0 ≡ 91 → 0 < length s
opens_full [] e = absurd (omega arith)
opens_full (b ∷ s) e = omega arith

pub bracket_calls : (s : List ℕ) (t : ℕ) → get_or s 0 0 ≡ 91 → length s * 3 ≡ t → length (take (length s - 1) (drop 1 s)) * 3 + 2 < t
bracket_calls s t h e = shorter s 1 2 t (opens_full s h) (omega arith) (omega arith) (omega arith)

pub bracket_calls_again : (s : List ℕ) (n t : ℕ) → get_or s 0 0 ≡ 91 → length s * 3 ≡ t
    → length (take (length s - (n + 2)) (drop (n + 2) s)) * 3 + 2 < t
bracket_calls_again s n t h e = shorter s (n + 2) 2 t (opens_full s h) (omega arith) (omega arith) (omega arith)

pub size_fits : (s : List ℕ) (n : ℕ) → n ≤ length s → length s < 2 ^ 64 → Fits w64 n
size_fits s n h k = record { fits = omega arith }

-- the product after the first factor
abbrev after : Product → Product
after nothing = nothing
after (letter x p t) = t
after (group u p t) = t
after (bracket u v p t) = t

abbrev NotEmpty : Product → Type 0
NotEmpty nothing = ⊥
NotEmpty (letter x p t) = Unit
NotEmpty (group u p t) = Unit
NotEmpty (bracket u v p t) = Unit

proper-after : (t : Product) → Proper t → Proper (after t)
proper-after nothing h = tt
proper-after (letter x p t) h = h.2
proper-after (group u p t) h = h.2
proper-after (bracket u v p t) h = h.3

nests-after : (n : ℕ) (t : Product) → NestsWithin n t → NestsWithin n (after t)
nests-after n nothing h = tt
nests-after n (letter x p t) h = h
nests-after zero (group u p t) h = absurd h
nests-after (suc n) (group u p t) h = h.1
nests-after zero (bracket u v p t) h = absurd h
nests-after (suc n) (bracket u v p t) h = h.2

powers-after : (t : Product) → PowersWithin t → PowersWithin (after t)
powers-after nothing h = tt
powers-after (letter x p t) h = h.1
powers-after (group u p t) h = h.2
powers-after (bracket u v p t) h = h.3

-- the bytes of the first factor
abbrev first_bytes : Product → List ℕ
first_bytes nothing = []
first_bytes (letter x p t) = x ∷ spelled_power p
first_bytes (group u p t) = 40 ∷ (spelled u ++ (41 ∷ spelled_power p))
first_bytes (bracket u v p t) = 91 ∷ (spelled u ++ (44 ∷ (spelled v ++ (93 ∷ spelled_power p))))

bytes_after : (t : Product) → spelled t ≡ first_bytes t ++ spelled (after t)
bytes_after nothing = refl
bytes_after (letter x p t) = refl
bytes_after (group u p t) = ap (◌∷◌ 40) (sym (append_assoc (spelled u) (41 ∷ spelled_power p) (spelled t)))
bytes_after (bracket u v p t) =
    ap (λ (m : List ℕ). 91 ∷ (spelled u ++ (44 ∷ m))) (sym (append_assoc (spelled v) (93 ∷ spelled_power p) (spelled t)))
    ∙ ap (◌∷◌ 91) (sym (append_assoc (spelled u) (44 ∷ (spelled v ++ (93 ∷ spelled_power p))) (spelled t)))

first-length : (t : Product) → length (first_bytes t) ≡ first_size t
first-length nothing = refl
first-length (letter x p t) = omega arith
first-length (group u p t) = omega (arith, length-append (spelled u) (41 ∷ spelled_power p))
first-length (bracket u v p t) =
    omega (arith, length-append (spelled u) (44 ∷ (spelled v ++ (93 ∷ spelled_power p))), length-append (spelled v) (93 ∷ spelled_power p))

size-after : (t : Product) → length (spelled t) ≡ first_size t + length (spelled (after t))
size-after t = ap length (bytes_after t) ∙ length-append (first_bytes t) (spelled (after t)) ∙ ap (λ (k : ℕ). k + length (spelled (after t))) (first-length t)

word_after : (w : Option (List ℕ)) (t : Product) → NotEmpty t → read_after w t ≡ read_after (join_of w (first_word t)) (after t)
word_after w nothing h = absurd h
word_after w (letter x p t) h = refl
word_after w (group u p t) h = refl
word_after w (bracket u v p t) h = refl

spelled-after : (t : Product) (rest : List ℕ) → drop (first_size t) (spelled t ++ rest) ≡ spelled (after t) ++ rest
spelled-after t rest =
    ap (λ (l : List ℕ). drop (first_size t) (l ++ rest)) (bytes_after t)
    ∙ ap (drop (first_size t)) (append_assoc (first_bytes t) (spelled (after t)) rest)
    ∙ drop_at (first_bytes t) (spelled (after t) ++ rest) (first_size t) (first-length t)

starts-after : (room : ℕ) (s : List ℕ) (t : Product) (rest : List ℕ) → StartsWith room s t rest → StartsWith room (drop (first_size t) s) (after t) rest
starts-after room s t rest h =
    record {
      proper = proper-after t h.proper;
      nests = nests-after room t h.nests;
      powers = powers-after t h.powers;
      stops = h.stops;
      same = ap (drop (first_size t)) h.same ∙ spelled-after t rest;
    }

-- a text that begins with a factor has a tree that does
starts_full : (room : ℕ) (b : ℕ) (s : List ℕ) (t : Product) (rest : List ℕ) → StartsWith room (b ∷ s) t rest → starts_factor b ≡ true → NotEmpty t
starts_full room b s nothing [] h e = cc h.same
starts_full room b s nothing (x ∷ rest) h e =
    let z : b ≡ x = cc h.same in
    absurd (both_ways _ h.stops.0 (rw z at e))
starts_full room b s (letter x p t) rest h e = tt
starts_full room b s (group u p t) rest h e = tt
starts_full room b s (bracket u v p t) rest h e = tt

-- and one that does not has none
starts_none : (room : ℕ) (b : ℕ) (s : List ℕ) (t : Product) (rest : List ℕ) → StartsWith room (b ∷ s) t rest → starts_factor b ≡ false → t ≡ nothing
starts_none room b s nothing rest h e = refl
starts_none room b s (letter x p t) rest h e =
    let z : b ≡ x = cc h.same in
    absurd (both_ways _ (rw z at e) (rw h.proper.0 refl))
starts_none room b s (group u p t) rest h e =
    let z : b ≡ 40 = cc h.same in
    absurd (both_ways _ (rw z at e) refl)
starts_none room b s (bracket u v p t) rest h e =
    let z : b ≡ 91 = cc h.same in
    absurd (both_ways _ (rw z at e) refl)

-- what is left of a product: the tree of it, and that the whole is the answer from here on
pub record Onward (room : ℕ) (text : List ℕ) (word : Option (List ℕ)) (at : ℕ) (t : Product) (rest : List ℕ) : Type 0 where
  pub tree : Product
  pub starts : StartsWith room (drop at text) tree rest
  pub used : length (spelled t) ≡ at + length (spelled tree)
  pub same : read_after word tree ≡ read_after (Some []) t

pub record ProductKept (room : ℕ) (text : List ℕ) (word : Option (List ℕ)) (at : ℕ) : Type 0 where
  pub inside : at ≤ length text
  pub readable : Readable room text
  pub onward : (t : Product) (rest : List ℕ) → StartsWith room text t rest → Onward room text word at t rest

-- a place of the text, and the byte there
module _ (room : ℕ) (text : List ℕ) (word : Option (List ℕ)) (at : ℕ) (kept : ProductKept room text word at) (inside : at < length text) where
  onward_here : (t : Product) (rest : List ℕ) → StartsWith room text t rest → (o : Onward room text word at t rest) × StartsWith room (get_or text at 0 ∷ drop (suc at) text) o.tree rest
  onward_here t rest h =
      let o = kept.onward t rest h in
      (o, rw (← drop-cons text at 0 inside) o.starts)

  -- no factor begins
  pub read_all : (r : Bool) → r ≡ starts_factor (get_or text at 0) → r ≡ false → ProductReads room text (record { word = word; used = at })
  read_all r p e t rest h =
      let (o, s) = onward_here t rest h in
      let z : o.tree ≡ nothing = starts_none room (get_or text at 0) (drop (suc at) text) o.tree rest s (sym p ∙ e) in
      record {
        used = sym (o.used ∙ rw z (omega arith));
        word = rw z at o.same;
      }

  module _ (r : Bool) (p : r ≡ starts_factor (get_or text at 0)) (e : r ≡ true) where
    full : (t : Product) (rest : List ℕ) (h : StartsWith room text t rest) → NotEmpty (kept.onward t rest h).tree
    unfolding onward_here
    full t rest h = starts_full room (get_or text at 0) (drop (suc at) text) (onward_here t rest h).0.tree rest (onward_here t rest h).1 (sym p ∙ e)

    pub factor_readable : Readable room (take (length text - at) (drop at text))
    factor_readable =
        let q = kept.readable in
        let o = kept.onward q.tree q.rest q.starts in
        rw take_rest (record { tree = o.tree; rest = q.rest; starts = o.starts })

    pub factor_full : 0 < length (take (length text - at) (drop at text))
    factor_full = rw (take_rest) (omega (arith, length-drop at text))

    pub factor_starts : starts_factor (get_or (take (length text - at) (drop at text)) 0 0) ≡ true
    factor_starts = rw (take_rest, drop-cons text at 0 inside) (sym p ∙ e)

    module _ (next : Reading) (reads : FactorReads room (take (length text - at) (drop at text)) next) where
      first_read : (t : Product) (rest : List ℕ) (h : StartsWith room text t rest) → ReadFirst (kept.onward t rest h).tree next
      first_read t rest h = reads (kept.onward t rest h).tree rest (rw take_rest (kept.onward t rest h).starts)

      pub factor_inside : at + next.used ≤ length text
      factor_inside =
          let q = kept.readable in
          let o = kept.onward q.tree q.rest q.starts in
          let f = first_read q.tree q.rest q.starts in
          let l : length (drop at text) ≡ length (spelled o.tree) + length q.rest = ap length o.starts.same ∙ length-append (spelled o.tree) q.rest in
          omega (arith, f.used, size-after o.tree, l, length-drop at text)

      pub factor_some : 0 < next.used
      factor_some =
          let q = kept.readable in
          some_size (kept.onward q.tree q.rest q.starts).tree (full q.tree q.rest q.starts) (first_read q.tree q.rest q.starts).used
        where
          some_size : (t : Product) → NotEmpty t → next.used ≡ first_size t → 0 < next.used
          some_size nothing h z = absurd h
          some_size (letter x p t) h z = omega arith
          some_size (group u p t) h z = omega arith
          some_size (bracket u v p t) h z = omega arith

      pub factor_less : length text - (at + next.used) < length text - at
      factor_less = omega (arith, factor_inside, factor_some)

      pub kept_again : (longer : Option (List ℕ)) → longer ≡ join_of word next.word → ProductKept room text longer (at + next.used)
      kept_again longer w =
          record {
            inside = factor_inside;
            readable = kept.readable;
            onward = λ t rest h.
                let o = kept.onward t rest h in
                let f = first_read t rest h in
                record {
                  tree = after o.tree;
                  starts = rw (f.used, ← drop-drop (first_size o.tree) at text) (starts-after room (drop at text) o.tree rest o.starts);
                  used = omega (arith, o.used, f.used, size-after o.tree);
                  same = rw (w, f.word) (sym (word_after word o.tree (full t rest h)) ∙ o.same);
                };
          }

-- the end of the text
pub read_end : (room : ℕ) (text : List ℕ) (word : Option (List ℕ)) (at : ℕ) → ProductKept room text word at → length text ≤ at
    → ProductReads room text (record { word = word; used = at })
read_end room text word at kept past t rest h =
    let o = kept.onward t rest h in
    let l : length (drop at text) ≡ length (spelled o.tree) + length rest = ap length o.starts.same ∙ length-append (spelled o.tree) rest in
    let z : o.tree ≡ nothing = no_tree o.tree (omega (arith, l, length-drop at text)) in
    record { used = sym (o.used ∙ rw z (omega arith)); word = rw z at o.same }
  where
    no_tree : (t : Product) → length (spelled t) ≡ 0 → t ≡ nothing
    no_tree nothing e = refl
    no_tree (letter x p t) e = absurd (omega arith)
    no_tree (group u p t) e = absurd (omega arith)
    no_tree (bracket u v p t) e = absurd (omega arith)

quiet_on : (t : Product) → Proper t → (r : List ℕ) → Stops r → Quiet (spelled t ++ r)
quiet_on nothing h [] k = tt
quiet_on nothing h (b ∷ r) k = (k.1, k.2)
quiet_on (letter x p t) h r k = (letter_no_sign x 94 h.0 refl, letter_no_digit x h.0)
quiet_on (group u p t) h r k = (refl, refl)
quiet_on (bracket u v p t) h r k = (refl, refl)

-- a power at a place of a text, and the product after it
record PowerAt (text : List ℕ) (at : ℕ) (p : Power) : Type 0 where
  same : exponent_of (drop at text) ≡ exponent_for p
  within : PowerWithin p
  inside : at ≤ length text

power_at_lem : (text u : List ℕ) (at : ℕ) (p : Power) (t : Product) (rest : List ℕ) → text ≡ u ++ (spelled_power p ++ (spelled t ++ rest)) → length u ≡ at
    → ProperPower p → PowerWithin p → Proper t → Stops rest → PowerAt text at p
power_at_lem text u at p t rest e l f w h k =
    record {
      same =
          ap (λ (s : List ℕ). exponent_of (drop at s)) e ∙ ap exponent_of (drop_at u (spelled_power p ++ (spelled t ++ rest)) at l)
          ∙ exponent_for_lem p f (spelled t ++ rest) (quiet_on t h rest k);
      within = w;
      inside = omega (arith, ap length e, length-append u (spelled_power p ++ (spelled t ++ rest)));
    }

number_at : {text : List ℕ} {at : ℕ} {p : Power} → PowerAt text at p → IfSome (exponent_of (drop at text)) (λ e. e.number ≤ 63)
number_at {p = p} a = rw a.same (number_for p a.within)

-- what stands at the beginning of a text
record LetterHere (text : List ℕ) (t : Product) : Type 0 where
  byte : ℕ
  power : Power
  rest : Product
  is : t ≡ letter byte power rest
  here : get_or text 0 0 ≡ byte
  power_at : PowerAt text 1 power

record GroupHere (room : ℕ) (text : List ℕ) (t : Product) : Type 0 where
  inner : Product
  power : Power
  rest : Product
  is : t ≡ group inner power rest
  after_it : List ℕ
  starts : StartsWith (room - 1) (drop 1 text) inner after_it
  power_at : PowerAt text (length (spelled inner) + 2) power
  some_room : 1 ≤ room

record BracketHere (room : ℕ) (text : List ℕ) (t : Product) : Type 0 where
  one : Product
  two : Product
  power : Power
  rest : Product
  is : t ≡ bracket one two power rest
  after_one : List ℕ
  after_two : List ℕ
  starts : StartsWith (room - 1) (drop 1 text) one after_one
  starts_too : StartsWith (room - 1) (drop (length (spelled one) + 2) text) two after_two
  power_at : PowerAt text (length (spelled one) + 2 + length (spelled two) + 1) power
  some_room : 1 ≤ room

module _ (text : List ℕ) (full : 0 < length text) (begins : starts_factor (get_or text 0 0) ≡ true) where
  here : text ≡ get_or text 0 0 ∷ drop 1 text
  here = drop-cons text 0 0 full

  letter_here : (room : ℕ) (t : Product) (rest : List ℕ) → StartsWith room text t rest → (get_or text 0 0 ≡ 40 → ⊥) → (get_or text 0 0 ≡ 91 → ⊥) → LetterHere text t
  letter_here room nothing rest h n m = absurd (starts_full room (get_or text 0 0) (drop 1 text) nothing rest (rw here at h) begins)
  letter_here room (letter x p t) rest h n m =
      let z : get_or text 0 0 ≡ x = ap (λ (s : List ℕ). get_or s 0 0) h.same in
      record {
        byte = x;
        power = p;
        rest = t;
        is = refl;
        here = z;
        power_at = power_at_lem text (x ∷ []) 1 p t rest (h.same ∙ ap (◌∷◌ x) (append_assoc (spelled_power p) (spelled t) rest)) refl h.proper.1 h.powers.0 h.proper.2 h.stops;
      }
  letter_here room (group u p t) rest h n m = absurd (n (ap (λ (s : List ℕ). get_or s 0 0) h.same))
  letter_here room (bracket u v p t) rest h n m = absurd (m (ap (λ (s : List ℕ). get_or s 0 0) h.same))

  group_here : (room : ℕ) (t : Product) (rest : List ℕ) → StartsWith room text t rest → get_or text 0 0 ≡ 40 → GroupHere room text t
  group_here room nothing rest h e = absurd (starts_full room (get_or text 0 0) (drop 1 text) nothing rest (rw here at h) begins)
  group_here room (letter x p t) rest h e =
      let z : x ≡ 40 = sym (ap (λ (s : List ℕ). get_or s 0 0) h.same) ∙ e in
      absurd (both_ways _ (rw z refl) h.proper.0)
  group_here zero (group u p t) rest h e = absurd h.nests
  group_here (suc n) (group u p t) rest h e =
      let m : suc n - 1 ≡ n = omega arith in
      let z : List ℕ = spelled_power p ++ (spelled t ++ rest) in
      let whole : text ≡ 40 ∷ (spelled u ++ (41 ∷ z)) =
      h.same ∙ ap (◌∷◌ 40) (append_assoc (spelled u) (41 ∷ (spelled_power p ++ spelled t)) rest ∙ ap (λ (l : List ℕ). spelled u ++ (41 ∷ l)) (append_assoc (spelled_power p) (spelled t) rest)) in
      record {
        inner = u;
        power = p;
        rest = t;
        is = refl;
        after_it = 41 ∷ z;
        starts = record { proper = h.proper.0; nests = rw m h.nests.0; powers = h.powers.0; stops = (refl, refl, refl); same = ap (drop 1) whole };
        power_at = power_at_lem text (40 ∷ (spelled u ++ (41 ∷ []))) (length (spelled u) + 2) p t rest
            (whole ∙ ap (◌∷◌ 40) (sym (append_assoc (spelled u) (41 ∷ []) z)))
            (omega (arith, length-append (spelled u) (41 ∷ []))) h.proper.1 h.powers.1 h.proper.2 h.stops;
        some_room = omega arith;
      }
  group_here room (bracket u v p t) rest h e =
      let z : ◌≡◌ {A = ℕ} 91 40 = sym (ap (λ (s : List ℕ). get_or s 0 0) h.same) ∙ e in
      absurd (omega arith)

  bracket_here : (room : ℕ) (t : Product) (rest : List ℕ) → StartsWith room text t rest → get_or text 0 0 ≡ 91 → BracketHere room text t
  bracket_here room nothing rest h e = absurd (starts_full room (get_or text 0 0) (drop 1 text) nothing rest (rw here at h) begins)
  bracket_here room (letter x p t) rest h e =
      let z : x ≡ 91 = sym (ap (λ (s : List ℕ). get_or s 0 0) h.same) ∙ e in
      absurd (both_ways _ (rw z refl) h.proper.0)
  bracket_here room (group u p t) rest h e =
      let z : ◌≡◌ {A = ℕ} 40 91 = sym (ap (λ (s : List ℕ). get_or s 0 0) h.same) ∙ e in
      absurd (omega arith)
  bracket_here zero (bracket u v p t) rest h e = absurd h.nests
  bracket_here (suc n) (bracket u v p t) rest h e =
      let m : suc n - 1 ≡ n = omega arith in
      let z : List ℕ = spelled_power p ++ (spelled t ++ rest) in
      let y : List ℕ = spelled v ++ (93 ∷ z) in
      let whole : text ≡ 91 ∷ (spelled u ++ (44 ∷ y)) =
      h.same ∙ ap (◌∷◌ 91) (append_assoc (spelled u) (44 ∷ (spelled v ++ (93 ∷ (spelled_power p ++ spelled t)))) rest
      ∙ ap (λ (l : List ℕ). spelled u ++ (44 ∷ l)) (append_assoc (spelled v) (93 ∷ (spelled_power p ++ spelled t)) rest
      ∙ ap (λ (l : List ℕ). spelled v ++ (93 ∷ l)) (append_assoc (spelled_power p) (spelled t) rest))) in
      let begin : List ℕ = 91 ∷ (spelled u ++ (44 ∷ [])) in
      let begun : text ≡ begin ++ y = whole ∙ ap (◌∷◌ 91) (sym (append_assoc (spelled u) (44 ∷ []) y)) in
      let size : length begin ≡ length (spelled u) + 2 = omega (arith, length-append (spelled u) (44 ∷ [])) in
      record {
        one = u;
        two = v;
        power = p;
        rest = t;
        is = refl;
        after_one = 44 ∷ y;
        after_two = 93 ∷ z;
        starts = record { proper = h.proper.0; nests = rw m h.nests.0; powers = h.powers.0; stops = (refl, refl, refl); same = ap (drop 1) whole };
        starts_too = record {
          proper = h.proper.1;
          nests = rw m h.nests.1;
          powers = h.powers.1;
          stops = (refl, refl, refl);
          same = ap (drop (length (spelled u) + 2)) begun ∙ drop_at begin y (length (spelled u) + 2) size;
        };
        power_at = power_at_lem text (begin ++ (spelled v ++ (93 ∷ []))) (length (spelled u) + 2 + length (spelled v) + 1) p t rest
            (begun ∙ ap (◌++◌ begin) (sym (append_assoc (spelled v) (93 ∷ []) z)) ∙ sym (append_assoc begin (spelled v ++ (93 ∷ [])) z))
            (omega (arith, size, length-append begin (spelled v ++ (93 ∷ [])), length-append (spelled v) (93 ∷ []))) h.proper.2 h.powers.2 h.proper.3 h.stops;
        some_room = omega arith;
      }

-- the factor reader's text, and its first byte
module _ (room : ℕ) (text : List ℕ) (full : 0 < length text) (begins : starts_factor (get_or text 0 0) ≡ true) where
  module _ (no-group : get_or text 0 0 ≡ 40 → ⊥) (no-bracket : get_or text 0 0 ≡ 91 → ⊥) where
    pub letter_power : Readable room text → IfSome (exponent_of (drop 1 text)) (λ e. e.number ≤ 63)
    letter_power r = number_at (letter_here text full begins room r.tree r.rest r.starts no-group no-bracket).power_at

    pub read_letter : (word : Option (List ℕ)) (r : Reading) → word ≡ Some (get_or text 0 0 ∷ []) → PowerReads text 1 word r → FactorReads room text r
    read_letter word r w q t rest h =
        let l = letter_here text full begins room t rest h no-group no-bracket in
        let a = l.power_at in
        rw l.is (record {
          used = q.used ∙ rw (a.same, size_for);
          word = q.word ∙ rw (a.same, w, l.here) (raise_for l.power (Some (l.byte ∷ [])));
        })

  module _ (opens : get_or text 0 0 ≡ 40) where
    pub group-room : Readable room text → 1 ≤ room
    group-room r = (group_here text full begins room r.tree r.rest r.starts opens).some_room

    pub group_readable : Readable room text → Readable (room - 1) (take (length text - 1) (drop 1 text))
    group_readable r =
        let g = group_here text full begins room r.tree r.rest r.starts opens in
        rw take_rest (record { tree = g.inner; rest = g.after_it; starts = g.starts })

    module _ (inner : Reading) (reads : ProductReads (room - 1) (take (length text - 1) (drop 1 text)) inner) where
      group_read : (t : Product) (rest : List ℕ) (h : StartsWith room text t rest) → ReadAll (group_here text full begins room t rest h opens).inner inner
      group_read t rest h =
          let g = group_here text full begins room t rest h opens in
          reads g.inner g.after_it (rw take_rest g.starts)

      pub group_end : Readable room text → inner.used + 2 ≤ length text
      group_end r =
          let g = group_here text full begins room r.tree r.rest r.starts opens in
          omega (arith, (group_read r.tree r.rest r.starts).used, g.power_at.inside)

      pub group_power : Readable room text → IfSome (exponent_of (drop (inner.used + 2) text)) (λ e. e.number ≤ 63)
      group_power r =
          let g = group_here text full begins room r.tree r.rest r.starts opens in
          rw (group_read r.tree r.rest r.starts).used (number_at g.power_at)

      pub read_group : (r : Reading) → PowerReads text (inner.used + 2) inner.word r → FactorReads room text r
      read_group r q t rest h =
          let g = group_here text full begins room t rest h opens in
          let f = group_read t rest h in
          let e : exponent_of (drop (inner.used + 2) text) ≡ exponent_for g.power = rw f.used g.power_at.same in
          rw g.is (record {
            used = q.used ∙ rw (e, size_for, f.used);
            word = q.word ∙ rw (e, f.word) (raise_for g.power (read_after (Some []) g.inner));
          })

-- the bracket reader's text
module _ (room : ℕ) (text : List ℕ) (opens : get_or text 0 0 ≡ 91) where
  abbrev bracket_at : (t : Product) (rest : List ℕ) → StartsWith room text t rest → BracketHere room text t
  bracket_at t rest h = bracket_here text (opens_full text opens) (rw opens refl) room t rest h opens

  pub bracket-room : Readable room text → 1 ≤ room
  bracket-room r = (bracket_at r.tree r.rest r.starts).some_room

  pub bracket_readable : Readable room text → Readable (room - 1) (take (length text - 1) (drop 1 text))
  bracket_readable r =
      let g = bracket_at r.tree r.rest r.starts in
      rw take_rest (record { tree = g.one; rest = g.after_one; starts = g.starts })

  module _ (u : Reading) (reads : ProductReads (room - 1) (take (length text - 1) (drop 1 text)) u) where
    one_read : (t : Product) (rest : List ℕ) (h : StartsWith room text t rest) → ReadAll (bracket_at t rest h).one u
    one_read t rest h =
        let g = bracket_at t rest h in
        reads g.one g.after_one (rw take_rest g.starts)

    pub bracket-middle : Readable room text → u.used + 2 ≤ length text
    bracket-middle r =
        let g = bracket_at r.tree r.rest r.starts in
        omega (arith, (one_read r.tree r.rest r.starts).used, g.power_at.inside)

    pub bracket_readable_too : Readable room text → Readable (room - 1) (take (length text - (u.used + 2)) (drop (u.used + 2) text))
    bracket_readable_too r =
        let g = bracket_at r.tree r.rest r.starts in
        rw (take_rest, (one_read r.tree r.rest r.starts).used) (record { tree = g.two; rest = g.after_two; starts = g.starts_too })

    module _ (v : Reading) (reads-too : ProductReads (room - 1) (take (length text - (u.used + 2)) (drop (u.used + 2) text)) v) where
      two_read : (t : Product) (rest : List ℕ) (h : StartsWith room text t rest) → ReadAll (bracket_at t rest h).two v
      two_read t rest h =
          let g = bracket_at t rest h in
          reads-too g.two g.after_two (rw (take_rest, (one_read t rest h).used) g.starts_too)

      pub bracket_end : Readable room text → u.used + 2 + v.used + 1 ≤ length text
      bracket_end r =
          let g = bracket_at r.tree r.rest r.starts in
          omega (arith, (one_read r.tree r.rest r.starts).used, (two_read r.tree r.rest r.starts).used, g.power_at.inside)

      pub bracket-before_end : Readable room text → u.used + 2 + v.used ≤ length text
      bracket-before_end r = omega (arith, bracket_end r)

      pub bracket_power : Readable room text → IfSome (exponent_of (drop (u.used + 2 + v.used + 1) text)) (λ e. e.number ≤ 63)
      bracket_power r =
          let g = bracket_at r.tree r.rest r.starts in
          rw ((one_read r.tree r.rest r.starts).used, (two_read r.tree r.rest r.starts).used) (number_at g.power_at)

      bracket_read : (word : Option (List ℕ)) (r : Reading) → word ≡ commute_of u.word v.word
          → PowerReads text (u.used + 2 + v.used + 1) word r → FactorReads room text r
      bracket_read word r w q t rest h =
          let g = bracket_at t rest h in
          let a = one_read t rest h in
          let b = two_read t rest h in
          let e : exponent_of (drop (u.used + 2 + v.used + 1) text) ≡ exponent_for g.power = rw (a.used, b.used) g.power_at.same in
          rw g.is (record {
            used = q.used ∙ rw (e, size_for, a.used, b.used);
            word = q.word ∙ rw (e, w, a.word, b.word) (raise_for g.power (commute_of (read_after (Some []) g.one) (read_after (Some []) g.two)));
          })

pub read_bracket : (room : ℕ) (text : List ℕ) (u v r : Reading) (word : Option (List ℕ)) → PowerReads text (u.used + 2 + v.used + 1) word r
    → word ≡ commute_of u.word v.word → ProductReads (room - 1) (take (length text - 1) (drop 1 text)) u
    → ProductReads (room - 1) (take (length text - (u.used + 2)) (drop (u.used + 2) text)) v → get_or text 0 0 ≡ 91
    → FactorReads room text r
read_bracket room text u v r word q w a b opens = bracket_read room text opens u a v b word r w q
