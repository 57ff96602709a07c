-- Laws of freely reduced words of at most 63 letters as values: a word that is kept where it is short enough, and the products, commutators
-- and powers that are made one factor after the other.
use Prim.Native.Nat.{◌+◌, ◌<◌, ◌≤◌, suc, zero, ℕ}
use mathlib.Core.Bool.{Bool}
use mathlib.Core.List.{List, [], ◌++◌, append_assoc, append-nil}
use mathlib.Core.Path.{◌∙◌, ◌≡◌, ap, refl, sym}
use Rattle.std.specs.Prelude.{None, Option, Some}
use native.Mathlib.Nat.{le_antisymm}
use native.Mathlib.Numerals.{add-one}
use lib.ListN.{length}
use borrow.Author.Tests.{le-leb, lt-leb}
use Rattle.words.specs.Alphabet.{bytes}
use Rattle.words.specs.Words.{freely_reduce, inverse, signed}
use Rattle.words.proofs.Alphabet.{byte_laws}
use Rattle.words.proofs.FreeReduction.{freely_reduce_left, freely_reduce_twice}
use Rattle.syntax.specs.TreeWords.{commutator, times}
use Rattle.powers.specs.Bounded.{commute_of, join_of, raise_of, within}

-- a freely reduced word that is kept, or not
module _ (w : List ℕ) (freely : freely_reduce bytes w ≡ w) where
  pub kept_long : 63 < length w → None ≡ within w
  unfolding within
  kept_long h = rw (freely, lt-leb (length w) 63 h)

  pub kept_short : length w ≤ 63 → Some w ≡ within w
  unfolding within
  kept_short h = rw (freely, le-leb (length w) 63 h)

-- and a word kept after it was freely reduced
kept_of : (w : List ℕ) {p : List ℕ} {r : Option (List ℕ)} → p ≡ freely_reduce bytes w → r ≡ within p → r ≡ within w
unfolding within
kept_of w e kept = kept ∙ rw (e, freely_reduce_twice bytes byte_laws w)

-- and a product that is short before it is freely reduced
product_short : (w : List ℕ) {p : List ℕ} → p ≡ freely_reduce bytes w → length p ≤ 63 → Some p ≡ within w
product_short w e h = kept_of w e (kept_short _ (ap (freely_reduce bytes) e ∙ freely_reduce_twice bytes byte_laws w ∙ sym e) h)

-- one more factor
pushed_on : (u v : List ℕ) {p q : List ℕ} → p ≡ freely_reduce bytes u → q ≡ freely_reduce bytes (p ++ v) → q ≡ freely_reduce bytes (u ++ v)
pushed_on u v e f = f ∙ ap (λ (l : List ℕ). freely_reduce bytes (l ++ v)) e ∙ sym (freely_reduce_left bytes byte_laws u v)

-- two words, one after the other, and their commutator
module _ {a b : Option (List ℕ)} (u v : List ℕ) (first : a ≡ Some u) (second : b ≡ Some v) where
  pub joined : {r : Option (List ℕ)} {p q : List ℕ} → p ≡ u → q ≡ freely_reduce bytes (p ++ v) → r ≡ within q → r ≡ join_of a b
  joined e f kept = rw (first, second) (kept_of (u ++ v) (f ∙ rw e refl) kept)

  pub joined_short : {p : List ℕ} → p ≡ freely_reduce bytes (u ++ v) → length p ≤ 63 → Some p ≡ join_of a b
  joined_short e h = rw (first, second) (product_short (u ++ v) e h)

  pub commuted : {r : Option (List ℕ)} {n s t p q : List ℕ} → n ≡ [] → s ≡ freely_reduce bytes (n ++ inverse bytes u)
      → t ≡ freely_reduce bytes (s ++ inverse bytes v) → p ≡ freely_reduce bytes (t ++ u) → q ≡ freely_reduce bytes (p ++ v)
      → r ≡ within q → r ≡ commute_of a b
  commuted {q = q} o e f g h kept =
      let both : List ℕ = inverse bytes u ++ inverse bytes v in
      let two : _ = pushed_on (inverse bytes u) (inverse bytes v) (e ∙ rw o refl) f in
      let made : q ≡ freely_reduce bytes (commutator u v) =
      pushed_on (both ++ u) v (pushed_on both u two g) h
      ∙ ap (freely_reduce bytes) (append_assoc both u v ∙ append_assoc (inverse bytes u) (inverse bytes v) (u ++ v)) in
      rw (first, second) (kept_of (commutator u v) made kept)

-- a power, one factor more
times_last : (n : ℕ) (w : List ℕ) → times n w ++ w ≡ w ++ times n w
times_last zero w = sym (append-nil w)
times_last (suc n) w = append_assoc w (times n w) w ∙ ap (◌++◌ w) (times_last n w)

pub once_more : (i : ℕ) (w : List ℕ) {p q : List ℕ} → p ≡ freely_reduce bytes (times i w) → q ≡ freely_reduce bytes (p ++ w)
    → q ≡ freely_reduce bytes (times (i + 1) w)
once_more i w e f = rw add-one (pushed_on (times i w) w e f ∙ ap (freely_reduce bytes) (times_last i w))

pub raised : {a r : Option (List ℕ)} (w : List ℕ) (minus : Bool) (n i : ℕ) {p : List ℕ} → a ≡ Some w → n ≤ i → i ≤ n
    → p ≡ freely_reduce bytes (times i (signed bytes minus w)) → r ≡ within p → r ≡ raise_of minus n a
raised w minus n i e l h f kept =
    let same : i ≡ n = le_antisymm h l in
    rw e (kept_of (times n (signed bytes minus w)) (f ∙ ap (λ (j : ℕ). freely_reduce bytes (times j (signed bytes minus w))) same) kept)
