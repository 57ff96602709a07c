-- Common prefixes of two words, and from them how much cancels between two freely reduced words: the product is what
-- is left of both, so that a product shorter than a factor is a count of letters.
use Prim.Native.Nat.{ℕ, zero, suc, ◌+◌, ◌-◌, ◌*◌, ◌/◌, ◌%◌, ◌≤◌, ◌<◌}
use mathlib.Core.Path.{◌≡◌, refl, sym, ap, ◌∙◌}
use mathlib.Core.List.{List, [], ◌∷◌, ◌++◌, append_assoc, append-nil}
use native.Mathlib.Omega.{arith}
use native.Mathlib.Decide.{dec_lt}
use lib.ListN.{length, get_or, take, drop, take-append-drop, length-append, length-take, length-drop}
use lib.Seq.{take-suc, take_at, take-length, take-take, length-take-le}
use Rattle.words.specs.Alphabet.{Alphabet}
use Rattle.words.specs.Words.{freely_reduce, Irreducible, inverse, common_prefix, common_suffix, cancellation}
use Rattle.words.proofs.Alphabet.{AlphabetLaws, same_yes, same_no, same?}
use Rattle.words.proofs.FreeReduction.{irreducible_tail, irreducible_join, freely_reduce-same, freely_reduce_pair_flip}
use Rattle.words.proofs.Inverse.{inverse-nil, inverse-cons, inverse_twice, inverse-length, inverse_irreducible, inverse-drop, inverse-get_or, freely_reduce-inverse_self}

module _ {A : Type 0} (G : Alphabet A) (L : AlphabetLaws G) where
  open G use {flip}
  open L use {twice}

  pub common_prefix-same : (x y : A) (u v : List A) → x ≡ y → common_prefix G (x ∷ u) (y ∷ v) ≡ suc (common_prefix G u v)
  common_prefix-same x y u v e = rw (same_yes G L x y e)

  pub common_prefix_differ : (x y : A) (u v : List A) → (x ≡ y → ⊥) → common_prefix G (x ∷ u) (y ∷ v) ≡ 0
  common_prefix_differ x y u v n = rw (same_no G L x y n)

  pub common_prefix-nil : (u : List A) → common_prefix G u [] ≡ 0
  common_prefix-nil [] = refl
  common_prefix-nil (x ∷ u) = refl

  pub common_prefix_le_left : (u v : List A) → common_prefix G u v ≤ length u
  common_prefix_le_left [] v = omega arith
  common_prefix_le_left (x ∷ u) [] = omega arith
  common_prefix_le_left (x ∷ u) (y ∷ v) = elim (same? G L x y) [
    | yes e ↦ rw (common_prefix-same x y u v e) (omega (arith, common_prefix_le_left u v))
    | no n ↦ rw (common_prefix_differ x y u v n) (omega arith)
  ]

  pub common_prefix_comm : (u v : List A) → common_prefix G u v ≡ common_prefix G v u
  common_prefix_comm [] v = sym (common_prefix-nil v)
  common_prefix_comm (x ∷ u) [] = refl
  common_prefix_comm (x ∷ u) (y ∷ v) = elim (same? G L x y) [
    | yes e ↦ rw (common_prefix-same x y u v e, common_prefix-same y x v u (sym e), common_prefix_comm u v)
    | no n ↦ rw (common_prefix_differ x y u v n, common_prefix_differ y x v u (λ e. n (sym e)))
  ]

  pub common_prefix_le_right : (u v : List A) → common_prefix G u v ≤ length v
  common_prefix_le_right u v = rw (common_prefix_comm u v) (common_prefix_le_left v u)

  pub common_prefix_self : (u : List A) → common_prefix G u u ≡ length u
  common_prefix_self [] = refl
  common_prefix_self (x ∷ u) = rw (common_prefix-same x x u u refl, common_prefix_self u)

  pub common_prefix-append : (p u v : List A) → common_prefix G (p ++ u) (p ++ v) ≡ length p + common_prefix G u v
  common_prefix-append [] u v = omega arith
  common_prefix-append (x ∷ p) u v = rw (common_prefix-same x x (p ++ u) (p ++ v) refl) (omega (arith, common_prefix-append p u v))

  -- the words agree as far as their common prefix goes
  pub common_prefix_agree : (n : ℕ) (u v : List A) → n ≤ common_prefix G u v → take n u ≡ take n v
  common_prefix_agree zero u v h = refl
  common_prefix_agree (suc n) [] v h = absurd (omega arith)
  common_prefix_agree (suc n) (x ∷ u) [] h = absurd (omega arith)
  common_prefix_agree (suc n) (x ∷ u) (y ∷ v) h = elim (same? G L x y) [
    | yes e ↦ rw (e, common_prefix_agree n u v (omega (arith, common_prefix-same x y u v e)))
    | no d ↦ absurd (omega (arith, common_prefix_differ x y u v d))
  ]

  pub common_prefix-most : (n : ℕ) (u v : List A) → n ≤ length u → take n u ≡ take n v → n ≤ common_prefix G u v
  common_prefix-most zero u v h e = omega arith
  common_prefix-most (suc n) [] v h e = absurd (omega arith)
  common_prefix-most (suc n) (x ∷ u) [] h e = absurd (omega (arith, ap length e))
  common_prefix-most (suc n) (x ∷ u) (y ∷ v) h e =
      let p : x ≡ y = cc in
      let q : take n u ≡ take n v = cc in
      rw (common_prefix-same x y u v p) (omega (arith, common_prefix-most n u v (omega arith) q))

  pub common_prefix-get_or : (i : ℕ) (u v : List A) (d e : A) → i < common_prefix G u v → get_or u i d ≡ get_or v i e
  common_prefix-get_or i [] v d e h = absurd (omega arith)
  common_prefix-get_or i (x ∷ u) [] d e h = absurd (omega arith)
  common_prefix-get_or zero (x ∷ u) (y ∷ v) d e h = elim (same? G L x y) [
    | yes p ↦ p
    | no n ↦ absurd (omega (arith, common_prefix_differ x y u v n))
  ]
  common_prefix-get_or (suc i) (x ∷ u) (y ∷ v) d e h = elim (same? G L x y) [
    | yes p ↦ common_prefix-get_or i u v d e (omega (arith, common_prefix-same x y u v p))
    | no n ↦ absurd (omega (arith, common_prefix_differ x y u v n))
  ]

  pub common_prefix-more : (u v : List A) (i : ℕ) (d e : A) → i ≤ common_prefix G u v → i < length u → i < length v → get_or u i d ≡ get_or v i e
      → suc i ≤ common_prefix G u v
  common_prefix-more u v i d e c h k g = common_prefix-most (suc i) u v h
      (rw (take-suc u i d h, take-suc v i e k, common_prefix_agree i u v c, g))

  pub common_prefix_stop : (u v : List A) (i : ℕ) (d e : A) → i ≤ common_prefix G u v → (get_or u i d ≡ get_or v i e → ⊥) → common_prefix G u v ≡ i
  common_prefix_stop u v i d e c n = elim (dec_lt i (common_prefix G u v)) [
    | yes h ↦ absurd (n (common_prefix-get_or i u v d e h))
    | no h ↦ omega arith
  ]

  take_fewer : (m k : ℕ) (u v : List A) → m ≤ k → take k u ≡ take k v → take m u ≡ take m v
  take_fewer m k u v h e = sym (take-take m k u h) ∙ ap (take m) e ∙ take-take m k v h

  -- two words that agree in the first k letters have as much in common with a word that parts from one of them within those
  pub common_prefix_local : (k : ℕ) (w u v : List A) → take k u ≡ take k v → common_prefix G w v < k → common_prefix G w u ≡ common_prefix G w v
  common_prefix_local k w u v e h =
      let n : ℕ = common_prefix G w v in
      elim (dec_lt n (common_prefix G w u)) [
        | yes m ↦ absurd (omega (
          arith,
          common_prefix-most (suc n) w v (omega (arith, common_prefix_le_left w u))
              (common_prefix_agree (suc n) w u m ∙ take_fewer (suc n) k u v h e),
        ))
        | no m ↦ omega (
          arith,
          common_prefix-most n w u (common_prefix_le_left w v)
              (common_prefix_agree n w v (omega arith) ∙ sym (take_fewer n k u v (omega arith) e)),
        )
      ]

  pub common_prefix_trans : (n : ℕ) (u v w : List A) → n ≤ common_prefix G u v → n ≤ common_prefix G v w → n ≤ common_prefix G u w
  common_prefix_trans n u v w h k = common_prefix-most n u w (omega (arith, common_prefix_le_left u v)) (common_prefix_agree n u v h ∙ common_prefix_agree n v w k)

  pub common_prefix-begins : (u v : List A) → common_prefix G u v ≡ length u → take (length u) v ≡ u
  common_prefix-begins u v e = sym (common_prefix_agree (length u) u v (omega arith)) ∙ take-length u

  pub begins-common_prefix : (u v : List A) → take (length u) v ≡ u → common_prefix G u v ≡ length u
  begins-common_prefix u v e = omega (arith, common_prefix_le_left u v, common_prefix-most (length u) u v (omega arith) (take-length u ∙ sym e))

  pub cancellation-common_prefix : (u v : List A) → cancellation G u v ≡ common_prefix G (inverse G u) v
  unfolding cancellation
  cancellation-common_prefix u v = refl

  pub cancellation-inverse_left : (u v : List A) → cancellation G (inverse G u) v ≡ common_prefix G u v
  cancellation-inverse_left u v = rw (cancellation-common_prefix, inverse_twice G L)

  pub cancellation-inverse_right : (u v : List A) → cancellation G u (inverse G v) ≡ common_suffix G u v
  cancellation-inverse_right u v = cancellation-common_prefix u (inverse G v)

  pub cancellation_inverses : (u v : List A) → cancellation G u v ≡ cancellation G (inverse G v) (inverse G u)
  cancellation_inverses u v = rw (cancellation-common_prefix u v, cancellation-inverse_left) (common_prefix_comm (inverse G u) v)

  pub cancellation_le_left : (u v : List A) → cancellation G u v ≤ length u
  cancellation_le_left u v = rw (cancellation-common_prefix, ← inverse-length G L u) (common_prefix_le_left (inverse G u) v)

  pub cancellation_le_right : (u v : List A) → cancellation G u v ≤ length v
  cancellation_le_right u v = rw cancellation-common_prefix (common_prefix_le_right (inverse G u) v)

  pub cancellation_local : (k : ℕ) (w u v : List A) → take k u ≡ take k v → cancellation G w v < k → cancellation G w u ≡ cancellation G w v
  unfolding cancellation
  cancellation_local k w u v e h = common_prefix_local k (inverse G w) u v e h

  -- the inverse of a word before another: what they have in common goes
  freely_reduce-common_prefix : (r v : List A) → Irreducible G r → Irreducible G v
      → freely_reduce G (inverse G r ++ v) ≡ inverse G (drop (common_prefix G r v) r) ++ drop (common_prefix G r v) v
  freely_reduce-common_prefix [] v h k = rw (inverse-nil G L) (freely_reduce-same G L v k)
  freely_reduce-common_prefix (x ∷ r) [] h k = rw append-nil (freely_reduce-same G L (inverse G (x ∷ r)) (inverse_irreducible G L (x ∷ r) h))
  freely_reduce-common_prefix (x ∷ r) (y ∷ v) h k = elim (same? G L x y) [
    | yes e ↦ rw (common_prefix-same x y r v e, inverse-cons G L, append_assoc, ← e, freely_reduce_pair_flip G L)
        (freely_reduce-common_prefix r v (irreducible_tail G L x r h) (irreducible_tail G L y v k))
    | no n ↦ rw (common_prefix_differ x y r v n, inverse-cons G L, append_assoc)
        (freely_reduce-same G L (inverse G r ++ (flip x ∷ y ∷ v)) (irreducible_join G L (inverse G r) v (flip x) y
        (rw (inverse-cons G L) at (inverse_irreducible G L (x ∷ r) h)) k (λ q. n (sym (q ∙ twice x)))))
  ]

  -- of two freely reduced words as many letters cancel at the seam as are counted there, and no more
  pub freely_reduce-cancellation : (u v : List A) → Irreducible G u → Irreducible G v
      → freely_reduce G (u ++ v) ≡ take (length u - cancellation G u v) u ++ drop (cancellation G u v) v
  freely_reduce-cancellation u v h k = simp (← cancellation-common_prefix u v, inverse-drop G L, inverse_twice G L, inverse-length G L)
      at (freely_reduce-common_prefix (inverse G u) v (inverse_irreducible G L u h) k)

  pub length-cancellation : (u v : List A) → Irreducible G u → Irreducible G v
      → length (freely_reduce G (u ++ v)) + 2 * cancellation G u v ≡ length u + length v
  length-cancellation u v h k = simp (freely_reduce-cancellation u v h k, length-append, length-take, length-drop)
      (omega (arith, cancellation_le_left u v, cancellation_le_right u v))

  -- what is left of the first word begins the product, and what is left of the second ends it
  pub freely_reduce-begins : (u v : List A) → Irreducible G u → Irreducible G v
      → take (length u - cancellation G u v) (freely_reduce G (u ++ v)) ≡ take (length u - cancellation G u v) u
  freely_reduce-begins u v h k = let c : ℕ = cancellation G u v in
      rw (freely_reduce-cancellation u v h k)
      (take_at (take (length u - c) u) (drop c v) (length u - c) (length-take-le (length u - c) u (omega arith)))

  -- half of a word of even length: the word would be an inverse and the word after it
  self_even : (w : List A) (m : ℕ) → Irreducible G w → length w ≡ m + m → m ≤ cancellation G w w → 0 < length w → ⊥
  self_even w m h e c k =
      let a : take m (inverse G w) ≡ take m w = common_prefix_agree m (inverse G w) w (rw cancellation-common_prefix at c) in
      let b : inverse G (drop m w) ≡ take m w = inverse-drop G L m w ∙ rw (sub_half (length w) m e) a in
      let f : w ≡ inverse G (drop m w) ++ drop m w = rw (b, take-append-drop) in
      let g : w ≡ [] = sym (freely_reduce-same G L w h) ∙ ap (freely_reduce G) f ∙ freely_reduce-inverse_self G L (drop m w) in
      omega (arith, ap length g)
    where
      sub_half : (n m : ℕ) → n ≡ m + m → n - m ≡ m
      sub_half n m e = omega arith

  module _ (no_own_inverse : (x : A) → flip x ≡ x → ⊥) where
    -- more than half of a word of odd length: the letter in the middle would be its own inverse
    self_odd : (w : List A) (m : ℕ) (d : A) → length w ≡ suc (m + m) → m < cancellation G w w → ⊥
    self_odd w m d e c = no_own_inverse (get_or w m d)
        (sym (inverse-get_or G L w m m d d (omega arith)) ∙ common_prefix-get_or m (inverse G w) w d d (rw cancellation-common_prefix at c))

    -- less than half of a freely reduced word cancels against itself
    pub cancellation_self : (w : List A) → Irreducible G w → 0 < length w → 2 * cancellation G w w < length w
    cancellation_self [] h k = absurd (omega arith)
    cancellation_self (x ∷ w) h k =
        let n : ℕ = length (x ∷ w) in
        elim (dec_lt (2 * cancellation G (x ∷ w) (x ∷ w)) n) [
          | yes p ↦ p
          | no p ↦ absurd (elim (dec_lt (n % 2) 1) [
            | yes q ↦ self_even (x ∷ w) (n / 2) h (omega arith) (omega arith) k
            | no q ↦ self_odd (x ∷ w) (n / 2) x (omega arith) (omega arith)
          ])
        ]
