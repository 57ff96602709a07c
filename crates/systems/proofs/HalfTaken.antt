-- What a half-end move by slot h does: it puts the first half of h's word in place of the inverse of its second half, at the beginning of
-- a factor of another slot. So no word as short as h's or shorter qualifies that did not before, and that factor does not begin with
-- the inverse any more.
use Prim.Native.Nat.{ℕ, ◌+◌, ◌-◌, ◌*◌, ◌/◌, ◌%◌, ◌≤◌, ◌<◌}
use mathlib.Core.Path.{◌≡◌, refl, sym, ap, ap₂, ◌∙◌}
use mathlib.Core.Logic.{◌⊎◌, inl, inr}
use mathlib.Core.Bool.{Bool, true, false, not}
use mathlib.Core.List.{List, ◌++◌}
use native.Mathlib.Omega.{arith}
use native.Mathlib.Decide.{ℕ_discrete}
use lib.ListN.{length, take, drop, length-take, length-drop, take-append-drop}
use Rattle.words.specs.Alphabet.{Alphabet}
use Rattle.words.specs.Words.{freely_reduce, inverse, signed, Irreducible, common_prefix, cancellation}
use Rattle.words.proofs.Alphabet.{AlphabetLaws}
use Rattle.words.proofs.Inverse.{inverse-append, inverse_twice, inverse-length, inverse_split, freely_reduce-inverse}
use Rattle.words.proofs.Cancellation.{common_prefix_comm, common_prefix-append, common_prefix_trans, common_prefix_le_right, cancellation-common_prefix, cancellation_self, freely_reduce-cancellation}
use Rattle.systems.specs.Products.{factors, word, value, FreelyReduced}
use Rattle.systems.specs.declared.Factor.{Factor}
use Rattle.systems.specs.Moves.{made}
use Rattle.systems.specs.declared.Form.{Form}
use Rattle.systems.specs.declared.Move.{Move}
use Rattle.systems.specs.declared.Form.TheVariants.{Before, InverseAfter}
use Rattle.systems.specs.Reduced.{AtMostHalf}
use Rattle.systems.proofs.Factors.{factor_same, value-flip, value-length, value_irreducible, word_nonempty}
use Rattle.systems.proofs.Undoing.{made-changed, made_others}
use Rattle.systems.proofs.Halves.{begins_back_half}
use Rattle.systems.proofs.Qualifying.{Beginning, Qualified}
use Rattle.systems.proofs.HalfEnds.{EndTaken, at_end, at_beginning}

module _ {A : Type 0} (G : Alphabet A) where
  -- what a half-end move by slot h does to slot k: a factor y of it begins with the inverse of the second half of h's word, and after
  -- the move with the first half; its other end and all other slots stay
  pub record Taken (S T : List (List A)) (h k : ℕ) (y : Factor) : Type 0 where
    pub at_k : y.slot ≡ k
    pub before : length (word G S h) / 2 ≤ common_prefix G (inverse G (word G S h)) (value G S y)
    pub after : length (word G S h) / 2 ≤ common_prefix G (word G S h) (value G T y)
    pub behind : length (word G S h) / 2 ≤ common_prefix G (value G S (factors.flip y)) (value G T (factors.flip y))
    pub rest : (x : Factor) → (x.slot ≡ k → ⊥) → value G T x ≡ value G S x

same_or_not : (a b : Bool) → (a ≡ b) ⊎ (a ≡ not b)
same_or_not true true = inl refl
same_or_not true false = inr refl
same_or_not false true = inr refl
same_or_not false false = inl refl

-- the two factors of a slot
either_end : (x y : Factor) → x.slot ≡ y.slot → (x ≡ y) ⊎ (x ≡ factors.flip y)
either_end x y e = elim (same_or_not x.inverted y.inverted) [
  | inl s ↦ inl (factor_same x y e s)
  | inr s ↦ inr (factor_same x (factors.flip y) e s)
]

module _ {A : Type 0} (G : Alphabet A) (L : AlphabetLaws G) where
  -- two words of which just half of the first cancels
  half_product : (w v : List A) (m : ℕ) → Irreducible G w → Irreducible G v → length w ≡ 2 * m → cancellation G w v ≡ m
      → freely_reduce G (w ++ v) ≡ take m w ++ drop m v
  half_product w v m h k long e =
      let rest : length w - cancellation G w v ≡ m = omega arith in
      freely_reduce-cancellation G L w v h k ∙ ap₂ (λ (i j : ℕ). take i w ++ drop j v) rest e

  half_front : (w v : List A) (m : ℕ) → m ≤ length w → m ≤ common_prefix G w (take m w ++ drop m v)
  half_front w v m le =
      let split : common_prefix G (take m w ++ drop m w) (take m w ++ drop m v) ≡ length (take m w) + common_prefix G (drop m w) (drop m v) =
      common_prefix-append G L (take m w) (drop m w) (drop m v) in
      let whole : common_prefix G (take m w ++ drop m w) (take m w ++ drop m v) ≡ common_prefix G w (take m w ++ drop m v) =
      ap (λ (u : List A). common_prefix G u (take m w ++ drop m v)) (take-append-drop m w) in
      omega (arith, split, whole, length-take m w)

  half_behind : (w v : List A) (m : ℕ) → 2 * m ≤ length v → m ≤ common_prefix G (inverse G v) (inverse G (take m w ++ drop m v))
  half_behind w v m le =
      let back : List A = inverse G (drop m v) in
      let split : common_prefix G (back ++ inverse G (take m v)) (back ++ inverse G (take m w)) ≡ length back + common_prefix G (inverse G (take m v)) (inverse G (take m w)) =
      common_prefix-append G L back (inverse G (take m v)) (inverse G (take m w)) in
      let whole : common_prefix G (inverse G v) (inverse G (take m w ++ drop m v)) ≡ common_prefix G (back ++ inverse G (take m v)) (back ++ inverse G (take m w)) =
      ap₂ (common_prefix G) (inverse_split G L m v) (inverse-append G L (take m w) (drop m v)) in
      omega (arith, split, whole, inverse-length G L (drop m v), length-drop m v)

  module _ (S : List (List A)) (freely : FreelyReduced G S) (half : AtMostHalf G S) where
    -- the product that a half-end move puts in place of a factor
    taken_by : (h k : ℕ) (T : List (List A)) (y : Factor) → y.slot ≡ k → (k ≡ h → ⊥) → 0 < length (word G S h) → length (word G S h) % 2 ≡ 0
        → length (word G S h) / 2 ≤ common_prefix G (inverse G (word G S h)) (value G S y) → value G T y ≡ freely_reduce G (word G S h ++ value G S y)
        → ((x : Factor) → (x.slot ≡ k → ⊥) → value G T x ≡ value G S x) → Taken G S T h k y
    taken_by h k T y at apart filled even before product rest =
        let w : List A = word G S h in
        let v : List A = value G S y in
        let m : ℕ = length w / 2 in
        let x : Factor = record { slot = h; inverted = false } in
        let count : cancellation G w v ≡ common_prefix G (inverse G w) v = cancellation-common_prefix G L w v in
        let long : 0 < length (word G S y.slot) = omega (arith, before, filled, even, common_prefix_le_right G L (inverse G w) v, value-length G L S y) in
        let most = half x y (word_nonempty w filled) (word_nonempty (word G S y.slot) long) (λ e. apart (sym at ∙ sym e)) in
        let just : cancellation G w v ≡ m = omega (arith, most.0, before, count, even) in
        let new : value G T y ≡ take m w ++ drop m v =
        product ∙ half_product w v m (freely h) (value_irreducible G L S y (freely y.slot)) (omega (arith, even)) just in
        record {
          at_k = at;
          before = before;
          after = rw new (half_front w v m (omega arith));
          behind = rw (value-flip G L S y, value-flip G L T y, new) (half_behind w v m (omega (arith, most.1, just)));
          rest = rest;
        }

    made-rest : (m : Move) (x : Factor) → (x.slot ≡ m.changed → ⊥) → value G (made G S m) x ≡ value G S x
    made-rest m x n = ap (signed G x.inverted) (made_others G S m x.slot n)

    -- a half-end move does just that
    pub taken_made : (h k : ℕ) {form : Form} → k < length S → (k ≡ h → ⊥) → 0 < length (word G S h) → length (word G S h) % 2 ≡ 0
        → EndTaken G S h k form → (y : Factor) × Taken G S (made G S (record { changed = k; form = form; other = h })) h k y
    taken_made h k inside apart filled even (at_end t) =
        let m : Move = record { changed = k; form = InverseAfter; other = h } in
        let w : List A = word G S h in
        let v : List A = word G S k in
        let product : inverse G (word G (made G S m) k) ≡ freely_reduce G (w ++ inverse G v) =
        ap (inverse G) (made-changed G S m inside) ∙ sym (freely_reduce-inverse G L (v ++ inverse G w))
        ∙ ap (freely_reduce G) (inverse-append G L v (inverse G w) ∙ ap (λ (u : List A). u ++ inverse G v) (inverse_twice G L w)) in
        let y : Factor = record { slot = k; inverted = true } in
        (y, taken_by h k (made G S m) y refl apart filled even ((begins_back_half G L w (inverse G v) even).0 t) product (made-rest m))
    taken_made h k inside apart filled even (at_beginning d t) =
        let m : Move = record { changed = k; form = Before; other = h } in
        let y : Factor = record { slot = k; inverted = false } in (
          y,
          taken_by h k (made G S m) y refl apart filled even ((begins_back_half G L (word G S h) (word G S k) even).0 t)
              (made-changed G S m inside) (made-rest m),
        )

  module _ (S T : List (List A)) (h k : ℕ) (y : Factor) (t : Taken G S T h k y) (apart : k ≡ h → ⊥) where
    -- if after the move a factor of another slot agrees with z in its first j letters, j at most half of h's length, then one did before
    kept_beginning : (z : Factor) (j : ℕ) → (z.slot ≡ h → ⊥) → j ≤ length (word G S h) / 2 → Beginning G T z.slot j (value G T z)
        → Beginning G S z.slot j (value G S z)
    kept_beginning z j away le b = elim (ℕ_discrete z.slot k) [
      | yes at ↦ changed at (either_end z y (at ∙ sym t.at_k))
      | no off ↦ elim (ℕ_discrete b.factor.slot k) [
        | yes at ↦ unchanged off (either_end b.factor y (at ∙ sym t.at_k))
        | no far ↦ record {
          factor = b.factor;
          apart = b.apart;
          agrees = rw (t.rest z off, t.rest b.factor far) at b.agrees;
        }
      ]
    ]
      where
        same_rest : z.slot ≡ k → value G T b.factor ≡ value G S b.factor
        same_rest at = t.rest b.factor (λ e. b.apart (e ∙ sym at))

        changed : z.slot ≡ k → (z ≡ y) ⊎ (z ≡ factors.flip y) → Beginning G S z.slot j (value G S z)
        changed at (inl e) =
            record {
              factor = record { slot = h; inverted = true };
              apart = λ q. away (sym q);
              agrees = rw e (omega (arith, t.before, common_prefix_comm G L (inverse G (word G S h)) (value G S y)));
            }
        changed at (inr e) =
            let told : j ≤ common_prefix G (value G T (factors.flip y)) (value G S b.factor) = rw (e, same_rest at) at b.agrees in
            record {
              factor = b.factor;
              apart = b.apart;
              agrees = rw e (common_prefix_trans G L j (value G S (factors.flip y)) (value G T (factors.flip y)) (value G S b.factor) (omega (arith, t.behind)) told);
            }

        unchanged : (z.slot ≡ k → ⊥) → (b.factor ≡ y) ⊎ (b.factor ≡ factors.flip y) → Beginning G S z.slot j (value G S z)
        unchanged off (inl e) =
            let told : j ≤ common_prefix G (value G S z) (value G T y) = rw (e, t.rest z off) at b.agrees in
            record {
              factor = record { slot = h; inverted = false };
              apart = λ q. away (sym q);
              agrees = common_prefix_trans G L j (value G S z) (value G T y) (word G S h) told
                  (omega (arith, t.after, common_prefix_comm G L (word G S h) (value G T y)));
            }
        unchanged off (inr e) =
            let told : j ≤ common_prefix G (value G S z) (value G T (factors.flip y)) = rw (e, t.rest z off) at b.agrees in
            record {
              factor = factors.flip y;
              apart = λ q. off (sym q ∙ t.at_k);
              agrees = common_prefix_trans G L j (value G S z) (value G T (factors.flip y)) (value G S (factors.flip y)) told
                  (omega (arith, t.behind, common_prefix_comm G L (value G S (factors.flip y)) (value G T (factors.flip y))));
            }

    module _ (same : (j : ℕ) → length (word G T j) ≡ length (word G S j)) where
      -- a word that is not longer than h's and qualifies after the move qualified before
      pub kept_qualified : Qualified G S h → (j : ℕ) → length (word G S j) ≤ length (word G S h) → Qualified G T j → Qualified G S j
      kept_qualified chosen j le q = elim (ℕ_discrete j h) [
        | yes e ↦ rw e chosen
        | no away ↦
            let half : length (word G T j) / 2 ≡ length (word G S j) / 2 = ap (λ (n : ℕ). n / 2) (same j) in
            record {
              not_blank = omega (arith, q.not_blank, same j);
              even = sym (ap (λ (n : ℕ). n % 2) (same j)) ∙ q.even;
              at_front =
                  kept_beginning (record { slot = j; inverted = false }) (length (word G S j) / 2) away (omega arith) (rw half at q.at_front);
              at_back =
                  kept_beginning (record { slot = j; inverted = true }) (length (word G S j) / 2) away (omega arith) (rw half at q.at_back);
            }
      ]

    module _ (no_own_inverse : (x : A) → G.flip x ≡ x → ⊥) (freely : FreelyReduced G S) (filled : 0 < length (word G S h)) (even : length (word G S h) % 2 ≡ 0) where
      pub same_word_lem : word G T h ≡ word G S h
      same_word_lem = t.rest (record { slot = h; inverted = false }) (λ e. apart (sym e))

      -- the factor that the move changed does not begin with the inverse of the second half any more
      pub no_longer_like : length (word G S h) / 2 ≤ common_prefix G (inverse G (word G S h)) (value G T y) → ⊥
      no_longer_like le =
          let m : ℕ = length (word G S h) / 2 in
          let self : m ≤ common_prefix G (inverse G (word G S h)) (word G S h) =
          common_prefix_trans G L m (inverse G (word G S h)) (value G T y) (word G S h) le
          (omega (arith, t.after, common_prefix_comm G L (word G S h) (value G T y))) in
          omega (
            arith,
            self,
            even,
            cancellation-common_prefix G L (word G S h) (word G S h),
            cancellation_self G L no_own_inverse (word G S h) (freely h) filled,
          )

      pub still_like : (x : Factor) → length (word G S h) / 2 ≤ common_prefix G (inverse G (word G S h)) (value G T x)
          → length (word G S h) / 2 ≤ common_prefix G (inverse G (word G S h)) (value G S x)
      still_like x le = elim (ℕ_discrete x.slot k) [
        | no far ↦ rw (t.rest x far) at le
        | yes at ↦ elim (either_end x y (at ∙ sym t.at_k)) [
          | inl e ↦ absurd (no_longer_like (rw e at le))
          | inr e ↦
              let told : length (word G S h) / 2 ≤ common_prefix G (inverse G (word G S h)) (value G T (factors.flip y)) = rw e at le in
              rw e (common_prefix_trans G L (length (word G S h) / 2) (inverse G (word G S h)) (value G T (factors.flip y)) (value G S (factors.flip y)) told
              (omega (arith, t.behind, common_prefix_comm G L (value G S (factors.flip y)) (value G T (factors.flip y)))))
        ]
      ]
