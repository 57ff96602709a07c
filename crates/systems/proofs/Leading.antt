-- With what a word begins that is a product over a reduced system (Nielsen, section 3): a big end or a half start of a factor.
-- What is found so is the product's first factor, and something is found.
use Prim.Native.Nat.{ℕ, ◌+◌, ◌*◌, ◌%◌, ◌≤◌, ◌<◌}
use mathlib.Core.Path.{◌≡◌, sym, ap, ◌∙◌}
use mathlib.Core.Logic.{◌⊎◌, inl, inr}
use mathlib.Core.Bool.{Bool, true, false, cond, not, ◌&&◌, or-true, true≢false}
use Rattle.std.specs.Prelude.{None, Option, Some}
use Rattle.std.proofs.lemmas.Option.{none-some}
use mathlib.Core.List.{List, [], ◌∷◌, ◌++◌, append-nil}
use native.Mathlib.Omega.{arith}
use native.Mathlib.Decide.{dec_lt}
use lib.ListN.{length}
use lib.Dec.{eqb}
use borrow.Author.Tests.{ltb-true, lt-ltb, eqb-true, eq-eqb, ne_eqb, not-true}
use Rattle.words.specs.Alphabet.{Alphabet}
use Rattle.words.specs.Words.{freely_reduce, Irreducible, inverse, common_prefix}
use Rattle.words.proofs.Alphabet.{AlphabetLaws, same?, same_no, differ, flip_inj}
use Rattle.words.proofs.FreeReduction.{irreducible_next, freely_reduce-same}
use Rattle.words.proofs.Inverse.{inverse-length, inverse_irreducible}
use Rattle.words.proofs.Cancellation.{cancellation_le_left, cancellation_inverses, common_prefix_le_left, common_prefix_comm, common_prefix_self, cancellation-inverse_left, cancellation-inverse_right, length-cancellation}
use Rattle.systems.specs.Products.{factors, value, multiplied, FreelyReducedOver, FreelyReduced, NotBlank, word}
use Rattle.systems.specs.declared.Factor.{Factor}
use Rattle.systems.specs.Reduced.{cancellation_of, size, Reduced}
use Rattle.systems.specs.Rules.{first, begins, ends, first_half, second_half}
use Rattle.systems.specs.Factoring.{either_of, big_end, ends_other, half_start, leading}
use Rattle.std.proofs.lemmas.Option.{cond_some}
use Rattle.systems.proofs.Logic.{option_cases, all_four, four_all, nonzero, given-none, else_some, else_none}
use Rattle.systems.proofs.Searching.{first-each, first_some, any_found, any_where}
use Rattle.systems.proofs.Factors.{factor_laws, value-flip, value-length, value_irreducible, not_blank_size, size_not_blank}
use Rattle.systems.proofs.ProductLaws.{word-slot}
use Rattle.systems.proofs.ProductLemma.{not_turn, cancellation-half, product-cancellation, product-rest}
use Rattle.systems.proofs.Halves.{begins-half, begins_back_half}
use Rattle.std.proofs.lemmas.Bool.{and_parts, or_cases}

-- of two factors tried in turn, the one found passed its test
either_found : (a b : Bool) (f g x : Factor) → cond a (Some f) (cond b (Some g) None) ≡ Some x → ((a ≡ true) × (x ≡ f)) ⊎ ((b ≡ true) × (x ≡ g))
either_found a b f g x e = elim (else_some a f (cond b (Some g) None) x e) [
  | inl r ↦ inl r
  | inr r ↦ let t = cond_some b g x r.1 in inr (t.0, sym t.1)
]

either_missed : (a b : Bool) (f g : Factor) → ◌≡◌ {A = Option Factor} (cond a (Some f) (cond b (Some g) None)) None → (a ≡ false) × (b ≡ false)
either_missed a b f g e = let (p, r) = else_none a f (cond b (Some g) None) e in (p, given-none b g r)

module _ {A : Type 0} (G : Alphabet A) (test : Factor → Bool) where
  -- a factor found is one of the system's and passes the test
  search_found : (n : ℕ) (x : Factor) → first (either_of G test) n ≡ Some x → (test x ≡ true) × (x.slot < n)
  search_found n x e =
      let (k, h, d, before) = first_some (either_of G test) n x e in
      elim (either_found (test (record { slot = k; inverted = false })) (test (record { slot = k; inverted = true })) _ _ x d) [
        | inl p ↦ rw p.1 (p.0, h)
        | inr p ↦ rw p.1 (p.0, h)
      ]

  -- where none is found, none passes
  search_missed : (n : ℕ) (x : Factor) → first (either_of G test) n ≡ None → x.slot < n → test x ≡ false
  search_missed n x e h = go x.inverted
    where
      both : (test (record { slot = x.slot; inverted = false }) ≡ false) × (test (record { slot = x.slot; inverted = true }) ≡ false)
      both = either_missed _ _ _ _ (first-each (either_of G test) n e x.slot h)

      go : (b : Bool) → test (record { slot = x.slot; inverted = b }) ≡ false
      go true = both.1
      go false = both.0

module _ {A : Type 0} (G : Alphabet A) (L : AlphabetLaws G) where
  module _ (S : List (List A)) where
    -- some other factor ends with the second half of x
    other-found : (x : Factor) (k : ℕ) → ends_other G S x k ≡ true
        → (v : Factor) × (v ≡ x → ⊥) × (ends G (second_half G (value G S x)) (value G S v) ≡ true)
    other-found x k e =
        elim (or_cases (not (factors.same plain x) && ends G (second_half G (value G S x)) (value G S plain)) _ e) [
          | inl p ↦ one plain p
          | inr p ↦ one turned p
        ]
      where
        plain : Factor
        plain = record { slot = k; inverted = false }

        turned : Factor
        turned = record { slot = k; inverted = true }

        one : (v : Factor) → not (factors.same v x) && ends G (second_half G (value G S x)) (value G S v) ≡ true
            → (v : Factor) × (v ≡ x → ⊥) × (ends G (second_half G (value G S x)) (value G S v) ≡ true)
        one v e =
            let s : Bool = factors.same v x in
            let t : Bool = ends G (second_half G (value G S x)) (value G S v) in
            (v, differ factors factor_laws v x (not-true s (and_parts (not s) t e).0), (and_parts (not s) t e).1)

    other_at : (x v : Factor) → (v ≡ x → ⊥) → ends G (second_half G (value G S x)) (value G S v) ≡ true → ends_other G S x v.slot ≡ true
    other_at x v n h = go v.inverted (same_no factors factor_laws v x n) h
      where
        go : (b : Bool) → factors.same (record { slot = v.slot; inverted = b }) x ≡ false
            → ends G (second_half G (value G S x)) (value G S (record { slot = v.slot; inverted = b })) ≡ true
            → ends_other G S x v.slot ≡ true
        go true d e = rw (d, e)
            (or-true (not (factors.same (record { slot = v.slot; inverted = false }) x)
            && ends G (second_half G (value G S x)) (value G S (record { slot = v.slot; inverted = false }))))
        go false d e = rw (d, e)

    -- a half start in plain words
    record HalfStart (w : List A) (x : Factor) : Type 0 where
      nonblank : 0 < size G S x
      even : size G S x % 2 ≡ 0
      starts : size G S x ≤ 2 * common_prefix G (value G S x) w
      other : Factor
      differs : other ≡ x → ⊥
      meets : size G S x ≤ 2 * cancellation_of G S other (factors.flip x)

    half-start : (w : List A) (x : Factor) → half_start G S w x ≡ true → HalfStart w x
    half-start w x e =
        let (a, b, c, d) = all_four (not (eqb (size G S x) 0)) (eqb (size G S x % 2) 0) (begins G (first_half G (value G S x)) w) _ e in
        let (k, h, m) = any_where (ends_other G S x) (length S) d in
        let (v, n, t) = other-found x k m in
        let even : size G S x % 2 ≡ 0 = eqb-true _ _ b in
        record {
          nonblank = nonzero (size G S x) a;
          even = even;
          starts = omega (arith, (begins-half G L (value G S x) w).0 c);
          other = v;
          differs = n;
          meets = rw (value-flip G L S x, cancellation-inverse_right G L, common_prefix_comm G L (inverse G (value G S v)))
              (omega (arith, (begins_back_half G L (value G S x) (inverse G (value G S v)) even).0 t));
        }

    other_not_blank : (w : List A) (x : Factor) (s : HalfStart w x) → NotBlank G S s.other.slot
    other_not_blank w x s = size_not_blank G L S s.other
        (omega (arith, s.nonblank, s.meets, cancellation_le_left G L (value G S s.other) (value G S (factors.flip x))))

    start-half : (w : List A) (x : Factor) → HalfStart w x → half_start G S w x ≡ true
    start-half w x s =
        let m : size G S x ≤ 2 * common_prefix G (inverse G (value G S x)) (inverse G (value G S s.other)) =
        rw (common_prefix_comm G L, ← cancellation-inverse_right G L, ← value-flip G L S x) s.meets in
        four_all _ _ _ _
        (ap not (ne_eqb (size G S x) 0 (λ z. omega (arith, s.nonblank))))
        (eq-eqb _ _ s.even)
        ((begins-half G L (value G S x) w).1 (omega (arith, s.starts)))
        (any_found (ends_other G S x) s.other.slot (length S) (word-slot G L S s.other.slot (other_not_blank w x s))
        (other_at x s.other s.differs ((begins_back_half G L (value G S x) (inverse G (value G S s.other)) s.even).1 (omega arith))))

    -- what leads a word is a big end or a half start
    pub leading_some : (w : List A) (x : Factor) → leading G S w ≡ Some x
        → (x.slot < length S) × ((big_end G S w x ≡ true) ⊎ (half_start G S w x ≡ true))
    unfolding leading
    leading_some w x e = elim (option_cases (first (either_of G (big_end G S w)) (length S))) [
      | inl q ↦ let (t, h) = search_found G (half_start G S w) (length S) x (rw (q, leading) at e) in (h, inr t)
      | inr r ↦ let (t, h) = search_found G (big_end G S w) (length S) x (r.1 ∙ rw (r.1, leading) at e) in (h, inl t)
    ]

    leading-none : (w : List A) (x : Factor) → leading G S w ≡ None → x.slot < length S
        → (big_end G S w x ≡ false) × (half_start G S w x ≡ false)
    unfolding leading
    leading-none w x e h = elim (option_cases (first (either_of G (big_end G S w)) (length S))) [
      | inl q ↦ (search_missed G (big_end G S w) (length S) x q h, search_missed G (half_start G S w) (length S) x (rw (q, leading) at e) h)
      | inr r ↦ absurd (none-some r.0 (sym (rw (r.1, leading) at e)))
    ]

    -- at least half of what leads a word begins it
    pub leading-half : (w : List A) (x : Factor) → leading G S w ≡ Some x → size G S x ≤ 2 * common_prefix G (value G S x) w
    leading-half w x e = elim (leading_some w x e).1 [
      | inl p ↦ omega (arith, ltb-true (size G S x) (2 * common_prefix G (value G S x) w) p)
      | inr p ↦ (half-start w x p).starts
    ]

    -- so that the word does not get longer when it is taken off
    pub leading_length : (w : List A) (x : Factor) → Irreducible G (word G S x.slot) → Irreducible G w → leading G S w ≡ Some x
        → length (freely_reduce G (inverse G (value G S x) ++ w)) ≤ length w
    leading_length w x freely h e =
        let i : Irreducible G (inverse G (value G S x)) = inverse_irreducible G L (value G S x) (value_irreducible G L S x freely) in
        omega (
          arith,
          leading-half w x e,
          length-cancellation G L (inverse G (value G S x)) w i h,
          cancellation-inverse_left G L (value G S x) w,
          inverse-length G L (value G S x),
        )

    module _ (freely : FreelyReduced G S) (reduced : Reduced G S) where
      module _ (f : Factor) (p : List Factor) (r : FreelyReducedOver G S (f ∷ p)) where
        -- the inverse of a factor other than the first factor cancels against the product as against that factor
        against : (x : Factor) → NotBlank G S x.slot → (x ≡ f → ⊥) → common_prefix G (value G S x) (multiplied G S (f ∷ p)) ≡ cancellation_of G S (factors.flip x) f
        against x h n =
            sym (cancellation-inverse_left G L (value G S x) (multiplied G S (f ∷ p)))
            ∙ rw (← value-flip G L S x) (product-cancellation G L S freely reduced (factors.flip x) f p r h (λ q. n (flip_inj factors factor_laws x f q)))

        -- a big end is the first factor
        big_first : (x : Factor) → big_end G S (multiplied G S (f ∷ p)) x ≡ true → x ≡ f
        big_first x e =
            let b : size G S x < 2 * common_prefix G (value G S x) (multiplied G S (f ∷ p)) = ltb-true _ _ e in
            let h : NotBlank G S x.slot = size_not_blank G L S x (omega (arith, common_prefix_le_left G L (value G S x) (multiplied G S (f ∷ p)))) in
            elim (same? factors factor_laws x f) [
              | yes q ↦ q
              | no n ↦ absurd (omega (
                arith,
                against x h n,
                cancellation-half G L S freely reduced (factors.flip x) f h r.0.0 (λ q. n (flip_inj factors factor_laws x f q)),
                value-length G L S x,
                value-length G L S (factors.flip x),
              ))
            ]

        -- a half start is the first factor
        half-first : (x : Factor) → half_start G S (multiplied G S (f ∷ p)) x ≡ true → x ≡ f
        half-first x e =
            let s : HalfStart (multiplied G S (f ∷ p)) x = half-start (multiplied G S (f ∷ p)) x e in
            let h : NotBlank G S x.slot = size_not_blank G L S x s.nonblank in
            let v : Factor = s.other in
            let k : NotBlank G S v.slot = other_not_blank (multiplied G S (f ∷ p)) x s in
            elim (same? factors factor_laws x f) [
              | yes q ↦ q
              | no n ↦ absurd (omega (
                arith,
                against x h n,
                reduced.middle v (factors.flip x) f k h r.0.0 (λ q. s.differs (q ∙ factor_laws.twice x)) (λ q. n (sym (q ∙ factor_laws.twice x))),
                s.starts,
                s.meets,
                value-length G L S x,
                value-length G L S (factors.flip x),
              ))
            ]

      -- "Resten, den efterlader i β, er mere end Halvdelen af a, eller nøjagtig Halvdelen": what its first factor leaves in a product is more
      -- than half of it, or a half, and then the second factor's inverse ends with the other half
      factor_found : (f : Factor) (p : List Factor) → FreelyReducedOver G S (f ∷ p)
          → (big_end G S (multiplied G S (f ∷ p)) f ≡ true) ⊎ (half_start G S (multiplied G S (f ∷ p)) f ≡ true)
      factor_found f [] r = inl (lt-ltb (size G S f) (2 * common_prefix G (value G S f) (multiplied G S (f ∷ [])))
          (rw (append-nil (value G S f), freely_reduce-same G L (value G S f) (value_irreducible G L S f (freely f.slot)), common_prefix_self G L (value G S f))
          (omega (arith, not_blank_size G L S f r.0.0))))
      factor_found f (g ∷ p) r =
          let w : List A = multiplied G S (f ∷ g ∷ p) in
          let k : size G S f ≤ cancellation_of G S f g + common_prefix G (value G S f) w = product-rest G L S freely reduced f g p r in
          let n : f ≡ factors.flip g → ⊥ = not_turn g f (irreducible_next factors factor_laws f g p r.1) in
          let h = cancellation-half G L S freely reduced f g r.0.0 r.0.1.0 n in
          elim (dec_lt (size G S f) (2 * common_prefix G (value G S f) w)) [
            | yes b ↦ inl (lt-ltb _ _ b)
            | no b ↦ inr (start-half w f (record {
              nonblank = not_blank_size G L S f r.0.0;
              even = omega arith;
              starts = omega arith;
              other = factors.flip g;
              differs = λ q. n (sym q);
              meets = rw (value-flip G L S g, value-flip G L S f, ← cancellation_inverses G L) (omega arith);
            }))
          ]

      -- what leads a product is its first factor
      pub leading-first : (f : Factor) (p : List Factor) → FreelyReducedOver G S (f ∷ p) → leading G S (multiplied G S (f ∷ p)) ≡ Some f
      leading-first f p r = elim (option_cases (leading G S (multiplied G S (f ∷ p)))) [
        | inl q ↦
            let (b, h) = leading-none (multiplied G S (f ∷ p)) f q (word-slot G L S f.slot r.0.0) in
            absurd (elim (factor_found f p r) [
              | inl t ↦ true≢false (sym t ∙ b)
              | inr t ↦ true≢false (sym t ∙ h)
            ])
        | inr s ↦ s.1 ∙ ap Some (elim (leading_some (multiplied G S (f ∷ p)) s.0 s.1).1 [
          | inl t ↦ big_first f p r s.0 t
          | inr t ↦ half-first f p r s.0 t
        ])
      ]
