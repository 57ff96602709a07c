-- The second rule of docs/REQUIREMENTS.md, 'The moves': the shortest qualifying word is chosen, and where some word qualifies there is a half-end
-- move. It keeps the lengths of all words.
use Prim.Native.Nat.{ℕ, zero, suc, ◌*◌, ◌/◌, ◌%◌, ◌≤◌, ◌<◌}
use mathlib.Core.Path.{◌≡◌, refl, sym, ap, ◌∙◌}
use mathlib.Core.Logic.{◌↔◌, ◌⊎◌, inl, inr}
use mathlib.Core.Bool.{Bool, true, false, cond}
use Rattle.std.specs.Prelude.{None, Some}
use mathlib.Core.List.{List}
use native.Mathlib.Omega.{arith}
use native.Mathlib.Decide.{dec_lt, ℕ_discrete}
use lib.ListN.{length}
use lib.Dec.{eqb}
use borrow.Author.Tests.{lt-ltb, le-ltb, eqb-false, eq-eqb, ne_eqb}
use Rattle.words.specs.Alphabet.{Alphabet}
use Rattle.words.specs.Words.{inverse}
use Rattle.words.proofs.Alphabet.{AlphabetLaws}
use Rattle.words.proofs.Cancellation.{common_prefix_comm, cancellation-common_prefix}
use Rattle.systems.specs.Products.{word, value, FreelyReduced}
use Rattle.systems.specs.declared.Factor.{Factor}
use Rattle.systems.specs.Moves.{moved_word, seam}
use Rattle.systems.specs.declared.Form.{Form}
use Rattle.systems.specs.declared.Move.{Move}
use Rattle.systems.specs.declared.Form.TheVariants.{Before, InverseAfter}
use Rattle.systems.specs.Reduced.{AtMostHalf, MiddleKept}
use Rattle.systems.specs.Rules.{first, any_below, second_half, begins, ends, qualifies, shortest_below, try_half, half_end}
use Rattle.std.proofs.lemmas.Option.{cond_some}
use Rattle.systems.proofs.Logic.{option_cases, some_not-none, unless_some, else_some}
use Rattle.systems.proofs.Searching.{first_some, first_found, first_exists, any_nowhere, any_each}
use Rattle.systems.proofs.Factors.{word_nonempty}
use Rattle.systems.proofs.Halves.{begins_back_half}
use Rattle.systems.proofs.Shortening.{Allowed, formed-length, seam_le_changed, half_keeps}
use Rattle.systems.proofs.Qualifying.{Qualified, qualifies_qualified, none-qualifies, beginning_inside}
use Rattle.std.proofs.lemmas.Bool.{both_ways, cases_Bool}

module _ {A : Type 0} (G : Alphabet A) where
  -- "the shortest qualifying word, lowest slot on a tie" among the slots below n
  pub record Shortest (S : List (List A)) (n h : ℕ) : Type 0 where
    pub below : h < n
    pub chosen : qualifies G S h ≡ true
    pub least : (k : ℕ) → k < n → qualifies G S k ≡ true → length (word G S h) ≤ length (word G S k)
    pub lowest : (k : ℕ) → k < h → qualifies G S k ≡ true → length (word G S h) < length (word G S k)

  -- "if w(k) ends with E2, make form 4 with i = h; otherwise, if w(k) begins with the inverse of E2, make form 1 with i = h"
  pub data EndTaken (S : List (List A)) (h k : ℕ) : Form → Type 0 where
    at_end : ends G (second_half G (word G S h)) (word G S k) ≡ true → EndTaken S h k InverseAfter
    at_beginning : ends G (second_half G (word G S h)) (word G S k) ≡ false
        → begins G (inverse G (second_half G (word G S h))) (word G S k) ≡ true → EndTaken S h k Before

  -- a half-end move as the rules describe it: i = h, the first k except h with one of the two ends
  pub record HalfEndMove (S : List (List A)) (m : Move) : Type 0 where
    pub shortest : Shortest S (length S) m.other
    pub distinct : m.changed ≡ m.other → ⊥
    pub inside : m.changed < length S
    pub taken : EndTaken S m.other m.changed m.form
    pub earlier : (k : ℕ) → k < m.changed → try_half G S m.other k ≡ None

module _ {A : Type 0} (G : Alphabet A) (L : AlphabetLaws G) where
  module _ (S : List (List A)) where
    pub shortest_skip : (n : ℕ) → qualifies G S n ≡ false → shortest_below G S (suc n) ≡ shortest_below G S n
    shortest_skip n e = rw e

    pub shortest_start : (n : ℕ) → qualifies G S n ≡ true → shortest_below G S n ≡ None → shortest_below G S (suc n) ≡ Some n
    shortest_start n e d = rw (e, d)

    pub shortest_better : (n h : ℕ) → qualifies G S n ≡ true → shortest_below G S n ≡ Some h
        → length (word G S n) < length (word G S h) → shortest_below G S (suc n) ≡ Some n
    shortest_better n h e d l = rw (e, d, lt-ltb (length (word G S n)) (length (word G S h)) l)

    pub shortest_keep : (n h : ℕ) → qualifies G S n ≡ true → shortest_below G S n ≡ Some h
        → length (word G S h) ≤ length (word G S n) → shortest_below G S (suc n) ≡ Some h
    shortest_keep n h e d l = rw (e, d, le-ltb (length (word G S n)) (length (word G S h)) l)

    -- what the search up to n comes to: no word qualifies, or the shortest
    abbrev Sought : ℕ → Type 0
    Sought n = ((shortest_below G S n ≡ None) × ((k : ℕ) → k < n → qualifies G S k ≡ false))
        ⊎ ((h : ℕ) × (shortest_below G S n ≡ Some h) × Shortest G S n h)

    -- slot n does not qualify
    sought_skip : (n : ℕ) → qualifies G S n ≡ false → Sought n → Sought (suc n)
    sought_skip n e (inl d) = inl (
      shortest_skip n e ∙ d.0,
      λ k l. elim (dec_lt k n) [
        | yes p ↦ d.1 k p
        | no p ↦ let q : n ≡ k = omega arith in rw q at e
      ],
    )
    sought_skip n e (inr r) = inr (
      r.0,
      shortest_skip n e ∙ r.1,
      record {
        below = omega (arith, r.2.below);
        chosen = r.2.chosen;
        least = λ k l t. elim (dec_lt k n) [
          | yes p ↦ r.2.least k p t
          | no p ↦ let q : n ≡ k = omega arith in absurd (both_ways (qualifies G S k) (rw q at e) t)
        ];
        lowest = r.2.lowest;
      },
    )

    -- slot n qualifies and none before it does, or all before it are longer
    sought_new : (n : ℕ) → shortest_below G S (suc n) ≡ Some n → qualifies G S n ≡ true
        → ((k : ℕ) → k < n → qualifies G S k ≡ true → length (word G S n) < length (word G S k)) → Sought (suc n)
    sought_new n e t less = inr (
      n,
      e,
      record {
        below = omega arith;
        chosen = t;
        least = λ k l u. elim (dec_lt k n) [
          | yes p ↦ omega (arith, less k p u)
          | no p ↦ let q : n ≡ k = omega arith in rw q (omega arith)
        ];
        lowest = less;
      },
    )

    sought_more : (n : ℕ) → qualifies G S n ≡ true → Sought n → Sought (suc n)
    sought_more n e (inl d) = sought_new n (shortest_start n e d.0) e (λ k l t. absurd (both_ways (qualifies G S k) (d.1 k l) t))
    sought_more n e (inr r) = elim (dec_lt (length (word G S n)) (length (word G S r.0))) [
      | yes l ↦ sought_new n (shortest_better n r.0 e r.1 l) e (λ k p t. omega (arith, r.2.least k p t))
      | no l ↦ inr (
        r.0,
        shortest_keep n r.0 e r.1 (omega arith),
        record {
          below = omega (arith, r.2.below);
          chosen = r.2.chosen;
          least = λ k p t. elim (dec_lt k n) [
            | yes q ↦ r.2.least k q t
            | no q ↦ let s : k ≡ n = omega arith in rw s (omega arith)
          ];
          lowest = r.2.lowest;
        },
      )
    ]

    sought : (n : ℕ) → Sought n
    sought zero = inl (refl, λ k l. absurd (omega arith))
    sought (suc n) = elim (cases_Bool (qualifies G S n)) [
      | inl t ↦ sought_more n t (sought n)
      | inr t ↦ sought_skip n t (sought n)
    ]

    -- nothing is chosen exactly where no word qualifies
    pub shortest_none : (n : ℕ) → (shortest_below G S n ≡ None) ↔ ((k : ℕ) → k < n → qualifies G S k ≡ false)
    shortest_none n = elim (sought n) [
      | inl d ↦ (λ e. d.1, λ f. d.0)
      | inr r ↦ (
        λ e. absurd (some_not-none (shortest_below G S n) r.0 r.1 e),
        λ f. absurd (both_ways (qualifies G S r.0) (f r.0 r.2.below) r.2.chosen),
      )
    ]

    -- what is chosen is the shortest, in the lowest slot
    pub shortest_some : (n h : ℕ) → shortest_below G S n ≡ Some h → Shortest G S n h
    shortest_some n h e = elim (sought n) [
      | inl d ↦ absurd (some_not-none (shortest_below G S n) h e d.0)
      | inr r ↦ let p : r.0 ≡ h = cc r.1 in rw p at r.2
    ]

    pub half-same : (h k : ℕ) → k ≡ h → try_half G S h k ≡ None
    half-same h k e = rw (eq-eqb k h e)

    pub half_at_end : (h k : ℕ) → (k ≡ h → ⊥) → ends G (second_half G (word G S h)) (word G S k) ≡ true
        → try_half G S h k ≡ Some (record { changed = k; form = InverseAfter; other = h })
    half_at_end h k n e = rw (ne_eqb k h n, e)

    pub half_at_beginning : (h k : ℕ) → (k ≡ h → ⊥) → ends G (second_half G (word G S h)) (word G S k) ≡ false
        → begins G (inverse G (second_half G (word G S h))) (word G S k) ≡ true
        → try_half G S h k ≡ Some (record { changed = k; form = Before; other = h })
    half_at_beginning h k n e d = rw (ne_eqb k h n, e, d)

    pub half_neither : (h k : ℕ) → ends G (second_half G (word G S h)) (word G S k) ≡ false
        → begins G (inverse G (second_half G (word G S h))) (word G S k) ≡ false → try_half G S h k ≡ None
    half_neither h k e d = elim (ℕ_discrete k h) [
      | yes q ↦ half-same h k q
      | no n ↦ rw (ne_eqb k h n, e, d)
    ]

    pub half_some : (h k : ℕ) (m : Move) → try_half G S h k ≡ Some m
        → (k ≡ h → ⊥) × (form : Form) × (m ≡ record { changed = k; form = form; other = h }) × EndTaken G S h k form
    half_some h k m e =
        let E₂ : List A = second_half G (word G S h) in
        let back : Bool = ends G E₂ (word G S k) in
        let front : Bool = begins G (inverse G E₂) (word G S k) in
        let four : Move = record { changed = k; form = InverseAfter; other = h } in
        let one : Move = record { changed = k; form = Before; other = h } in
        let apart = unless_some (eqb k h) (cond back (Some four) (cond front (Some one) None)) m e in
        let differ : k ≡ h → ⊥ = eqb-false k h apart.0 in
        elim (else_some back four (cond front (Some one) None) m apart.1) [
          | inl t ↦ (differ, InverseAfter, t.1, at_end t.0)
          | inr r ↦ let t = cond_some front one m r.1 in (differ, Before, sym t.1, at_beginning r.0 t.0)
        ]

    pub half_end_unchosen : shortest_below G S (length S) ≡ None → half_end G S ≡ None
    unfolding half_end
    half_end_unchosen e = rw (e, half_end)

    pub half_end_chosen : (h : ℕ) → shortest_below G S (length S) ≡ Some h → half_end G S ≡ first (try_half G S h) (length S)
    unfolding half_end
    half_end_chosen h e = rw (e, half_end)

    -- "Make only the first such move"
    pub half_end-first : (h k : ℕ) (m : Move) → shortest_below G S (length S) ≡ Some h → k < length S → first (try_half G S h) k ≡ None
        → try_half G S h k ≡ Some m → half_end G S ≡ Some m
    half_end-first h k m e l d f = half_end_chosen h e ∙ first_found (try_half G S h) k (length S) m l d f

    half_exists : (h k : ℕ) → (k ≡ h → ⊥)
        → (ends G (second_half G (word G S h)) (word G S k) ≡ true) ⊎ (begins G (inverse G (second_half G (word G S h))) (word G S k) ≡ true)
        → (m : Move) × (try_half G S h k ≡ Some m)
    half_exists h k n (inl e) = (record { changed = k; form = InverseAfter; other = h }, half_at_end h k n e)
    half_exists h k n (inr d) = elim (cases_Bool (ends G (second_half G (word G S h)) (word G S k))) [
      | inl e ↦ (record { changed = k; form = InverseAfter; other = h }, half_at_end h k n e)
      | inr e ↦ (record { changed = k; form = Before; other = h }, half_at_beginning h k n e d)
    ]

    -- where a word qualifies there is a k to move
    pub half_end_exists : (h : ℕ) → shortest_below G S (length S) ≡ Some h → (m : Move) × (half_end G S ≡ Some m)
    half_end_exists h e =
        let q : Qualified G S h = qualifies_qualified G L S h (shortest_some (length S) h e).chosen in
        let w : List A = word G S h in
        let x : Factor = q.at_back.factor in
        let long : 0 < length w / 2 = omega (arith, q.not_blank, q.even) in
        let b : begins G (inverse G (second_half G w)) (value G S x) ≡ true = (begins_back_half G L w (value G S x) q.even).1 q.at_back.agrees in
        let f = half_exists h x.slot q.at_back.apart (ends_or_begins x.slot x.inverted b) in
        rw (half_end_chosen h e)
        (first_exists (try_half G S h) x.slot (length S) f.0 (beginning_inside G L S h (length w / 2) (inverse G w) long q.at_back) f.1)
      where
        ends_or_begins : (k : ℕ) (b : Bool)
            → begins G (inverse G (second_half G (word G S h))) (value G S (record { slot = k; inverted = b })) ≡ true
            → (ends G (second_half G (word G S h)) (word G S k) ≡ true) ⊎ (begins G (inverse G (second_half G (word G S h))) (word G S k) ≡ true)
        ends_or_begins k true t = inl t
        ends_or_begins k false t = inr t

    -- so there is no half-end move exactly where no word qualifies
    pub half_end_unqualified : (half_end G S ≡ None) ↔ (any_below (qualifies G S) (length S) ≡ false)
    half_end_unqualified = (to, λ e. half_end_unchosen ((shortest_none (length S)).1 (any_each (qualifies G S) (length S) e)))
      where
        to : half_end G S ≡ None → any_below (qualifies G S) (length S) ≡ false
        to e = any_nowhere (qualifies G S) (length S) (elim (option_cases (shortest_below G S (length S))) [
          | inl d ↦ (shortest_none (length S)).0 d
          | inr r ↦ let f = half_end_exists r.0 r.1 in absurd (some_not-none (half_end G S) f.0 f.1 e)
        ])

    -- a found half-end move is the one that the rules describe
    pub half_end-found : (m : Move) → half_end G S ≡ Some m → HalfEndMove G S m
    half_end-found m e = elim (option_cases (shortest_below G S (length S))) [
      | inl d ↦ absurd (some_not-none (half_end G S) m e (half_end_unchosen d))
      | inr r ↦ found r.0 r.1
    ]
      where
        found : (h : ℕ) → shortest_below G S (length S) ≡ Some h → HalfEndMove G S m
        found h d =
            let at_k = first_some (try_half G S h) (length S) m (sym (half_end_chosen h d) ∙ e) in
            let parts = half_some h at_k.0 m at_k.2 in
            rw parts.2
            (record {
              shortest = shortest_some (length S) h d;
              distinct = parts.0;
              inside = at_k.1;
              taken = parts.3;
              earlier = at_k.3;
            })

    taken-seam : (h k : ℕ) {form : Form} → length (word G S h) % 2 ≡ 0 → EndTaken G S h k form
        → length (word G S h) / 2 ≤ seam G form (word G S h) (word G S k)
    taken-seam h k e (at_end t) = rw (cancellation-common_prefix G L, common_prefix_comm G L)
        ((begins_back_half G L (word G S h) (inverse G (word G S k)) e).0 t)
    taken-seam h k e (at_beginning d t) = rw (cancellation-common_prefix G L) ((begins_back_half G L (word G S h) (word G S k) e).0 t)

    -- at least half of the shortest qualifying word cancels
    pub half_end-half : (m : Move) → HalfEndMove G S m
        → length (word G S m.other) ≤ 2 * seam G m.form (word G S m.other) (word G S m.changed)
    half_end-half m f =
        let q : Qualified G S m.other = qualifies_qualified G L S m.other f.shortest.chosen in
        omega (arith, taken-seam m.other m.changed q.even f.taken, q.even)

    -- a half-end move is allowed
    pub half_end-allowed : (m : Move) → half_end G S ≡ Some m → Allowed G S m
    half_end-allowed m e =
        let f : HalfEndMove G S m = half_end-found m e in
        let q : Qualified G S m.other = qualifies_qualified G L S m.other f.shortest.chosen in
        let w : List A = word G S m.other in
        let v : List A = word G S m.changed in
        record {
          distinct = f.distinct;
          changed_inside = f.inside;
          other_inside = f.shortest.below;
          changed-word = λ z. omega (arith, ap length z, half_end-half m f, q.not_blank, seam_le_changed G L m.form w v);
          other_word = word_nonempty w q.not_blank;
        }

    module _ (no_own_inverse : (x : A) → G.flip x ≡ x → ⊥) (freely : FreelyReduced G S) where
      -- where nothing shortens, there is no half-end move exactly where the second condition of a reduced system holds
      pub half_end-none : AtMostHalf G S → (half_end G S ≡ None) ↔ MiddleKept G S
      half_end-none half = (
        λ e. (none-qualifies G L S no_own_inverse freely half).0 (half_end_unqualified.0 e),
        λ middle. half_end_unqualified.1 ((none-qualifies G L S no_own_inverse freely half).1 middle),
      )

    module _ (freely : FreelyReduced G S) where
      -- a half-end move does not lengthen the changed word
      pub half_end_no_longer : (m : Move) → half_end G S ≡ Some m → length (moved_word G S m) ≤ length (word G S m.changed)
      half_end_no_longer m e =
          let w : List A = word G S m.other in
          let v : List A = word G S m.changed in
          omega (arith, formed-length G L m.form w v (freely m.other) (freely m.changed), half_end-half m (half_end-found m e))

      -- and where nothing shortens, exactly half of the shortest qualifying word cancels: the changed word keeps its length
      pub half_end-same-length : AtMostHalf G S → (m : Move) → half_end G S ≡ Some m
          → length (moved_word G S m) ≡ length (word G S m.changed)
      half_end-same-length half m e =
          let a : Allowed G S m = half_end-allowed m e in
          let le = half_end_no_longer m e in
          elim (dec_lt (length (moved_word G S m)) (length (word G S m.changed))) [
            | yes l ↦ absurd (half_keeps G L S freely half m (record {
              distinct = a.distinct;
              changed_inside = a.changed_inside;
              other_inside = a.other_inside;
              shorter = l;
            }))
            | no l ↦ omega arith
          ]
