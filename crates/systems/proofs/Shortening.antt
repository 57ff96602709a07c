-- The first rule of docs/REQUIREMENTS.md, 'The moves': a move shortens a word exactly when more than half of the other word cancels. So nothing
-- shortens exactly where the first condition of a reduced system holds.
use Prim.Native.Nat.{ℕ, ◌+◌, ◌*◌, ◌≤◌, ◌<◌}
use mathlib.Core.Path.{◌≡◌, refl, sym, ap, ◌∙◌}
use mathlib.Core.Logic.{◌↔◌, inl, inr}
use mathlib.Core.Bool.{Bool, true, false}
use Rattle.std.specs.Prelude.{None, Some}
use mathlib.Core.List.{List, []}
use native.Mathlib.Omega.{arith}
use native.Mathlib.Decide.{dec_lt, ℕ_discrete}
use lib.ListN.{length}
use lib.Dec.{ltb, eqb}
use borrow.Author.Tests.{ltb-true, ltb-false, lt-ltb, le-ltb, eqb-false, eq-eqb, ne_eqb}
use Rattle.words.specs.Alphabet.{Alphabet}
use Rattle.words.specs.Words.{freely_reduce, Irreducible, inverse, cancellation}
use Rattle.words.proofs.Alphabet.{AlphabetLaws}
use Rattle.words.proofs.Inverse.{inverse-length, inverse_twice, inverse_irreducible}
use Rattle.words.proofs.Cancellation.{length-cancellation, cancellation_inverses, cancellation_le_left, cancellation_le_right}
use Rattle.systems.specs.Products.{factors, word, value, FreelyReduced}
use Rattle.systems.specs.declared.Factor.{Factor}
use Rattle.systems.specs.Moves.{formed, moved_word, seam}
use Rattle.systems.specs.declared.Form.{Form}
use Rattle.systems.specs.declared.Move.{Move}
use Rattle.systems.specs.declared.Form.TheVariants.{After, Before, InverseAfter, InverseBefore}
use Rattle.systems.specs.Reduced.{AtMostHalf, cancellation_of, size}
use Rattle.systems.specs.Rules.{first, form_at, try_form, try_other, try_changed, shortening}
use Rattle.std.proofs.lemmas.Option.{cond_some}
use Rattle.systems.proofs.Logic.{option_cases, given-none, unless_some}
use Rattle.systems.proofs.Searching.{first-each, first_some, first_found}
use Rattle.systems.proofs.Factors.{word_nonempty, value-flip, value-length}
use Rattle.systems.proofs.ProductLaws.{word-slot}

-- a form with the other word before the changed one, both with these signs
abbrev pub form_of : Bool → Bool → Form
form_of false false = Before
form_of true false = InverseBefore
form_of true true = After
form_of false true = InverseAfter

-- whether a form's other word is inverted, seen with the other word first
abbrev pub other_sign : Form → Bool
other_sign Before = false
other_sign InverseBefore = true
other_sign After = true
other_sign InverseAfter = false

-- whether its changed word then is
abbrev pub changed_sign : Form → Bool
changed_sign Before = false
changed_sign InverseBefore = false
changed_sign After = true
changed_sign InverseAfter = true

-- the place of a form among "forms 1 to 4", counted from 0
abbrev form_place : Form → ℕ
form_place Before = 0
form_place InverseBefore = 1
form_place After = 2
form_place InverseAfter = 3

form_at-place : (form : Form) → form_at (form_place form) ≡ form
form_at-place Before = refl
form_at-place InverseBefore = refl
form_at-place After = refl
form_at-place InverseAfter = refl

form_place_few : (form : Form) → form_place form < 4
form_place_few Before = omega arith
form_place_few InverseBefore = omega arith
form_place_few After = omega arith
form_place_few InverseAfter = omega arith

module _ {A : Type 0} (G : Alphabet A) where
  -- a move between two slots of the system: "Only slots that are not blank take part."
  pub record Allowed (S : List (List A)) (m : Move) : Type 0 where
    pub distinct : m.changed ≡ m.other → ⊥
    pub changed_inside : m.changed < length S
    pub other_inside : m.other < length S
    pub changed-word : word G S m.changed ≡ [] → ⊥
    pub other_word : word G S m.other ≡ [] → ⊥

  -- a move between two slots whose "freely reduced result is strictly shorter than w(k)"
  pub record Shortens (S : List (List A)) (m : Move) : Type 0 where
    pub distinct : m.changed ≡ m.other → ⊥
    pub changed_inside : m.changed < length S
    pub other_inside : m.other < length S
    pub shorter : length (moved_word G S m) < length (word G S m.changed)

module _ {A : Type 0} (G : Alphabet A) (L : AlphabetLaws G) where
  pub formed-length : (form : Form) (u v : List A) → Irreducible G u → Irreducible G v
      → length (freely_reduce G (formed G form u v)) + 2 * seam G form u v ≡ length u + length v
  formed-length Before u v h k = length-cancellation G L u v h k
  formed-length InverseBefore u v h k = length-cancellation G L (inverse G u) v (inverse_irreducible G L u h) k ∙ ap (λ (n : ℕ). n + length v) (inverse-length G L u)
  formed-length After u v h k = omega (arith, length-cancellation G L v u k h)
  formed-length InverseAfter u v h k = omega (arith, length-cancellation G L v (inverse G u) k (inverse_irreducible G L u h), inverse-length G L u)

  -- the result is shorter than the changed word exactly when more than half of the other word cancels
  pub formed_shorter : (form : Form) (u v : List A) → Irreducible G u → Irreducible G v
      → (length (freely_reduce G (formed G form u v)) < length v) ↔ (length u < 2 * seam G form u v)
  formed_shorter form u v h k = let e = formed-length form u v h k in omega arith

  pub seam_le_other : (form : Form) (u v : List A) → seam G form u v ≤ length u
  seam_le_other Before u v = cancellation_le_left G L u v
  seam_le_other InverseBefore u v = omega (arith, cancellation_le_left G L (inverse G u) v, inverse-length G L u)
  seam_le_other After u v = cancellation_le_right G L v u
  seam_le_other InverseAfter u v = omega (arith, cancellation_le_right G L v (inverse G u), inverse-length G L u)

  pub seam_le_changed : (form : Form) (u v : List A) → seam G form u v ≤ length v
  seam_le_changed Before u v = cancellation_le_right G L u v
  seam_le_changed InverseBefore u v = cancellation_le_right G L (inverse G u) v
  seam_le_changed After u v = cancellation_le_left G L v u
  seam_le_changed InverseAfter u v = cancellation_le_left G L v (inverse G u)

  module _ (S : List (List A)) where
    -- what cancels in a form is what cancels between two factors
    pub seam_cancels : (form : Form) (i k : ℕ) → seam G form (word G S i) (word G S k)
        ≡ cancellation_of G S (record { slot = i; inverted = other_sign form }) (record { slot = k; inverted = changed_sign form })
    seam_cancels Before i k = refl
    seam_cancels InverseBefore i k = refl
    seam_cancels After i k = cancellation_inverses G L (word G S k) (word G S i)
    seam_cancels InverseAfter i k = cancellation_inverses G L (word G S k) (inverse G (word G S i))
        ∙ ap (λ (u : List A). cancellation G u (inverse G (word G S k))) (inverse_twice G L (word G S i))

    formed-signs : (b c : Bool) (i k : ℕ) → cancellation_of G S (record { slot = i; inverted = b }) (record { slot = k; inverted = c })
        ≡ seam G (form_of b c) (word G S i) (word G S k)
    formed-signs false false i k = sym (seam_cancels Before i k)
    formed-signs true false i k = sym (seam_cancels InverseBefore i k)
    formed-signs true true i k = sym (seam_cancels After i k)
    formed-signs false true i k = sym (seam_cancels InverseAfter i k)

    -- and the other way round
    pub cancels_seam : (x y : Factor) → cancellation_of G S x y ≡ seam G (form_of x.inverted y.inverted) (word G S x.slot) (word G S y.slot)
    cancels_seam x y = formed-signs x.inverted y.inverted x.slot y.slot

    -- two factors cancel as much as their inverses in the other order
    pub cancels_flips : (x y : Factor) → cancellation_of G S x y ≡ cancellation_of G S (factors.flip y) (factors.flip x)
    cancels_flips x y = cancellation_inverses G L (value G S x) (value G S y) ∙ rw (value-flip G L S x, value-flip G L S y)

    pub cancels_le_left : (x y : Factor) → cancellation_of G S x y ≤ length (word G S x.slot)
    cancels_le_left x y = omega (arith, cancellation_le_left G L (value G S x) (value G S y), value-length G L S x)

    pub cancels_le_right : (x y : Factor) → cancellation_of G S x y ≤ length (word G S y.slot)
    cancels_le_right x y = omega (arith, cancellation_le_right G L (value G S x) (value G S y), value-length G L S y)

    -- "if the freely reduced result is strictly shorter than w(k)"
    pub try_shorter : (k i : ℕ) (form : Form) → length (freely_reduce G (formed G form (word G S i) (word G S k))) < length (word G S k)
        → try_form G S k i form ≡ Some (record { changed = k; form = form; other = i })
    try_shorter k i form h = rw (lt-ltb (length (freely_reduce G (formed G form (word G S i) (word G S k)))) (length (word G S k)) h)

    pub try_not_shorter : (k i : ℕ) (form : Form) → length (word G S k) ≤ length (freely_reduce G (formed G form (word G S i) (word G S k)))
        → try_form G S k i form ≡ None
    try_not_shorter k i form h = rw (le-ltb (length (freely_reduce G (formed G form (word G S i) (word G S k)))) (length (word G S k)) h)

    -- "except k"
    pub other-same : (k i : ℕ) → i ≡ k → try_other G S k i ≡ None
    other-same k i e = rw (eq-eqb i k e)

    pub other_differs : (k i : ℕ) → (i ≡ k → ⊥) → try_other G S k i ≡ first (λ j. try_form G S k i (form_at j)) 4
    other_differs k i n = rw (ne_eqb i k n)

    pub other_missed : (k i : ℕ) → first (λ j. try_form G S k i (form_at j)) 4 ≡ None → try_other G S k i ≡ None
    other_missed k i e = elim (ℕ_discrete i k) [ yes p ↦ other-same k i p | no n ↦ other_differs k i n ∙ e ]

    -- "The first pair and form found in this order is the move made."
    pub shortening-found : (k i j : ℕ) (m : Move) → k < length S → first (try_changed G S) k ≡ None → i < length S → first (try_other G S k) i ≡ None
        → (i ≡ k → ⊥) → j < 4 → first (λ n. try_form G S k i (form_at n)) j ≡ None → try_form G S k i (form_at j) ≡ Some m → shortening G S ≡ Some m
    unfolding shortening
    shortening-found k i j m h before_k l before_i n f before-j e =
        let at_i : try_other G S k i ≡ Some m = other_differs k i n ∙ first_found (λ (n : ℕ). try_form G S k i (form_at n)) j 4 m f before-j e in
        let at_k : try_changed G S k ≡ Some m = first_found (try_other G S k) i (length S) m l before_i at_i in
        first_found (try_changed G S) k (length S) m h before_k at_k

    pub try_found : (k i : ℕ) (form : Form) (m : Move) → try_form G S k i form ≡ Some m
        → (length (freely_reduce G (formed G form (word G S i) (word G S k))) < length (word G S k)) × (m ≡ record { changed = k; form = form; other = i })
    try_found k i form m e =
        let new : ℕ = length (freely_reduce G (formed G form (word G S i) (word G S k))) in
        let old : ℕ = length (word G S k) in
        let found = cond_some (ltb new old) (record { changed = k; form = form; other = i }) m e in
        (ltb-true new old found.0, sym found.1)

    pub try_missed : (k i : ℕ) (form : Form) → try_form G S k i form ≡ None
        → length (word G S k) ≤ length (freely_reduce G (formed G form (word G S i) (word G S k)))
    try_missed k i form e =
        let new : ℕ = length (freely_reduce G (formed G form (word G S i) (word G S k))) in
        let old : ℕ = length (word G S k) in
        let m : Move = record { changed = k; form = form; other = i } in
        ltb-false new old (given-none (ltb new old) m e)

    -- what is found shortens
    pub shortening_shortens : (m : Move) → shortening G S ≡ Some m → Shortens G S m
    unfolding shortening
    shortening_shortens m e =
        let at_k = first_some (try_changed G S) (length S) m e in
        let k : ℕ = at_k.0 in
        let at_i = first_some (try_other G S k) (length S) m at_k.2 in
        let i : ℕ = at_i.0 in
        let apart = unless_some (eqb i k) (first (λ j. try_form G S k i (form_at j)) 4) m at_i.2 in
        let at_j = first_some (λ (j : ℕ). try_form G S k i (form_at j)) 4 m apart.1 in
        let found = try_found k i (form_at at_j.0) m at_j.2 in
        rw found.1
        (record { distinct = λ q. eqb-false i k apart.0 (sym q); changed_inside = at_k.1; other_inside = at_i.1; shorter = found.0 })

    -- where nothing is found, nothing shortens
    pub shortening_misses : shortening G S ≡ None → (m : Move) → Shortens G S m → ⊥
    unfolding shortening
    shortening_misses e m s =
        let k : ℕ = m.changed in
        let i : ℕ = m.other in
        let at_k : try_changed G S k ≡ None = first-each (try_changed G S) (length S) e k s.changed_inside in
        let at_i : try_other G S k i ≡ None = first-each (try_other G S k) (length S) at_k i s.other_inside in
        let at_j = first-each (λ (j : ℕ). try_form G S k i (form_at j)) 4 (sym (other_differs k i (λ q. s.distinct (sym q))) ∙ at_i) in
        omega (arith, s.shorter, try_missed k i m.form (rw form_at-place at (at_j (form_place m.form) (form_place_few m.form))))

    pub nothing_shortens : ((m : Move) → Shortens G S m → ⊥) → shortening G S ≡ None
    nothing_shortens n = elim (option_cases (shortening G S)) [
      | inl e ↦ e
      | inr r ↦ absurd (n r.0 (shortening_shortens r.0 r.1))
    ]

    module _ (freely : FreelyReduced G S) where
      -- a move to another slot shortens exactly when more than half of the other word cancels
      pub moved_shorter : (m : Move) → (length (moved_word G S m) < length (word G S m.changed))
          ↔ (length (word G S m.other) < 2 * seam G m.form (word G S m.other) (word G S m.changed))
      moved_shorter m = formed_shorter m.form (word G S m.other) (word G S m.changed) (freely m.other) (freely m.changed)

      -- both words of a move that shortens are not blank
      pub shortens_allowed : (m : Move) → Shortens G S m → Allowed G S m
      shortens_allowed m s =
          let more = (moved_shorter m).0 s.shorter in
          let most = seam_le_other m.form (word G S m.other) (word G S m.changed) in
          record {
            distinct = s.distinct;
            changed_inside = s.changed_inside;
            other_inside = s.other_inside;
            changed-word = λ e. omega (arith, s.shorter, ap length e);
            other_word = λ e. omega (arith, more, most, ap length e);
          }

      pub half_keeps : AtMostHalf G S → (m : Move) → Shortens G S m → ⊥
      half_keeps half m s =
          let a : Allowed G S m = shortens_allowed m s in
          let x : Factor = record { slot = m.other; inverted = other_sign m.form } in
          let y : Factor = record { slot = m.changed; inverted = changed_sign m.form } in
          omega (
            arith,
            (moved_shorter m).0 s.shorter,
            seam_cancels m.form m.other m.changed,
            value-length G L S x,
            (half x y a.other_word a.changed-word (λ q. s.distinct (sym q))).0,
          )

      -- where nothing shortens, at most half of any factor cancels against a factor of another slot, blank or not
      keeps_half : ((m : Move) → Shortens G S m → ⊥) → (x y : Factor) → (x.slot ≡ y.slot → ⊥) → 2 * cancellation_of G S x y ≤ size G S x
      keeps_half n x y d =
          let m : Move = record { changed = y.slot; form = form_of x.inverted y.inverted; other = x.slot } in
          elim (dec_lt (size G S x) (2 * cancellation_of G S x y)) [
            | yes h ↦ absurd (n m (record {
              distinct = λ q. d (sym q);
              changed_inside = word-slot G L S y.slot (word_nonempty (word G S y.slot) (omega (arith, cancels_le_right x y)));
              other_inside = word-slot G L S x.slot (word_nonempty (word G S x.slot) (omega (arith, cancels_le_left x y)));
              shorter = (moved_shorter m).1 (omega (arith, cancels_seam x y, value-length G L S x));
            }))
            | no h ↦ omega arith
          ]

      -- "Shortening: .. if the freely reduced result is strictly shorter than w(k)": nothing shortens exactly where the first condition of a
      -- reduced system holds
      pub shortening-none : (shortening G S ≡ None) ↔ AtMostHalf G S
      shortening-none = (to, λ half. nothing_shortens (half_keeps half))
        where
          to : shortening G S ≡ None → AtMostHalf G S
          to e x y p q d =
              let n : (m : Move) → Shortens G S m → ⊥ = shortening_misses e in (
                keeps_half n x y d,
                omega (
                  arith,
                  keeps_half n (factors.flip y) (factors.flip x) (λ r. d (sym r)),
                  cancels_flips x y,
                  value-length G L S y,
                  value-length G L S (factors.flip y),
                ),
              )

      -- a found shortening is allowed, and its result strictly shorter
      pub shortening-allowed : (m : Move) → shortening G S ≡ Some m → Allowed G S m
      shortening-allowed m e = shortens_allowed m (shortening_shortens m e)

      pub shortening_shorter : (m : Move) → shortening G S ≡ Some m → length (moved_word G S m) < length (word G S m.changed)
      shortening_shorter m e = (shortening_shortens m e).shorter
