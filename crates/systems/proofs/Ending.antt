-- "Then repeat until neither rule applies" (docs/REQUIREMENTS.md, 'The moves'): every run comes to its end, since a number falls with every
-- move. A shortening makes the letters fewer in all. After a half-end move by slot h no word as short as h's or shorter qualifies that did
-- not before, and fewer factors begin with the inverse of the second half of h's word. So until the next shortening the words are chosen one
-- after the other, shorter ones first, and none again.
use Prim.Native.Nat.{ℕ, zero, suc, ◌+◌, ◌-◌, ◌*◌, ◌/◌, ◌%◌, ◌≤◌, ◌<◌}
use mathlib.Core.Path.{◌≡◌, refl, sym, ap, ap₂, ◌∙◌}
use mathlib.Core.Logic.{inl, inr}
use mathlib.Core.Bool.{Bool, true, false, cond, not, ◌&&◌}
use Rattle.std.specs.Prelude.{None, Some}
use mathlib.Core.List.{List, [], ◌∷◌}
use native.Mathlib.Nat.{mul-le-mul_right}
use native.Mathlib.Omega.{arith}
use native.Mathlib.Decide.{dec_lt, ℕ_discrete}
use lib.ListN.{length, set}
use lib.Dec.{leb, ltb, eqb}
use borrow.Author.Tests.{leb-true, le-leb, ltb-true, lt-ltb, eq-eqb, ne_eqb}
use Rattle.words.specs.Alphabet.{Alphabet}
use Rattle.words.specs.Words.{inverse, common_prefix}
use Rattle.words.proofs.Alphabet.{AlphabetLaws}
use Rattle.systems.specs.Products.{word, value, FreelyReduced}
use Rattle.systems.specs.declared.Factor.{Factor}
use Rattle.systems.specs.Moves.{made, moved_word}
use Rattle.systems.specs.declared.Move.{Move}
use Rattle.systems.specs.Reduced.{AtMostHalf}
use Rattle.systems.specs.Rules.{any_below, shortening, half_end, next, qualifies, run_within}
use Rattle.systems.specs.Bound.{letters_of}
use Rattle.systems.proofs.Logic.{option_cases}
use Rattle.systems.proofs.Searching.{any_found, any_nowhere}
use Rattle.systems.proofs.Totals.{bit, bit_few, bit_le, bit_less, total, total_but_one, total_less, total_most}
use Rattle.systems.proofs.Factors.{factor_same}
use Rattle.systems.proofs.Undoing.{made-length, made-changed, made_others, made-freely_reduced}
use Rattle.systems.proofs.Shortening.{shortening-none, shortening-allowed, shortening_shorter}
use Rattle.systems.proofs.Qualifying.{Qualified, qualifies_qualified, qualified_qualifies}
use Rattle.systems.proofs.HalfEnds.{Shortest, HalfEndMove, half_end-found, half_end-same-length}
use Rattle.systems.proofs.HalfTaken.{Taken, taken_made, kept_qualified, same_word_lem, no_longer_like, still_like}
use Rattle.systems.proofs.Neither.{next_from, run_stop, run_more}
use Rattle.std.proofs.lemmas.Bool.{and_from, and_parts, false_from_ne_true}

cond_le : (s t : Bool) (b n : ℕ) → n ≤ b → cond s b (cond t n 0) ≤ b
cond_le true t b n h = omega arith
cond_le false true b n h = h
cond_le false false b n h = omega arith

cond_less : (t : Bool) (a b : ℕ) → a < b → cond t a 0 < b
cond_less true a b h = h
cond_less false a b h = omega arith

-- the most half-end moves of m words between two shortenings: each word is chosen for the factors of the other slots, two of each
abbrev pub most_turns : ℕ → ℕ
most_turns m = m * (2 * (m - 1))

-- a letter outweighs them
fewer_product : (a b c v w : ℕ) → a < b → v ≤ c → a * (c + 1) + v < b * (c + 1) + w
fewer_product a b c v w l h = omega (arith, mul-le-mul_right (c + 1) l)

module _ {A : Type 0} (G : Alphabet A) where
  -- whether a factor of another slot begins with the inverse of the second half of slot h's word
  abbrev begins_like : List (List A) → ℕ → Factor → Bool
  begins_like S h x = not (eqb x.slot h) && leb (length (word G S h) / 2) (common_prefix G (inverse G (word G S h)) (value G S x))

  -- how many do
  abbrev beginnings : List (List A) → ℕ → ℕ
  beginnings S h =
      total (λ k. bit (begins_like S h (record { slot = k; inverted = false })) + bit (begins_like S h (record { slot = k; inverted = true })))
      (length S)

  -- the place of a slot in the order of choice: "the shortest qualifying word, lowest slot on a tie"
  abbrev place : List (List A) → ℕ → ℕ
  place S k = length (word G S k) * length S + k

  -- whether slot i's word qualifies and comes before slot k's
  abbrev sooner : List (List A) → ℕ → ℕ → Bool
  sooner S k i = qualifies G S i && ltb (place S i) (place S k)

  -- at most how many half-end moves slot k's word can still make before the next shortening: where a word before it qualifies, as many as the other
  -- slots have factors; where it is itself the chosen one, as many as there are such beginnings; elsewhere none, since its time is over
  abbrev turns : List (List A) → ℕ → ℕ
  turns S k = cond (any_below (sooner S k) (length S)) (2 * (length S - 1)) (cond (qualifies G S k) (beginnings S k) 0)

  -- at most how many all of them can make
  abbrev pub all_turns : List (List A) → ℕ
  all_turns S = total (turns S) (length S)

  -- at most how many moves the rules can still make: each letter may bring a shortening, and all turns anew after it
  abbrev pub moves_left : List (List A) → ℕ
  moves_left S = letters_of S * (most_turns (length S) + 1) + all_turns S

  -- no other word that qualifies comes before slot h's
  abbrev First : List (List A) → ℕ → Type 0
  First S h = (i : ℕ) → i < length S → (i ≡ h → ⊥) → qualifies G S i ≡ true → place S h < place S i

module _ {A : Type 0} (G : Alphabet A) (L : AlphabetLaws G) where
  module _ (S T : List (List A)) (h k : ℕ) (y : Factor) (t : Taken G S T h k y) (apart : k ≡ h → ⊥) where
    module _ (no_own_inverse : (x : A) → G.flip x ≡ x → ⊥) (freely : FreelyReduced G S) (filled : 0 < length (word G S h)) (even : length (word G S h) % 2 ≡ 0) where
      like_told : (x : Factor) → begins_like G T h x ≡ true
          → (not (eqb x.slot h) ≡ true) × (length (word G S h) / 2 ≤ common_prefix G (inverse G (word G S h)) (value G T x))
      like_told x e =
          let told : leb (length (word G T h) / 2) (common_prefix G (inverse G (word G T h)) (value G T x)) ≡ true =
          (and_parts (not (eqb x.slot h)) (leb (length (word G T h) / 2) (common_prefix G (inverse G (word G T h)) (value G T x))) e).1 in (
            (and_parts (not (eqb x.slot h)) (leb (length (word G T h) / 2) (common_prefix G (inverse G (word G T h)) (value G T x))) e).0,
            rw (same_word_lem G L S T h k y t apart no_own_inverse freely filled even) at (leb-true (length (word G T h) / 2) (common_prefix G (inverse G (word G T h)) (value G T x)) told),
          )

      still_begins : (x : Factor) → begins_like G T h x ≡ true → begins_like G S h x ≡ true
      still_begins x e =
          let told = like_told x e in
          and_from (not (eqb x.slot h)) (leb (length (word G S h) / 2) (common_prefix G (inverse G (word G S h)) (value G S x))) told.0
          (le-leb _ _ (still_like G L S T h k y t apart no_own_inverse freely filled even x told.1))

      changed_began : begins_like G S h y ≡ true
      changed_began =
          and_from (not (eqb y.slot h)) (leb (length (word G S h) / 2) (common_prefix G (inverse G (word G S h)) (value G S y)))
          (ap not (ne_eqb y.slot h (λ e. apart (sym t.at_k ∙ e)))) (le-leb _ _ t.before)

      changed-begins : begins_like G T h y ≡ true → ⊥
      changed-begins e = no_longer_like G L S T h k y t apart no_own_inverse freely filled even (like_told y e).1

      -- so fewer factors do
      fewer_beginnings : k < length S → length T ≡ length S → beginnings G T h < beginnings G S h
      fewer_beginnings inside long =
          let less = total_less (both T) (both S) (length T) k (omega (arith, long)) (strictly y.inverted refl) (λ j l. weakly j) in
          omega (arith, less, ap (total (both S)) long)
        where
          both : List (List A) → ℕ → ℕ
          both U j = bit (begins_like G U h (record { slot = j; inverted = false })) + bit (begins_like G U h (record { slot = j; inverted = true }))

          side : (j : ℕ) (b : Bool) → bit (begins_like G T h (record { slot = j; inverted = b })) ≤ bit (begins_like G S h (record { slot = j; inverted = b }))
          side j b = bit_le _ _ (still_begins (record { slot = j; inverted = b }))

          weakly : (j : ℕ) → both T j ≤ both S j
          weakly j = omega (arith, side j false, side j true)

          less : (x : Factor) → x ≡ y → bit (begins_like G T h x) < bit (begins_like G S h x)
          less x e = rw e (bit_less _ _ changed-begins changed_began)

          here : (b : Bool) → y.inverted ≡ b → record { slot = k; inverted = b } ≡ y
          here b e = sym (factor_same y (record { slot = k; inverted = b }) t.at_k e)

          strictly : (b : Bool) → y.inverted ≡ b → both T k < both S k
          strictly false e = omega (arith, less (record { slot = k; inverted = false }) (here false e), side k true)
          strictly true e = omega (arith, less (record { slot = k; inverted = true }) (here true e), side k false)

  -- the letters after one word is replaced
  letters_of-set : (S : List (List A)) (k : ℕ) (w : List A) → k < length S → letters_of (set S k w) + length (word G S k) ≡ letters_of S + length w
  letters_of-set [] k w l = absurd (omega arith)
  letters_of-set (v ∷ S) zero w l = omega arith
  letters_of-set (v ∷ S) (suc k) w l = omega (arith, letters_of-set S k w (omega arith))

  fewer_letters : (S : List (List A)) (m : Move) → FreelyReduced G S → shortening G S ≡ Some m → letters_of (made G S m) < letters_of S
  fewer_letters S m freely e =
      omega (
        arith,
        letters_of-set S m.changed (moved_word G S m) (shortening-allowed G L S freely m e).changed_inside,
        shortening_shorter G L S freely m e,
      )

  -- a longer word comes later
  longer_later : (S : List (List A)) (i j : ℕ) → i < length S → length (word G S i) < length (word G S j) → place G S i < place G S j
  longer_later S i j inside l = omega (arith, mul-le-mul_right (length S) l)

  -- the chosen word comes first
  chosen_first : (S : List (List A)) (h : ℕ) → Shortest G S (length S) h → First G S h
  chosen_first S h s i inside n q = elim (dec_lt i h) [
    | yes l ↦ longer_later S h i s.below (s.lowest i l q)
    | no l ↦ omega (arith, mul-le-mul_right (length S) (s.least i inside q))
  ]

  -- a factor of slot h itself does not count
  beginnings_few : (S : List (List A)) (h : ℕ) → h < length S → beginnings G S h ≤ 2 * (length S - 1)
  beginnings_few S h inside = total_but_one both (length S) h inside own (λ k. omega (arith, bit_few (one k false), bit_few (one k true)))
    where
      one : ℕ → Bool → Bool
      one k b = begins_like G S h (record { slot = k; inverted = b })

      both : ℕ → ℕ
      both k = bit (one k false) + bit (one k true)

      own : both h ≡ 0
      own = rw (eq-eqb h h refl)

  -- a word that waits for another
  turns_waiting : (S : List (List A)) (k i : ℕ) → i < length S → qualifies G S i ≡ true → place G S i < place G S k
      → turns G S k ≡ 2 * (length S - 1)
  turns_waiting S k i inside q p =
      rw (any_found (sooner G S k) i (length S) inside (and_from (qualifies G S i) (ltb (place G S i) (place G S k)) q (lt-ltb _ _ p)))

  -- a word that does not come after the first waits for none
  turns_first : (S : List (List A)) (h : ℕ) → First G S h → (k : ℕ) → place G S k ≤ place G S h
      → turns G S k ≡ cond (qualifies G S k) (beginnings G S k) 0
  turns_first S h first k le = rw (any_nowhere (sooner G S k) (length S) (λ i l. false_from_ne_true (sooner G S k i) (waits i l)))
    where
      waits : (i : ℕ) → i < length S → sooner G S k i ≡ true → ⊥
      waits i l t =
          let both = and_parts (qualifies G S i) (ltb (place G S i) (place G S k)) t in
          let less : place G S i < place G S k = ltb-true (place G S i) (place G S k) both.1 in
          elim (ℕ_discrete i h) [
            | yes p ↦ let less' : place G S h < place G S k = rw p at less in omega arith
            | no n ↦ omega (arith, first i l n both.0)
          ]

  -- and if it is not the first itself, its time is over
  turns_none : (S : List (List A)) (h : ℕ) → First G S h → (k : ℕ) → k < length S → (k ≡ h → ⊥) → place G S k ≤ place G S h
      → turns G S k ≡ 0
  turns_none S h first k inside n le =
      let lost : qualifies G S k ≡ false = false_from_ne_true (qualifies G S k) (λ t. omega (arith, first k inside n t)) in
      turns_first S h first k le ∙ rw lost

  turns_few : (S : List (List A)) (k : ℕ) → k < length S → turns G S k ≤ 2 * (length S - 1)
  turns_few S k inside =
      cond_le (any_below (sooner G S k) (length S)) (qualifies G S k) (2 * (length S - 1)) (beginnings G S k) (beginnings_few S k inside)

  pub all_turns_few : (S : List (List A)) → all_turns G S ≤ most_turns (length S)
  all_turns_few S = total_most (turns G S) (length S) (2 * (length S - 1)) (turns_few S)

  module _ (no_own_inverse : (x : A) → G.flip x ≡ x → ⊥) where
    -- what a half-end move leads to
    module _ (S : List (List A)) (m : Move) (freely : FreelyReduced G S) (nothing : shortening G S ≡ None) (e : half_end G S ≡ Some m) where
      found : HalfEndMove G S m
      found = half_end-found G L S m e

      chosen : Qualified G S m.other
      chosen = qualifies_qualified G L S m.other found.shortest.chosen

      half : AtMostHalf G S
      half = (shortening-none G L S freely).0 nothing

      taken : (y : Factor) × Taken G S (made G S m) m.other m.changed y
      taken = taken_made G L S freely half m.other m.changed found.inside found.distinct chosen.not_blank chosen.even found.taken

      same_letters : letters_of (made G S m) ≡ letters_of S
      same_letters = omega (arith, letters_of-set S m.changed (moved_word G S m) found.inside, half_end-same-length G L S freely half m e)

      same_length : (j : ℕ) → length (word G (made G S m) j) ≡ length (word G S j)
      same_length j = elim (ℕ_discrete j m.changed) [
        | yes p ↦ rw p (ap length (made-changed G S m found.inside) ∙ half_end-same-length G L S freely half m e)
        | no p ↦ ap length (made_others G S m j p)
      ]

      same_place : (j : ℕ) → place G (made G S m) j ≡ place G S j
      same_place j = ap₂ (λ (n l : ℕ). n * l + j) (same_length j) (made-length G S m)

      -- after the move no other word that qualifies comes before the chosen one either
      still_first : First G (made G S m) m.other
      still_first i inside n q = omega (arith, same_place i, same_place m.other, before)
        where
          before : place G S m.other < place G S i
          before = elim (dec_lt (length (word G S m.other)) (length (word G S i))) [
            | yes l ↦ longer_later S m.other i found.shortest.below l
            | no l ↦
                let past : Qualified G S i =
                kept_qualified G L S (made G S m) m.other m.changed taken.0 taken.1 found.distinct same_length chosen i (omega arith)
                (qualifies_qualified G L (made G S m) i q) in
                chosen_first S m.other found.shortest i (omega (arith, inside, made-length G S m)) n (qualified_qualifies G L S i past)
          ]

      -- the chosen word has fewer turns left, whether it still qualifies or not
      chosen_turns : turns G (made G S m) m.other < turns G S m.other
      chosen_turns =
          let T : List (List A) = made G S m in
          let h : ℕ = m.other in
          let past : turns G S h ≡ beginnings G S h =
          turns_first S h (chosen_first S h found.shortest) h (omega arith) ∙ rw found.shortest.chosen in
          let fewer : beginnings G T h < beginnings G S h =
          fewer_beginnings S T h m.changed taken.0 taken.1 found.distinct no_own_inverse freely chosen.not_blank chosen.even found.inside
          (made-length G S m) in
          omega (
            arith,
            past,
            turns_first T h still_first h (omega arith),
            cond_less (qualifies G T h) (beginnings G T h) (beginnings G S h) fewer,
          )

      -- and no word has more
      no_more_turns : (j : ℕ) → j < length (made G S m) → turns G (made G S m) j ≤ turns G S j
      no_more_turns j inside = elim (ℕ_discrete j m.other) [
        | yes p ↦ rw p (omega (arith, chosen_turns))
        | no n ↦ elim (dec_lt (place G S m.other) (place G S j)) [
          | yes l ↦ omega (
            arith,
            turns_few (made G S m) j inside,
            turns_waiting S j m.other found.shortest.below found.shortest.chosen l,
            made-length G S m,
          )
          | no l ↦ omega (
            arith,
            turns_none (made G S m) m.other still_first j inside n (omega (arith, l, same_place j, same_place m.other)),
          )
        ]
      ]

      fewer_turns : all_turns G (made G S m) < all_turns G S
      fewer_turns =
          let less =
          total_less (turns G (made G S m)) (turns G S) (length (made G S m)) m.other (omega (arith, found.shortest.below, made-length G S m))
          chosen_turns no_more_turns in
          omega (arith, less, ap (total (turns G S)) (made-length G S m))

    -- every move of the rules leaves fewer
    pub move_falls : (S : List (List A)) (m : Move) → FreelyReduced G S → next G S ≡ Some m → moves_left G (made G S m) < moves_left G S
    move_falls S m freely e =
        let T : List (List A) = made G S m in
        let long : length T ≡ length S = made-length G S m in
        let most : ℕ = most_turns (length S) in
        let now : moves_left G T ≡ letters_of T * (most + 1) + all_turns G T =
        ap (λ (n : ℕ). letters_of T * (most_turns n + 1) + all_turns G T) long in
        elim (next_from G S m e) [
          | inl s ↦
              let few : all_turns G T ≤ most = omega (arith, all_turns_few T, ap most_turns long) in
              omega (arith, now, fewer_product (letters_of T) (letters_of S) most (all_turns G T) (all_turns G S) (fewer_letters S m freely s) few)
          | inr s ↦ omega (
            arith,
            now,
            ap (λ (n : ℕ). n * (most + 1)) (same_letters S m freely s.0 s.1),
            fewer_turns S m freely s.0 s.1,
          )
        ]

    -- so every run comes to its end within so many
    pub ends_within : (n : ℕ) (S : List (List A)) → FreelyReduced G S → moves_left G S ≤ n → next G (run_within G n S) ≡ None
    ends_within zero S freely few = elim (option_cases (next G S)) [
      | inl e ↦ e
      | inr r ↦ absurd (omega (arith, move_falls S r.0 freely r.1))
    ]
    ends_within (suc n) S freely few = elim (option_cases (next G S)) [
      | inl e ↦ rw (run_stop G (suc n) S e) e
      | inr r ↦ rw (run_more G n S r.0 r.1)
          (ends_within n (made G S r.0) (made-freely_reduced G L S r.0 freely) (omega (arith, move_falls S r.0 freely r.1)))
    ]
