-- The pairs that need not be tried again: marks set and taken away, that a move changes no other pair, and that no pair with a blank
-- word shortens anything.
use Rattle.std.proofs.Common.{◌*◌, ◌+◌, ◌<◌, ◌≤◌, ◌≡◌, ◌⊎◌, ℕ, Bool, cond, false, true, List, [], get_or, length, replicate, set, eqb, leb, ltb, None, Option, Some, arith, ap, ap₂, inl, inr, refl, sym, ◌∙◌, length-set, get_or-set_other, get_or-set_same}
use Rattle.std.proofs.lemmas.List.{get_or-replicate}
use mathlib.Core.Bool.{true≢false}
use native.Mathlib.Decide.{dec_lt, ℕ_discrete}
use borrow.Author.Tests.{eqb-true, le-leb}
use Rattle.words.specs.Alphabet.{bytes}
use Rattle.words.specs.Words.{freely_reduce}
use Rattle.words.proofs.Alphabet.{byte_laws}
use Rattle.systems.specs.Products.{FreelyReduced, word}
use Rattle.systems.specs.Moves.{formed, made, moved_word, seam}
use Rattle.systems.specs.declared.Form.{Form}
use Rattle.systems.specs.declared.Move.{Move}
use Rattle.systems.specs.Rules.{first, form_at, next, shortening, try_changed, try_form, try_other}
use Rattle.systems.proofs.Logic.{unless_some}
use Rattle.systems.proofs.Searching.{first-each, first_nowhere, first_some}
use Rattle.systems.proofs.Shortening.{formed_shorter, other_missed, seam_le_changed, seam_le_other, try_found, try_not_shorter}
use Rattle.systems.proofs.Undoing.{made-freely_reduced, made-length, made_others, set_holds}
use Rattle.systems.proofs.Neither.{next_from, next_valid}
use Rattle.slots.specs.Systems.{freely_reduced_words}
use Rattle.slots.proofs.RoundTrip.{reduced-short, words-length}
use Rattle.slots.proofs.Systems.{loaded_freely_reduced}
use Rattle.marks.specs.Marks.{Marked, PairsSet, Ready, mark_of}

-- no pair is marked at first
unmarked : (S : List (List ℕ)) → length S ≤ 16 → Marked S (replicate 16 (replicate 16 false))
unmarked S few k i k_in i-in h =
    absurd (true≢false (sym h ∙ ap (λ (row : List Bool). get_or row i false) (get_or-replicate 16 k (replicate 16 false) [] (omega arith))
    ∙ get_or-replicate 16 i false false (omega arith)))

pub ready_loaded : (s : List ℕ) (S : List (List ℕ)) → S ≡ freely_reduced_words s → length s ≤ 1024 → Ready S (replicate 16 (replicate 16 false)) 0
ready_loaded s S e room =
    let few : length (freely_reduced_words s) ≤ 16 = omega (arith, words-length s) in
    rw e (record {
      few = few;
      short = reduced-short s;
      freely = loaded_freely_reduced s;
      marked = unmarked (freely_reduced_words s) few;
      last_within = omega arith;
      settled = λ k i h. absurd (omega arith);
    })

-- one pair more
module _ (S : List (List ℕ)) (marks : List (List Bool)) (k i : ℕ) (inside : k < length marks) where
  mark_added : (a b : ℕ) → mark_of (set marks k (set (get_or marks k []) i true)) a b ≡ true → ((a ≡ k) × (b ≡ i)) ⊎ (mark_of marks a b ≡ true)
  mark_added a b h = elim (ℕ_discrete a k) [
    | no n ↦ inr (ap (λ (row : List Bool). get_or row b false) (sym (get_or-set_other marks k a _ [] n)) ∙ h)
    | yes e ↦ elim (ℕ_discrete b i) [
      | yes d ↦ inl (e, d)
      | no n ↦ inr (
          ap (λ (m : ℕ). mark_of marks m b) e ∙ sym (get_or-set_other (get_or marks k []) i b true false n)
          ∙ ap (λ (row : List Bool). get_or row b false) (sym (get_or-set_same marks k _ [] inside))
          ∙ ap (λ (m : ℕ). mark_of (set marks k (set (get_or marks k []) i true)) m b) (sym e) ∙ h
          )
    ]
  ]

  pub ready_marked : (last : ℕ) (given : List (List ℕ)) → Ready S marks last → S ≡ given → try_other bytes given k i ≡ None
      → Ready S (set marks k (set (get_or marks k []) i true)) last
  ready_marked last given r same failed =
      record {
        few = r.few;
        short = r.short;
        freely = r.freely;
        marked = λ a b a_in b-in h. elim (mark_added a b h) [
          | inl e ↦ rw (e.0, e.1, same) failed
          | inr old ↦ r.marked a b a_in b-in old
        ];
        last_within = r.last_within;
        settled = r.settled;
      }

-- a column of the first j rows is set to a mark
pub record ColumnSet (c : ℕ) (mark : Bool) (j : ℕ) (before after : List (List Bool)) : Type 0 where
  pub rows : length after ≡ length before
  pub passed : (k : ℕ) → k < j → (c < length (get_or before k [])) × (get_or after k [] ≡ set (get_or before k []) c mark)
  pub left : (k : ℕ) → j ≤ k → get_or after k [] ≡ get_or before k []

pub column_begin : (c : ℕ) (mark : Bool) (marks : List (List Bool)) → ColumnSet c mark 0 marks marks
column_begin c mark marks = record { rows = refl; passed = λ k h. absurd (omega arith); left = λ k h. refl }

module _ (c : ℕ) (mark : Bool) (j : ℕ) (before after : List (List Bool)) (done : ColumnSet c mark j before after) where
  pub column_more : j < length after → c < length (get_or after j []) → ColumnSet c mark (j + 1) before (set after j (set (get_or after j []) c mark))
  column_more inside wide =
      record {
        rows = length-set after j _ ∙ done.rows;
        passed = λ k h. elim (ℕ_discrete k j) [
          | yes e ↦ rw (e, get_or-set_same after j (set (get_or after j []) c mark) [] inside, ← done.left j (omega arith)) (wide, refl)
          | no n ↦ rw (get_or-set_other after j k (set (get_or after j []) c mark) [] n) (done.passed k (omega arith))
        ];
        left = λ k h. let n : k ≡ j → ⊥ = λ e. omega arith in get_or-set_other after j k _ [] n ∙ done.left k (omega arith);
      }

-- all of them, once the row of the slot was
pub pairs_set : (c : ℕ) (mark : Bool) (j : ℕ) (marks marks' : List (List Bool)) → c < 16 → length marks ≡ 16
    → ColumnSet c mark j (set marks c (replicate 16 mark)) marks' → 16 ≤ j → PairsSet c mark marks marks'
pairs_set c mark j marks marks' inside rows done all k i k_in i-in =
    let row : List Bool = get_or (set marks c (replicate 16 mark)) k [] in
    let passed = done.passed k (omega arith) in
    elim (ℕ_discrete i c) [
      | yes e ↦ inl (inr e, rw (e, passed.1) (get_or-set_same row c mark false passed.0))
      | no n ↦
          let same : mark_of marks' k i ≡ get_or row i false = rw passed.1 (get_or-set_other row c i mark false n) in
          elim (ℕ_discrete k c) [
            | yes e ↦ inl (
              inl e,
              same ∙ rw (e, get_or-set_same marks c (replicate 16 mark) [] (omega arith)) (get_or-replicate 16 i mark false i-in),
            )
            | no m ↦ inr (m, n, same ∙ ap (λ (r : List Bool). get_or r i false) (get_or-set_other marks c k (replicate 16 mark) [] m))
          ]
    ]

-- a pair of which at most half of the other word cancels in each form
module _ (S : List (List ℕ)) (freely : FreelyReduced bytes S) (k i : ℕ) where
  pub form-none : (form : Form) → 2 * seam bytes form (word bytes S i) (word bytes S k) ≤ length (word bytes S i) → try_form bytes S k i form ≡ None
  form-none form most =
      let u : List ℕ = word bytes S i in
      let v : List ℕ = word bytes S k in
      elim (dec_lt (length (freely_reduce bytes (formed bytes form u v))) (length v)) [
        | yes l ↦ absurd (omega (arith, (formed_shorter bytes byte_laws form u v (freely i) (freely k)).0 l))
        | no l ↦ try_not_shorter bytes byte_laws S k i form (omega arith)
      ]

  pub pair_none : ((form : Form) → 2 * seam bytes form (word bytes S i) (word bytes S k) ≤ length (word bytes S i)) → try_other bytes S k i ≡ None
  pair_none most =
      other_missed bytes byte_laws S k i
      (first_nowhere (λ (j : ℕ). try_form bytes S k i (form_at j)) 4 (λ j l. form-none (form_at j) (most (form_at j))))

  -- a blank word shortens none and is shortened by none
  pub blank_none : length (word bytes S i) ≡ 0 ⊎ (length (word bytes S k) ≡ 0) → try_other bytes S k i ≡ None
  blank_none blank = pair_none (λ form. elim blank [
    | inl e ↦ omega (arith, seam_le_other bytes byte_laws form (word bytes S i) (word bytes S k))
    | inr e ↦ omega (arith, seam_le_changed bytes byte_laws form (word bytes S i) (word bytes S k))
  ])

-- which forms shorten slot k by slot i depends on the two words alone
try_words : ℕ → ℕ → List ℕ → List ℕ → Option Move
try_words k i wk wi =
    cond (eqb i k) None
    (first (λ j. cond (ltb (length (freely_reduce bytes (formed bytes (form_at j) wi wk))) (length wk))
    (Some (record { changed = k; form = form_at j; other = i })) None) 4)

other-same-words : (S T : List (List ℕ)) (k i : ℕ) → word bytes S k ≡ word bytes T k → word bytes S i ≡ word bytes T i
    → try_other bytes S k i ≡ try_other bytes T k i
unfolding try_words
other-same-words S T k i p q = ap₂ (try_words k i) p q

-- a move found for slot k changes slot k
other-changed : (S : List (List ℕ)) (k i : ℕ) (m : Move) → try_other bytes S k i ≡ Some m → m.changed ≡ k
other-changed S k i m e =
    let apart = unless_some (eqb i k) (first (λ j. try_form bytes S k i (form_at j)) 4) m e in
    let at_j = first_some (λ (j : ℕ). try_form bytes S k i (form_at j)) 4 m apart.1 in
    ap (λ (m : Move). m.changed) (try_found bytes byte_laws S k i (form_at at_j.0) m at_j.2).1

-- no slot before that of the next move is shortened
next-before : (S : List (List ℕ)) (m : Move) → m.changed < length S → next bytes S ≡ Some m → (k i : ℕ) → k < m.changed → i < length S
    → try_other bytes S k i ≡ None
unfolding shortening
next-before S m inside e k i h l = first-each (try_other bytes S k) (length S) (elim (next_from bytes S m e) [
  | inl d ↦
      let at_k = first_some (try_changed bytes S) (length S) m d in
      let at_i = first_some (try_other bytes S at_k.0) (length S) m at_k.2 in
      at_k.3 k (omega (arith, other-changed S at_k.0 at_i.0 m at_i.2))
  | inr d ↦ first-each (try_changed bytes S) (length S) d.0 k (omega arith)
]) i l

-- the next move: it is between two slots, its word fits its slot, and what is known after it
module _ (S given : List (List ℕ)) (marks : List (List Bool)) (last : ℕ) (m : Move) (r : Ready S marks last) (same : S ≡ given)
    (asked : next bytes given ≡ Some m) where
  more : next bytes S ≡ Some m
  more = ap (next bytes) same ∙ asked

  pub next_inside : (m.changed < length S) × (m.other < length S)
  next_inside = let a = (next_valid bytes byte_laws S r.freely m more).allowed in (a.changed_inside, a.other_inside)

  module _ (T : List (List ℕ)) {fits : Bool} (told : fits ≡ leb (length (moved_word bytes S m)) 63) (done : fits ≡ true → T ≡ made bytes S m) where
    no_longer : length (moved_word bytes S m) ≤ 63
    no_longer = omega (arith, (next_valid bytes byte_laws S r.freely m more).no_longer, r.short m.changed)

    advanced : T ≡ made bytes S m
    advanced = done (told ∙ le-leb _ _ no_longer)

    pub advanced_given : T ≡ made bytes given m
    advanced_given = rw same at advanced

    advanced-length : length T ≡ length S
    advanced-length = ap length advanced ∙ made-length bytes S m

    pub advanced_inside : m.changed < length T
    advanced_inside = omega (arith, advanced-length, next_inside)

    advanced-freely : FreelyReduced bytes T
    advanced-freely = rw advanced (made-freely_reduced bytes byte_laws S m r.freely)

    advanced-words : (k i : ℕ) → (k ≡ m.changed → ⊥) → (i ≡ m.changed → ⊥) → try_other bytes T k i ≡ try_other bytes S k i
    advanced-words k i p q = rw advanced (other-same-words (made bytes S m) S k i (made_others bytes S m k p) (made_others bytes S m i q))

    -- a mark that is set is an old one, or the changed slot is blank now
    advanced_marked : (marks' : List (List Bool)) (blank : Bool) → PairsSet m.changed blank marks marks'
        → (blank ≡ true → length (word bytes T m.changed) ≡ 0) → Marked T marks'
    advanced_marked marks' blank turned empty k i k_in i-in h =
        elim (turned k i (omega (arith, advanced-length, r.few)) (omega (arith, advanced-length, r.few))) [
          | inl set ↦
              let none = empty (sym set.1 ∙ h) in
              blank_none T advanced-freely k i (elim set.0 [
                | inl e ↦ inr (rw e none)
                | inr e ↦ inl (rw e none)
              ])
          | inr kept ↦
              advanced-words k i kept.0 kept.1
              ∙ r.marked k i (omega (arith, advanced-length)) (omega (arith, advanced-length)) (sym kept.2 ∙ h)
        ]

    -- the slots before the one changed are now shortened by that one alone
    pub ready_advanced : (marks' : List (List Bool)) {blank : Bool} (U : List (List ℕ)) (w : List ℕ) → U ≡ T → w ≡ word bytes U m.changed
        → blank ≡ eqb (length w) 0 → PairsSet m.changed blank marks marks' → Ready T marks' m.changed
    ready_advanced marks' {blank} U w there e tested turned =
        record {
          few = omega (arith, advanced-length, r.few);
          short = rw advanced (set_holds (λ k w. length w ≤ 63) S m.changed (moved_word bytes S m) [] r.short no_longer);
          freely = advanced-freely;
          marked = advanced_marked marks' blank turned (λ b. ap length (sym (rw there at e)) ∙ eqb-true (length w) 0 (sym tested ∙ b));
          last_within = omega (arith, advanced_inside);
          settled = λ k i h l apart.
              advanced-words k i (λ e. omega arith) apart ∙ next-before S m (omega (arith, next_inside)) more k i h (omega (arith, advanced-length));
        }
