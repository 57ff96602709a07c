-- "Then repeat until neither rule applies" (docs/REQUIREMENTS.md, 'The moves'): neither rule applies exactly to the reduced systems. Every move that
-- is made lies between two slots that are not blank and lengthens no word, so a run keeps the words freely reduced and within their bound.
use Prim.Native.Nat.{ℕ, zero, suc, ◌+◌, ◌-◌, ◌≤◌, ◌<◌}
use mathlib.Core.Path.{◌≡◌, refl, sym, ap, ◌∙◌}
use mathlib.Core.Logic.{◌↔◌, ◌⊎◌, inl, inr}
use Rattle.std.specs.Prelude.{None, Some}
use mathlib.Core.List.{List, [], ◌∷◌, ◌++◌, append-nil}
use native.Mathlib.Decide.{dec_lt}
use native.Mathlib.Nat.{zero-add, suc-add}
use native.Mathlib.Omega.{arith}
use lib.ListN.{length, take}
use Rattle.words.specs.Alphabet.{Alphabet}
use Rattle.words.proofs.Alphabet.{AlphabetLaws}
use Rattle.systems.specs.Products.{word, FreelyReduced}
use Rattle.systems.specs.Moves.{moved_word, made, made_all}
use Rattle.systems.specs.declared.Move.{Move}
use Rattle.systems.specs.Reduced.{AtMostHalf, Reduced}
use Rattle.systems.specs.Rules.{shortening, half_end, next, moves_within, run_within}
use Rattle.systems.proofs.Logic.{option_cases, some_not-none}
use Rattle.systems.proofs.Undoing.{set_holds, made-freely_reduced, made_all-length, made_all-append, made_all-freely_reduced}
use Rattle.systems.proofs.Shortening.{Allowed, shortening-none, shortening-allowed, shortening_shorter}
use Rattle.systems.proofs.HalfEnds.{half_end-none, half_end-allowed, half_end_no_longer, half_end-same-length}

module _ {A : Type 0} (G : Alphabet A) where
  -- a move between two different slots that are not blank, which lengthens no word
  pub record Valid (S : List (List A)) (m : Move) : Type 0 where
    pub allowed : Allowed G S m
    pub no_longer : length (moved_word G S m) ≤ length (word G S m.changed)

  -- each move of a list is valid at its point
  abbrev pub ValidMoves : List (List A) → List Move → Type 0
  ValidMoves S [] = Unit
  ValidMoves S (m ∷ ms) = Valid S m × ValidMoves (made G S m) ms

  -- no word of the system has more than b letters
  abbrev pub Within : ℕ → List (List A) → Type 0
  Within b S = (k : ℕ) → length (word G S k) ≤ b

  -- "Half-end move, only when nothing shortens"
  pub next-shortening : (S : List (List A)) (m : Move) → shortening G S ≡ Some m → next G S ≡ Some m
  unfolding next
  next-shortening S m e = rw (e, next)

  pub next-half_end : (S : List (List A)) → shortening G S ≡ None → next G S ≡ half_end G S
  unfolding next
  next-half_end S e = rw (e, next)

  pub next_from : (S : List (List A)) (m : Move) → next G S ≡ Some m
      → (shortening G S ≡ Some m) ⊎ ((shortening G S ≡ None) × (half_end G S ≡ Some m))
  next_from S m e = elim (option_cases (shortening G S)) [
    | inl d ↦ inr (d, sym (next-half_end S d) ∙ e)
    | inr r ↦ inl (r.1 ∙ sym (next-shortening S r.0 r.1) ∙ e)
  ]

  pub next_neither : (S : List (List A)) → next G S ≡ None → (shortening G S ≡ None) × (half_end G S ≡ None)
  next_neither S e = elim (option_cases (shortening G S)) [
    | inl d ↦ (d, sym (next-half_end S d) ∙ e)
    | inr r ↦ absurd (some_not-none (next G S) r.0 (next-shortening S r.0 r.1) e)
  ]

  -- a valid move keeps every bound on the words
  pub made-within : (S : List (List A)) (m : Move) (b : ℕ) → Valid S m → Within b S → Within b (made G S m)
  made-within S m b v h = set_holds (λ k w. length w ≤ b) S m.changed (moved_word G S m) [] h (omega (arith, v.no_longer, h m.changed))

  pub made_all-within : (S : List (List A)) (ms : List Move) (b : ℕ) → ValidMoves S ms → Within b S → Within b (made_all G S ms)
  made_all-within S [] b v h = h
  made_all-within S (m ∷ ms) b v h = made_all-within (made G S m) ms b v.1 (made-within S m b v.0 h)

  -- the systems on the way are within the bound too
  pub made_all_way_within : (S : List (List A)) (ms : List Move) (i b : ℕ) → ValidMoves S ms → Within b S → Within b (made_all G S (take i ms))
  made_all_way_within S ms zero b v h = h
  made_all_way_within S [] (suc i) b v h = h
  made_all_way_within S (m ∷ ms) (suc i) b v h = made_all_way_within (made G S m) ms i b v.1 (made-within S m b v.0 h)

  pub moves_stop : (n : ℕ) (S : List (List A)) → next G S ≡ None → moves_within G n S ≡ []
  moves_stop zero S e = refl
  moves_stop (suc n) S e = rw (e, moves_within)

  pub moves_more : (n : ℕ) (S : List (List A)) (m : Move) → next G S ≡ Some m → moves_within G (suc n) S ≡ m ∷ moves_within G n (made G S m)
  moves_more n S m e = rw (e, moves_within)

  pub run_stop : (n : ℕ) (S : List (List A)) → next G S ≡ None → run_within G n S ≡ S
  run_stop n S e = rw (moves_stop n S e)

  pub run_more : (n : ℕ) (S : List (List A)) (m : Move) → next G S ≡ Some m → run_within G (suc n) S ≡ run_within G n (made G S m)
  run_more n S m e = rw (moves_more n S m e)

  -- a run with room for just its own moves is the same
  pub moves_again : (n : ℕ) (S : List (List A)) → moves_within G (length (moves_within G n S)) S ≡ moves_within G n S
  moves_again zero S = refl
  moves_again (suc n) S = elim (option_cases (next G S)) [
    | inl e ↦ rw (moves_stop (suc n) S e)
    | inr r ↦
        rw (moves_more n S r.0 r.1, moves_more (length (moves_within G n (made G S r.0))) S r.0 r.1) (ap (◌∷◌ r.0) (moves_again n (made G S r.0)))
  ]

  pub run_length : (n : ℕ) (S : List (List A)) → length (run_within G n S) ≡ length S
  run_length n S = made_all-length G S (moves_within G n S)

  -- so many moves, and then more
  pub moves_then : (n k : ℕ) (S : List (List A)) → moves_within G (n + k) S ≡ moves_within G n S ++ moves_within G k (run_within G n S)
  moves_then zero k S = rw zero-add
  moves_then (suc n) k S = elim (option_cases (next G S)) [
    | inl e ↦ rw (moves_stop (suc n + k) S e, moves_stop (suc n) S e) (sym (moves_stop k S e))
    | inr r ↦ rw (suc-add, moves_more (n + k) S r.0 r.1, moves_more n S r.0 r.1) (ap (◌∷◌ r.0) (moves_then n k (made G S r.0)))
  ]

  pub run_then : (n k : ℕ) (S : List (List A)) → run_within G (n + k) S ≡ run_within G k (run_within G n S)
  run_then n k S = rw (moves_then n k S) (made_all-append G S (moves_within G n S) (moves_within G k (run_within G n S)))

  -- one move more at the end
  pub moves_last : (n : ℕ) (S : List (List A)) (m : Move) → next G (run_within G n S) ≡ Some m
      → moves_within G (n + 1) S ≡ moves_within G n S ++ (m ∷ [])
  moves_last n S m e = rw (moves_then n 1 S, moves_more 0 (run_within G n S) m e)

  pub run_last : (n : ℕ) (S : List (List A)) (m : Move) → next G (run_within G n S) ≡ Some m
      → run_within G (n + 1) S ≡ made G (run_within G n S) m
  run_last n S m e = rw (run_then n 1 S, run_more 0 (run_within G n S) m e)

  -- where a run has come to its end, more room changes nothing
  pub moves_ended : (n k : ℕ) (S : List (List A)) → next G (run_within G n S) ≡ None → n ≤ k → moves_within G k S ≡ moves_within G n S
  moves_ended n k S e h =
      let q : k ≡ n + (k - n) = omega arith in
      rw (q, moves_then n (k - n) S, moves_stop (k - n) (run_within G n S) e) (append-nil (moves_within G n S))

  pub run_ended : (n k : ℕ) (S : List (List A)) → next G (run_within G n S) ≡ None → n ≤ k → run_within G k S ≡ run_within G n S
  run_ended n k S e h = rw (moves_ended n k S e h)

  -- a run with another move to make has used all its room; one that has not has come to its end
  pub moves_full : (n : ℕ) (S : List (List A)) (m : Move) → next G (run_within G n S) ≡ Some m → length (moves_within G n S) ≡ n
  moves_full zero S m e = refl
  moves_full (suc n) S m e = elim (option_cases (next G S)) [
    | inl d ↦ absurd (some_not-none (next G S) m (rw (run_stop (suc n) S d) at e) d)
    | inr r ↦ rw (moves_more n S r.0 r.1) (ap suc (moves_full n (made G S r.0) m (rw (run_more n S r.0 r.1) at e)))
  ]

  pub moves-most : (n : ℕ) (S : List (List A)) → length (moves_within G n S) ≤ n
  moves-most zero S = omega arith
  moves-most (suc n) S = elim (option_cases (next G S)) [
    | inl e ↦ rw (moves_stop (suc n) S e) (omega arith)
    | inr r ↦ rw (moves_more n S r.0 r.1) (omega (arith, moves-most n (made G S r.0)))
  ]

  -- after n moves a run has come to its end: with room for k moves it makes the first k, and it comes to its end exactly where all fit
  module _ (n k : ℕ) (S : List (List A)) (ended : next G (run_within G n S) ≡ None) where
    pub moves-over : next G (run_within G k S) ≡ None → length (moves_within G n S) ≤ k
    moves-over e = elim (dec_lt k n) [
      | yes h ↦ rw (moves_ended k n S e (omega arith)) (moves-most k S)
      | no h ↦ omega (arith, moves-most n S)
    ]

    pub moves_fit : length (moves_within G n S) ≤ k → next G (run_within G k S) ≡ None
    moves_fit h =
        let again : next G (run_within G (length (moves_within G n S)) S) ≡ None = rw (moves_again n S) ended in
        rw (run_ended (length (moves_within G n S)) k S again h) again

  pub moves-first : (n k : ℕ) (S : List (List A)) → next G (run_within G n S) ≡ None → moves_within G k S ≡ take k (moves_within G n S)
  moves-first n zero S ended = refl
  moves-first zero (suc k) S ended = moves_stop (suc k) S ended
  moves-first (suc n) (suc k) S ended = elim (option_cases (next G S)) [
    | inl e ↦ rw (moves_stop (suc k) S e, moves_stop (suc n) S e)
    | inr r ↦
        rw (moves_more k S r.0 r.1, moves_more n S r.0 r.1)
        (ap (◌∷◌ r.0) (moves-first n k (made G S r.0) (rw (run_more n S r.0 r.1) at ended)))
  ]

module _ {A : Type 0} (G : Alphabet A) (L : AlphabetLaws G) where
  pub run-freely_reduced : (n : ℕ) (S : List (List A)) → FreelyReduced G S → FreelyReduced G (run_within G n S)
  run-freely_reduced n S h = made_all-freely_reduced G L S (moves_within G n S) h

  pub next_valid : (S : List (List A)) → FreelyReduced G S → (m : Move) → next G S ≡ Some m → Valid G S m
  next_valid S freely m e = elim (next_from G S m e) [
    | inl s ↦ record { allowed = shortening-allowed G L S freely m s; no_longer = omega (arith, shortening_shorter G L S freely m s) }
    | inr h ↦ record { allowed = half_end-allowed G L S m h.1; no_longer = half_end_no_longer G L S freely m h.1 }
  ]

  -- a move shortens its word strictly, or is a half-end move and keeps the length
  pub next-length : (S : List (List A)) → FreelyReduced G S → (m : Move) → next G S ≡ Some m
      → (length (moved_word G S m) < length (word G S m.changed))
      ⊎ ((shortening G S ≡ None) × (half_end G S ≡ Some m) × (length (moved_word G S m) ≡ length (word G S m.changed)))
  next-length S freely m e = elim (next_from G S m e) [
    | inl s ↦ inl (shortening_shorter G L S freely m s)
    | inr h ↦ inr (h.0, h.1, half_end-same-length G L S freely ((shortening-none G L S freely).0 h.0) m h.1)
  ]

  -- each move of a run is valid at its point
  pub run_valid : (n : ℕ) (S : List (List A)) → FreelyReduced G S → ValidMoves G S (moves_within G n S)
  run_valid zero S freely = tt
  run_valid (suc n) S freely = elim (option_cases (next G S)) [
    | inl e ↦ rw (moves_stop G (suc n) S e) tt
    | inr r ↦ rw (moves_more G n S r.0 r.1) (next_valid S freely r.0 r.1, run_valid n (made G S r.0) (made-freely_reduced G L S r.0 freely))
  ]

  -- no word of a run grows beyond the longest word at its start
  pub run-within : (n : ℕ) (S : List (List A)) (b : ℕ) → FreelyReduced G S → Within G b S → Within G b (run_within G n S)
  run-within n S b freely h = made_all-within G S (moves_within G n S) b (run_valid n S freely) h

  module _ (no_own_inverse : (x : A) → G.flip x ≡ x → ⊥) where
    -- "A system is reduced when, for two elements of its words and inverses that stand in different slots, no product of them cancels more
    -- than half of either, and in no product of three is the middle one wholly cancelled": exactly when neither rule applies
    pub next-none : (S : List (List A)) → FreelyReduced G S → (next G S ≡ None) ↔ Reduced G S
    next-none S freely = (to, of)
      where
        to : next G S ≡ None → Reduced G S
        to e =
            let neither = next_neither G S e in
            let half : AtMostHalf G S = (shortening-none G L S freely).0 neither.0 in
            record { half = half; middle = (half_end-none G L S no_own_inverse freely half).0 neither.1 }

        of : Reduced G S → next G S ≡ None
        of r = next-half_end G S ((shortening-none G L S freely).1 r.half) ∙ (half_end-none G L S no_own_inverse freely r.half).1 r.middle

    -- "repeat until neither rule applies": what a run leaves then is reduced
    pub run-reduced : (n : ℕ) (S : List (List A)) → FreelyReduced G S → next G (run_within G n S) ≡ None → Reduced G (run_within G n S)
    run-reduced n S freely e = (next-none (run_within G n S) (run-freely_reduced n S freely)).0 e
