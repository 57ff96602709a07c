-- What is kept and counted of an input that comes in parts.
use Prim.Native.Nat.{◌%◌, ◌+◌, ◌-◌, ◌<◌, ◌≤◌, min, ℕ}
use mathlib.Core.List.{List, [], ◌++◌}
use mathlib.Core.Logic.{inl, inr}
use mathlib.Core.Path.{◌∙◌, ◌≡◌, ap, refl, sym}
use native.Mathlib.Omega.{arith}
use lib.Dec.{leb}
use lib.ListN.{drop, get_or, length, length-append, length-take, take, take-append-drop}
use lib.Seq.{get_or-append-add, get_or-take, take-append_seam, length-take-le}
use borrow.Author.Tests.{le-leb, leb-false, leb-true, lt-leb}
use Rattle.words.specs.Buffers.{written}
use Rattle.input.specs.Input.{CountOf, Holds, ReadInput, counted, kept_after}
use Rattle.std.proofs.lemmas.Bool.{cases_Bool}

-- a length as it is counted
counted_exact : (n : ℕ) → n ≤ 1088 → n ≡ counted n
unfolding counted
counted_exact n h = rw (le-leb n 1088 h) refl

counted_long : (n : ℕ) → 1088 < n → 1152 + n % 64 ≡ counted n
unfolding counted
counted_long n h = rw (lt-leb n 1088 h) refl

-- it is a count of that length
counted_is : (n : ℕ) → CountOf n (counted n)
counted_is n =
    elim (cases_Bool (leb n 1088)) [
      | inl h ↦ inl (sym (counted_exact n (leb-true n 1088 h)))
      | inr h ↦
          let long : 1088 < n = leb-false n 1088 h in
          let told : 1152 + n % 64 ≡ counted n = counted_long n long in
          inr (omega arith, long, omega arith)
    ]

-- a count of a count, and the sum of two
count_again : (n a b : ℕ) → CountOf n a → CountOf a b → CountOf n b
count_again n a b (inl e) (inl f) = inl (f ∙ e)
count_again n a b (inl e) (inr f) = inr (f.0, omega (arith, e, f), omega (arith, e, f))
count_again n a b (inr e) (inl f) = inr (omega (arith, e, f), e.1, omega (arith, e, f))
count_again n a b (inr e) (inr f) = inr (f.0, e.1, f.2 ∙ e.2)

count_sum : (n a k b : ℕ) → CountOf n a → CountOf k b → CountOf (n + k) (a + b)
count_sum n a k b (inl e) (inl f) = inl (omega (arith, e, f))
count_sum n a k b (inl e) (inr f) = inr (omega (arith, e, f), omega (arith, e, f), omega (arith, e, f))
count_sum n a k b (inr e) (inl f) = inr (omega (arith, e, f), omega (arith, e, f), omega (arith, e, f))
count_sum n a k b (inr e) (inr f) = inr (omega (arith, e, f), omega (arith, e, f), omega (arith, e, f))

-- all counts of a length are counted alike
count_same : (n a : ℕ) → CountOf n a → counted a ≡ counted n
count_same n a (inl e) = ap counted e
count_same n a (inr e) = sym (counted_long a e.0) ∙ ap (λ (k : ℕ). 1152 + k) e.2 ∙ counted_long n e.1

-- so the count stays one when more bytes come
pub counted_told : (m n : ℕ) {a b r : ℕ} → a ≡ counted m → b ≡ counted n → r ≡ counted (a + b) → r ≡ counted (m + n)
counted_told m n e f h =
    rw (h, e, f) (count_same (m + n) (counted m + counted n) (count_sum m (counted m) n (counted n) (counted_is m) (counted_is n)))

count_next : (n size k : ℕ) → CountOf n size → CountOf (n + k) (counted (size + k))
count_next n size k h = count_again (n + k) (size + k) (counted (size + k)) (count_sum n size k k h (inl refl)) (counted_is (size + k))

-- a byte of two lists, one after the other
get_or-front : (p q : List ℕ) (i : ℕ) → i < length p → get_or (p ++ q) i 0 ≡ get_or p i 0
get_or-front p q i h = sym (get_or-take (length p) (p ++ q) i 0 h) ∙ ap (λ (l : List ℕ). get_or l i 0) (take-append_seam p q)

get_or-rest : (p q : List ℕ) (i : ℕ) → length p ≤ i → get_or (p ++ q) i 0 ≡ get_or q (i - length p) 0
get_or-rest p q i h =
    let there : length p + (i - length p) ≡ i = omega arith in
    ap (λ (k : ℕ). get_or (p ++ q) k 0) (sym there) ∙ get_or-append-add p q (i - length p) 0

-- where there is no more room, nothing is kept
module _ (next kept : List ℕ) (size : ℕ) where
  kept_full : (room : ℕ) → room ≡ min 1088 (length kept) → room ≤ size → kept ≡ kept_after next kept size
  kept_full room r h =
      let None : min 1088 (length kept) - size ≡ 0 = omega arith in
      rw None (sym (take-append-drop size kept))

  -- a byte that came before stays, and the next ones are kept up to byte 1,088 and as far as there is room
  kept_before : (i : ℕ) → i < size → i < length kept → get_or (kept_after next kept size) i 0 ≡ get_or kept i 0
  kept_before i h inside =
      get_or-front (take size kept) _ i (omega (arith, length-take size kept)) ∙ get_or-take size kept i 0 h

  kept_next : (i : ℕ) → size ≤ i → i < length kept → i < 1088 → i - size < length next → get_or (kept_after next kept size) i 0 ≡ get_or next (i - size) 0
  kept_next i h inside short came =
      let front : length (take size kept) ≡ size = length-take-le size kept (omega arith) in
      let more : List ℕ = take (min 1088 (length kept) - size) next in
      let there : i - size < length more = omega (arith, length-take (min 1088 (length kept) - size) next) in
      get_or-rest (take size kept) _ i (omega (arith, front))
      ∙ ap (λ (k : ℕ). get_or (written more (drop size kept)) (i - k) 0) front
      ∙ get_or-front more _ (i - size) there
      ∙ get_or-take (min 1088 (length kept) - size) next (i - size) 0 (omega arith)

-- what is known of an input stays known when more of it comes
module _ (next kept : List ℕ) (size : ℕ) (input : List ℕ) (before : Holds input kept size) where
  kept_first : (i : ℕ) → CountOf (length input) size → i < length (input ++ next) → i < length kept → i < 1088
      → get_or (kept_after next kept size) i 0 ≡ get_or (input ++ next) i 0
  kept_first i (inl e) came inside short =
      elim (cases_Bool (leb size i)) [
        | inl h ↦
            let after : size ≤ i = leb-true size i h in
            kept_next next kept size i after inside short (omega (arith, length-append input next))
            ∙ ap (λ (k : ℕ). get_or next (i - k) 0) e
            ∙ sym (get_or-rest input next i (omega arith))
        | inr h ↦
            let earlier : i < size = leb-false size i h in
            kept_before next kept size i earlier inside ∙ before.first i (omega arith) inside short ∙ sym (get_or-front input next i (omega arith))
      ]
  kept_first i (inr e) came inside short =
      let there : i < length input = omega (arith, e) in
      ap (λ (l : List ℕ). get_or l i 0) (sym (kept_full next kept size _ refl (omega (arith, e))))
      ∙ before.first i there inside short
      ∙ sym (get_or-front input next i there)

  pub keep_means : {kept' : List ℕ} {size' : ℕ} → length kept' ≡ length kept → kept' ≡ kept_after next kept size
      → size' ≡ counted (size + length next) → Holds (input ++ next) kept' size'
  keep_means same wrote told =
      record {
        first = λ i came inside short. ap (λ (l : List ℕ). get_or l i 0) wrote ∙ kept_first i before.count came (rw same at inside) short;
        count = rw (told, length-append input next) (count_next (length input) size (length next) before.count);
      }

-- before anything is read the input is empty
pub nothing_read : (kept : List ℕ) → ReadInput kept 0
nothing_read kept = record { input = []; holds = record { first = λ i came inside short. absurd (omega arith); count = inl refl } }
