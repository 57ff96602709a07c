-- A record written: full stops, then the word over them, then the line feed.
use Prim.Native.Nat.{◌+◌, ◌-◌, ◌≤◌, suc, ℕ}
use mathlib.Core.List.{List, [], ◌++◌, ◌∷◌, append_assoc}
use mathlib.Core.Path.{◌∙◌, ◌≡◌, ap, sym}
use native.Mathlib.Omega.{arith}
use lib.ListN.{drop, length, length-append, length-replicate, replicate-append-replicate, set}
use lib.Seq.{drop_at, set_at}
use Rattle.words.specs.Buffers.{written}
use Rattle.records.specs.Records.{blanks, record_of}

-- the full stops that a word leaves, up to the last
blanks-after : (k n : ℕ) → k ≤ n → drop k (blanks (suc n)) ≡ blanks (n - k) ++ (46 ∷ [])
blanks-after k n h =
    let count : k + (n - k + 1) ≡ suc n = omega arith in
    let parts : blanks k ++ blanks (n - k + 1) ≡ blanks (suc n) = replicate-append-replicate k (n - k + 1) 46 ∙ ap blanks count in
    ap (drop k) (sym parts) ∙ drop_at (blanks k) (blanks (n - k + 1)) k (length-replicate k 46)
    ∙ sym (replicate-append-replicate (n - k) 1 46)

-- full stops, then a word over their beginning, then the line feed: the record of the word
pub record-written : (w d : List ℕ) {out : List ℕ} (out₂ : List ℕ) → length w ≤ 63 → length d ≡ 64 → out ≡ blanks (length d)
    → out₂ ≡ written w out → set out₂ 63 10 ≡ record_of w
record-written w d {out} out₂ short sized e f =
    let front : List ℕ = w ++ blanks (63 - length w) in
    let long : length front ≡ 63 = length-append w _ ∙ ap (λ (k : ℕ). length w + k) (length-replicate (63 - length w) 46) ∙ omega arith in
    let filled : out ≡ blanks 64 = e ∙ ap blanks sized in
    let rest : out₂ ≡ front ++ (46 ∷ []) =
    f ∙ ap (λ (l : List ℕ). w ++ drop (length w) l) filled ∙ ap (λ (l : List ℕ). w ++ l) (blanks-after (length w) 63 short)
    ∙ sym (append_assoc w _ _) in
    ap (λ (l : List ℕ). set l 63 10) rest ∙ set_at front 46 [] 10 63 long ∙ append_assoc w _ _
