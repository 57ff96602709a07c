-- Buffers that are read or written from a place on.
use Prim.Native.Nat.{◌+◌, ◌-◌, ◌<◌, ◌≤◌, suc, zero, ℕ}
use mathlib.Core.List.{List, [], ◌++◌, ◌∷◌, append_assoc, append-nil}
use mathlib.Core.Path.{◌≡◌, ap, refl}
use native.Mathlib.Nat.{suc-add, zero-add}
use native.Mathlib.Numerals.{add-one}
use native.Mathlib.Omega.{arith}
use lib.ListN.{drop, drop_of_length-le, length, length-append, length-drop, set, take}
use lib.Seq.{drop-append_seam, drop-drop, drop-length, drop-nil, set_split, take_all, take-append_seam, take_at}
use borrow.Rule.Slice.PartMut.{put_mid}
use Rattle.words.specs.Buffers.{written, written_at}

-- the first n letters, as a part that is handed on
pub front_part : (s : List ℕ) (n : ℕ) → take (n - 0) s ≡ take n s
front_part s n =
    let same : n - 0 ≡ n = omega arith in
    ap (λ (k : ℕ). take k s) same

-- what was written at the beginning of a lent buffer
pub written-take : (new buffer : List ℕ) (n : ℕ) → length new ≡ n → take n (written new buffer) ≡ new
written-take new buffer n e = take_at new (drop (length new) buffer) n e

-- what was written at the beginning of the rest of a buffer
pub written-rest : (bytes buffer y : List ℕ) (at : ℕ) → y ≡ written bytes (take (length buffer - at) (drop at buffer))
    → put_mid at (length buffer - at) buffer y ≡ written_at at bytes buffer
written-rest bytes buffer y at e =
    let none : drop (length buffer - at) (drop at buffer) ≡ [] = rw (← length-drop at buffer) (drop-length (drop at buffer)) in
    let rest : take (length buffer - at) (drop at buffer) ≡ drop at buffer = take_all (length buffer - at) (drop at buffer) (omega (arith, length-drop at buffer)) in
    rw (none, append-nil, e, rest) refl

-- bytes written at a place: one, and some after others
pub byte_written : (buffer : List ℕ) (at b : ℕ) → at < length buffer → set buffer at b ≡ written_at at (b ∷ []) buffer
byte_written buffer at b h = rw (set_split buffer at b h, drop-drop 1 at buffer, add-one)

written_after : (at : ℕ) (u v buffer : List ℕ) → written_at (at + length u) v (written_at at u buffer) ≡ written_at at (u ++ v) buffer
written_after zero u v buffer =
    rw (zero-add, take-append_seam, drop-append_seam, drop-drop (length v) (length u) buffer, length-append u v, append_assoc)
written_after (suc n) u v [] =
    let long : length u ≤ suc n + length u = omega arith in
    simp (drop-nil, append-nil, take_all, drop_of_length-le)
written_after (suc n) u v (x ∷ buffer) = rw suc-add (ap (◌∷◌ x) (written_after n u v buffer))

pub written_next : (at : ℕ) (u v w buffer : List ℕ) {end : ℕ} {after after₁ : List ℕ} → u ++ v ≡ w → after ≡ written_at at u buffer
    → end ≡ at + length u → after₁ ≡ written_at end v after → after₁ ≡ written_at at w buffer
written_next at u v w buffer whole first e second = rw (second, e, first, ← whole) (written_after at u v buffer)
