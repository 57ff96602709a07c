-- Words of numbers written as records, and records written one after the other.
use Prim.Native.Nat.{ℕ, ◌+◌, ◌*◌, ◌-◌, ◌/◌, ◌%◌, ◌<◌}
use mathlib.Core.List.{List, [], ◌++◌, ◌∷◌}
use mathlib.Core.Path.{◌≡◌, ◌∙◌, ap, ap₂, refl}
use native.Mathlib.Omega.{arith}
use lib.ListN.{drop, get_or, length, replicate, take}
use borrow.Rule.Slice.PartMut.{put_mid}
use Rattle.std.proofs.lemmas.List.{drop-replicate}
use Rattle.std.specs.Int.{to_le_bytes, w16}
use Rattle.std.specs.List.{flat_map}
use Rattle.words.proofs.Parts.{Sized, part_more, parts_all, parts-length}
use Rattle.numbers.specs.Records.{number_bytes, numbers_record}

-- a number has two bytes
pub number_sized : (w : List ℕ) → Sized number_bytes 2 0 w
number_sized w k h = refl

-- one number more of a word
pub number_put : (w buffer out part : List ℕ) (i : ℕ) → i < length w → get_or w i 0 < 65536 → out ≡ flat_map number_bytes (take i w) ++ drop (i * 2) buffer
    → part ≡ to_le_bytes w16 (get_or w i 0) → put_mid (i * 2) (i * 2 + 2 - i * 2) out part ≡ flat_map number_bytes (take (i + 1) w) ++ drop ((i + 1) * 2) buffer
number_put w buffer out part i inside fits here told =
    let high : get_or w i 0 / 256 % 256 ≡ get_or w i 0 / 256 = omega arith in
    part_more number_bytes 2 0 w (number_sized w) i inside buffer part out here
    (told ∙ ap (λ (b : ℕ). get_or w i 0 % 256 ∷ b ∷ []) high)

-- all of them, over zeros
pub numbers_put : (w buffer out : List ℕ) (i n : ℕ) → i ≡ length w → n ≡ 128 → buffer ≡ replicate n 0
    → out ≡ flat_map number_bytes (take i w) ++ drop (i * 2) buffer → out ≡ numbers_record w
numbers_put w buffer out i n all sized zeros here =
    let long : length (flat_map number_bytes w) ≡ length w * 2 = parts-length number_bytes 2 0 w (number_sized w) in
    parts_all number_bytes 2 0 w (number_sized w) i buffer out all here
    ∙ ap (λ (l : List ℕ). flat_map number_bytes w ++ l)
    (ap₂ (λ (m : ℕ) (l : List ℕ). drop m l) long (zeros ∙ ap (λ (m : ℕ). replicate m 0) sized) ∙ drop-replicate (length w * 2) 128 0)
