-- What was read is an input of which enough is kept, and there is room for its output: so the whole output is written, and it fits.
use Prim.Native.Nat.{◌≤◌, ℕ}
use mathlib.Core.List.{List}
use mathlib.Core.Path.{◌≡◌}
use native.Mathlib.Omega.{arith}
use lib.ListN.{length}
use Rattle.input.specs.Input.{Holds, ReadInput}
use Rattle.input.proofs.Keeping.{nothing_read}
use Rattle.output.specs.Meaning.{PrintMeans}
use Rattle.output.specs.Output.{program_output}
use Rattle.printing.specs.Printing.{Printed}
use Rattle.printing.specs.declared.answers.Unprinted.{Unprinted}
use Rattle.std.specs.Prelude.{Err, Ok}

module _ (before kept out : List ℕ) (size : ℕ) {printed : Printed} {out' : List ℕ}
    (means : (input : List ℕ) → Holds input kept size → 1088 ≤ length kept → 66704 ≤ length out → PrintMeans input out printed out')
    (read_all : ReadInput before 0 → ReadInput kept size) (enough_kept : length kept ≡ 1088) (enough_room : length out ≡ 66704) where
  read : ReadInput kept size
  read = read_all (nothing_read before)

  is_whole : printed ≡ Ok (length (program_output read.input))
  is_whole = (means read.input read.holds (omega arith) (omega arith)).whole

  pub whole_inside : (n : ℕ) → printed ≡ Ok n → n ≤ 66704
  whole_inside n e =
      let told = is_whole in
      let same : n ≡ length (program_output read.input) = cc in
      rw same (means read.input read.holds (omega arith) (omega arith)).most

  pub never_unprinted : {why : Unprinted} → printed ≡ Err why → ⊥
  never_unprinted e = let told = is_whole in cc
