-- `numbers::record::numbers_in` meets its contract.
use borrow.Author.Rules.{rules}
use Prim.Native.Nat.{◌*◌, ◌/◌, ◌<◌, ◌≤◌, ℕ}
use mathlib.Core.List.{[], List}
use mathlib.Core.Path.{◌≡◌, ◌∙◌, ap}
use native.Mathlib.Omega.{arith}
use lib.ListN.{get_or, length}
use Rattle.std.specs.Int.{from_le_bytes, w16}
use Rattle.numbers.proofs.Records.{number_more, numbers_all}
use Rattle.numbers.proofs.record.numbers_in.Goals as goal

pub loop-i-preserved : goal.loop-i-preserved
loop-i-preserved c =
    let s = c.args.bytes.now in
    let sized : length s ≡ length s / 2 * 2 = omega (arith, c.told-bytes) in
    let inside : c.loop-i.i < length s / 2 = omega (arith, c.loop-i-test.true, c.as_chunks.ensures.front_len) in
    let told = c.from_le_bytes.ensures ∙ ap (λ (l : List (List ℕ)). from_le_bytes w16 (get_or l c.loop-i.i [])) c.as_chunks.ensures.front in (
      search rules,
      number_more (length s / 2) c.loop-i.i c.from_le_bytes.result s [] c.loop-i.numbers sized inside
          (omega (arith, c.loop-i.invariant.0, c.told-bytes, inside)) c.loop-i.invariant.1 told,
    )

pub returns : goal.returns
returns c =
    let s = c.args.bytes.now in
    let sized : length s ≡ length s / 2 * 2 = omega (arith, c.told-bytes) in
    let all : length s / 2 ≤ c.loop-i.i = omega (arith, c.loop-i-test.false, c.as_chunks.ensures.front_len) in
    let long : length c.loop-i.numbers ≡ length s / 2 = omega (arith, c.loop-i.invariant.0, c.told-bytes) in
    numbers_all (length s / 2) c.loop-i.i s c.loop-i.numbers sized all long c.loop-i.invariant.1
