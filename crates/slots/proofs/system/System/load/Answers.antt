-- `slots::system::System::load` meets its contract.
use Rattle.slots.proofs.Arrays.{load_all, load_count, load_more}
use Rattle.std.proofs.Common.{arith, ap, ◌∙◌, ◌<◌, ◌≡◌, ℕ, List, [], get_or}
use Rattle.slots.specs.Systems.{slots}
use Rattle.words.proofs.Parts.{chunk_at}
use Rattle.slots.proofs.system.System.load.Goals as goal

pub add-requires : goal.add-requires
add-requires c =
    let count = load_count c.args.records.now c.loop-record.self c.loop-record.record-index c.loop-record.invariant in
    omega (arith, count, c.loop-record-test.true, c.as_chunks.ensures.front_len, c.requires)

pub loop-record-preserved : goal.loop-record-preserved
loop-record-preserved c =
    let s = c.args.records.now in
    let k = c.loop-record.record-index in
    let inside : k < slots s = omega (arith, c.loop-record-test.true, c.as_chunks.ensures.front_len) in
    let part = ap (λ (l : List (List ℕ)). get_or l k []) c.as_chunks.ensures.front ∙ chunk_at 64 (slots s) k s [] inside in
    load_more s c.loop-record.self k c.loop-record.invariant part c.add.ensures

pub returns : goal.returns
returns c =
    let all : c.loop-record.record-index ≡ slots c.args.records.now = omega (arith, c.loop-record-test.false, c.loop-record.auto.record-index-end, c.as_chunks.ensures.front_len) in
    load_all _ _ _ c.loop-record.invariant all
