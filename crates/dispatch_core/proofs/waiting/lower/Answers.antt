use Rattle.std.proofs.Common.{ℕ, ◌+◌, ◌≡◌, List, get_or, sym, arith}
use Rattle.std.specs.Prelude.{slice_index_or}
use Rattle.std.proofs.lemmas.Option.{slice_get_within, get_or_from_slice_get}
use Rattle.std.proofs.lemmas.List.{get_or_default}
use Rattle.open_segments.specs.Counters.{IsCounted}
use Rattle.dispatch_core.proofs.Freed.{next_counted, next_lowered}
use Rattle.dispatch_core.proofs.waiting.lower.Goals.{In-loop-segment}
use Rattle.dispatch_core.proofs.waiting.lower.Goals as goal

abbrev lowered : In-loop-segment → ℕ
lowered c = slice_index_or c.args.segments.now c.loop-segment.segment-index 0

stands : (c : In-loop-segment)
    → lowered c ≡ get_or c.args.segments.now c.loop-segment.segment-index (lowered c)
stands c = sym (get_or_default c.args.segments.now c.loop-segment.segment-index (lowered c) 0
    c.loop-segment-test.true)

still : (c : In-loop-segment) → IsCounted c.loop-segment.counts.items (lowered c)
still c = next_counted c.args.counts.now.items c.args.segments.now c.loop-segment.counts.items
    c.loop-segment.segment-index (lowered c) c.requires.ascending c.loop-segment-test.true
    (stands c) c.requires.counted c.loop-segment.invariant

pub index_mut-requires : goal.index_mut-requires
index_mut-requires c =
    let counted = still (goal.at.index_mut-requires c).In-loop-segment in
    let less = slice_get_within c.loop-segment.counts.items _ (counted.fewer + 1) counted.is in
    omega (arith, less)

pub overflow_sub-index_mut : goal.overflow_sub-index_mut
overflow_sub-index_mut c =
    let counted = still (goal.at.overflow_sub-index_mut c).In-loop-segment in
    let value = get_or_from_slice_get c.loop-segment.counts.items _ (counted.fewer + 1)
    c.index_mut.result.now counted.is in
    omega (arith, value, c.index_mut.ensures.value)

pub loop-segment-preserved : goal.loop-segment-preserved
loop-segment-preserved c =
    let here = (goal.at.loop-segment-preserved c).In-loop-segment in
    next_lowered c.args.counts.now.items c.args.segments.now c.loop-segment.counts.items
    c.loop-segment.segment-index (lowered here) c.index_mut.result.now c.requires.ascending
    c.loop-segment-test.true (stands here) c.loop-segment.invariant (still here)
    c.index_mut.ensures.value
