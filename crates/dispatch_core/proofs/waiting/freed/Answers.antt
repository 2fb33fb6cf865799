use Rattle.std.proofs.Common.{ℕ, ◌+◌, ◌<◌, ◌≡◌, List, Some, length, take, get_or, sym, subst, arith}
use Rattle.std.specs.Prelude.{slice_get, slice_index_or, Contains}
use Rattle.std.proofs.lemmas.List.{get_or_default, take_all}
use Rattle.std.proofs.lemmas.List.Elements.{Contains-get_or}
use Rattle.depend_table.specs.Lists.{Lists}
use Rattle.open_segments.proofs.ListLemmas.{Lists-none}
use Rattle.dispatch_core.proofs.Freed.{freed_step}
use Rattle.dispatch_core.proofs.waiting.freed.Goals as goal

pub waits_for-requires : goal.waits_for-requires
waits_for-requires c =
    c.requires.known (slice_index_or c.args.segments.now c.loop-segment.segment-index 0)
    (Contains-get_or c.args.segments.now c.loop-segment.segment-index 0 c.loop-segment-test.true)

pub loop-segment-init : goal.loop-segment-init
loop-segment-init c =
    let P : ℕ → Type 0 = λ t. Contains (take 0 c.args.segments.now) t
    × (slice_get c.args.counts.now t ≡ Some 1) in
    subst (λ (l : List ℕ). Lists P l) (sym c.new-ready.ensures.items)
    (Lists-none P (λ t h. let within = h.0.1 in absurd (omega (arith, within))))

pub loop-segment-preserved : goal.loop-segment-preserved
loop-segment-preserved c =
    let list : List ℕ = c.args.segments.now in
    let place : ℕ = c.loop-segment.segment-index in
    let segment : ℕ = slice_index_or list place 0 in
    let within : place < length list = c.loop-segment-test.true in
    let is : segment ≡ get_or list place segment =
    sym (get_or_default list place segment 0 within) in
    subst
    (λ (l : List ℕ). Lists
    (λ t. Contains (take (place + 1) list) t × (slice_get c.args.counts.now t ≡ Some 1)) l)
    (sym c.in_ok-push_if.ensures.kept)
    (freed_step c.args.counts.now list c.loop-segment.ready.items place segment c.waits_for.result
    c.requires.ascending within is c.waits_for.ensures c.loop-segment.invariant)

pub returns : goal.returns
returns c =
    let list : List ℕ = c.args.segments.now in
    let whole : take c.loop-segment.segment-index list ≡ list =
    take_all c.loop-segment.segment-index list (omega (arith, c.loop-segment-test.false)) in
    subst
    (λ (l : List ℕ). Lists
    (λ t. Contains l t × (slice_get c.args.counts.now t ≡ Some 1)) c.loop-segment.ready.items)
    whole c.loop-segment.invariant
