use Rattle.std.proofs.Common.{Some, ◌∙◌, ap}
use Rattle.std.proofs.lemmas.Option.{slice_get-get_or}
use Rattle.exclusive_tasks.specs.declared.claim.Event.TheVariants.{Start}
use Rattle.exclusive_tasks.proofs.Overlaps.{first_overlap_at, marked_one_more, pair_from_overlap}
use Rattle.exclusive_tasks.proofs.Overlaps.{no_overlap_at_finish, apart_without_overlap, none_past}
use Rattle.exclusive_tasks.proofs.overlap.first_among.Goals.{in-Start+in_default-first_pair}
use Rattle.exclusive_tasks.proofs.overlap.first_among.Goals.{in_default}
use Rattle.exclusive_tasks.proofs.overlap.first_among.Goals as goal

pub returns-in-Some-clause-some : goal.returns-in-Some-clause-some
returns-in-Some-clause-some c =
    let events = c.args.events.now in
    let i = c.loop-index.index in
    first_overlap_at c.args.claims.now events i c.in-Start.segment c.in-Some.begins
    c.in-Some.under_way c.loop-index.marks c.loop-index.invariant
    (slice_get-get_or events i (Start 0) c.loop-index-test.true ∙ ap Some c.in-Start.is)
    c.in-Some.ensures.some

pub loop-index-preserved : goal.loop-index-preserved
loop-index-preserved c =
    let claims = c.args.claims.now in
    let events = c.args.events.now in
    let i = c.loop-index.index in
    let so_far = c.loop-index.invariant in
    let here = slice_get-get_or events i (Start 0) c.loop-index-test.true in
    elim c.match-event.branch [
      | in-Start+in_default-first_pair w ↦
          marked_one_more claims events i _ c.loop-index.marks c.mark.new.marks so_far here
          c.mark.ensures (λ b a overlap. w.in_default-first_pair.ensures.none b a
          (pair_from_overlap claims events i w.in-Start.segment b a c.loop-index.marks so_far
          (here ∙ ap Some w.in-Start.is) overlap))
      | in_default w ↦
          marked_one_more claims events i _ c.loop-index.marks c.mark.new.marks so_far here
          c.mark.ensures
          (no_overlap_at_finish claims events i w.in_default.field-0
          (here ∙ ap Some w.in_default.is))
    ]

pub returns-clause-none : goal.returns-clause-none
returns-clause-none c =
    apart_without_overlap c.args.claims.now c.args.events.now
    (none_past c.args.claims.now c.args.events.now c.loop-index.index c.loop-index.marks
    c.loop-index.invariant c.loop-index-test.false)
