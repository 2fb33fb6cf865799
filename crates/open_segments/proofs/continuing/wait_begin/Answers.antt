use Rattle.std.proofs.Common.{rules}
use Rattle.std.proofs.Common.{sym, ◌∙◌}
use Rattle.open_segments.proofs.Since.{unwaited_step, waited_since, since_first, since_wait}
use Rattle.open_segments.proofs.continuing.wait_begin.Goals as goal

pub closing-requires : goal.closing-requires
closing-requires g c = (
  search rules,
  (
      ((c.previous_segment.ensures c.in-Some.earlier).0 c.in-Some.is).is_from
      ),
)

pub loop-earlier-preserved : goal.loop-earlier-preserved
loop-earlier-preserved g c =
    unwaited_step c.args.table.now c.in-Some.earlier c.loop-earlier.from c.args.before
    c.reads_in_place.ensures ((c.previous_segment.ensures c.in-Some.earlier).0 c.in-Some.is)
    (λ waits. c.in_default-closing.not-Waits (c.closing.ensures ∙ waits)) c.loop-earlier.invariant

pub returns-in-Waits-clause-reached : goal.returns-in-Waits-clause-reached
returns-in-Waits-clause-reached g c s kept =
    since_wait c.args.table.now c.in-Some.earlier c.loop-earlier.from c.args.before c.args.next s
    c.reads_in_place.ensures c.requires.follows c.loop-earlier.invariant
    ((c.previous_segment.ensures c.in-Some.earlier).0 c.in-Some.is)
    (sym c.closing.ensures ∙ c.in-Waits.is) kept

pub returns-in-Waits-clause-waited : goal.returns-in-Waits-clause-waited
returns-in-Waits-clause-waited g c child created above =
    waited_since c.args.table.now c.loop-earlier.from c.args.before c.args.next child
    c.reads_in_place.ensures c.requires.follows c.requires.waits c.loop-earlier.invariant created
    above

pub returns-clause-reached : goal.returns-clause-reached
returns-clause-reached g c s kept =
    since_first c.args.table.now c.loop-earlier.from c.args.before c.args.next s
    c.reads_in_place.ensures c.requires.follows c.loop-earlier.invariant.of_task
    (λ earlier follows.
    c.in_default.not-Some earlier ((c.previous_segment.ensures earlier).1 follows))
    kept

pub returns-clause-waited : goal.returns-clause-waited
returns-clause-waited g c child created above =
    waited_since c.args.table.now c.loop-earlier.from c.args.before c.args.next child
    c.reads_in_place.ensures c.requires.follows c.requires.waits c.loop-earlier.invariant created
    above
