use Rattle.std.proofs.Common.{◌∙◌, ap, subst, sym}
use Rattle.loop_text.specs.LoopsSeen.{tree_of}
use Rattle.large_text.specs.LoopTallied.{TalliesTree}
use Rattle.large_text.specs.Tallied.{keeps_rows, keeps_text}
use Rattle.large_text.proofs.LoopTallying.{kept_begun, tallies_tree}
use Rattle.large_text.proofs.loop_marks.tally_kept.Goals as goal

pub returns-clause-tallied : goal.returns-clause-tallied
returns-clause-tallied g c =
    subst (TalliesTree (tree_of c.args.statements.now)) (sym c.into_tally.ensures)
    (tallies_tree _ _ c.new.result c.take_all.new.taker.marks (tree_of c.args.statements.now)
    c.in_ok-take_all.ensures (kept_begun _ _ c.new.result c.args.tally c.new.ensures.entered c.new.ensures.tally
    c.requires.rows c.requires.text)).0

pub returns-clause-rows : goal.returns-clause-rows
returns-clause-rows g c =
    ap keeps_rows c.into_tally.ensures
    ∙ (tallies_tree _ _ c.new.result c.take_all.new.taker.marks (tree_of c.args.statements.now)
    c.in_ok-take_all.ensures (kept_begun _ _ c.new.result c.args.tally c.new.ensures.entered c.new.ensures.tally
    c.requires.rows c.requires.text)).1.rows

pub returns-clause-text : goal.returns-clause-text
returns-clause-text g c =
    ap keeps_text c.into_tally.ensures
    ∙ (tallies_tree _ _ c.new.result c.take_all.new.taker.marks (tree_of c.args.statements.now)
    c.in_ok-take_all.ensures (kept_begun _ _ c.new.result c.args.tally c.new.ensures.entered c.new.ensures.tally
    c.requires.rows c.requires.text)).1.text
