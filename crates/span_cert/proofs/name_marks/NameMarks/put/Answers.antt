use Rattle.std.proofs.Common.{◌∙◌}
use Rattle.program_text.specs.declared.statement.DependKind.TheVariants.{DependIn}
use Rattle.program_text.specs.declared.statement.Item.{Item}
use Rattle.span_cert.proofs.NameMarks.{marked_more}
use Rattle.span_cert.proofs.name_marks.NameMarks.put.Goals as goal

pub loop-item-preserved : goal.loop-item-preserved
loop-item-preserved c =
    let none : Item = record { kind = DependIn; name = 0 } in
    marked_more c.loop-item.self _ c.args.t c.args.items.now c.loop-item.item-index none
    c.in_ok-mark_unless.ensures.kept c.in_ok-mark_unless-2.ensures.kept
    (record {
      not_read = λ no. c.in_ok-mark_unless.ensures.marked (c.is_in.ensures ∙ no);
      not_set = λ no. c.in_ok-mark_unless-2.ensures.marked (c.is_set.ensures ∙ no);
    }) c.loop-item.invariant
