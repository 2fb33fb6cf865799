use Rattle.std.proofs.Common.{◌++◌, ◌∙◌, Option, ap, subst, sym}
use Rattle.std.specs.Option.{option_to_list}
use Rattle.program_text.specs.Marks.{Mark}
use Rattle.large_text.specs.declared.reader.OpenBlock.{OpenBlock}
use Rattle.large_text.specs.Tallied.{CanTally}
use Rattle.large_text.proofs.LoopMarking.{Enters, can_end, end_leads}
use Rattle.large_text.proofs.loop_marks.LoopMarks.close.Goals as goal

pub take_mark-requires : goal.take_mark-requires
take_mark-requires c =
    let popped = c.pop.ensures.items
    ∙ ap (λ (found : Option OpenBlock). c.pop.new.self.items ++ option_to_list found) c.in-Some.is in
    subst (λ (mark : Mark). CanTally c.args.self.now.tally mark) (sym c.end_of.ensures)
    (can_end c.args.self.now c.pop.new.self.items c.in-Some.block c.requires.0 popped c.requires.1)

pub returns-in_ok-take_mark-in-Some-clause-takes : goal.returns-in_ok-take_mark-in-Some-clause-takes
returns-in_ok-take_mark-in-Some-clause-takes c =
    let popped = c.pop.ensures.items
    ∙ ap (λ (found : Option OpenBlock). c.pop.new.self.items ++ option_to_list found) c.in-Some.is in
    end_leads c.args.self.now c.pop.new.self c.take_mark.new.tally c.in-Some.block popped
    (subst (λ (mark : Mark). Enters c.args.self.now.tally c.take_mark.new.tally mark)
    c.end_of.ensures
    (c.in_ok-take_mark-in-Some.ensures.takes, c.in_ok-take_mark-in-Some.ensures.prints))
