use Rattle.std.proofs.Common.{◌-◌, ◌≡◌, List, Option, Some, length, ap, sym, ◌∙◌}
use Rattle.std.specs.List.{slice_get}
use Rattle.std.specs.Option.{option_copied, option_map}
use Rattle.task_segments.specs.declared.mark_cutter.GroupRow.{GroupRow}
use Rattle.task_segments.proofs.MarkCutting.{inside_now, last_first}
use Rattle.task_segments.proofs.mark_cutter.MarkCutter.innermost.Goals as goal

pub returns-in-Some : goal.returns-in-Some
returns-in-Some c = λ e h.
    let a = c.args.self.now in
    let last_is : slice_get a.groups.items (length a.groups.items - 1) ≡ Some c.in-Some.group.now =
    ap (λ (rows : List GroupRow). slice_get rows (length rows - 1)) (sym c.deref.ensures.value)
    ∙ sym c.last.ensures.value
    ∙ ap (λ x. option_copied x) c.in-Some.is in
    inside_now a e h
    ∙ ap (λ (x : Option GroupRow). option_map (λ (group : GroupRow). group.number) x)
    (last_first a.groups.items c.in-Some.group.now last_is)
