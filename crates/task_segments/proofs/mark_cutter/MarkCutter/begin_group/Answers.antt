use Rattle.std.proofs.Common.{List, [], ◌∷◌, reverse, refl, ap, ◌∙◌}
use Rattle.std.proofs.lemmas.List.{reverse-append}
use Rattle.task_segments.specs.declared.mark_cutter.GroupRow.{GroupRow}
use Rattle.task_segments.proofs.MarkCutting.{running_has_row, runs_now, takes_group_begins}
use Rattle.task_segments.proofs.Walks.{children_now}
use Rattle.task_segments.proofs.mark_cutter.MarkCutter.begin_group.Goals as goal

pub children-children_before-requires : goal.children-children_before-requires
children-children_before-requires c =
    running_has_row c.args.self.now c.requires.moment c.requires.tables

pub returns-clause-ok : goal.returns-clause-ok
returns-clause-ok c = λ e h.
    let a = c.args.self.now in
    let begun = c.in_ok-number.ensures.ok e h.cuts in
    let pushed : GroupRow = record {
      number = c.in_ok-number.number;
      children_before = c.children-children_before.result;
    } in
    takes_group_begins a _ e _ h begun.0 refl refl
    (ap (λ (rows : List GroupRow). reverse rows) c.push_reserved.ensures.items
    ∙ reverse-append c.reserve.new.self.items (pushed ∷ [])
    ∙ ap (λ (rows : List GroupRow). pushed ∷ reverse rows) c.reserve.ensures.items) begun.1
    (c.children-children_before.ensures ∙ children_now a.cutter e a.running h.cuts (runs_now a e h))
