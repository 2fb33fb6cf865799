use Rattle.std.proofs.Common.{◌≡◌, ◌-◌, ◌∙◌, ℕ, List, arith, ap, get_or, length, refl, reverse, take}
use Rattle.task_segments.specs.declared.mark_cutter.GroupRow.{GroupRow}
use Rattle.std.specs.Vec.{vec_len}
use Rattle.task_segments.proofs.MarkCutting.{last_group, last_leaves, running_has_row, runs_now}
use Rattle.task_segments.proofs.MarkCutting.{some_group, takes_group_ends}
use Rattle.task_segments.proofs.mark_cutter.MarkCutter.end_group.Goals as goal

pub end_group-requires-clause-task : goal.end_group-requires-clause-task
end_group-requires-clause-task c =
    running_has_row c.args.self.now c.requires.moment c.requires.tables

pub end_group-requires-clause-group : goal.end_group-requires-clause-group
end_group-requires-clause-group c =
    let a = c.args.self.now in
    let group = c.index-group.result.now in
    let at_end : c.len.result - 1 ≡ length a.groups.items - 1 = omega arith in
    let was = last_leaves a.groups.items group
    (c.index-group.ensures ∙ ap (λ (i : ℕ). get_or a.groups.items i group) at_end)
    (some_group a c.requires.moment c.requires.tables c.requires.grouped) in
    (last_group a c.requires.moment group _ c.requires.tables was).has_row

pub returns-clause-ok : goal.returns-clause-ok
returns-clause-ok c = λ e h.
    let a = c.args.self.now in
    let group = c.index-group.result.now in
    let at_end : c.len.result - 1 ≡ length a.groups.items - 1 = omega arith in
    let before_end : vec_len a.groups - 1 ≡ length a.groups.items - 1 = omega arith in
    let was = last_leaves a.groups.items group
    (c.index-group.ensures ∙ ap (λ (i : ℕ). get_or a.groups.items i group) at_end)
    (some_group a c.requires.moment c.requires.tables c.requires.grouped) in
    let innermost = last_group a e group _ h was in
    let left = c.pop.ensures.rest ∙ ap (λ (n : ℕ). take n a.groups.items) before_end in
    takes_group_ends a _ e group _ h was
    (c.in_ok-end_group.ensures.ok e h.cuts (runs_now a e h) innermost.number innermost.before) refl
    refl (ap (λ (rows : List GroupRow). reverse rows) left)
