use Rattle.std.proofs.Common.{◌≡◌, ◌-◌, ◌∙◌, ℕ, List, arith, ap, get_or, length, refl, reverse, take}
use Rattle.std.proofs.lemmas.List.{length-reverse}
use Rattle.std.specs.Vec.{vec_len}
use Rattle.task_segments.proofs.MarkCutting.{last_leaves, parent_has_row, parent_runs, some_outer}
use Rattle.task_segments.proofs.MarkCutting.{takes_ends}
use Rattle.task_segments.proofs.mark_cutter.MarkCutter.end_task.Goals as goal

pub end_task-requires-clause-task : goal.end_task-requires-clause-task
end_task-requires-clause-task c =
    let a = c.args.self.now in
    let parent = c.index-parent.result.now in
    let at_end : c.len.result - 1 ≡ length a.outer.items - 1 = omega arith in
    let was = last_leaves a.outer.items parent
    (c.index-parent.ensures ∙ ap (λ (i : ℕ). get_or a.outer.items i parent) at_end)
    (some_outer a c.requires.moment c.requires.tables c.requires.some_open) in
    parent_has_row a c.requires.moment parent _ c.requires.tables was

pub returns-clause-ok : goal.returns-clause-ok
returns-clause-ok c = λ e h.
    let a = c.args.self.now in
    let parent = c.index-parent.result.now in
    let at_end : c.len.result - 1 ≡ length a.outer.items - 1 = omega arith in
    let before_end : vec_len a.outer - 1 ≡ length a.outer.items - 1 = omega arith in
    let some = some_outer a c.requires.moment c.requires.tables c.requires.some_open in
    let was = last_leaves a.outer.items parent
    (c.index-parent.ensures ∙ ap (λ (i : ℕ). get_or a.outer.items i parent) at_end) some in
    let open_now = ap (λ (tasks : List ℕ). length tasks) h.tasks in
    let left = c.pop.ensures.rest ∙ ap (λ (n : ℕ). take n a.outer.items) before_end in
    takes_ends a _ e parent _ h was
    (c.in_ok-end_task.ensures.ok e h.cuts
    (omega (arith, some, open_now, length-reverse a.outer.items))
    (parent_runs a e parent _ h was)) refl
    (ap (λ (tasks : List ℕ). reverse tasks) left) refl
