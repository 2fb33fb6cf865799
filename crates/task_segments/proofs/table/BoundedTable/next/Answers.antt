use Rattle.std.proofs.Common.{rules, sym, ◌+◌, ℕ, subst}
use Rattle.task_segments.specs.Precedence.{Continues}
use Rattle.task_segments.proofs.Order.{the_next, none_next, after_created}
use Rattle.task_segments.proofs.table.BoundedTable.next.Goals as goal

pub last-requires : goal.last-requires
last-requires g c = (
  search rules,
  (c.keeps_nesting.ensures.nested.creates c.args.s c.in-Creates.child c.requires
      (sym c.in-Creates.ensures)).0,
)

pub returns-in-EndsTask : goal.returns-in-EndsTask
returns-in-EndsTask g c = λ t. (
  λ e. absurd cc,
  λ x. absurd (none_next c.args.self.now c.keeps_nesting.ensures.nested c.args.s
      t (sym c.in-EndsTask.ensures) x),
)

pub returns-in-Creates : goal.returns-in-Creates
returns-in-Creates g c =
    let table = c.args.self.now in
    let goes_on = after_created table c.keeps_nesting.ensures.nested c.args.s c.in-Creates.child
    c.requires (sym c.in-Creates.ensures) in
    let P : ℕ → Type 0 = λ l. Continues table c.args.s (l + 1) in
    the_next table c.keeps_nesting.ensures.nested c.args.s (c.last.result + 1)
    (subst P (sym c.last.ensures) goes_on)

pub returns-in-Waits : goal.returns-in-Waits
returns-in-Waits g c =
    the_next c.args.self.now c.keeps_nesting.ensures.nested c.args.s (c.args.s + 1)
    (c.keeps_nesting.ensures.nested.after_wait c.args.s c.requires (sym c.in-Waits.ensures))

pub returns-in-EndsGroup : goal.returns-in-EndsGroup
returns-in-EndsGroup g c =
    the_next c.args.self.now c.keeps_nesting.ensures.nested c.args.s (c.args.s + 1)
    (c.keeps_nesting.ensures.nested.after_group c.args.s c.requires (sym c.in-EndsGroup.ensures))
