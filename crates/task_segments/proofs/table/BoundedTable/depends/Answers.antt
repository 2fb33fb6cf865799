use Rattle.std.proofs.Common.{arith, sym, ◌≡◌, ℕ, subst}
use Rattle.task_segments.specs.Precedence.{TasksDepend}
use Rattle.task_segments.specs.Table.{segment}
use Rattle.task_segments.proofs.Order.{depends_parts, depends_whole}
use Rattle.task_segments.proofs.table.BoundedTable.depends.Goals as goal

pub returns-then-first-t : goal.returns-then-first-t
returns-then-first-t g c =
    let table = c.args.self.now in
    let from = c.args.s in
    let to = c.args.t in
    let task_of_from : c.task_of.result ≡ (segment table from).task = c.task_of.ensures in
    let task_of_to : c.task_of-later.result ≡ (segment table to).task = c.task_of-later.ensures in
    let P : ℕ → Type 0 = λ u. TasksDepend table u c.task_of-later.result in
    let Q : ℕ → Type 0 = λ v. TasksDepend table (segment table from).task v in (
      λ f. depends_whole table c.keeps_nesting.ensures.nested from to c.requires.to (grind arith)
          (grind arith) (subst Q task_of_to (subst P task_of_from (c.tasks_depend.ensures.0 f))),
      λ r. c.tasks_depend.ensures.1 (subst P (sym task_of_from)
          (subst Q (sym task_of_to)
          (depends_parts table c.keeps_nesting.ensures.nested from to r).2)),
    )
