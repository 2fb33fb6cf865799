use Rattle.std.proofs.Common.{ℕ, length, ap, sym, ◌∙◌, subst, arith}
use Rattle.std.proofs.lemmas.Bool.{eqb-true, eq-eqb}
use Rattle.task_segments.specs.Table.{Table, segment}
use Rattle.dispatch_core.specs.Values.{IsInput}
use Rattle.dispatch_core.proofs.Uniqueness.{one_input}
use Rattle.worker_run.proofs.worked.is_job_of.Goals as goal

pub returns-then-input-job : goal.returns-then-input-job
returns-then-input-job g c =
    let table = c.args.core.now.table in
    let asked = c.args.job.segment in
    let CostIn : Table → ℕ = λ t. (segment t asked).cost in
    let cost = c.cost.ensures ∙ ap CostIn c.table-then-input-job.ensures in
    let is_input =
    subst (IsInput table g.K.Kernel.value_of asked) c.if-input-job.true c.in-Some.ensures.1 in (
      λ same. (
        c.in-Some.ensures.0,
        record {
          cost = record {
            known = omega (arith, ap (λ (t : Table). length t.segments) c.table.ensures);
            costs = sym (eqb-true c.cost.result c.args.job.cost same) ∙ cost;
          };
          input = is_input;
        },
      ),
      λ is. eq-eqb c.cost.result c.args.job.cost (cost ∙ sym is.1.cost.costs),
    )

pub returns-else-input-job : goal.returns-else-input-job
returns-else-input-job g c =
    let table = c.args.core.now.table in
    let asked = c.args.job.segment in (
      λ same. absurd (c.if-input-job.false (eqb-true c.in-Some.input c.args.job.input same)),
      λ is. absurd
          (c.if-input-job.false (one_input table g.K.Kernel.value_of asked c.in-Some.input
          c.args.job.input c.in-Some.ensures.1 is.1.input)),
    )
