use Rattle.std.proofs.Common.{ap, sym, ◌∙◌}
use Rattle.std.proofs.lemmas.Slice.Eq.{slice_eq-Decides}
use Rattle.task_segments.specs.Table.{Table}
use Rattle.task_segments.proofs.Same.{segment_decides, decides_equivalent}
use Rattle.task_segments.proofs.table.BoundedTable.same_segments.Goals as goal

pub returns : goal.returns
returns g c =
    let own_rows = ap (λ (t : Table). t.segments) c.self.view_is in
    let other_rows = ap (λ (t : Table). t.segments) c.other.view_is in
    decides_equivalent c.eq.result (λ e. sym own_rows ∙ e ∙ other_rows)
    (λ e. own_rows ∙ e ∙ sym other_rows)
    (slice_eq-Decides segment_decides c.self.inside.segments.items c.other.inside.segments.items
    c.eq.result c.eq.ensures)
