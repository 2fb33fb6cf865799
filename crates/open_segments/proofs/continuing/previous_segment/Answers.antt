use Rattle.std.proofs.Common.{ℕ, ◌≡◌, sym, ap, ◌∙◌, inl, inr}
use Rattle.task_segments.specs.Table.{Table, segment, task}
use Rattle.open_segments.proofs.continuing.previous_segment.Goals as goal

pub returns : goal.returns
returns g c s =
    let table : Table = c.args.table.now in
    let opener = c.opener.ensures.some s in (
      λ is. elim (opener.0 is) [
        | inl follows ↦ follows
        | inr creation ↦
            let first = c.reads_in_place.ensures.first_of creation.child creation.is_child in
            let owner : (segment table c.args.segment).task ≡ creation.child =
            ap (λ (n : ℕ). (segment table n).task) (sym creation.first) ∙ first.of_task in
            absurd (c.if-first-segment.false (c.first.ensures
            ∙ ap (λ (u : ℕ). (task table u).first) (c.task_of.ensures ∙ owner)
            ∙ creation.first))
      ],
      λ follows. opener.1 (inl follows),
    )
