use Rattle.std.proofs.Common.{◌≡◌, ◌∙◌, List, ap, arith, inl, inr, rules, subst, sym, true}
use Rattle.std.specs.List.{list_any}
use Rattle.std.proofs.lemmas.Bool.{eq-eqb}
use Rattle.program_text.specs.declared.statement.Item.{Item}
use Rattle.task_segments.specs.Table.{segment, task}
use Rattle.span_cert.specs.NameMarks.{AreMarked, AreMarkedFor, IsOpening, OpensAfterChild}
use Rattle.span_cert.specs.NameMarks.{OpensTask, meets}
use Rattle.span_cert.specs.declared.opening.OpensAt.{OpensAt}
use Rattle.span_cert.proofs.NameMarks.{items_meet}
use Rattle.span_cert.proofs.Openings.{after_child_waits, first_waits}
use Rattle.span_cert.proofs.opening.may_wait.Goals as goal

pub returns-else-eq : goal.returns-else-eq
returns-else-eq g c = λ precedes.
    let table = c.args.table.now in
    let marks = c.args.marks.now in
    let opens : OpensTask table c.args.t =
    subst (λ (o : OpensAt). IsOpening table c.args.t o) c.in-First.is c.requires.opening in
    let marked : AreMarked marks c.args.t (task table (segment table c.args.t).task).items =
    subst (λ (o : OpensAt). AreMarkedFor table marks c.args.t o) c.in-First.is c.requires.marks in
    elim (first_waits table c.nests.ensures c.args.s c.args.t opens precedes) [
      | inl made ↦ absurd (search rules)
      | inr conflict ↦
          let same : (task table (segment table c.args.s).task).items ≡ c.items.result.now =
          ap (λ u. (task table u).items) (sym c.task_of-other.ensures) ∙ sym c.items.ensures in
          let met : list_any (meets marks c.args.t) (task table (segment table c.args.s).task).items
          ≡ true = items_meet marks c.args.t _ _ marked conflict in
          c.meet.ensures
          ∙ subst (λ (items : List Item). list_any (meets marks c.args.t) items ≡ true) same met
    ]

pub returns-else-t-s-eq1 : goal.returns-else-t-s-eq1
returns-else-t-s-eq1 g c = λ precedes.
    let table = c.args.table.now in
    let opens : OpensAfterChild table c.args.t =
    subst (λ (o : OpensAt). IsOpening table c.args.t o) c.in-AfterChild.is c.requires.opening in
    elim (after_child_waits table c.nests.ensures c.args.s c.args.t opens precedes) [
      | inl next ↦ absurd (c.if-t-s-eq1.false (omega (arith, next)))
      | inr same ↦ eq-eqb c.task_of-other.result c.task_of-task.result
          (c.task_of-other.ensures ∙ same ∙ sym c.task_of-task.ensures)
    ]
