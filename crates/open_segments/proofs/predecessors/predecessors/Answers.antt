use Rattle.std.proofs.Common.{rules}
use Rattle.std.proofs.Common.{ℕ, ◌+◌, ◌-◌, ◌<◌, ◌≡◌, Some, length, ap, ◌∙◌, subst, arith}
use Rattle.std.proofs.Common.{inl, inr}
use Rattle.std.specs.Prelude.{IfOk, OnOk}
use Rattle.task_segments.specs.Table.{Table, segment, task}
use Rattle.depend_table.specs.KeptEdges.{IsKeptEdge}
use Rattle.depend_table.specs.Lists.{Lists}
use Rattle.open_segments.specs.Families.{AreInFamilies}
use Rattle.open_segments.proofs.Depending.{families_still}
use Rattle.open_segments.proofs.KeptLists.{on_ok}
use Rattle.open_segments.proofs.predecessors.predecessors.Goals as goal

pub returns-in-Creates-clause-kept : goal.returns-in-Creates-clause-kept
returns-in-Creates-clause-kept g c =
    let next : (c.args.segment - 1) + 1 ≡ c.args.segment = let later = c.requires.later in
    omega (arith, later) in
    subst (λ (t : ℕ). IfOk c.enter_child.result (λ preds.
    Lists (λ p. IsKeptEdge c.args.table.now p t) preds.items)) next c.enter_child.ensures.kept

pub returns-in-Creates-clause-entered : goal.returns-in-Creates-clause-entered
returns-in-Creates-clause-entered g c =
    let next : (c.args.segment - 1) + 1 ≡ c.args.segment = let later = c.requires.later in
    omega (arith, later) in
    subst (λ (t : ℕ). OnOk c.enter_child.result
    (AreInFamilies c.args.table.now t c.enter_child.new.families)) next
    c.enter_child.ensures.entered

pub next_predecessors-requires : goal.next_predecessors-requires
next_predecessors-requires g c = (
  search rules,
  (
    (let facts = c.reads_in_place.ensures in
        let later = c.requires.later in
        elim ((c.opener.ensures.some c.in-Some.opener).0 c.in-Some.is) [
          | inl follows ↦ follows
          | inr creation ↦
              let made = facts.created c.in-Some.opener creation.child creation.is_child
              creation.creator in
              let first = facts.first_created creation.child c.in-Some.opener creation.is_child
              creation.creator in
              let at_first = creation.first in
              let same : c.args.segment - 1 ≡ c.in-Some.opener =
              omega (arith, first, at_first, later) in
              absurd (c.in_default.not-Creates creation.child (c.closing.ensures
              ∙ ap (λ (n : ℕ). (segment c.args.table.now n).closing) same ∙ made.1))
        ]),
    (search rules),
  ),
)

pub returns-clause-entered : goal.returns-clause-entered
returns-clause-entered g c =
    let table : Table = c.args.table.now in
    let facts = c.reads_in_place.ensures in
    let later = c.requires.later in
    let is_segment = c.requires.known in
    let before : ℕ = c.args.segment - 1 in
    let next : before + 1 ≡ c.args.segment = omega (arith, later) in
    let known : before < length table.segments = omega (arith, is_segment, later) in
    let none : (child : ℕ) → ¬ ((task table child).creator ≡ Some before) = λ child by.
    c.in_default.not-Creates child (c.closing.ensures
    ∙ (facts.created before child (facts.with_creator child before by) by).1) in
    let entered : AreInFamilies table c.args.segment c.args.families.now =
    subst (λ (t : ℕ). AreInFamilies table t c.args.families.now) next
    (families_still table before c.args.families.now known none c.requires.so_far) in
    on_ok c.next_predecessors.result entered
