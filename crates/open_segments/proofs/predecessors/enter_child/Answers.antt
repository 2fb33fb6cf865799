use Rattle.std.proofs.Common.{rules}
use Rattle.std.proofs.Common.{ℕ, subst}
use Rattle.task_segments.specs.Table.{Table}
use Rattle.depend_table.specs.KeptEdges.{IsKeptEdge}
use Rattle.depend_table.specs.Lists.{Lists}
use Rattle.open_segments.proofs.Depending.{families_child, families_so_far}
use Rattle.open_segments.proofs.SiblingSteps.{above_root}
use Rattle.open_segments.proofs.predecessors.enter_child.Goals as goal

pub kept_children-requires : goal.kept_children-requires
kept_children-requires g c = (
  search rules,
  (
    ((c.reads_in_place.ensures.creates c.args.creator c.args.child c.requires.known
        c.requires.creates).0),
    (
      (let facts = c.reads_in_place.ensures in
          let made = facts.creates c.args.creator c.args.child c.requires.known c.requires.creates in
          above_root c.args.table.now c.args.child c.args.creator facts made.1),
      (λ parent of_parent. families_so_far c.args.table.now c.args.creator c.args.child parent
          c.args.families.now c.reads_in_place.ensures c.requires.known c.requires.creates of_parent
          c.requires.so_far),
    ),
  ),
)

pub enter_depending-requires : goal.enter_depending-requires
enter_depending-requires g c = (
  search rules,
  (
    ((c.reads_in_place.ensures.creates c.args.creator c.args.child c.requires.known
        c.requires.creates).0),
    (
      (let facts = c.reads_in_place.ensures in
          let made = facts.creates c.args.creator c.args.child c.requires.known c.requires.creates in
          above_root c.args.table.now c.args.child c.args.creator facts made.1),
      (λ parent of_parent. families_so_far c.args.table.now c.args.creator c.args.child parent
          c.args.families.now c.reads_in_place.ensures c.requires.known c.requires.creates of_parent
          c.requires.so_far),
    ),
  ),
)

pub returns-clause-kept : goal.returns-clause-kept
returns-clause-kept g c =
    let table : Table = c.args.table.now in
    let facts = c.reads_in_place.ensures in
    let made = facts.creates c.args.creator c.args.child c.requires.known c.requires.creates in
    subst (λ (t : ℕ). Lists (λ p. IsKeptEdge table p t) c.first_predecessors.result.items)
    (facts.first_created c.args.child c.args.creator made.0 made.1) c.first_predecessors.ensures

pub returns-clause-entered : goal.returns-clause-entered
returns-clause-entered g c =
    let table : Table = c.args.table.now in
    let child : ℕ = c.args.child in
    let creator : ℕ = c.args.creator in
    let facts = c.reads_in_place.ensures in
    let made = facts.creates creator child c.requires.known c.requires.creates in
    let below = facts.below_root child (above_root table child creator facts made.1) made.0 in
    families_child table creator child below.parent c.args.families.now c.enter_depending.new.families
    facts c.requires.known c.requires.creates below.is_parent c.requires.so_far
    (c.in_ok-enter_depending.ensures.entered below.parent below.is_parent)
    (λ other apart. c.in_ok-enter_depending.ensures.others below.parent other below.is_parent apart)
