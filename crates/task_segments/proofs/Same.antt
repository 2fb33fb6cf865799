-- Where a test of two rows is true.
use Rattle.std.proofs.Common.{arith}
use Rattle.std.proofs.Common.{◌≡◌, ℕ, Bool, true, eqb, List, Option, refl, sym, ap, subst, ◌∙◌}
use Rattle.std.proofs.Common.{rules, Some, None}
use Rattle.std.specs.Option.{option_eq}
use Rattle.std.specs.Cmp.{booleans_Decides}
use mathlib.Core.Bool.{beq}
use Rattle.std.specs.Bool.{Decides}
use Rattle.std.proofs.lemmas.Bool.Decides.{Decides-and, Decides-eqb}
use Rattle.program_text.specs.declared.statement.DependKind.{DependKind}
use Rattle.program_text.specs.declared.statement.DependKind.TheVariants.{DependIn}
use Rattle.program_text.specs.declared.statement.Item.{Item}
use Rattle.program_text.specs.contracts.statement.DependKind as kinds
use Rattle.program_text.specs.contracts.statement.DependKindPartialEq.TheImpl as kind_eq
use Rattle.program_text.specs.contracts.statement.ItemPartialEq.TheImpl as item_eq
use Rattle.task_segments.specs.declared.table.Closing.{Closing}
use Rattle.task_segments.specs.declared.table.Closing.TheVariants.{Creates, Waits, EndsGroup}
use Rattle.task_segments.specs.declared.table.Closing.TheVariants.{EndsTask}
use Rattle.task_segments.specs.declared.table.Segment.{Segment}
use Rattle.task_segments.specs.contracts.table.ClosingPartialEq.TheImpl as closing_eq
use Rattle.task_segments.specs.contracts.table.SegmentPartialEq.TheImpl as segment_eq
use Rattle.task_segments.specs.Table.{Task}
use Rattle.task_segments.specs.declared.copies.TaskFacts.{TaskFacts}
use Rattle.task_segments.specs.contracts.copies.TaskFactsPartialEq.TheImpl as facts_eq
use Rattle.task_segments.specs.Copies.{facts_of}
use denote.Enum.Bare.{same_true}

-- a test of a fact tests what is equivalent to it
pub decides_equivalent : {P Q : Type 0} (b : Bool) → (P → Q) → (Q → P) → Decides b P → Decides b Q
decides_equivalent b to from (p, q) = (λ e. to (p e), λ x. q (from x))

-- where two closings are equal
closing_decides : (a b : Closing) → Decides (closing_eq.ghosts.eq a b) (a ≡ b)
closing_decides (Creates t) (Creates u) =
    decides_equivalent (eqb t u) (λ e. ap Creates e) (λ e. cc) (Decides-eqb t u)
closing_decides Waits Waits = (λ e. refl, λ e. refl)
closing_decides EndsGroup EndsGroup = (λ e. refl, λ e. refl)
closing_decides EndsTask EndsTask = (λ e. refl, λ e. refl)
closing_decides _ _ = (λ e. cc, λ e. cc)

abbrev AreEqual : Segment → Segment → Type 0
AreEqual a b =
    (a.task ≡ b.task)
    × ((a.index ≡ b.index)
    × ((a.cost ≡ b.cost) × ((a.closing ≡ b.closing) × (a.children_before ≡ b.children_before))))

-- segments with the same fields are equal
pub same_segment : (a b : Segment) → AreEqual a b → a ≡ b
same_segment a b (t, (i, (c, (l, n)))) = grind arith

-- and the other way round
fields_of : (a b : Segment) → a ≡ b → AreEqual a b
fields_of a b e = grind arith

-- the test of two segments is true exactly where they are equal
pub segment_decides : (a b : Segment) → Decides (segment_eq.ghosts.eq a b) (a ≡ b)
segment_decides a b = grind (arith, decides_equivalent, same_segment, fields_of, closing_decides)

kind_self : (a : DependKind) → kind_eq.ghosts.eq a a ≡ true
kind_self DependIn = refl
kind_self _ = refl

kind_decides : (a b : DependKind) → Decides (kind_eq.ghosts.eq a b) (a ≡ b)
kind_decides a b = (
  λ e. same_true kinds.the_type (search rules) a b e,
  λ e. subst (λ (k : DependKind). kind_eq.ghosts.eq a k ≡ true) e (kind_self a),
)

same_item : (a b : Item) → (a.kind ≡ b.kind) × (a.name ≡ b.name) → a ≡ b
same_item a b (k, n) =
    ap (λ (v : DependKind). record a { kind = v }) k ∙ ap (λ (v : ℕ). record b { name = v }) n

-- and so is that of two items
pub item_decides : (a b : Item) → Decides (item_eq.ghosts.eq a b) (a ≡ b)
item_decides a b = grind (arith, decides_equivalent, same_item, kind_decides)

-- and of two numbers that may be missing
pub option_decides : (a b : Option ℕ) → Decides (option_eq eqb a b) (a ≡ b)
option_decides None None = (λ e. refl, λ e. refl)
option_decides None (Some y) = (λ e. cc, λ e. cc)
option_decides (Some x) None = (λ e. cc, λ e. cc)
option_decides (Some x) (Some y) =
    decides_equivalent (eqb x y) (λ e. ap Some e) (λ e. cc) (Decides-eqb x y)

abbrev HaveSameFacts : TaskFacts → TaskFacts → Type 0
HaveSameFacts a b =
    (a.parent ≡ b.parent)
    × ((a.creator ≡ b.creator)
    × ((a.undeferred ≡ b.undeferred)
    × ((a.first ≡ b.first)
    × ((a.last ≡ b.last)
    × ((a.innermost_group ≡ b.innermost_group) × (a.siblings_before ≡ b.siblings_before))))))

-- facts with the same fields are equal
pub same_facts : (a b : TaskFacts) → HaveSameFacts a b → a ≡ b
same_facts a b (p, (c, (d, (f, (l, (g, n)))))) = grind arith

-- and the other way round
parts_of : (a b : TaskFacts) → a ≡ b → HaveSameFacts a b
parts_of a b e = grind arith

-- the test of two tasks' facts is true exactly where they are equal
facts_decide : (a b : TaskFacts) → Decides (facts_eq.ghosts.eq a b) (a ≡ b)
facts_decide a b =
    decides_equivalent (facts_eq.ghosts.eq a b) (same_facts a b) (parts_of a b)
    (Decides-and (option_eq eqb a.parent b.parent) _ (option_decides a.parent b.parent)
    (Decides-and (option_eq eqb a.creator b.creator) _ (option_decides a.creator b.creator)
    (Decides-and (beq a.undeferred b.undeferred) _ (booleans_Decides a.undeferred b.undeferred)
    (Decides-and (eqb a.first b.first) _ (Decides-eqb a.first b.first)
    (Decides-and (eqb a.last b.last) _ (Decides-eqb a.last b.last)
    (Decides-and (option_eq eqb a.innermost_group b.innermost_group) _
    (option_decides a.innermost_group b.innermost_group)
    (Decides-eqb a.siblings_before b.siblings_before)))))))

-- tasks with equal facts and items are equal
pub same_row : (a b : Task) → facts_of a ≡ facts_of b → a.items ≡ b.items → a ≡ b
same_row a b e i = grind arith

-- two tasks of which the same facts hold are the same where their items are
pub same_task : (a b : Task) (p q : TaskFacts) (xs ys : List Item) (r : Bool)
    → p ≡ facts_of a
    → q ≡ facts_of b
    → true ≡ facts_eq.ghosts.eq p q
    → xs ≡ a.items
    → ys ≡ b.items
    → Decides r (xs ≡ ys)
    → Decides r (a ≡ b)
same_task a b p q xs ys r u v e x y d =
    let facts : facts_of a ≡ facts_of b = sym u ∙ (facts_decide p q).0 (sym e) ∙ v in
    decides_equivalent r (λ i. same_row a b facts (sym x ∙ i ∙ y))
    (λ i. x ∙ ap (λ (t : Task). t.items) i ∙ sym y) d
