use Rattle.std.proofs.Common.{ℕ, List, [], ◌∷◌, ◌++◌, ◌∙◌, ap, reverse, subst, sym}
use Rattle.program_text.specs.declared.fault.ReadFault.{ReadFault}
use Rattle.program_text.specs.declared.fault.ReadKind.TheVariants.{BadNumber}
use Rattle.loop_text.specs.declared.loops.LoopItem.{LoopItem}
use Rattle.task_program.specs.Expansion.Piece.{ItemComes}
use Rattle.task_program.specs.Walks.{StopsAt}
use Rattle.large_text.specs.LoopFaults.{large_fault_of}
use Rattle.large_text.specs.LoopMarked.{HasEntered}
use Rattle.large_text.specs.Printed.{PrintsNamed}
use Rattle.task_program.specs.Expansion.{Place, index_fits, index_line, subscript_of}
use Rattle.task_program.specs.Names.{number_of_name, with_name}
use Rattle.large_text.proofs.LoopMarking.{item_far, item_leads, item_many}
use Rattle.large_text.proofs.loop_marks.LoopMarks.item.Goals as goal

abbrev place_of : List ℕ → LoopItem → Place
place_of values item = record {
  kind = item.kind;
  location = item.name ++ subscript_of values item.index;
  line = item.line;
  index_fits = index_fits values item.index;
  index_line = index_line item.index;
}

abbrev fault_so : ℕ → ReadFault
fault_so line = record { kind = BadNumber; line = line }

pub returns-then-is_full-clause-takes : goal.returns-then-is_full-clause-takes
returns-then-is_full-clause-takes c =
    let taker = c.args.self.now in
    let item = c.args.item.now in
    let place = place_of (reverse c.args.values.now) item in
    subst (λ (fault : ReadFault). StopsAt large_fault_of (ItemComes place ∷ []) (HasEntered taker) fault)
    (sym c.fault.ensures)
    (item_many taker place (sym c.is_full.ensures ∙ c.if-is_full.true))

pub returns-then-not-index_fits-clause-takes : goal.returns-then-not-index_fits-clause-takes
returns-then-not-index_fits-clause-takes c =
    let taker = c.args.self.now in
    let item = c.args.item.now in
    let place = place_of (reverse c.args.values.now) item in
    subst (λ (fault : ReadFault). StopsAt large_fault_of (ItemComes place ∷ []) (HasEntered taker) fault)
    (sym (c.fault-then-not-index_fits.ensures
    ∙ ap (λ (n : ℕ). fault_so n) c.index_line.ensures))
    (item_far taker place (sym c.is_full.ensures ∙ c.if-is_full.false)
    (sym c.index_fits.ensures ∙ c.if-not-index_fits.true))

pub returns-clause-takes : goal.returns-clause-takes
returns-clause-takes c =
    let taker = c.args.self.now in
    let item = c.args.item.now in
    let place = place_of (reverse c.args.values.now) item in
    let text = c.as_str-2.ensures.value ∙ c.in_ok-location.ensures in
    let names_are = c.in_ok-name.ensures.ok ∙ ap (λ (t : List ℕ). with_name taker.names t) text in
    let items_are = c.in_ok-push.ensures.ok
    ∙ ap (λ (n : ℕ). taker.items ++ record { kind = item.kind; name = n } ∷ [])
    (c.in_ok-name.ensures.number ∙ ap (λ (t : List ℕ). number_of_name taker.names t) text) in
    item_leads taker c.number_of.new.self c.push.new.self c.print_item.new.printer place names_are
    items_are (sym c.is_full.ensures ∙ c.if-is_full.false)
    (sym c.index_fits.ensures ∙ c.if-not-index_fits.false)
    (subst
    (λ (name : List ℕ). PrintsNamed item.kind name taker.tally.printer c.print_item.new.printer)
    (c.as_str.ensures.value ∙ c.in_ok-location.ensures)
    c.in_ok-print_item.ensures.prints)
