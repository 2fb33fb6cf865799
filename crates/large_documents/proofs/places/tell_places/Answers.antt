use Rattle.std.proofs.Common.{◌≡◌, ◌+◌, ◌∙◌, ℕ, List, None, Some, ap, arith, inl, length, refl, subst, sym}
use Rattle.std.specs.Option.{option_copied}
use Rattle.std.proofs.lemmas.Result.{IfOk-weaker}
use Rattle.program_text.specs.Document.{rest_part}
use Rattle.large_documents.proofs.Members.{same_count, says_of_read}
use Rattle.large_documents.proofs.PlaceTimes.{takes_places}
use Rattle.large_documents.specs.Places.{ArePlaces}
use Rattle.large_documents.specs.TimedPlaces.{TellsTimedSums, before_times}
use Rattle.large_documents.specs.Times.{ended}
use Rattle.large_documents.proofs.places.tell_places.Goals as goal

pub read_places-requires : goal.read_places-requires
read_places-requires c =
    omega (arith, c.len.ensures.is_graph.some, c.len.ensures.count)

pub returns-in-None : goal.returns-in-None
returns-in-None c =
    let of = c.in_ok-graph.ensures in
    let given = c.split_document.result.program.now in
    let n = length c.args.table.segments in
    let count = c.len.ensures.count ∙ sym (same_count c.args.table c.in_ok-graph.graph of) in
    let are : ArePlaces n given c.as_slice.result.now =
    subst (λ (xs : List ℕ). ArePlaces n given xs) (sym c.as_slice.ensures.value)
    (subst (λ (k : ℕ). ArePlaces k given c.in-Ok.places.items) count c.in-Ok.ensures.told) in
    let none : None ≡ rest_part c.args.rest.now =
    sym (ap option_copied c.in-None.is) ∙ c.split_document.ensures.rest in
    IfOk-weaker c.tell_sums.result _ _
    (λ report tells. inl (takes_places c.args.program.now c.args.rest.now given None _ c.args.table
    c.as_slice.result.now report c.split_document.ensures.program none refl are (record {
      graph = c.in_ok-graph.graph;
      found = tells.found;
      are_analysed = record {
        is_graph = c.len.ensures.is_graph;
        is_graph_of = of;
        is_analysis = tells.is_analysis;
        are_findings = c.same_findings.ensures c.in_ok-graph.graph tells.found of tells.is_analysis;
      };
      says = tells.says;
    })))
    c.tell_sums.ensures

pub returns-in-Ok : goal.returns-in-Ok
returns-in-Ok c =
    let program = c.args.program.now in
    let rest = c.args.rest.now in
    let of = c.in_ok-graph.ensures in
    let graph = c.in_ok-graph.graph in
    let given = c.split_document.result.program.now in
    let places = c.as_slice-in-Some.result.now in
    let times = c.in-Some.times.now in
    let n = length c.args.table.segments in
    let count = c.len.ensures.count ∙ sym (same_count c.args.table graph of) in
    let are : ArePlaces n given places =
    subst (λ (xs : List ℕ). ArePlaces n given xs) (sym c.as_slice-in-Some.ensures.value)
    (subst (λ (k : ℕ). ArePlaces k given c.in-Ok.places.items) count c.in-Ok.ensures.told) in
    let some : Some times ≡ rest_part rest =
    sym (ap option_copied c.in-Some.is) ∙ c.split_document.ensures.rest in
    let lines : c.count_lines.result + c.count_lines-in-Some.result + 1 ≡ before_times program rest =
    omega (
      arith,
      c.count_lines.ensures.is,
      c.count_lines-in-Some.ensures.is,
      ap ended c.split_document.ensures.program,
    ) in
    IfOk-weaker c.tell_timed.result _ _
    (λ report says. inl (takes_places program rest given (Some times) _ c.args.table places report
    c.split_document.ensures.program some lines are
    (says_of_read (TellsTimedSums places) _ times c.args.table graph report c.len.ensures.is_graph of
    says)))
    c.tell_timed.ensures
