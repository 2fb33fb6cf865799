-- Why a call is not answered, from why one of its steps is not.
use Rattle.std.proofs.Common.{ℕ, ◌≡◌, ◌≢◌, ◌≤◌, ◌∙◌, List, Result, Ok, Err, Bool, true, false}
use Rattle.std.proofs.Common.{[], length, refl, sym, ap, subst, arith, if◌then◌else◌}
use Rattle.std.specs.Prelude.{IfErr, MatchResult, OnOk}
use Rattle.std.proofs.lemmas.Result.{on_ok_weaker}
use Rattle.dispatch_core.specs.Graph.{IsGraphOf}
use Rattle.dispatch_core.specs.RecordedGraph.{Precedes, RecordedGraph}
use Rattle.open_segments.specs.Facts.{IsSoundTable}
use Rattle.program_text.specs.Answers.{is_memory}
use Rattle.program_text.specs.declared.fault.ReadFault.{ReadFault}
use Rattle.program_text.specs.declared.fault.ReadKind.TheVariants as kind
use Rattle.task_segments.specs.Precedence.{MustPrecede}
use Rattle.task_segments.specs.Table.{Table, costs_of, table_of}
use Rattle.spanprof_c.specs.Programs.{IsFaultOf, OfText, OnCosts, Source}
use Rattle.spanprof_c.specs.declared.told.Place.{Place}
use Rattle.spanprof_c.specs.Steps.{IsPriced}
use Rattle.spanprof_c.specs.Refusals.{Asked, IsRefused, IsWrongLength}
use Rattle.spanprof_c.specs.Steps.{RefusesCosts, RefusesGraph}
use Rattle.spanprof_c.specs.Refusals.{TellsWhy, asked, number_of, place_of}
use Rattle.spanprof_c.specs.Steps.{refusal_of_text}
use Rattle.spanprof_c.specs.declared.refusal.Refusal.{Refusal}
use Rattle.spanprof_c.specs.declared.refusal.Refusal.TheVariants as refusal
use Rattle.spanprof_c.proofs.Carried.{counted, on_costs}

-- what is answered about an outcome
abbrev pub IsTold : {X : Type 0} → Result X Refusal → ℕ → Place → Type 0
IsTold outcome number place = MatchResult outcome (λ _. number ≡ 0)
    (λ why. (1 ≤ number) × (number ≡ number_of why) × (place ≡ place_of why))

-- where the number is 0, the answer is there
pub done : {X : Type 0} (P : Type 0) (outcome : Result X Refusal) (number : ℕ) (place : Place)
    → IsTold outcome number place
    → OnOk outcome P
    → number ≡ 0
    → P
done P (Ok answer) number place told holds none = holds
done P (Err why) number place told holds none = absurd (omega (arith, told.0, none))

-- where it is of a refusal, it says why
pub why_so : (ask : Asked) (why : Refusal) (number : ℕ) (place : Place)
    → (1 ≤ number) × (number ≡ number_of why) × (place ≡ place_of why)
    → IsRefused ask why
    → TellsWhy ask number place
why_so ask why number place told is = record {
  why = why;
  is_why = is;
  is_number = told.1;
  is_place = told.2;
}

text_by : (memory : Bool) (ask : Asked) (fault : ReadFault)
    → is_memory fault.kind ≡ memory
    → (fault.kind ≢ kind.OutOfMemory → IsFaultOf ask.from.any_size ask.from.text fault)
    → IsRefused ask (if memory then refusal.OutOfMemory else refusal.Text fault.kind fault.line)
text_by true ask fault is first = tt
text_by false ask fault is first =
    first (λ e. let both : true ≡ false = sym (ap is_memory e) ∙ is in absurd cc)

-- a text that is not read
pub unread : (ask : Asked) (fault : ReadFault)
    → (fault.kind ≢ kind.OutOfMemory → IsFaultOf ask.from.any_size ask.from.text fault)
    → IsRefused ask (refusal_of_text fault)
unread ask fault first = text_by (is_memory fault.kind) ask fault refl first

-- costs that do not fit
pub costs_refused : (from : Source) (given lengths : List ℕ) (threads : ℕ) (graph : RecordedGraph)
    (why : Refusal)
    → OfText from (IsPriced [] graph)
    → RefusesCosts given (length graph.costs) why
    → IsRefused (asked from given threads lengths) why
costs_refused from given lengths threads graph refusal.CostCount priced is = record {
  marks = priced.marks;
  stands = priced.stands;
  says = record {
    some = is.some;
    other = λ e. is.other (e ∙ sym (counted [] graph (table_of priced.marks) priced.says));
  };
}
costs_refused from given lengths threads graph refusal.CostsTooLarge priced is = is
costs_refused from given lengths threads graph (refusal.Text _ _) priced is = absurd is
costs_refused from given lengths threads graph refusal.ThreadCount priced is = absurd is
costs_refused from given lengths threads graph refusal.WrongLength priced is = absurd is
costs_refused from given lengths threads graph refusal.OutOfMemory priced is = absurd is

-- a graph that is not answered about
pub graph_refused : (from : Source) (given lengths : List ℕ) (threads : ℕ) (graph : RecordedGraph)
    (why : Refusal)
    → OfText from (IsPriced given graph)
    → RefusesGraph threads lengths (length graph.costs) why
    → IsRefused (asked from given threads lengths) why
graph_refused from given lengths threads graph refusal.ThreadCount priced is = is
graph_refused from given lengths threads graph refusal.WrongLength priced is = record {
  marks = priced.marks;
  stands = priced.stands;
  says = subst (IsWrongLength lengths)
      (counted given graph (table_of priced.marks) priced.says) is;
}
graph_refused from given lengths threads graph refusal.OutOfMemory priced is = tt
graph_refused from given lengths threads graph (refusal.Text _ _) priced is = absurd is
graph_refused from given lengths threads graph refusal.CostCount priced is = absurd is
graph_refused from given lengths threads graph refusal.CostsTooLarge priced is = absurd is

-- what is answered about a graph, as the text's answer
pub done_so : {X : Type 0} (Says : List ℕ → (ℕ → ℕ → Type 0) → Type 0) (from : Source) (given : List ℕ)
    (graph : RecordedGraph) (outcome : Result X Refusal) (number : ℕ) (place : Place)
    → ((table : Table) → IsSoundTable table
    → IsGraphOf table (record graph { costs = costs_of table })
    → Says graph.costs (Precedes graph) → Says graph.costs (MustPrecede table))
    → OfText from (IsPriced given graph)
    → IsTold outcome number place
    → OnOk outcome (Says graph.costs (Precedes graph))
    → number ≡ 0
    → OnCosts from given Says
done_so Says from given graph outcome number place carry priced told holds =
    done (OnCosts from given Says) outcome number place told
    (on_ok_weaker outcome (on_costs Says from given graph carry priced) holds)

-- why nothing is answered about a graph, as the text's refusal
pub refused_so : {X : Type 0} (from : Source) (given lengths : List ℕ) (threads : ℕ) (graph : RecordedGraph)
    (outcome : Result X Refusal) (number : ℕ) (place : Place)
    → OfText from (IsPriced given graph)
    → IsTold outcome number place
    → IfErr outcome (RefusesGraph threads lengths (length graph.costs))
    → number ≢ 0
    → TellsWhy (asked from given threads lengths) number place
refused_so from given lengths threads graph (Ok answer) number place priced told holds some =
    absurd (some told)
refused_so from given lengths threads graph (Err why) number place priced told holds some =
    why_so (asked from given threads lengths) why number place told
    (graph_refused from given lengths threads graph why priced holds)

-- ---- what is answered about an outcome that speaks of the text

pub refused_told : {X : Type 0} (ask : Asked) (outcome : Result X Refusal) (number : ℕ)
    (place : Place)
    → IsTold outcome number place
    → IfErr outcome (IsRefused ask)
    → number ≢ 0
    → TellsWhy ask number place
refused_told ask (Ok answer) number place told holds some = absurd (some told)
refused_told ask (Err why) number place told holds some = why_so ask why number place told holds
