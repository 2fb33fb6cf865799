-- Of a program and what stands behind it a replay says something.
use Rattle.std.proofs.Common.{ℕ, zero, suc, ◌<◌, ◌≡◌, ◌⊎◌, ◌∙◌, ◌++◌, List, [], ◌∷◌, Option, Some}
use Rattle.std.proofs.Common.{None, length, flat_map, refl, sym, ap, subst, arith, inl, inr}
use Rattle.std.specs.Prelude.{Contains, codes}
use Rattle.std.proofs.lemmas.Option.{none-some, same_Some}
use Rattle.task_program.specs.PlainWords.{all_steps, step_by, words_of}
use Rattle.task_segments.specs.Precedence.{Continues, Creation, IsSegment}
use Rattle.task_segments.specs.Table.{Table}
use Rattle.depend_table.specs.KeptEdges.{IsKeptEdge}
use Rattle.depend_table.specs.Lists.{Lists}
use Rattle.dispatch_core.specs.Facts.{IsSoundTable}
use Rattle.dispatch_core.specs.Run.{HasFinished, IsLegalRun, IsOpen}
use Rattle.dispatch_core.specs.declared.event.Event.{Event}
use Rattle.dispatch_core.proofs.DecidedEdges.{decide_continues, decide_creation}
use Rattle.dispatch_core.proofs.Decisions.{IsDecided, decided_by_equivalent, decide_below}
use Rattle.dispatch_core.proofs.Decisions.{decide_both, decide_either, decide_less, decide_same}
use Rattle.dispatch_core.proofs.Decisions.{some_list}
use Rattle.dispatch_core.proofs.FirstRefused.{legal_or_refused}
use Rattle.dispatch_core.proofs.NeverStuck.{decide_finished}
use Rattle.dispatch_core.proofs.SomeGraph.{kept_list}
use Rattle.spanprof_command.proofs.Spelling.{reads_spells, spells_reads}
use Rattle.spanprof_command.specs.Events.{SpellsWithin, word_says}
use Rattle.spanprof_command.specs.EventSteps.{Progress, begin, step}
use Rattle.spanprof_command.specs.Replaying.{Recounts, Replays, Row, SaysOfEvents, bad_form}
use Rattle.spanprof_command.specs.Replaying.{event_refusal, preds_line, segments_of_rows}
use Rattle.spanprof_command.specs.Report.{Report, number_line}
use Rattle.spanprof_command.specs.declared.events.Expected.{Expected}
use Rattle.spanprof_command.specs.declared.events.Expected.TheVariants as expected
use Rattle.spanprof_command.specs.declared.report.Status.TheVariants.{Done}

-- ---- the events

decide_at_event : (next : Expected) → IsDecided (next ≡ expected.Event)
decide_at_event expected.Event = inl refl
decide_at_event (expected.Worker verb) = inr (λ e. cc)
decide_at_event (expected.Segment verb worker) = inr (λ e. cc)

abbrev EventsOrNone : (most : ℕ) → List ℕ → Type 0
EventsOrNone most text =
    ((events : List Event) × SpellsWithin most text events)
    ⊎ ((events : List Event) → ¬ SpellsWithin most text events)

abbrev next_in : Option Progress → Expected
next_in None = expected.Event
next_in (Some p) = p.next

nothing_read : (p : Progress) → None ≡ Some p → ⊥
nothing_read p e = cc

events_of : (most : ℕ) (text : List ℕ) (read : Option Progress)
    → all_steps (step_by word_says (step most)) begin (words_of text) ≡ read
    → EventsOrNone most text
events_of most text None is =
    inr (λ events spells. nothing_read _ (sym is ∙ spells_reads most text events spells))
events_of most text (Some p) is = elim (decide_at_event p.next) [
  | inl whole ↦ inl (p.events, reads_spells most text p.next p.events is whole)
  | inr other ↦ inr (λ events spells. other (ap next_in (sym is ∙ spells_reads most text events spells)))
]

-- ---- the record

-- a segment is open or it is not
decide_open : (table : Table) (history : List Event) (s : ℕ)
    → IsSoundTable table
    → IsDecided (IsOpen table history s)
decide_open table history s sound =
    let E : ℕ → Type 0 = λ pred. Continues table pred s ⊎ Creation table pred s in
    let P : ℕ → Type 0 = λ pred. E pred × HasFinished history pred in
    let Opened : Type 0 = (pred : ℕ) × E pred × HasFinished history pred in
    let up : (pred : ℕ) → E pred → pred < s = λ pred edge. elim edge [
      | inl next ↦ sound.goes_up.ascending pred s (inl next)
      | inr created ↦ sound.goes_up.ascending pred s (inr (inl created))
    ] in
    decide_either (s ≡ 0) Opened (decide_same s 0)
    (decided_by_equivalent ((pred : ℕ) × (pred < s) × P pred) Opened (λ h. (h.0, h.2.0, h.2.1))
    (λ h. (h.0, up h.0 h.1, (h.1, h.2)))
    (decide_below P s (λ pred.
    decide_both (E pred) (HasFinished history pred)
    (decide_either (Continues table pred s) (Creation table pred s) (decide_continues table pred s)
    (decide_creation table pred s)) (decide_finished history pred))))

-- the rows of these segments
record AreRowsOf (table : Table) (segments : List ℕ) (rows : List Row) : Type 0 where
  are : segments_of_rows rows ≡ segments
  kept : (row : Row) → Contains rows row → Lists (λ p. IsKeptEdge table p row.segment) row.preds

-- any segments have their rows
some_rows : (table : Table) (segments : List ℕ) → IsSoundTable table
    → (rows : List Row) × AreRowsOf table segments rows
some_rows table [] sound =
    ([], record { are = refl; kept = λ row h. absurd (let within = h.1 in omega (arith, within)) })
some_rows table (s ∷ segments) sound =
    let rest : (rows : List Row) × AreRowsOf table segments rows = some_rows table segments sound in
    let preds = kept_list table sound s in
    let first : Row = record { segment = s; preds = preds.0 } in (
      first ∷ rest.0,
      record {
        are = ap (λ (ss : List ℕ). s ∷ ss) rest.1.are;
        kept = kept_first table first rest.0 preds.1 rest.1.kept;
      },
    )
  where
    kept_first : (table : Table) (first : Row) (rows : List Row)
        → Lists (λ p. IsKeptEdge table p first.segment) first.preds
        → ((row : Row) → Contains rows row → Lists (λ p. IsKeptEdge table p row.segment) row.preds)
        → (row : Row)
        → Contains (first ∷ rows) row
        → Lists (λ p. IsKeptEdge table p row.segment) row.preds
    kept_first table first rows here later row (zero, within, is) =
        let P : Row → Type 0 = λ r. Lists (λ p. IsKeptEdge table p r.segment) r.preds in
        subst P is here
    kept_first table first rows here later row (suc k, within, is) =
        later row (k, omega (arith, within), is)

-- every legal run can be recounted
some_recount : (table : Table) (events : List Event) → IsSoundTable table → IsLegalRun table events
    → (output : Report) × Recounts table events output
some_recount table events sound legal =
    let count : ℕ = length table.segments in
    let F : ℕ → Type 0 = λ s. IsSegment table s × HasFinished events s in
    let O : ℕ → Type 0 = λ s. IsSegment table s × IsOpen table events s in
    let finished = some_list F count
    (λ s. decide_both (IsSegment table s) (HasFinished events s) (decide_less s
    count)
    (decide_finished events s)) (λ s h. h.0) in
    let opened = some_list O count
    (λ s. decide_both (IsSegment table s) (IsOpen table events s) (decide_less s
    count)
    (decide_open table events s sound)) (λ s h. h.0) in
    let rows = some_rows table opened.0 sound in (
      record {
        text = number_line (codes "events") (length events) ++
            (number_line (codes "finished") (length finished.0) ++ flat_map preds_line rows.0);
        status = Done;
      },
      record {
        legal = legal;
        finished = finished.0;
        are_finished = finished.1;
        rows = rows.0;
        are_rows = record {
          are_open = subst (λ (ss : List ℕ). Lists O ss)
              (sym rows.1.are) opened.1;
          kept = rows.1.kept;
        };
        says = refl;
      },
    )

-- events that are well formed can be replayed or are refused
some_replay : (table : Table) (events : List Event) → IsSoundTable table
    → (output : Report) × Replays table events output
some_replay table events sound = elim (legal_or_refused table events sound) [
  | inl legal ↦
      let told = some_recount table events sound legal in
      (told.0, inl told.1)
  | inr refused ↦ (
    event_refusal refused.0 refused.1,
    inr
        (record { index = refused.0; refusal = refused.1; is_first = refused.2; says = refl }),
  )
]

-- something is said of whatever stands behind a program
pub some_said : (most : ℕ) (rest : Option (List ℕ)) (table : Table) → IsSoundTable table
    → (output : Report) × SaysOfEvents most rest table output
some_said most None table sound =
    (bad_form, inl (record { none = λ events h. none-some h.text h.is_text; says = refl }))
some_said most (Some text) table sound =
    elim (events_of most text (all_steps (step_by word_says (step most)) begin (words_of text)) refl) [
      | inl read ↦
          let told = some_replay table read.0 sound in (
            told.0,
            inr (record {
              events = read.0;
              has_events = record { text = text; is_text = refl; spells = read.1 };
              replays = told.1;
            }),
          )
      | inr none ↦ (
        bad_form,
        inl (record {
          none = λ events h.
              let same : text ≡ h.text = same_Some text h.text h.is_text in
              none events (subst (λ (t : List ℕ). SpellsWithin most t events) (sym same) h.spells);
          says = refl;
        }),
      )
    ]
