-- A list of events is legal, or some event is the first that is refused.
use Rattle.std.proofs.Common.{ℕ, zero, suc, ◌+◌, ◌<◌, ◌≡◌, ◌⊎◌, ◌∙◌, ◌++◌, List, [], ◌∷◌, length}
use Rattle.std.proofs.Common.{get_or, take, refl, sym, ap, subst, arith, inl, inr}
use Rattle.std.specs.Prelude.{Contains}
use Rattle.std.proofs.lemmas.Bool.{cases_lt}
use Rattle.std.proofs.lemmas.List.{take_all, take_more}
use Rattle.std.proofs.lemmas.Option.{none-some, slice_get-get_or}
use Rattle.task_segments.specs.Precedence.{MustPrecede}
use Rattle.task_segments.specs.Table.{Table, table_of}
use Rattle.dispatch_core.proofs.Histories.{legal_push}
use Rattle.open_segments.specs.Facts.{IsSoundTable}
use Rattle.dispatch_core.specs.Replays.{IsFirstRefused, RefusesNext}
use Rattle.dispatch_core.specs.Refusals.{AreKnown, IsFirstUnfinished, IsIdle, RefusesStart}
use Rattle.dispatch_core.specs.Run.{HasFinished, HasStarted, IsLegalRun, MayFollow, MayStart, Runs}
use Rattle.dispatch_core.specs.declared.event.TheConstants.{MOST_WORKERS}
use Rattle.dispatch_core.specs.declared.event.Event.{Event}
use Rattle.dispatch_core.specs.declared.event.Event.TheVariants.{Finish, Start}
use Rattle.dispatch_core.specs.declared.event.StartRefusal.{StartRefusal}
use Rattle.dispatch_core.specs.declared.event.StartRefusal.TheVariants.{AlreadyStarted, NotReady}
use Rattle.dispatch_core.specs.declared.event.StartRefusal.TheVariants.{UnknownSegment}
use Rattle.dispatch_core.specs.declared.event.StartRefusal.TheVariants.{UnknownWorker, WorkerBusy}
use Rattle.dispatch_core.specs.declared.replay.ReplayRefusal.{ReplayRefusal}
use Rattle.dispatch_core.specs.declared.replay.ReplayRefusal.TheVariants.{NotRunning, OfStart}
use Rattle.dispatch_core.proofs.DecidedEdges.{decide_precedes}
use Rattle.dispatch_core.proofs.Decisions.{IsDecided, by_parts, decide_member, decide_same}
use Rattle.dispatch_core.proofs.Decisions.{decisions, find_first, holds_unless}
use Rattle.dispatch_core.proofs.NeverStuck.{decide_finished}
use Rattle.task_program.specs.ProgramMarks.{ProgramMarks}
use Rattle.task_program.specs.Programs.{IsProgram}
use Rattle.dispatch_core.proofs.SomeGraph.{whole_table}

-- ---- what has happened in a history

decide_same_event : (a b : Event) → IsDecided (a ≡ b)
decide_same_event (Start v s) (Finish w t) = inr (λ e. cc)
decide_same_event (Finish v s) (Start w t) = inr (λ e. cc)
decide_same_event (Start v s) (Start w t) =
    by_parts {P = (v ≡ w) × (s ≡ t)} (search decisions)
    (λ h. ap (λ n. Start n s) h.0 ∙ ap (λ n. Start w n) h.1) (λ e. (cc, cc))
decide_same_event (Finish v s) (Finish w t) =
    by_parts {P = (v ≡ w) × (s ≡ t)} (search decisions)
    (λ h. ap (λ n. Finish n s) h.0 ∙ ap (λ n. Finish w n) h.1) (λ e. (cc, cc))

is_start_of : (event : Event) (s : ℕ) → IsDecided ((worker : ℕ) × (event ≡ Start worker s))
is_start_of (Finish w t) s = inr (λ h. let same_event = h.1 in cc)
is_start_of (Start w t) s = elim (decide_same t s) [
  | inl same ↦ inl (w, ap (λ n. Start w n) same)
  | inr apart ↦ inr (λ h. let same_event = h.1 in apart (cc))
]

decide_started : (history : List Event) (s : ℕ) → IsDecided (HasStarted history s)
decide_started history s =
    by_parts (decide_member _ (λ event. is_start_of event s) history)
    (λ h. record { worker = h.2.0; started = subst (Contains history) h.2.1 h.1 })
    (λ h. (Start h.worker s, h.started, (h.worker, refl)))

decide_runs : (history : List Event) (worker s : ℕ) → IsDecided (Runs history worker s)
decide_runs history worker s =
    let P : Event → Type 0 = λ event. (event ≡ Start worker s) × (¬ HasFinished history s) in
    let each : (event : Event) → IsDecided (P event) = λ event.
    search (decisions, decide_same_event, decide_finished) in
    by_parts (decide_member P each history)
    (λ h. record { started = subst (Contains history) h.2.0 h.1; unfinished = h.2.1 })
    (λ r. (Start worker s, r.started, (refl, r.unfinished)))

-- an event that starts a segment which the worker still runs
keeps_busy : (history : List Event) (worker : ℕ) (event : Event)
    → IsDecided ((s : ℕ) × (event ≡ Start worker s) × ¬ HasFinished history s)
keeps_busy history worker (Finish w t) = inr (λ h. let same_event = h.1 in cc)
keeps_busy history worker (Start w t) = elim (decide_same w worker) [
  | inr apart ↦ inr (λ h. let same_event = h.1 in apart (cc))
  | inl same ↦ elim (decide_finished history t) [
    | inr unfinished ↦ inl (t, ap (λ n. Start n t) same, unfinished)
    | inl done ↦ inr (λ h. let same_event = h.1 in let is : t ≡ h.0 = cc in h.2
        (subst (λ (s : ℕ). HasFinished history s) is done))
  ]
]

decide_busy : (history : List Event) (worker : ℕ) → IsDecided ((s : ℕ) × Runs history worker s)
decide_busy history worker =
    by_parts (decide_member _ (keeps_busy history worker) history)
    (λ h. (
      h.2.0,
      record { started = subst (Contains history) h.2.1 h.1; unfinished = h.2.2 },
    ))
    (λ h. (Start worker h.0, h.1.started, (h.0, refl, h.1.unfinished)))

-- ---- the next event

-- all that must precede the segment is finished, or one of it is the first that is not
ready_or_waits : (table : Table) (history : List Event) (s : ℕ) → IsSoundTable table
    → ((pred : ℕ) → MustPrecede table pred s → HasFinished history pred) ⊎
    ((pred : ℕ) × IsFirstUnfinished table history s pred)
ready_or_waits table history s sound =
    let P : ℕ → Type 0 = λ pred. MustPrecede table pred s × (¬ HasFinished history pred) in
    let before : (pred : ℕ) → IsDecided (MustPrecede table pred s) = λ pred.
    decide_precedes table pred s sound.in_place in
    let decided : (pred : ℕ) → IsDecided (P pred) = λ pred.
    search (decisions, before, decide_finished) in
    let done : (pred : ℕ) → ¬ P pred → MustPrecede table pred s
    → HasFinished history pred = λ pred fails edge.
    holds_unless (decide_finished history pred) (λ unfinished. fails (edge, unfinished)) in
    elim (find_first P s decided) [
      | inl none ↦
          inl (λ pred edge. done pred (none pred (sound.goes_up.ascending pred s edge)) edge)
      | inr found ↦
          let first = found.1 in
          inr (
            found.0,
            record {
              precedes = first.holds.0;
              unfinished = first.holds.1;
              smallest = λ other less edge. done other (first.none_before other less) edge;
            },
          )
    ]

start_or_refusal : (table : Table) (history : List Event) (worker s : ℕ) → IsSoundTable table
    → MayStart table history worker s
    ⊎ ((why : StartRefusal) × RefusesStart table history worker s why)
start_or_refusal table history worker s sound = elim (cases_lt worker MOST_WORKERS) [
  | inr unknown ↦ inr (UnknownWorker, unknown)
  | inl known ↦ elim (cases_lt s (length table.segments)) [
    | inr past ↦ inr (UnknownSegment, (known, past))
    | inl within ↦
        let both : AreKnown table worker s = record {
          worker_known = known;
          segment_known = within;
        } in
        elim (decide_busy history worker) [
          | inl busy ↦ inr (WorkerBusy, (both, busy))
          | inr idle ↦
              let is_idle : IsIdle history worker = λ other runs. idle (other, runs) in
              elim (decide_started history s) [
                | inl started ↦ inr (AlreadyStarted, (both, is_idle, started))
                | inr not_started ↦ elim (ready_or_waits table history s sound) [
                  | inl ready ↦ inl (record {
                    known = known;
                    idle = is_idle;
                    ready = record { known = within; not_started = not_started; after = ready };
                  })
                  | inr waits ↦ inr (NotReady waits.0, (both, is_idle, not_started, waits.1))
                ]
              ]
        ]
  ]
]

next_or_refusal : (table : Table) (history : List Event) (event : Event) → IsSoundTable table
    → MayFollow table history event ⊎ ((why : ReplayRefusal) × RefusesNext table history event why)
next_or_refusal table history (Start worker s) sound =
    elim (start_or_refusal table history worker s sound) [
      | inl may ↦ inl may
      | inr refused ↦ inr (OfStart refused.0, refused.1)
    ]
next_or_refusal table history (Finish worker s) sound = elim (decide_runs history worker s) [
  | inl runs ↦ inl runs
  | inr fails ↦ inr (NotRunning, fails)
]

-- all events are legal, or some event is the first that is refused
abbrev pub LegalOrRefused : Table → List Event → Type 0
LegalOrRefused table events =
    IsLegalRun table events
    ⊎ ((index : ℕ) × (why : ReplayRefusal) × IsFirstRefused table events index why)

legal_from : (table : Table) (events : List Event) (d i : ℕ)
    → IsSoundTable table
    → i + d ≡ length events
    → IsLegalRun table (take i events)
    → LegalOrRefused table events
legal_from table events zero i sound all legal =
    inl (subst (λ (es : List Event). IsLegalRun table es) (take_all i events (omega (arith, all)))
    legal)
legal_from table events (suc d) i sound all legal =
    let event : Event = get_or events i (Start 0 0) in
    let within : i < length events = omega (arith, all) in
    elim (next_or_refusal table (take i events) event sound) [
      | inl may ↦
          let more : take (i + 1) events ≡ take i events ++ event ∷ [] =
          take_more events i (Start 0 0) within in
          legal_from table events d (i + 1) sound (omega (arith, all))
          (subst (λ (es : List Event). IsLegalRun table es) (sym more)
          (legal_push table (take i events) event legal may))
      | inr refused ↦ inr (
        i,
        refused.0,
        record {
          event = event;
          is_there = slice_get-get_or events i (Start 0 0) within;
          legal = legal;
          refused = refused.1;
        },
      )
    ]

pub legal_or_refused : (table : Table) (events : List Event)
    → IsSoundTable table
    → LegalOrRefused table events
legal_or_refused table events sound =
    legal_from table events (length events) 0 sound (omega arith)
    (λ k event is. absurd (none-some event is))

pub legal_or_refused_of : (program : ProgramMarks) → IsProgram program → (events : List Event)
    → LegalOrRefused (table_of program.marks) events
legal_or_refused_of program is events =
    legal_or_refused (table_of program.marks) events (whole_table program is).sound
