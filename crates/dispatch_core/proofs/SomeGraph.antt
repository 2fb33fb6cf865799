-- Each program has a graph, and each segment a value.
use Rattle.std.proofs.Common.{ℕ, zero, suc, ◌<◌, ◌≤◌, ◌≡◌, ◌∙◌, ◌%◌, ◌^◌, List, [], ◌∷◌, ◌++◌}
use Rattle.std.proofs.Common.{length, get_or, refl, sym, subst, arith, inl, inr, sum_by}
use Rattle.std.proofs.lemmas.Bool.{cases_lt}
use Rattle.std.proofs.lemmas.List.{get_or_append_left, get_or_push, length_push}
use Rattle.task_program.specs.ProgramMarks.{ProgramMarks}
use Rattle.task_program.specs.Programs.{IsProgram}
use Rattle.task_segments.proofs.InPlace.{read_in_place, some_segment}
use Rattle.task_segments.proofs.Order.{goes_up, continues_or_is_created}
use Rattle.task_segments.proofs.LastMoment.{few_segments, few_tasks, grouped_program, nested_program}
use Rattle.task_segments.proofs.Reaches.{reached_is_joined, reaches_by_one}
use Rattle.task_segments.proofs.SameSchedules.{same_joined}
use Rattle.task_segments.proofs.Work.{little_work}
use Rattle.task_segments.specs.Nesting.{IsGroupedTable, IsNestedTable}
use Rattle.task_segments.specs.Precedence.{IsSegment, MustPrecede}
use Rattle.task_program.specs.Marks.{Mark}
use Rattle.task_segments.proofs.Reading.{reading}
use Rattle.task_segments.specs.MarksTable.{IsMarksTable, IsReading}
use Rattle.task_segments.specs.Table.{Table, costs_of, segment, table_of}
use Rattle.depend_table.proofs.Chains.{edge_reaches, kept_within}
use Rattle.depend_table.specs.KeptEdges.{IsKeptEdge}
use Rattle.depend_table.specs.Lists.{Lists}
use Rattle.open_segments.proofs.Within.{within_table}
use Rattle.open_segments.specs.Facts.{IsSoundTable}
use Rattle.dispatch_core.specs.Graph.{IsGraphOf}
use Rattle.dispatch_core.specs.RecordedGraph.{RecordedGraph}
use Rattle.dispatch_core.specs.Values.{IsValue}
use Rattle.dispatch_core.specs.Values.IsValue.{Computes}
use Rattle.dispatch_core.proofs.DecidedEdges.{decide_kept_edge}
use Rattle.dispatch_core.proofs.Decisions.{some_list}

-- what holds of a program's table
pub record IsWhole (table : Table) : Type 0 where
  pub nested : IsNestedTable table
  pub grouped : IsGroupedTable table
  pub sound : IsSoundTable table

pub whole_marks : (marks : List Mark) → IsReading marks → IsWhole (table_of marks)
whole_marks marks is_reading =
    let table : Table = table_of marks in
    let of_program : IsMarksTable table = record {
      marks = marks;
      reading = is_reading;
      is = refl;
    } in
    let nested : IsNestedTable table = nested_program table of_program in
    let grouped : IsGroupedTable table = grouped_program table of_program in
    let within : (s t : ℕ) → IsKeptEdge table s t → MustPrecede table s t =
    λ s t. kept_within table s t nested grouped in
    let chains =
    same_joined (MustPrecede table) (IsKeptEdge table) (goes_up table nested) within
    (edge_reaches table nested grouped) in
    record {
      nested = nested;
      grouped = grouped;
      sound = record {
        some_segment = some_segment table nested;
        few_segments = few_segments table of_program;
        few_tasks = few_tasks table of_program;
        little_work = little_work table of_program;
        goes_up = record {
          ascending = goes_up table nested;
          within = λ s t edge. within_table table s t nested edge;
          reached = continues_or_is_created table nested;
        };
        chains = record {
          within = within;
          joined = λ s t edge. (chains s t).0
              (reached_is_joined {R = MustPrecede table} (reaches_by_one edge));
        };
        in_place = read_in_place table nested grouped;
      };
    }

pub whole_table : (program : ProgramMarks) → IsProgram program → IsWhole (table_of program.marks)
whole_table program is = whole_marks program.marks (reading program is)

-- ---- the graph

pub kept_list : (table : Table) → IsSoundTable table → (t : ℕ)
    → (list : List ℕ) × Lists (λ s. IsKeptEdge table s t) list
kept_list table sound t =
    some_list (λ s. IsKeptEdge table s t) t (λ s. decide_kept_edge table s t)
    (λ s edge. sound.goes_up.ascending s t (sound.chains.within s t edge))

-- the kept predecessors of the first n segments
record AreFirstRows (table : Table) (n : ℕ) (rows : List (List ℕ)) : Type 0 where
  each : length rows ≡ n
  kept : (t : ℕ) → t < n → Lists (λ s. IsKeptEdge table s t) (get_or rows t [])

first_rows : (table : Table)
    → IsSoundTable table
    → (n : ℕ)
    → (rows : List (List ℕ)) × AreFirstRows table n rows
first_rows table sound zero =
    ([], record { each = refl; kept = λ t less. absurd (omega (arith, less)) })
first_rows table sound (suc n) =
    let before : (rows : List (List ℕ)) × AreFirstRows table n rows = first_rows table sound n in
    let next : (list : List ℕ) × Lists (λ s. IsKeptEdge table s n) list = kept_list table sound n in
    let each = before.1.each in (
      before.0 ++ next.0 ∷ [],
      record {
        each = length_push before.0 next.0 ∙ omega (arith, each);
        kept = λ t less. elim (cases_lt t n) [
          | inl below ↦
              let same : get_or (before.0 ++ next.0 ∷ []) t [] ≡ get_or before.0 t [] =
              get_or_append_left before.0 (next.0 ∷ []) [] t (omega (arith, below, each)) in
              subst (λ (l : List ℕ). Lists (λ s. IsKeptEdge table s t) l) (sym same)
              (before.1.kept t below)
          | inr last ↦
              let is : n ≡ t = omega (arith, less, last) in
              let same : get_or (before.0 ++ next.0 ∷ []) n [] ≡ next.0 =
              get_or_push before.0 next.0 [] n each in
              let P : ℕ → Type 0 = λ u.
              Lists (λ s. IsKeptEdge table s u) (get_or (before.0 ++ next.0 ∷ []) u []) in
              subst P is
              (subst (λ (l : List ℕ). Lists (λ s. IsKeptEdge table s n) l) (sym same) next.1)
        ];
      },
    )

pub some_graph : (table : Table)
    → IsSoundTable table
    → (graph : RecordedGraph) × IsGraphOf table graph
some_graph table sound =
    let rows : (rows : List (List ℕ)) × AreFirstRows table (length table.segments) rows =
    first_rows table sound
    (length table.segments) in (
      record { costs = costs_of table; predecessors = rows.0 },
      record { costs = refl; each = rows.1.each; predecessors = λ t known. rows.1.kept t known },
    )

-- ---- the values

-- the values of the first n segments
pub record AreFirstValues (table : Table) (value_of : ℕ → ℕ → ℕ → ℕ) (n : ℕ) (values : List ℕ)
    : Type 0 where
  pub each : length values ≡ n
  pub are : (s : ℕ) → s < n → IsValue table value_of s (get_or values s 0)

pub first_values : (table : Table) (value_of : ℕ → ℕ → ℕ → ℕ) → IsSoundTable table → (n : ℕ)
    → n ≤ length table.segments → (values : List ℕ) × AreFirstValues table value_of n values
first_values table value_of sound zero all =
    ([], record { each = refl; are = λ s less. absurd (omega (arith, less)) })
first_values table value_of sound (suc n) all =
    let before : (values : List ℕ) × AreFirstValues table value_of n values =
    first_values table value_of sound n (omega (arith, all)) in
    let preds : (list : List ℕ) × Lists (λ s. IsKeptEdge table s n) list =
    kept_list table sound n in
    let earlier : ℕ → ℕ = λ s. get_or before.0 s 0 in
    let next : ℕ = value_of n (segment table n).cost (sum_by earlier preds.0 % 2 ^ 64) in
    let is_next : IsValue table value_of n next =
    Computes n next (omega (arith, all)) preds.0 preds.1 earlier
    (λ p edge. before.1.are p (sound.goes_up.ascending p n (sound.chains.within p n edge))) refl in
    let each = before.1.each in (
      before.0 ++ next ∷ [],
      record {
        each = length_push before.0 next ∙ omega (arith, each);
        are = λ s less. elim (cases_lt s n) [
          | inl below ↦
              let same : get_or (before.0 ++ next ∷ []) s 0 ≡ get_or before.0 s 0 =
              get_or_append_left before.0 (next ∷ []) 0 s (omega (arith, below, each)) in
              subst (λ (v : ℕ). IsValue table value_of s v) (sym same) (before.1.are s below)
          | inr last ↦
              let is : n ≡ s = omega (arith, less, last) in
              let same : get_or (before.0 ++ next ∷ []) n 0 ≡ next =
              get_or_push before.0 next 0 n each in
              let P : ℕ → Type 0 = λ u.
              IsValue table value_of u (get_or (before.0 ++ next ∷ []) u 0) in
              subst P is (subst (λ (v : ℕ). IsValue table value_of n v) (sym same) is_next)
        ];
      },
    )

pub some_graph_of : (program : ProgramMarks) → IsProgram program
    → (graph : RecordedGraph) × IsGraphOf (table_of program.marks) graph
some_graph_of program is = some_graph (table_of program.marks) (whole_table program is).sound

pub some_value_of : (program : ProgramMarks)
    → IsProgram program
    → (value_of : ℕ → ℕ → ℕ → ℕ) (s : ℕ)
    → IsSegment (table_of program.marks) s
    → (value : ℕ) × IsValue (table_of program.marks) value_of s value
some_value_of program is value_of s known =
    let table : Table = table_of program.marks in
    let count : ℕ = length table.segments in
    let all : (values : List ℕ) × AreFirstValues table value_of count values =
    first_values table value_of (whole_table program is).sound count (omega arith) in
    (get_or all.0 s 0, all.1.are s known)
