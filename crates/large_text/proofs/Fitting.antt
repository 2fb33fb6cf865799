-- A meter can take each mark that the reader hands on.
use Rattle.std.proofs.Common.{◌≡◌, ◌+◌, ◌<◌, ◌≤◌, ◌^◌, false, List, [], ◌∷◌, ◌++◌, length}
use Rattle.std.proofs.Common.{append_assoc, length-append, refl, sym, ap, subst, ◌∙◌, arith}
use Rattle.std.proofs.lemmas.List.{append-nil}
use Rattle.std.proofs.lemmas.List.Sums.{count_by-le-length, sum_by-cons}
use Rattle.program_text.specs.declared.limits.TheConstants.{MOST_WORK}
use Rattle.program_text.specs.Limits.{work_of, work_done}
use Rattle.program_text.specs.Marks.{Mark}
use Rattle.program_text.specs.Marks.Mark.{Begins, Ends, GroupEnds}
use Rattle.program_text.specs.Tokens.{Token}
use Rattle.task_program.specs.Nested.{IsNested}
use Rattle.task_program.specs.TreeSoFar.{Block}
use Rattle.task_program.specs.TreeSoFar.Block.{TaskBlock, GroupBlock}
use Rattle.task_segments.specs.Moments.{begins_task, opens, open_groups, moment_after, last_moment}
use Rattle.task_segments.specs.Moments.{IsProper}
use Rattle.task_segments.proofs.Grouping.{IsGrouped, Closes}
use Rattle.task_segments.proofs.LastMoment.{last_of_nested, moment_after-append, count_read}
use Rattle.task_segments.proofs.Walks.{grows}
use Rattle.large_text.specs.declared.tally.Tally.{Tally}
use Rattle.task_segments.specs.MarkCutting.{groups_ended}
use Rattle.large_text.specs.Tallied.{Tallies, FitsWork, CanTally}
use Rattle.large_text.specs.declared.reader.MarkReader.{MarkReader}
use Rattle.large_text.specs.LargeReading.{IsReadSoFar, state_of}
use Rattle.large_text.specs.LoopMarked.{AreOpen}
use Rattle.large_text.proofs.Open.{open_ends, none_open}
use Rattle.large_text.proofs.Taken.{sound}

-- ---- the marks so far begin nested marks

-- what ends these blocks, the innermost first
pub closing : List Block → List Mark
closing [] = []
closing (TaskBlock line ∷ blocks) = Ends ∷ closing blocks
closing (GroupBlock line ∷ blocks) = GroupEnds ∷ closing blocks

pub closed : (blocks : List Block) (marks : List Mark)
    → AreOpen blocks marks
    → IsNested (marks ++ closing blocks)
unfolding closing
closed [] marks o = subst IsNested (sym (append-nil marks)) (none_open marks o)
closed (TaskBlock line ∷ blocks) marks o =
    subst IsNested (append_assoc marks (Ends ∷ []) (closing blocks))
    (closed blocks (marks ++ Ends ∷ []) (open_ends (TaskBlock line ∷ blocks) marks o))
closed (GroupBlock line ∷ blocks) marks o =
    subst IsNested (append_assoc marks (GroupEnds ∷ []) (closing blocks))
    (closed blocks (marks ++ GroupEnds ∷ []) (open_ends (GroupBlock line ∷ blocks) marks o))

-- ---- at each moment of nested marks the next mark fits

proper_before : (e marks : List Mark) → IsProper (moment_after e marks) → IsProper e
proper_before e [] h = h
proper_before e (m ∷ marks) h = (proper_before (m ∷ e) marks h).1

grouped_before : (e marks : List Mark) → IsGrouped (moment_after e marks) → IsGrouped e
grouped_before e [] h = h
grouped_before e (m ∷ marks) h = (grouped_before (m ∷ e) marks h).2

group_open : (m : Mark) (e : List Mark) → Closes m e → groups_ended m ≤ length (open_groups e)
group_open GroupEnds e h = omega (arith, h.0)
group_open _ e h = omega arith

pub fits_next : (marks later : List Mark) (m : Mark)
    → IsNested ((marks ++ m ∷ []) ++ later)
    → work_of (marks ++ m ∷ []) ≤ MOST_WORK
    → length marks < 2 ^ 63
    → FitsWork m (last_moment marks)
fits_next marks later m nested work few =
    let start : List Mark = Begins false [] ∷ [] in
    let e = last_moment marks in
    let last = last_of_nested ((marks ++ m ∷ []) ++ later) nested in
    let same : last_moment ((marks ++ m ∷ []) ++ later) ≡ moment_after (m ∷ e) later =
    moment_after-append (marks ++ m ∷ []) later start
    ∙ ap (λ (x : List Mark). moment_after x later) (moment_after-append marks (m ∷ []) start) in
    let proper = proper_before (m ∷ e) later (subst IsProper same last.proper) in
    let grouped = grouped_before (m ∷ e) later (subst IsGrouped same last.grouped) in
    let all_work : work_of e + work_done m ≤ MOST_WORK =
    omega (
      arith,
      grows work_done start (marks ++ m ∷ []) marks (m ∷ []) [] refl,
      sum_by-cons work_done m [],
      work,
    ) in
    record {
      fits = record {
        some_open = proper.0;
        grouped = group_open m e grouped.1;
        segments = omega (arith, count_read opens start marks, count_by-le-length opens marks, few);
        tasks = omega (
          arith,
          count_read begins_task start marks,
          count_by-le-length begins_task marks,
          few,
        );
        work = omega (arith, all_work);
      };
      work = all_work;
    }

-- the mark that was handed on last can be taken
pub can_take : (before : List Token) (marks : List Mark) (mark : Mark) (reader : MarkReader)
    (meter : Tally)
    → IsReadSoFar before (marks ++ mark ∷ []) reader
    → Tallies meter (last_moment marks)
    → CanTally meter mark
can_take before marks mark reader meter r measures =
    let more = marks ++ mark ∷ [] in
    let s = sound before more reader r in
    let blocks = (state_of reader more).tree.blocks in
    let few : length marks < 2 ^ 63 =
    omega (arith, s.few, s.within.bytes, length-append marks (mark ∷ [])) in
    record {
      moment = last_moment marks;
      tallies = measures;
      fits = fits_next marks (closing blocks) mark (closed blocks more s.behind.open_are)
          (omega (arith, s.work_is, s.within.work)) few;
    }
