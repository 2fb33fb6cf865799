-- What the meter has taken of the statements of a program.
use Rattle.std.proofs.Common.{◌≡◌, ℕ, false, cond, List, [], ◌∷◌, ◌++◌, length, drop, sym}
use Rattle.std.proofs.Common.{ap, subst, ◌∙◌, arith}
use Rattle.std.specs.List.{count_by}
use Rattle.program_text.specs.declared.statement.TaskStmt.{TaskStmt}
use Rattle.task_program.specs.Limits.{work_done, work_of}
use Rattle.task_program.specs.Marks.{Mark}
use Rattle.task_program.specs.Marks.Mark.{Begins, Ends, GroupBegins, GroupEnds}
use Rattle.task_segments.specs.Moments.{begins_task, opens}
use Rattle.task_segments.specs.Moments.{open_tasks, open_groups, moment_after}
use Rattle.task_segments.proofs.LastMoment.{moment_after-append}
use Rattle.task_segments.proofs.Walks.{grows}
use Rattle.task_segments.specs.MarksTable.{IsReading}
use Rattle.online_span.specs.declared.meter.Meter.{Meter}
use Rattle.online_span.specs.Measuring.{Measures, CanTake}
use Rattle.task_segments.specs.Cutting.{task_marks, group_marks}
use Rattle.online_span.specs.Taking.{HasRoom, HasTaken}

-- what is taken in two parts
pub taken_more : (old new : Meter) (e xs ys : List Mark)
    → HasTaken old e xs
    → HasTaken new (moment_after e xs) ys
    → HasTaken new e (xs ++ ys)
taken_more old new e xs ys a b =
    let same = moment_after-append xs ys e in
    record {
      measures = subst (Measures new) (sym same) b.measures;
      tasks = ap open_tasks same ∙ b.tasks ∙ a.tasks;
      groups = ap open_groups same ∙ b.groups ∙ a.groups;
    }

-- room for a part of the marks, once those before it are taken
pub room_within : (old new : Meter) (whole : List Mark) (h : HasRoom old whole)
    (xs ys zs : List Mark)
    → whole ≡ xs ++ (ys ++ zs)
    → Measures new (moment_after h.moment xs)
    → HasRoom new ys
room_within old new whole h xs ys zs is k = record {
  moment = moment_after h.moment xs;
  measures = k;
  segments = omega (
    arith,
    h.segments,
    grows (λ x. cond (opens x) 1 0) h.moment whole xs ys zs is,
  );
  tasks = omega (
    arith,
    h.tasks,
    grows (λ x. cond (begins_task x) 1 0) h.moment whole xs ys zs is,
  );
  work = omega (arith, h.work, grows work_done h.moment whole xs ys zs is);
}

abbrev pub begins : TaskStmt → Mark
begins statement = Begins statement.undeferred statement.items

-- where a task has been taken up to its end, its end can be taken
pub task_ends : (old new : Meter) (task : TaskStmt) (h : HasRoom old (task_marks task))
    (marks : List Mark)
    → marks ≡ task.body
    → HasTaken new (begins task ∷ h.moment) marks
    → CanTake new Ends
unfolding room_within
task_ends old new task h marks is k =
    let e = moment_after (begins task ∷ h.moment) marks in
    let room = room_within old new (task_marks task) h (begins task ∷ marks) (Ends ∷ []) []
    (ap (λ (xs : List Mark). begins task ∷ (xs ++ Ends ∷ [])) (sym is)) k.measures in
    let one_open = h.measures.some_open in
    record {
      moment = e;
      measures = k.measures;
      fits = record {
        some_open = omega (arith, ap (λ (xs : List ℕ). length xs) k.tasks);
        grouped = omega arith;
        segments = omega (arith, room.segments);
        tasks = omega (arith, room.tasks);
        work = omega (arith, room.work);
      };
    }

-- and then all of it is taken
pub task_taken : (old new : Meter) (task : TaskStmt) (e marks : List Mark)
    → marks ≡ task.body
    → HasTaken old (begins task ∷ e) marks
    → Measures new (Ends ∷ moment_after (begins task ∷ e) marks)
    → HasTaken new e (task_marks task)
task_taken old new task e marks is k m =
    let path : Ends ∷ moment_after (begins task ∷ e) marks ≡ moment_after e (task_marks task) =
    sym (moment_after-append marks (Ends ∷ []) (begins task ∷ e))
    ∙ ap (λ (xs : List Mark). moment_after (begins task ∷ e) (xs ++ Ends ∷ [])) is in
    record {
      measures = subst (Measures new) path m;
      tasks = ap open_tasks (sym path) ∙ ap (λ (xs : List ℕ). drop 1 xs) k.tasks;
      groups = ap open_groups (sym path) ∙ k.groups;
    }

-- the same of a group
pub group_ends : (old new : Meter) (body : List Mark) (h : HasRoom old (group_marks body))
    (marks : List Mark)
    → marks ≡ body
    → HasTaken new (GroupBegins ∷ h.moment) marks
    → CanTake new GroupEnds
unfolding room_within
group_ends old new body h marks is k =
    let e = moment_after (GroupBegins ∷ h.moment) marks in
    let room = room_within old new (group_marks body) h (GroupBegins ∷ marks) (GroupEnds ∷ []) []
    (ap (λ (xs : List Mark). GroupBegins ∷ (xs ++ GroupEnds ∷ [])) (sym is)) k.measures in
    record {
      moment = e;
      measures = k.measures;
      fits = record {
        some_open = k.measures.some_open;
        grouped = omega (arith, ap (λ xs. length xs) k.groups);
        segments = omega (arith, room.segments);
        tasks = omega (arith, room.tasks);
        work = omega (arith, room.work);
      };
    }

pub group_taken : (old new : Meter) (body e marks : List Mark)
    → marks ≡ body
    → HasTaken old (GroupBegins ∷ e) marks
    → Measures new (GroupEnds ∷ moment_after (GroupBegins ∷ e) marks)
    → HasTaken new e (group_marks body)
group_taken old new body e marks is k m =
    let path : GroupEnds ∷ moment_after (GroupBegins ∷ e) marks
    ≡ moment_after e (group_marks body) =
    sym (moment_after-append marks (GroupEnds ∷ []) (GroupBegins ∷ e))
    ∙ ap (λ (xs : List Mark). moment_after (GroupBegins ∷ e) (xs ++ GroupEnds ∷ [])) is in
    record {
      measures = subst (Measures new) path m;
      tasks = ap open_tasks (sym path) ∙ k.tasks;
      groups = ap open_groups (sym path) ∙ ap (drop 1) k.groups;
    }

-- a program's marks fit, from the beginning of its root
pub can_start : (meter : Meter) (body marks : List Mark) → IsReading body → marks ≡ body
    → Measures meter (Begins false [] ∷ [])
    → HasRoom meter marks
can_start meter body marks read is k = record {
  moment = Begins false [] ∷ [];
  measures = k;
  segments = omega (arith, read.segments, ap (λ (xs : List Mark). count_by opens xs) is);
  tasks = omega (arith, read.tasks, ap (λ (xs : List Mark). count_by begins_task xs) is);
  work = omega (arith, read.work, ap work_of is);
}
