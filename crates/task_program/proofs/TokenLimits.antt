-- There are too many tasks or segments with a token where it is one too many for those before.
use Rattle.std.proofs.Common.{◌≡◌, ℕ, ◌+◌, ◌≤◌, Bool, true, false, cond, List, [], ◌∷◌, ◌++◌}
use Rattle.std.proofs.Common.{Some, None, refl, sym, ◌∙◌, arith, codes}
use Rattle.std.specs.Prelude.{nat_lt, nat_le}
use Rattle.std.proofs.lemmas.Bool.{le-ltb, lt-ltb, leb-true, leb-false}
use Rattle.std.proofs.Math.Bool.{or-false}
use Rattle.program_text.specs.declared.fault.ReadKind.TheVariants.{TooManyTasks, TooManySegments}
use Rattle.program_text.specs.declared.limits.TheConstants.{MOST_TASKS, MOST_SEGMENTS}
use Rattle.program_text.specs.Tokens.{Token, texts}
use Rattle.program_text.specs.Words.{is_text}
use Rattle.task_program.specs.TokenCounts.{is_inside, is_waiting, tasks_by, segments_by, tasks_in}
use Rattle.task_program.specs.TokenCounts.{segments_in, too_many_after}
use Rattle.task_program.proofs.FoundPlaces.{same_text}
use Rattle.task_program.proofs.Tallies.{is_task_past, is_segment_past, too_many_with, sum_more}
use Rattle.program_text.proofs.Bools.{bool_cases}

one_more : (tasks : ℕ) → nat_lt MOST_TASKS (tasks + 1) ≡ nat_le MOST_TASKS tasks
one_more tasks =
    bool_cases (nat_le MOST_TASKS tasks)
    (λ full. lt-ltb MOST_TASKS (tasks + 1) (omega (arith, leb-true MOST_TASKS tasks full))
    ∙ sym full)
    (λ room. le-ltb MOST_TASKS (tasks + 1) (omega (arith, leb-false MOST_TASKS tasks room))
    ∙ sym room)

task_row : (inside : Bool) (tasks : ℕ) (text : List ℕ) → tasks ≤ MOST_TASKS
    → nat_lt MOST_TASKS (tasks + cond inside 0 (tasks_by text)) ≡ is_task_past inside tasks text
task_row true tasks text few = le-ltb MOST_TASKS (tasks + 0) (omega (arith, few))
task_row false tasks text few =
    bool_cases (is_text text (codes "task"))
    (λ task. rw task (one_more tasks))
    (λ other. rw other (le-ltb MOST_TASKS (tasks + 0) (omega (arith, few))))

segment_row : (inside : Bool) (segments : ℕ) (text : List ℕ) → segments ≤ MOST_SEGMENTS
    → nat_lt MOST_SEGMENTS (segments + cond inside 0 (segments_by text))
    ≡ is_segment_past inside segments text
segment_row true segments text few = le-ltb MOST_SEGMENTS (segments + 0) (omega (arith, few))
segment_row false segments text few =
    bool_cases (is_text text (codes "task"))
    (λ task. rw (same_text text (codes "task") task)
    (sym (or-false (nat_lt MOST_SEGMENTS (segments + 2)))))
    (λ no_task. bool_cases (is_waiting text)
    (λ waiting. rw (no_task, waiting) refl)
    (λ other. rw (no_task, other) (le-ltb MOST_SEGMENTS (segments + 0) (omega (arith, few)))))

same_rows : (task task' segment segment' : Bool)
    → task ≡ task'
    → segment ≡ segment'
    → cond task (Some TooManyTasks) (cond segment (Some TooManySegments) None)
    ≡ cond task' (Some TooManyTasks) (cond segment' (Some TooManySegments) None)
same_rows task task' segment segment' a b = rw (a, b) refl

pub too_many_so : (body : List Token) (text : List ℕ)
    → tasks_in (texts body) ≤ MOST_TASKS
    → segments_in (texts body) ≤ MOST_SEGMENTS
    → too_many_after body text ≡ too_many_with (texts body) text
too_many_so body text few_tasks few_segments =
    let before = texts body in
    let inside = is_inside before in
    let segments : segments_in (before ++ text ∷ [])
    ≡ segments_in before + cond inside 0 (segments_by text) =
    omega (arith, sum_more segments_by before text) in
    same_rows (nat_lt MOST_TASKS (tasks_in (before ++ text ∷ [])))
    (is_task_past inside (tasks_in before) text)
    (nat_lt MOST_SEGMENTS (segments_in (before ++ text ∷ [])))
    (is_segment_past inside (segments_in before) text)
    (rw (sum_more tasks_by before text) (task_row inside (tasks_in before) text few_tasks))
    (rw segments (segment_row inside (segments_in before) text few_segments))
