-- There is a report on a list of changes, and no two.
use Rattle.std.proofs.Common.{◌≡◌, ◌∙◌, ℕ, List, [], Option, Some, None, ap, inl, inr, refl, subst, sym}
use Rattle.command_words.specs.declared.changes.Change.{Change}
use Rattle.dispatch_core.proofs.SomeGraph.{IsWhole}
use Rattle.program_text.specs.Document.{lines_of}
use Rattle.program_text.specs.Marks.{Mark}
use Rattle.task_program.specs.ProgramMarks.{ProgramMarks}
use Rattle.task_program.specs.declared.version.Version.TheVariants.{One}
use Rattle.task_segments.specs.Table.{costs_of, table_of}
use Rattle.spanprof_command.proofs.OneOfGraphs.{one_trial}
use Rattle.spanprof_command.proofs.SomeReport.{some_trial}
use Rattle.spanprof_command.specs.Report.{Report}
use Rattle.spanprof_command.specs.Trials.{TriesChanges}
use Rattle.large_documents.specs.AccountReports.{at_line}
use Rattle.large_documents.specs.ChangeLists.{first_wrong}
use Rattle.large_documents.specs.Times.{ended}
use Rattle.large_documents.specs.ListReports.{SaysOfList, word_of}
use Rattle.large_documents.specs.declared.change_list.WrongLine.{WrongLine}
use Rattle.large_documents.proofs.ListSteps.{right_lists}

-- a program with these marks
abbrev program_of : List Mark → ProgramMarks
program_of marks = record { version = One; marks = marks; names = [] }

same_changes : (read : Option (List Change)) (a b : List Change) → read ≡ Some a → read ≡ Some b
    → a ≡ b
same_changes read a b h g = cc

same_place : (read : Option (ℕ × WrongLine)) (a b : ℕ × WrongLine) → read ≡ Some a
    → read ≡ Some b
    → a ≡ b
same_place read a b h g = cc

not_both : {P : Type 0} (read : Option (ℕ × WrongLine)) (a : ℕ × WrongLine) → read ≡ None
    → read ≡ Some a
    → P
not_both read a h g = let never : None ≡ Some a = sym h ∙ g in absurd (cc)

pub one_list : (program rest : List ℕ) (marks : List Mark) (one other : Report)
    → SaysOfList program rest (table_of marks) one
    → SaysOfList program rest (table_of marks) other
    → one ≡ other
one_list program rest marks one other (inl a) (inl b) =
    let same = same_changes _ b.changes a.changes b.are_listed a.are_listed in
    one_trial a.changes (program_of marks) one other a.tries
    (subst (λ (changes : List Change). TriesChanges changes (table_of marks) other) same b.tries)
one_list program rest marks one other (inl a) (inr b) =
    not_both _ (b.line, b.why) a.right b.is_first
one_list program rest marks one other (inr a) (inl b) =
    not_both _ (a.line, a.why) b.right a.is_first
one_list program rest marks one other (inr a) (inr b) =
    let same = same_place _ (a.line, a.why) (b.line, b.why) a.is_first b.is_first in
    a.says ∙ ap (λ (found : ℕ × WrongLine). at_line (ended program) found.0 (word_of found.1)) same
    ∙ sym b.says

told : (program rest : List ℕ) (marks : List Mark) (wrong : Option (ℕ × WrongLine))
    → IsWhole (table_of marks)
    → first_wrong (costs_of (table_of marks)) (lines_of rest) ≡ wrong
    → (output : Report) × SaysOfList program rest (table_of marks) output
told program rest marks None whole is =
    let changes = right_lists (costs_of (table_of marks)) 0 (lines_of rest) is in
    let tried = some_trial changes.0 (program_of marks) whole in (
      tried.0,
      inl (record {
        right = is;
        changes = changes.0;
        are_listed = changes.1;
        tries = tried.1;
      }),
    )
told program rest marks (Some (line, why)) whole is = (
  at_line (ended program) line (word_of why),
  inr (record { line = line; why = why; is_first = is; says = refl }),
)

pub some_list : (program rest : List ℕ) (marks : List Mark) → IsWhole (table_of marks)
    → (output : Report) × SaysOfList program rest (table_of marks) output
some_list program rest marks whole =
    told program rest marks (first_wrong (costs_of (table_of marks)) (lines_of rest)) whole refl
