-- Out of memory: it has line 0, and no text has it as its first fault.
use Rattle.std.proofs.Common.{◌≡◌, ℕ, Bool, true, false, List, length, drop, Option}
use Rattle.std.proofs.Common.{Result, Ok, Err, [], refl, ap}
use Rattle.std.specs.Prelude.{IfErr, MatchBool, sum_by}
use Rattle.program_text.specs.declared.fault.ReadKind.{ReadKind}
use Rattle.program_text.specs.declared.fault.ReadKind.TheVariants.{OutOfMemory}
use Rattle.program_text.specs.declared.fault.ReadFault.{ReadFault}
use Rattle.program_text.specs.Answers.{Gives, is_memory}
use Rattle.program_text.specs.Marks.{Mark}
use Rattle.program_text.specs.Tokens.{Token, texts}
use Rattle.task_program.specs.FirstFault.{Rules, EndsEarly, IsMisplaced, IsWrong}
use Rattle.task_program.specs.FirstFault.EndsEarly.{InHeader, BlockOpen, Inside}
use Rattle.task_program.specs.FirstFault.IsFirstFault.{AtToken, AtEnd}
use Rattle.task_program.specs.FirstFault.IsMisplaced.{OfHeader, AfterWhole, Elsewhere}
use Rattle.task_program.specs.FirstFault.IsWrong.{ByItself, Misplaced, PastLimit}
use Rattle.task_program.specs.TokenCounts.{is_inside, items_in, open_braces, work_in}
use Rattle.large_text.specs.declared.marks.TextMark.{TextMark}
use Rattle.large_text.specs.declared.reader.MarkReader.{MarkReader}
use Rattle.large_text.specs.LargeReading.{state_of, marks_after, large_step}
use Rattle.large_text.specs.LargeTrees.{all_items_in, large_rules, IsLargeFirstFault}
use Rattle.large_text.proofs.Taken.{form_no_memory, limit_no_memory}

-- ---- at a token

line_by : (memory : Bool) (line : ℕ) (P : Type 0)
    → memory ≡ true
    → MatchBool memory (line ≡ 0) P
    → line ≡ 0
line_by true line P is h = h
line_by false line P is h = absurd cc

pub line_at_token : (result : Result (Option TextMark) ReadFault) (old new : MarkReader)
    (token : Token)
    → ((marks : List Mark)
    → Gives (λ mark. state_of new (marks_after marks mark)) result
    (large_step old.work old.all_items (state_of old marks) token))
    → IfErr result (λ fault. fault.kind ≡ OutOfMemory → fault.line ≡ 0)
line_at_token (Ok mark) old new token step = tt
line_at_token (Err fault) old new token step = λ is.
    line_by (is_memory fault.kind) fault.line _ (ap is_memory is) (step [])

-- ---- the first fault

misplaced_no_memory : (rules : Rules) (before : List (List ℕ)) (text : List ℕ) (kind : ReadKind)
    → IsMisplaced rules before text kind
    → is_memory kind ≡ false
misplaced_no_memory rules before text _ (OfHeader few) = refl
misplaced_no_memory rules before text _ (AfterWhole whole is) = refl
misplaced_no_memory rules before text _ (Elsewhere many other) = refl

wrong_no_memory : (before : List Token) (text : List ℕ) (kind : ReadKind)
    → IsWrong large_rules before text kind
    → is_memory kind ≡ false
wrong_no_memory before text kind (ByItself h) =
    form_no_memory (sum_by length (texts before)) text kind h
wrong_no_memory before text kind (Misplaced formed none h) =
    misplaced_no_memory large_rules (texts before) text kind h
wrong_no_memory before text kind (PastLimit formed viable h) =
    let body = drop 2 before in
    limit_no_memory (is_inside (texts body)) (work_in (texts body)) (all_items_in (texts body))
    (items_in (texts body)) (length (open_braces body)) text kind h

early_no_memory : (rules : Rules) (all : List Token) (end_line : ℕ) (fault : ReadFault)
    → EndsEarly rules all end_line fault
    → is_memory fault.kind ≡ false
early_no_memory rules all end_line _ (InHeader few) = refl
early_no_memory rules all end_line _ (BlockOpen line others viable is) = refl
early_no_memory rules all end_line _ (Inside many none) = refl

first_no_memory : (tokens : List Token) (end_line : ℕ) (fault : ReadFault)
    → IsLargeFirstFault tokens end_line fault
    → is_memory fault.kind ≡ false
first_no_memory _ _ _ (AtToken before later token end_line kind right wrong) =
    wrong_no_memory before token.text kind wrong
first_no_memory _ _ _ (AtEnd tokens end_line fault right unfinished early) =
    early_no_memory large_rules tokens end_line fault early

-- so what is said of out of memory holds of every first fault
pub line_of_first : (tokens : List Token) (end_line : ℕ) (fault : ReadFault)
    → IsLargeFirstFault tokens end_line fault
    → fault.kind ≡ OutOfMemory
    → fault.line ≡ 0
line_of_first tokens end_line fault h is =
    let quiet = first_no_memory tokens end_line fault h in
    let loud : is_memory fault.kind ≡ true = ap is_memory is in
    absurd cc
