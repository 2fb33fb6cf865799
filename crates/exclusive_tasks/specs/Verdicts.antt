-- The verdict on a log, and its words.
use Rattle.std.specs.Prelude.{ℕ, ◌++◌, ◌∷◌, [], List, length, codes}
use Rattle.std.specs.Fmt.{decimal}
use Rattle.exclusive_tasks.specs.Exclusion.{AreApart, IsFirstOverlap}
use Rattle.exclusive_tasks.specs.Lines.{AreRightBefore, IsFirstWrong, claims_told, events_told}
use Rattle.exclusive_tasks.specs.declared.claim.Overlap.{Overlap}
use Rattle.exclusive_tasks.specs.declared.verdict.Verdict.{Verdict}
use Rattle.exclusive_tasks.specs.declared.verdict.Verdict.TheVariants.{Apart, Overlapping, BadForm}

-- all lines are right, and the tasks in them were apart, or two of them were not; or a line
-- is wrong
abbrev pub IsVerdict : List (List ℕ) → Verdict → Type 0
IsVerdict lines Apart = AreRightBefore lines (length lines)
    × AreApart (claims_told lines) (events_told lines)
IsVerdict lines (Overlapping overlap) = AreRightBefore lines (length lines)
    × IsFirstOverlap (claims_told lines) (events_told lines) overlap
IsVerdict lines (BadForm line) = IsFirstWrong lines line

abbrev pub overlap_text : Overlap → List ℕ
overlap_text overlap = codes "overlap " ++ (decimal overlap.event ++ 32 ∷ (decimal overlap.begins
    ++ 32 ∷ (decimal overlap.under_way ++ 10 ∷ [])))

abbrev pub verdict_text : Verdict → List ℕ
verdict_text Apart = codes "apart" ++ 10 ∷ []
verdict_text (Overlapping overlap) = overlap_text overlap
verdict_text (BadForm line) = codes "error: line " ++ (decimal line ++ (codes ": BadForm" ++ 10 ∷ []))
