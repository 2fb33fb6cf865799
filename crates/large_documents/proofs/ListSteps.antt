-- What is known of a list of changes that is read line by line.
use Rattle.std.proofs.Common.{◌≡◌, ◌+◌, ◌<◌, ◌≤◌, ◌++◌, ◌∙◌, ℕ, List, [], ◌∷◌, length, Option, Some, None}
use Rattle.std.proofs.Common.{ap, sym, refl, arith, drop, get_or, append_assoc, set, sum}
use Rattle.std.specs.Prelude.{option_map}
use Rattle.std.proofs.lemmas.List.{append-nil, drop_all, drop_more}
use Rattle.std.proofs.lemmas.List.Sums.{get_or-le-sum_by, sum_by-set}
use Rattle.command_words.specs.declared.changes.Change.{Change}
use Rattle.dispatch_core.specs.RecordedGraph.{RecordedGraph}
use Rattle.program_text.specs.declared.limits.TheConstants.{MOST_WORK}
use Rattle.whatif_costs.proofs.Refusals.{accepted_inside, accepted_small}
use Rattle.whatif_costs.specs.declared.fault.WhatFault.{WhatFault}
use Rattle.large_documents.specs.ChangeLists.{IsListFault, costs_behind, first_wrong}
use Rattle.large_documents.specs.ChangeLists.{line_says, listed, or_later, refused_with, with_line}
use Rattle.large_documents.specs.ChangeLists.{wrong_from, wrong_with}
use Rattle.large_documents.specs.Listing.{FitsPut, IsFaultOfLine, changes_on}
use Rattle.large_documents.specs.declared.change_list.ChangeLine.{ChangeLine}
use Rattle.large_documents.specs.declared.change_list.ChangeLine.TheVariants.{Blank, Puts}
use Rattle.large_documents.specs.declared.change_list.ListFault.{ListFault}
use Rattle.large_documents.specs.declared.change_list.ListFault.TheVariants.{OutOfMemory, Wrong}
use Rattle.large_documents.specs.declared.change_list.WrongLine.{WrongLine}
use Rattle.large_documents.specs.declared.change_list.WrongLine.TheVariants.{BadForm, Refused}

-- a change that is not refused fits
pub put_fits : (costs : List ℕ) (work : ℕ) (change : Change) → refused_with costs change ≡ None
    → work ≡ sum costs
    → FitsPut costs work change
put_fits costs work change accepted works =
    let s : ℕ = change.segment in
    let graph : RecordedGraph = record { costs = costs; predecessors = [] } in
    let inside : s < length costs = accepted_inside graph s change.cost accepted in
    let total : sum (set costs s change.cost) + get_or costs s 0 ≡ sum costs + change.cost =
    sum_by-set (λ x. x) costs s change.cost 0 inside in
    let within : get_or costs s 0 ≤ sum costs = get_or-le-sum_by (λ x. x) costs s 0 inside in
    let small : sum (set costs s change.cost) ≤ MOST_WORK =
    accepted_small graph s change.cost accepted in
    record {
      inside = inside;
      within = omega (arith, within, works);
      work_after = omega (arith, total, works, within);
      small = omega (arith, total, works, within, small);
    }

-- these changes before others, if there are others
abbrev pub before : List Change → Option (List Change) → Option (List Change)
before changes more = option_map (λ (others : List Change). changes ++ others) more

-- n lines are right: they list these changes, which lead to these costs
pub record AreListed (costs : List ℕ) (lines : List (List ℕ)) (n : ℕ) (changes : List Change)
    (after : List ℕ)
    : Type 0 where
  pub wrong : first_wrong costs lines ≡ wrong_from after n (drop n lines)
  pub all : listed lines ≡ before changes (listed (drop n lines))

none_before : (more : Option (List Change)) → more ≡ before [] more
none_before None = refl
none_before (Some more) = refl

pub none_listed : (costs after : List ℕ) (lines : List (List ℕ)) (changes : List Change)
    → after ≡ costs
    → changes ≡ []
    → AreListed costs lines 0 changes after
none_listed costs after lines changes same none = record {
  wrong = ap (λ (xs : List ℕ). first_wrong xs lines) (sym same);
  all = none_before (listed lines)
      ∙ ap (λ (xs : List Change). before xs (listed lines)) (sym none);
}

-- the lines from the n-th on
from_line : (lines : List (List ℕ)) (n : ℕ) (line : List ℕ)
    → n < length lines
    → get_or lines n [] ≡ line
    → drop n lines ≡ line ∷ drop (n + 1) lines
from_line lines n line inside is =
    drop_more lines n [] inside
    ∙ ap (λ (x : List ℕ). x ∷ drop (n + 1) lines) is

-- the n-th line says so
pub record SaysNext (lines : List (List ℕ)) (n : ℕ) (said : Option ChangeLine) : Type 0 where
  pub line : List ℕ
  pub inside : n < length lines
  pub is : get_or lines n [] ≡ line
  pub says : line_says line ≡ said

wrong_at : (lines : List (List ℕ)) (n : ℕ) (after : List ℕ) (said : Option ChangeLine)
    → SaysNext lines n said
    → wrong_from after n (drop n lines)
    ≡ or_later n (wrong_with after said)
    (wrong_from (costs_behind after said) (n + 1) (drop (n + 1) lines))
wrong_at lines n after said next =
    ap (wrong_from after n) (from_line lines n next.line next.inside next.is)
    ∙ ap (λ (s : Option ChangeLine). or_later n (wrong_with after s)
    (wrong_from (costs_behind after s) (n + 1) (drop (n + 1) lines))) next.says

listed_at : (lines : List (List ℕ)) (n : ℕ) (said : Option ChangeLine)
    → SaysNext lines n said
    → listed (drop n lines) ≡ with_line said (listed (drop (n + 1) lines))
listed_at lines n said next =
    ap listed (from_line lines n next.line next.inside next.is)
    ∙ ap (λ (s : Option ChangeLine). with_line s (listed (drop (n + 1) lines))) next.says

-- the changes of a line follow those before it
joined : (after : List ℕ) (changes : List Change) (said : Option ChangeLine)
    (more : Option (List Change))
    → wrong_with after said ≡ None
    → before changes (with_line said more) ≡ before (changes ++ changes_on said) more
joined after changes None more right = let never : Some BadForm ≡ None = right in absurd (cc)
joined after changes (Some Blank) more right =
    ap (λ (xs : List Change). before xs more) (sym (append-nil changes))
joined after changes (Some (Puts change)) None right = refl
joined after changes (Some (Puts change)) (Some more) right =
    ap (λ (xs : List Change). Some xs) (sym (append_assoc changes (change ∷ []) more))

-- one more line, which is right
pub one_more : (costs after : List ℕ) (lines : List (List ℕ)) (n : ℕ) (changes : List Change)
    (said : Option ChangeLine)
    → SaysNext lines n said
    → AreListed costs lines n changes after
    → wrong_with after said ≡ None
    → AreListed costs lines (n + 1) (changes ++ changes_on said) (costs_behind after said)
one_more costs after lines n changes said next so_far right =
    let behind = wrong_from (costs_behind after said) (n + 1) (drop (n + 1) lines) in
    record {
      wrong = so_far.wrong ∙ wrong_at lines n after said next
          ∙ ap (λ (o : Option WrongLine). or_later n o behind) right;
      all = so_far.all ∙ ap (before changes) (listed_at lines n said next)
          ∙ joined after changes said (listed (drop (n + 1) lines)) right;
    }

-- a line that is wrong
pub wrong_here : (costs after : List ℕ) (lines : List (List ℕ)) (n : ℕ) (changes : List Change)
    (said : Option ChangeLine) (why : WrongLine)
    → SaysNext lines n said
    → AreListed costs lines n changes after
    → wrong_with after said ≡ Some why
    → first_wrong costs lines ≡ Some (n, why)
wrong_here costs after lines n changes said why next so_far is =
    let behind = wrong_from (costs_behind after said) (n + 1) (drop (n + 1) lines) in
    so_far.wrong ∙ wrong_at lines n after said next
    ∙ ap (λ (o : Option WrongLine). or_later n o behind) is

-- its fault is that of the list
pub refused_line : (costs after : List ℕ) (lines : List (List ℕ)) (n : ℕ) (changes : List Change)
    (said : Option ChangeLine) (fault : ListFault)
    → SaysNext lines n said
    → AreListed costs lines n changes after
    → IsFaultOfLine after n said fault
    → IsListFault costs lines fault
refused_line costs after lines n changes said (Wrong i why) next so_far is =
    wrong_here costs after lines n changes said why next so_far is.1
    ∙ ap (λ (k : ℕ). Some (k, why)) (sym is.0)
refused_line costs after lines n changes said OutOfMemory next so_far is = tt

-- all lines are right
pub none_wrong : (costs after : List ℕ) (lines : List (List ℕ)) (n : ℕ) (changes : List Change)
    → length lines ≤ n
    → AreListed costs lines n changes after
    → first_wrong costs lines ≡ None
none_wrong costs after lines n changes past so_far =
    so_far.wrong ∙ ap (wrong_from after n) (drop_all n lines past)

pub all_listed : (costs after : List ℕ) (lines : List (List ℕ)) (n : ℕ) (changes : List Change)
    → length lines ≤ n
    → AreListed costs lines n changes after
    → listed lines ≡ Some changes
all_listed costs after lines n changes past so_far =
    so_far.all
    ∙ ap (λ (rest : List (List ℕ)). before changes (listed rest)) (drop_all n lines past)
    ∙ ap (λ (xs : List Change). Some xs) (append-nil changes)

-- ---- lines that are right list changes

not_refused : (n : ℕ) (refused : Option WhatFault) (later : Option (ℕ × WrongLine))
    → or_later n (option_map Refused refused) later ≡ None → later ≡ None
not_refused n None later right = right
not_refused n (Some why) later right = absurd (cc)

abbrev Lists : List (List ℕ) → Type 0
Lists lines = (changes : List Change) × (listed lines ≡ Some changes)

lists_with : (costs : List ℕ) (n : ℕ) (said : Option ChangeLine) (lines : List (List ℕ))
    → or_later n (wrong_with costs said) (wrong_from (costs_behind costs said) (n + 1) lines) ≡ None
    → ((after : List ℕ) → wrong_from after (n + 1) lines ≡ None → Lists lines)
    → (changes : List Change) × (with_line said (listed lines) ≡ Some changes)
lists_with costs n None lines right later = absurd (cc)
lists_with costs n (Some Blank) lines right later = later costs right
lists_with costs n (Some (Puts change)) lines right later =
    let after = costs_behind costs (Some (Puts change)) in
    let more = later after (not_refused n (refused_with costs change)
    (wrong_from after (n + 1) lines) right) in
    (change ∷ more.0, ap (with_line (Some (Puts change))) more.1)

pub right_lists : (costs : List ℕ) (n : ℕ) (lines : List (List ℕ))
    → wrong_from costs n lines ≡ None
    → (changes : List Change) × (listed lines ≡ Some changes)
right_lists costs n [] right = ([], refl)
right_lists costs n (line ∷ lines) right =
    lists_with costs n (line_says line) lines right
    (λ after none. right_lists after (n + 1) lines none)
