-- Each text of any size has no fault or a first one, and stands for one program.
use Rattle.std.proofs.Common.{◌≡◌, ◌≤◌, ◌∙◌, ℕ, true, false, List, [], length, inl, inr, None, Some}
use Rattle.std.proofs.Common.{Option, Result, Ok, Err, refl, sym, ap, subst}
use Rattle.std.specs.Prelude.{◌⊎◌, nat_lt}
use Rattle.std.proofs.lemmas.Bool.{ltb-false, ltb-true, le-ltb, MatchBool-at_true, MatchBool-at_false}
use Rattle.std.proofs.lemmas.List.Elements.{All-nil, All-push}
use Rattle.program_text.specs.declared.fault.ReadFault.{ReadFault}
use Rattle.program_text.specs.declared.fault.ReadKind.TheVariants.{TooLong}
use Rattle.program_text.specs.declared.limits.TheConstants.{MOST_TEXT_BYTES}
use Rattle.program_text.specs.Tokens.{Token, line_at_end, texts, tokens_of}
use Rattle.program_text.proofs.Bools.{bool_cases}
use Rattle.loop_text.specs.FirstPass.{first_pass, after_header}
use Rattle.loop_text.specs.LoopTokens.{form_fault}
use Rattle.loop_text.specs.Loops.{Tree}
use Rattle.task_program.specs.declared.version.Version.TheVariants.{Two}
use Rattle.task_program.specs.Expanded.{empty_expansion}
use Rattle.task_program.specs.ExpandsTo.{program_of_state, state_after_tree}
use Rattle.task_program.specs.Expansion.{expansion}
use Rattle.task_program.specs.ExpansionFault.{first_fault_by}
use Rattle.task_program.specs.FirstFault.{AreRight, IsFirstFault}
use Rattle.task_program.specs.FirstFault.AreRight.{Nothing, More}
use Rattle.task_program.specs.FirstLoopFault.{loop_rules, IsTreeOf}
use Rattle.task_program.specs.Nested.{IsNested}
use Rattle.task_program.specs.ProgramMarks.{ProgramMarks}
use Rattle.task_program.specs.Versions.{body_of}
use Rattle.task_program.proofs.Blocks.{tree_adds}
use Rattle.task_program.proofs.FirstFaults.{fault_so, no_fault}
use Rattle.task_program.proofs.LoopFaultFound.{refused_so, read_right}
use Rattle.task_program.proofs.LoopFound.{AreFormed, found_tree}
use Rattle.task_program.proofs.LoopOnly.{taken_tree}
use Rattle.large_text.specs.LargeTexts.{HasLargeLoopFault, HasLoopProgram, HasOneLargeReading}
use Rattle.large_text.specs.LargeTexts.{IsLargeFault, IsLargeLoopFault, IsLargeLoopText, IsLargeRight}
use Rattle.large_text.specs.LargeTexts.{StandsForLarge, is_large_two}
use Rattle.large_text.specs.LargeTrees.{HasLargeProgram, IsLargeFirstFault, IsLargeRightWhole}
use Rattle.large_text.specs.LargeTrees.{large_rules, plain_program}
use Rattle.large_text.specs.LoopFaults.{large_fault_of}
use Rattle.large_text.proofs.OneTree.{one_program}
use Rattle.large_text.proofs.ReadingTexts.{at_false, at_true, fault_long, fault_plain, fault_two}
use Rattle.large_text.proofs.Whole.{has_tree, one_fault, right_or_fault}

-- ---- the tree that tokens spell

all_formed : (tokens : List Token) → AreRight loop_rules tokens → AreFormed tokens
all_formed tokens Nothing = All-nil _
all_formed tokens (More before token rights right) =
    All-push (λ (t : Token). form_fault t.text ≡ None) before token (all_formed before rights)
    right.formed

tree_read : (tokens : List Token) (line : ℕ) (tree : Tree)
    → IsTreeOf tokens tree
    → first_pass tokens line after_header ≡ Ok tree
tree_read tokens line tree w =
    taken_tree tokens line tree (all_formed tokens w.whole.right) w.spelled

same_tree : (tokens : List Token) (one other : Tree)
    → IsTreeOf tokens one
    → IsTreeOf tokens other
    → one ≡ other
same_tree tokens one other h g =
    let first = tree_read tokens 1 one h in
    let second = tree_read tokens 1 other g in
    let both : Ok one ≡ Ok other = sym first ∙ second in
    cc

-- they have one or a first fault
tree_or_fault : (tokens : List Token) (line : ℕ)
    → ((tree : Tree) × IsTreeOf tokens tree)
    ⊎ ((fault : ReadFault) × IsFirstFault loop_rules tokens line fault)
tree_or_fault tokens line = by (first_pass tokens line after_header) refl
  where
    by : (read : Result Tree ReadFault) → first_pass tokens line after_header ≡ read
        → ((tree : Tree) × IsTreeOf tokens tree)
        ⊎ ((fault : ReadFault) × IsFirstFault loop_rules tokens line fault)
    by (Ok tree) h = inl (
      tree,
      record {
        whole = read_right tokens line tree h;
        spelled = (found_tree tokens line tree h).1;
      },
    )
    by (Err fault) h = inr (fault, (refused_so tokens line fault).0 h)

not_both : (tokens : List Token) (line : ℕ) (tree : Tree) (fault : ReadFault)
    → IsTreeOf tokens tree
    → IsFirstFault loop_rules tokens line fault
    → ⊥
not_both tokens line tree fault h first = no_fault loop_rules tokens line fault first h.whole

one_first : (tokens : List Token) (line : ℕ) (one other : ReadFault)
    → IsFirstFault loop_rules tokens line one
    → IsFirstFault loop_rules tokens line other
    → one ≡ other
one_first tokens line one other h g =
    let first = (refused_so tokens line one).1 h in
    let second = (refused_so tokens line other).1 g in
    let both : Err one ≡ Err other = sym first ∙ second in
    cc

pub tree_nested : (tree : Tree) → IsNested (state_after_tree tree).tree.marks
tree_nested tree =
    let adds = tree_adds tree [] false empty_expansion in
    subst IsNested (sym adds.marks_are) adds.nested

-- ---- a text of version 2 that is short enough

abbrev first_fault : Tree → Option ReadFault
first_fault tree = first_fault_by large_fault_of empty_expansion (expansion [] false tree)

right_or_fault_two : (text : List ℕ) → length text ≤ MOST_TEXT_BYTES
    → ((tree : Tree) × IsLargeLoopText text tree) ⊎ ((fault : ReadFault) × HasLargeLoopFault text fault)
right_or_fault_two text few = by (tree_or_fault (body_of text) (line_at_end 1 text))
  where
    expands : (tree : Tree) → IsTreeOf (body_of text) tree → (found : Option ReadFault)
        → first_fault tree ≡ found
        → ((tree : Tree) × IsLargeLoopText text tree)
        ⊎ ((fault : ReadFault) × HasLargeLoopFault text fault)
    expands tree whole None is =
        inl (tree, record { fits = few; whole = whole; expands = is })
    expands tree whole (Some fault) is = inr (fault, inr (tree, whole, is))

    by : ((tree : Tree) × IsTreeOf (body_of text) tree)
        ⊎ ((fault : ReadFault) × IsFirstFault loop_rules (body_of text) (line_at_end 1 text) fault)
        → ((tree : Tree) × IsLargeLoopText text tree)
        ⊎ ((fault : ReadFault) × HasLargeLoopFault text fault)
    by (inl found) = expands found.0 found.1 (first_fault found.0) refl
    by (inr found) = inr (found.0, inl found.1)

never_two : (text : List ℕ) (tree : Tree) (fault : ReadFault)
    → IsLargeLoopText text tree
    → HasLargeLoopFault text fault
    → ⊥
never_two text tree fault right (inl first) =
    not_both (body_of text) (line_at_end 1 text) tree fault right.whole first
never_two text tree fault right (inr (other, whole, is)) =
    let same = same_tree (body_of text) tree other right.whole whole in
    let none : first_fault other ≡ None = subst (λ (t : Tree). first_fault t ≡ None) same right.expands in
    absurd cc

one_two : (text : List ℕ) (one other : ReadFault)
    → HasLargeLoopFault text one
    → HasLargeLoopFault text other
    → one ≡ other
one_two text one other (inl h) (inl g) =
    one_first (body_of text) (line_at_end 1 text) one other h g
one_two text one other (inl h) (inr (tree, whole, is)) =
    absurd (not_both (body_of text) (line_at_end 1 text) tree one whole h)
one_two text one other (inr (tree, whole, is)) (inl g) =
    absurd (not_both (body_of text) (line_at_end 1 text) tree other whole g)
one_two text one other (inr (tree, whole, is)) (inr (another, also, so)) =
    let same = same_tree (body_of text) tree another whole also in
    let first : first_fault another ≡ Some one = subst (λ (t : Tree). first_fault t ≡ Some one) same is in
    cc

one_loop_program : (text : List ℕ) (one other : ProgramMarks)
    → HasLoopProgram text one
    → HasLoopProgram text other
    → one ≡ other
one_loop_program text one other h g =
    h.program_is
    ∙ ap (λ (t : Tree). program_of_state Two (state_after_tree t))
    (same_tree (body_of text) h.tree g.tree h.whole g.whole)
    ∙ sym g.program_is

-- ---- any text of version 2

long_or_not : (text : List ℕ) (fault : ReadFault)
    → is_large_two text ≡ true
    → IsLargeFault text fault
    → IsLargeLoopFault text fault
long_or_not text fault two h =
    MatchBool-at_true (IsLargeLoopFault text fault)
    (IsLargeFirstFault (tokens_of text) (line_at_end 1 text) fault) two h

is_short : (text : List ℕ) (fault : ReadFault)
    → is_large_two text ≡ true
    → nat_lt MOST_TEXT_BYTES (length text) ≡ false
    → IsLargeFault text fault
    → HasLargeLoopFault text fault
is_short text fault two short h =
    MatchBool-at_false (fault ≡ fault_so TooLong 1) (HasLargeLoopFault text fault) short
    (long_or_not text fault two h)

is_long : (text : List ℕ) (fault : ReadFault)
    → is_large_two text ≡ true
    → nat_lt MOST_TEXT_BYTES (length text) ≡ true
    → IsLargeFault text fault
    → fault ≡ fault_so TooLong 1
is_long text fault two long h =
    MatchBool-at_true (fault ≡ fault_so TooLong 1) (HasLargeLoopFault text fault) long
    (long_or_not text fault two h)

tree_of : (text : List ℕ) → is_large_two text ≡ true → IsLargeRight text
    → (tree : Tree) × IsLargeLoopText text tree
tree_of text two right =
    MatchBool-at_true ((tree : Tree) × IsLargeLoopText text tree)
    (IsLargeRightWhole (tokens_of text)) two right

some_two : (text : List ℕ) → is_large_two text ≡ true
    → IsLargeRight text ⊎ ((fault : ReadFault) × IsLargeFault text fault)
some_two text two =
    bool_cases (nat_lt MOST_TEXT_BYTES (length text))
    (λ long. inr (fault_so TooLong 1, fault_long text two (ltb-true MOST_TEXT_BYTES (length text) long)))
    (λ short. let few = ltb-false MOST_TEXT_BYTES (length text) short in
    by few (right_or_fault_two text few))
  where
    by : length text ≤ MOST_TEXT_BYTES
        → ((tree : Tree) × IsLargeLoopText text tree)
        ⊎ ((fault : ReadFault) × HasLargeLoopFault text fault)
        → IsLargeRight text ⊎ ((fault : ReadFault) × IsLargeFault text fault)
    by few (inl right) = inl (at_true ((tree : Tree) × IsLargeLoopText text tree)
        (IsLargeRightWhole (tokens_of text)) two right)
    by few (inr (fault, h)) = inr (fault, fault_two text fault two few h)

one_fault_two : (text : List ℕ) (one other : ReadFault)
    → is_large_two text ≡ true
    → IsLargeFault text one
    → IsLargeFault text other
    → one ≡ other
one_fault_two text one other two h g =
    bool_cases (nat_lt MOST_TEXT_BYTES (length text))
    (λ long. is_long text one two long h ∙ sym (is_long text other two long g))
    (λ short. one_two text one other (is_short text one two short h)
    (is_short text other two short g))

reading_two : (text : List ℕ) → is_large_two text ≡ true → HasOneLargeReading text
reading_two text two = record {
  some = some_two text two;
  never_both = λ right fault h.
      let found = tree_of text two right in
      never_two text found.0 fault found.1
      (is_short text fault two (le-ltb MOST_TEXT_BYTES (length text) found.1.fits) h);
  one = λ fault other h g. one_fault_two text fault other two h g;
  program = λ right.
      let found = tree_of text two right in
      let program = program_of_state Two (state_after_tree found.0) in (
        program,
        at_true (HasLoopProgram text program) (HasLargeProgram (texts (tokens_of text)) program) two
            (record {
              tree = found.0;
              whole = found.1.whole;
              program_is = refl;
              nested = tree_nested found.0;
            }),
      );
  one_program = λ program other h g. one_loop_program text program other
      (MatchBool-at_true (HasLoopProgram text program)
      (HasLargeProgram (texts (tokens_of text)) program) two h)
      (MatchBool-at_true (HasLoopProgram text other)
      (HasLargeProgram (texts (tokens_of text)) other) two g);
}

-- ---- a text of version 1

plain_fault : (text : List ℕ) (fault : ReadFault)
    → is_large_two text ≡ false
    → IsLargeFault text fault
    → IsLargeFirstFault (tokens_of text) (line_at_end 1 text) fault
plain_fault text fault one h =
    MatchBool-at_false (IsLargeLoopFault text fault)
    (IsLargeFirstFault (tokens_of text) (line_at_end 1 text) fault) one h

plain_right : (text : List ℕ) → is_large_two text ≡ false → IsLargeRight text
    → IsLargeRightWhole (tokens_of text)
plain_right text one right =
    MatchBool-at_false ((tree : Tree) × IsLargeLoopText text tree)
    (IsLargeRightWhole (tokens_of text)) one right

plain_stands : (text : List ℕ) (program : ProgramMarks) → is_large_two text ≡ false
    → StandsForLarge text program
    → HasLargeProgram (texts (tokens_of text)) program
plain_stands text program one h =
    MatchBool-at_false (HasLoopProgram text program)
    (HasLargeProgram (texts (tokens_of text)) program) one h

some_plain : (text : List ℕ) → is_large_two text ≡ false
    → IsLargeRight text ⊎ ((fault : ReadFault) × IsLargeFault text fault)
some_plain text one = by (right_or_fault (tokens_of text) (line_at_end 1 text))
  where
    by : IsLargeRightWhole (tokens_of text)
        ⊎ ((fault : ReadFault) × IsLargeFirstFault (tokens_of text) (line_at_end 1 text) fault)
        → IsLargeRight text ⊎ ((fault : ReadFault) × IsLargeFault text fault)
    by (inl right) = inl (at_false ((tree : Tree) × IsLargeLoopText text tree)
        (IsLargeRightWhole (tokens_of text)) one right)
    by (inr (fault, h)) = inr (fault, fault_plain text fault one h)

reading_plain : (text : List ℕ) → is_large_two text ≡ false → HasOneLargeReading text
reading_plain text one = record {
  some = some_plain text one;
  never_both = λ right fault h. no_fault large_rules (tokens_of text) (line_at_end 1 text) fault
      (plain_fault text fault one h) (plain_right text one right);
  one = λ fault other h g. one_fault (tokens_of text) (line_at_end 1 text) fault other
      (plain_fault text fault one h) (plain_fault text other one g);
  program = λ right.
      let found = has_tree (tokens_of text) (plain_right text one right) in
      let program = plain_program (state_after_tree found.1.tree).names found.0 in (
        program,
        at_false (HasLoopProgram text program) (HasLargeProgram (texts (tokens_of text)) program) one
            (record { tree = found.1; program_is = refl }),
      );
  one_program = λ program other h g. one_program (texts (tokens_of text)) program other
      (plain_stands text program one h) (plain_stands text other one g);
}

pub one_reading : (text : List ℕ) → HasOneLargeReading text
one_reading text =
    bool_cases (is_large_two text) (λ two. reading_two text two) (λ one. reading_plain text one)
