-- A text of version 2 that has a fault by the definition is refused with it, and with no other.
use Rattle.std.proofs.Common.{◌≡◌, ℕ, Bool, true, false, List, length, inl, inr}
use Rattle.std.proofs.Common.{None, Result, Ok, Err, refl, sym, ap}
use Rattle.std.proofs.Common.{subst, ◌∙◌, arith}
use Rattle.std.specs.Prelude.{nat_lt, MatchBool}
use Rattle.std.proofs.lemmas.Bool.{ltb-true, ltb-false, MatchBool-at_true, MatchBool-at_false}
use Rattle.program_text.specs.declared.fault.ReadKind.TheVariants.{TooLong}
use Rattle.program_text.specs.declared.fault.ReadFault.{ReadFault}
use Rattle.program_text.specs.declared.limits.TheConstants.{MOST_TEXT_BYTES}
use Rattle.program_text.specs.Tokens.{Token, tokens_of, line_at_end}
use Rattle.loop_text.specs.Loops.{Tree}
use Rattle.loop_text.specs.FirstPass.{first_pass, after_header}
use Rattle.loop_text.specs.LoopTokens.{form_fault}
use Rattle.task_program.specs.ReadInVersion.{then_second, two_passes}
use Rattle.task_program.specs.Versions.{begins_version_two}
use Rattle.task_program.specs.ReadInVersion.{program_of}
use Rattle.task_program.specs.Grammar.{IsSpelled}
use Rattle.task_program.specs.FirstFault.{AreRight, AreRightWhole}
use Rattle.task_program.specs.FirstFault.AreRight.{Nothing, More}
use Rattle.task_program.specs.Versions.{body_of}
use Rattle.task_program.specs.FirstLoopFault.{loop_rules, IsTreeOf, HasLoopFault}
use Rattle.task_program.proofs.MachineFaults.{IsToldInLoops, LoopFaultIsFirst}
use Rattle.std.proofs.lemmas.List.Elements.{All-nil, All-push}
use Rattle.task_program.proofs.ReadWhole.{of_two, went_through, too_long, same_fault, refused_with}
use Rattle.task_program.proofs.ReadWhole.{short_words}
use Rattle.task_program.proofs.LoopFound.{AreFormed, found_tree}
use Rattle.task_program.proofs.LoopOnly.{taken_tree}
use Rattle.task_program.proofs.LoopFaultFound.{refused_so, read_right, right_read}
use Rattle.task_program.proofs.FirstFaults.{fault_so}
use Rattle.task_program.proofs.Allowed.{expansion_taken, expansion_is}
use Rattle.task_program.proofs.ExpansionRefused.{expansion_fault}
use Rattle.program_text.proofs.Bools.{bool_cases}

-- ---- the tree

all_formed : (tokens : List Token) → AreRight loop_rules tokens → AreFormed tokens
all_formed tokens Nothing = All-nil _
all_formed tokens (More before token rights right) =
    All-push (λ (t : Token). form_fault t.text ≡ None) before token (all_formed before rights)
    right.formed

-- the first pass makes the tree that they spell
whole_tree : (tokens : List Token) (line : ℕ) (tree : Tree)
    → first_pass tokens line after_header ≡ Ok tree
    → IsTreeOf tokens tree
whole_tree tokens line tree
    h = record {
      whole = read_right tokens line tree h;
      spelled = (found_tree tokens line tree h).1;
    }

tree_read : (tokens : List Token) (line : ℕ) (tree : Tree)
    → IsTreeOf tokens tree
    → first_pass tokens line after_header ≡ Ok tree
tree_read tokens line tree w =
    taken_tree tokens line tree (all_formed tokens w.whole.right) w.spelled

-- and its words are no longer than a word may be
spelled_short : (tokens : List Token) (tree : Tree) → IsTreeOf tokens tree → IsSpelled tree
spelled_short tokens tree w = record {
  tokens = tokens;
  spelled = w.spelled;
  words_fit = short_words tokens (all_formed tokens w.whole.right);
}

-- a sentence of right tokens has a tree
tree_of : (tokens : List Token) (line : ℕ)
    → AreRightWhole loop_rules tokens
    → (tree : Tree) × IsTreeOf tokens tree
tree_of tokens line whole =
    let read = right_read tokens line whole in
    (read.0, whole_tree tokens line read.0 read.1)

-- ---- the whole

fault_by_pass : (text : List ℕ) (read : Result Tree ReadFault) (fault : ReadFault)
    → first_pass (body_of text) (line_at_end 1 text) after_header ≡ read
    → then_second read ≡ Err fault
    → HasLoopFault text fault
fault_by_pass text (Ok tree) fault first h =
    inr (
      tree,
      whole_tree (body_of text) (line_at_end 1 text) tree first,
      (expansion_fault tree fault).0 h,
    )
fault_by_pass text (Err other) fault first h =
    let same : other ≡ fault = cc in
    subst (HasLoopFault text) same
    (inl ((refused_so (body_of text) (line_at_end 1 text) other).0 first))

short_refused : (text : List ℕ) (fault : ReadFault)
    → program_of text ≡ two_passes text
    → HasLoopFault text fault
    → program_of text ≡ Err fault
short_refused text fault so (inl first) =
    so ∙ ap then_second ((refused_so (body_of text) (line_at_end 1 text) fault).1 first)
short_refused text fault so (inr expanded) =
    so
    ∙ ap then_second (tree_read (body_of text) (line_at_end 1 text) expanded.0 expanded.1)
    ∙ (expansion_fault expanded.0 fault).1 expanded.2

-- a text of version 2 is read or has a first fault, and never both
told_in_loops : (text : List ℕ)
    → begins_version_two (tokens_of text) ≡ true
    → nat_lt MOST_TEXT_BYTES (length text) ≡ false
    → IsToldInLoops text
told_in_loops text two short =
    let fits = ltb-false MOST_TEXT_BYTES (length text) short in
    let so : program_of text ≡ two_passes text = of_two text fits two in
    let line = line_at_end 1 text in
    record {
      read = λ program. (
        λ h. let went = went_through (first_pass (body_of text) line after_header) program
            (sym so ∙ h) in
            let whole = whole_tree (body_of text) line went.0 went.1 in
            record {
              text_fits = fits;
              tree = went.0;
              whole = whole;
              expanded = expansion_is went.0 program
                  (spelled_short (body_of text) went.0 whole) went.2;
            },
        λ w. so
            ∙ ap then_second (tree_read (body_of text) line w.tree w.whole)
            ∙ expansion_taken w.tree program w.expanded,
      );
      refused = λ fault. (
        λ h. subst (λ (b : Bool). MatchBool b (fault ≡ fault_so TooLong 1)
            (HasLoopFault text fault)) (sym short)
            (fault_by_pass text (first_pass (body_of text) line after_header) fault refl
            (sym so ∙ h)),
        λ h. short_refused text fault so
            (MatchBool-at_false (fault ≡ fault_so TooLong 1) (HasLoopFault text fault) short h),
      );
      has_tree = λ whole. tree_of (body_of text) line whole;
    }

-- and so with a text of too many bytes
long_in_loops : (text : List ℕ) → nat_lt MOST_TEXT_BYTES (length text) ≡ true → IsToldInLoops text
long_in_loops text long =
    let longer = ltb-true MOST_TEXT_BYTES (length text) long in
    record {
      read = λ program. (
        λ h. absurd (let wrong = sym (too_long text long) ∙ h in cc),
        λ w. absurd (omega (arith, longer, w.text_fits)),
      );
      refused = λ fault. (
        λ h. subst (λ (b : Bool). MatchBool b (fault ≡ fault_so TooLong 1)
            (HasLoopFault text fault)) (sym long)
            (sym (same_fault (program_of text) (fault_so TooLong 1) fault (too_long text long) h)),
        λ h. refused_with (program_of text) (fault_so TooLong 1) fault (too_long text long)
            (MatchBool-at_true (fault ≡ fault_so TooLong 1) (HasLoopFault text fault) long h),
      );
      has_tree = λ whole. tree_of (body_of text) (line_at_end 1 text) whole;
    }

pub loop_fault_is_first : (text : List ℕ) → LoopFaultIsFirst text
loop_fault_is_first text two =
    bool_cases (nat_lt MOST_TEXT_BYTES (length text)) (λ long. long_in_loops text long)
    (λ short. told_in_loops text two short)
