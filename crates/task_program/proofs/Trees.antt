-- The tree of a text of version 2.
use Rattle.std.proofs.Common.{◌≡◌, ℕ, ◌≤◌, true, List, [], length, sym, subst}
use Rattle.std.specs.Prelude.{All}
use Rattle.task_program.specs.declared.version.Version.{Version}
use Rattle.task_program.specs.declared.version.Version.TheVariants.{One, Two}
use Rattle.program_text.specs.declared.limits.TheConstants.{MOST_TEXT_BYTES, MOST_NESTING}
use Rattle.program_text.specs.Tokens.{texts, tokens_of}
use Rattle.task_program.specs.ProgramMarks.{ProgramMarks}
use Rattle.task_program.specs.Grammar.{IsShort}
use Rattle.loop_text.specs.Loops.{Tree}
use Rattle.task_program.specs.Grammar.{Spelled}
use Rattle.task_program.specs.Versions.{begins_version, begins_version_two, body_of}
use Rattle.task_program.specs.ExpandsTo.{ExpandsTo}
use Rattle.task_program.specs.Trees.{HasTree}

-- the text of version 2 has a tree with loops, the expansion of which is this program
pub record HasLoopTree (text : List ℕ) (program : ProgramMarks) : Type 0 where
  pub in_version : program.version ≡ Two
  pub header : begins_version_two (tokens_of text) ≡ true
  pub tree : Tree
  pub spelled : Spelled Two true [] MOST_NESTING (body_of text) tree
  pub expanded : ExpandsTo Two tree program
  pub text_fits : length text ≤ MOST_TEXT_BYTES
  pub words_fit : All IsShort (texts (body_of text))

not_both : (version : Version) → version ≡ One → version ≡ Two → ⊥
not_both One one two = cc
not_both Two one two = cc

pub tree_of_loops : (text : List ℕ) (program : ProgramMarks)
    → HasLoopTree text program
    → HasTree text program
tree_of_loops text program h = record {
  header = subst (λ (v : Version). begins_version v (tokens_of text) ≡ true) (sym h.in_version)
      h.header;
  tree = h.tree;
  spelled = subst (λ (v : Version). Spelled v true [] MOST_NESTING (body_of text) h.tree)
      (sym h.in_version) h.spelled;
  expanded = subst (λ (v : Version). ExpandsTo v h.tree program) (sym h.in_version) h.expanded;
  text_fits = h.text_fits;
  words_fit = h.words_fit;
  tokens_fit = λ one. absurd (not_both program.version one h.in_version);
}

pub loops_of_tree : (text : List ℕ) (program : ProgramMarks)
    → program.version ≡ Two
    → HasTree text program
    → HasLoopTree text program
loops_of_tree text program two h = record {
  in_version = two;
  header = subst (λ (v : Version). begins_version v (tokens_of text) ≡ true) two h.header;
  tree = h.tree;
  spelled =
      subst (λ (v : Version). Spelled v true [] MOST_NESTING (body_of text) h.tree) two h.spelled;
  expanded = subst (λ (v : Version). ExpandsTo v h.tree program) two h.expanded;
  text_fits = h.text_fits;
  words_fit = h.words_fit;
}
