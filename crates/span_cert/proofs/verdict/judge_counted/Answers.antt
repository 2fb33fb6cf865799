use Rattle.std.proofs.Common.{ℕ, List, ◌∙◌, length, refl, rules, subst}
use Rattle.std.proofs.lemmas.Bool.{both_ways}
use Rattle.task_segments.specs.Precedence.{MustPrecede}
use Rattle.task_segments.specs.Schedule.{IsChain}
use Rattle.span_cert.specs.Claims.{moments_of_starts}
use Rattle.span_cert.specs.Tests.{FirstBadStep}
use Rattle.span_cert.proofs.Broken.{legal_kept}
use Rattle.span_cert.proofs.Counting.{count_of, length-moments}
use Rattle.span_cert.proofs.Verdicts.{kept_of}
use Rattle.span_cert.proofs.verdict.judge_counted.Goals as goal

pub ends_so-requires : goal.ends_so-requires
ends_so-requires g c = (
  search rules,
  count_of c.args.claim.now.starts (length c.args.table.now.segments)
      c.requires.counted.starts,
)

pub first_bad_step-requires : goal.first_bad_step-requires
first_bad_step-requires g c =
    (search rules, (rw c.chain.ensures c.requires.counted.chain, search rules))

pub adds_up-requires : goal.adds_up-requires
adds_up-requires g c = (search rules, c.requires.counted.chain)

pub returns-then-not-ends_so-clause-refused : goal.returns-then-not-ends_so-clause-refused
returns-then-not-ends_so-clause-refused g c =
    let starts = c.args.claim.now.starts in
    record {
      counted = c.requires.counted;
      kept = kept_of c.args.table.now starts starts c.args.pair _ refl c.in_default.is
          c.requires.pair;
      elsewhere = λ ends.
          both_ways c.ends_so.result c.if-not-ends_so.true (c.ends_so.ensures.1 ends);
    }

pub returns-in-Some-first_bad_step-clause-refused :
    goal.returns-in-Some-first_bad_step-clause-refused
returns-in-Some-first_bad_step-clause-refused g c =
    let starts = c.args.claim.now.starts in
    let bad =
    subst (λ (chain : List ℕ). FirstBadStep c.args.table.now chain c.in-Some-first_bad_step.s
    c.in-Some-first_bad_step.t) c.chain.ensures c.in-Some-first_bad_step.ensures in
    record {
      counted = c.requires.counted;
      kept = kept_of c.args.table.now starts starts c.args.pair _ refl c.in_default.is
          c.requires.pair;
      ends = c.ends_so.ensures.0 c.if-not-ends_so.false;
      first = bad;
    }

pub returns-then-not-adds_up-clause-refused : goal.returns-then-not-adds_up-clause-refused
returns-then-not-adds_up-clause-refused g c =
    let starts = c.args.claim.now.starts in
    let linked =
    subst (λ (chain : List ℕ). IsChain (MustPrecede c.args.table.now) chain) c.chain.ensures
    c.in_default-first_bad_step.ensures in
    record {
      counted = c.requires.counted;
      kept = kept_of c.args.table.now starts starts c.args.pair _ refl c.in_default.is
          c.requires.pair;
      ends = c.ends_so.ensures.0 c.if-not-ends_so.false;
      linked = linked;
      elsewhere = λ adds.
          both_ways c.adds_up.result c.if-not-adds_up.true (c.adds_up.ensures.1 adds);
    }

pub returns-clause-checked : goal.returns-clause-checked
returns-clause-checked g c =
    let starts = c.args.claim.now.starts in
    let counted = c.requires.counted in
    let kept = kept_of c.args.table.now starts starts c.args.pair _ refl c.in_default.is
    c.requires.pair in
    record {
      holds = record {
        counted = counted;
        legal = legal_kept c.args.table.now (moments_of_starts starts)
            (length-moments starts
            ∙ count_of starts (length c.args.table.now.segments) counted.starts)
            kept;
        ends = c.ends_so.ensures.0 c.if-not-ends_so.false;
        linked =
            subst (λ (chain : List ℕ). IsChain (MustPrecede c.args.table.now) chain)
            c.chain.ensures c.in_default-first_bad_step.ensures;
        reached = c.adds_up.ensures.0 c.if-not-adds_up.false;
      };
      told = rw (c.len.ensures, c.end.ensures) refl;
    }
