use Rattle.std.proofs.Common.{ℕ, arith, get_or, rules}
use Rattle.std.proofs.lemmas.List.Elements.{Contains-get_or}
use Rattle.relaxations.proofs.Pairs.{each_pair, no_pair, one_pair_more}
use Rattle.relaxations.proofs.judging.no_pair.Goals as goal

pub must_precede-requires : goal.must_precede-requires
must_precede-requires g c =
    let s : ℕ = get_or c.args.segments.now c.loop-s.s-index 0 in
    let before = c.requires.row.before s
    (Contains-get_or c.args.segments.now c.loop-s.s-index 0 c.loop-s-test.true) in
    (search rules, (omega (arith, before, c.requires.to), c.requires.to))

pub loop-s-preserved : goal.loop-s-preserved
loop-s-preserved g c =
    one_pair_more c.args.table.now c.args.segments.now c.args.t c.loop-s.s-index
    c.loop-s.invariant (c.must_precede.ensures.0 c.if-not-must_precede.false)

pub returns-then-not-must_precede : goal.returns-then-not-must_precede
returns-then-not-must_precede g c =
    no_pair c.args.table.now c.args.segments.now c.args.t c.loop-s.s-index c.requires.row
    c.loop-s-test.true c.loop-s.invariant
    (λ pair. absurd (cc (c.must_precede.ensures.1 pair, c.if-not-must_precede.true)))

pub returns : goal.returns
returns g c =
    each_pair c.args.table.now c.args.segments.now c.args.t c.loop-s.s-index
    (omega (arith, c.loop-s-test.false)) c.loop-s.invariant
