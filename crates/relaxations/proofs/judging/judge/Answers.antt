use Rattle.std.proofs.Common.{arith, rules}
use Rattle.relaxations.proofs.Pairs.{new_pair, no_more, row_each}
use Rattle.relaxations.proofs.judging.judge.Goals as goal

pub added_pair-requires : goal.added_pair-requires
added_pair-requires g c = (
  search rules,
  (
    omega (arith, c.in_ok-lists.ensures.each, c.if-len.false, c.len.ensures, c.len-2.ensures),
    row_each c.args.new.now c.in_ok-lists.lists c.serves_runs.ensures c.in_ok-lists.ensures,
  ),
)

pub returns-in-Some-added_pair : goal.returns-in-Some-added_pair
returns-in-Some-added_pair g c =
    new_pair c.args.old.now c.args.new.now c.in_ok-lists.lists c.in-Some-added_pair.s
    c.in-Some-added_pair.t c.serves_runs.ensures c.in_ok-lists.ensures c.in_default.ensures
    c.in-Some-added_pair.ensures

pub returns : goal.returns
returns g c = record {
  same = c.in_default.ensures;
  no_more = no_more c.args.old.now c.args.new.now c.in_ok-lists.lists c.serves_runs.ensures
      c.in_ok-lists.ensures c.in-None.ensures;
}
