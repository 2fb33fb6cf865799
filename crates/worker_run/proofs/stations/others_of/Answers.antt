use Rattle.std.proofs.Common.{ℕ, ◌≡◌, ◌≢◌, ◌<◌, All, map, get_or, length, ap, subst, arith}
use Rattle.std.proofs.lemmas.List.{get_or-map, length_push}
use Rattle.std.proofs.lemmas.List.Elements.{All-take}
use Rattle.depend_table.specs.Lists.{Lists}
use Rattle.worker_run.specs.Sharing.{IsOtherLane}
use Rattle.worker_run.proofs.Sharing.{each_set_at, last_so, one_given, next_listed, own_gives_none, own_not_listed}
use Rattle.worker_run.proofs.stations.others_of.Goals as goal
use Rattle.worker_run.proofs.stations.others_of.Goals.{then-lane-number+in-Some+in_ok-push}
use Rattle.worker_run.proofs.stations.others_of.Goals.{then-lane-number+in_default, else-lane-number}

pub loop-lane-preserved : goal.loop-lane-preserved
loop-lane-preserved g c =
    let inv = c.loop-lane.invariant in
    let lane = c.loop-lane.lane in
    let less : lane < length c.loop-lane.thieves =
    omega (arith, c.loop-lane-test.true, c.loop-lane.auto.thieves, c.loop-lane.auto.lane-end) in
    elim c.if-lane-number.branch [
      | then-lane-number+in-Some+in_ok-push w ↦
          let apart : lane ≢ c.args.number = λ e. let test = w.if-lane-number.true in omega (arith, test, e) in
          let more = length_push w.pop.new.self.items w.in-Some.thief in
          rw (w.thieves-is, w.others-is, w.in_ok-push.ensures.items) (record {
            numbers = each_set_at (λ n its. All (λ t. t.number ≡ n) its.items) c.loop-lane.thieves lane w.pop.new.self
                inv.numbers (rw w.pop.ensures.rest (All-take (λ t. t.number ≡ lane) _ _ (inv.numbers lane less _)));
            gave = one_given (λ its. length its.items) c.args.number lane _ c.loop-lane.thieves
                w.index-thieves-lane.result w.pop.new.self apart less
                (let was = ap length w.in-Some.ensures.items in omega (arith, was, more)) inv.gave;
            listed = next_listed (λ t. t.number) c.args.number lane c.loop-lane.others.items w.in-Some.thief apart
                (last_so (λ t. t.number ≡ lane) _ _ w.in-Some.thief w.in-Some.ensures.items (inv.numbers lane less _))
                inv.listed;
          })
      | then-lane-number+in_default w ↦
          let apart : lane ≢ c.args.number = λ e. let test = w.if-lane-number.true in omega (arith, test, e) in
          let held = get_or c.loop-lane.thieves lane w.index-thieves-lane.result in
          let ok = held.ok in
          let none = w.in_default.ensures.cases.0 in
          let empty : length held.items ≡ 0 = omega (arith, ok, none) in
          let some = c.requires.some lane (omega (arith, less, c.loop-lane.auto.thieves), apart) in
          let kept = (inv.gave lane).kept (λ other. let before = other.0 in absurd (omega (arith, before))) in
          let is = get_or-map (λ its. length its.items) c.loop-lane.thieves lane w.index-thieves-lane.result 0 less in
          absurd (omega (arith, some, kept, is, empty))
      | else-lane-number w ↦
          let same : lane ≡ c.args.number = let test = w.if-lane-number.false in omega (arith, test) in
          rw (w.thieves-is, w.others-is) (record {
            numbers = inv.numbers;
            gave = λ other. own_gives_none lane c.args.number other _ _ same (inv.gave other);
            listed = own_not_listed lane c.args.number _ same inv.listed;
          })
    ]

pub returns-clause-others : goal.returns-clause-others
returns-clause-others g c =
    let at_end : c.loop-lane.lane ≡ length c.args.thieves.now =
    omega (arith, c.loop-lane-test.false, c.loop-lane.auto.thieves, c.loop-lane.auto.lane-end) in
    subst (λ (n : ℕ). Lists (IsOtherLane n c.args.number) (map (λ t. t.number) c.loop-lane.others.items)) at_end
    c.loop-lane.invariant.listed
