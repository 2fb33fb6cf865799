use Rattle.worker_run.proofs.GivenBack.{given_in}
use Rattle.worker_run.proofs.closing.give_back.Goals as goal

pub returns-in_ok-take_back : goal.returns-in_ok-take_back
returns-in_ok-take_back g c =
    given_in _ c.args.closings.now (c.args.thief.number, c.args.thief.end) c.index-closings-at.result
    c.take_back.new.self c.if-at-closings.true c.in_ok-take_back.ensures.lane.0
    c.in_ok-take_back.ensures.lane.1 c.in_ok-take_back.ensures.back
