use Rattle.std.specs.Prelude.{Ok, Err}
use Rattle.open_segments.proofs.Members.{found_place}
use Rattle.open_segments.proofs.waiting_groups.place_in.Goals as goal

pub returns : goal.returns
returns c =
    let found = found_place c.args.list.now c.args.number (Ok c.in-Ok.place) c.requires.ascending
    c.requires.among c.in-Ok.ensures.position in
    record { within = found.0; there = found.1 }

pub unreachable-requires : goal.unreachable-requires
unreachable-requires c =
    found_place c.args.list.now c.args.number (Err c.in-Err.field-0) c.requires.ascending
    c.requires.among c.in-Err.ensures.position
