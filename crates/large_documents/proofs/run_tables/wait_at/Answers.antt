use Rattle.std.proofs.Common.{arith, ◌-◌}
use Rattle.large_documents.proofs.Members.{first_wait}
use Rattle.large_documents.proofs.run_tables.wait_at.Goals as goal

pub returns-then-place-eq0 : goal.returns-then-place-eq0
returns-then-place-eq0 c =
    first_wait c.args.times.now c.args.path.now c.args.place (omega arith)

pub begin_of-requires : goal.begin_of-requires
begin_of-requires c = c.requires.members.begins c.args.place c.requires.inside

pub end_of-requires : goal.end_of-requires
end_of-requires c =
    c.requires.members.ends (c.args.place - 1) (omega (arith, c.requires.inside))
