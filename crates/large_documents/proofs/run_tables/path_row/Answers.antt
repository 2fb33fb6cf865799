use Rattle.large_documents.proofs.run_tables.path_row.Goals as goal

pub end_of-requires : goal.end_of-requires
end_of-requires c = c.requires.members.ends c.args.place c.requires.inside

pub begin_of-requires : goal.begin_of-requires
begin_of-requires c = c.requires.members.begins c.args.place c.requires.inside
