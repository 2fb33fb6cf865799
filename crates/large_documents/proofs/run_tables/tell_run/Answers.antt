use Rattle.large_documents.proofs.Members.{times_of_legal}
use Rattle.large_documents.proofs.run_tables.tell_run.Goals as goal

pub tell_rows-requires : goal.tell_rows-requires
tell_rows-requires c = times_of_legal _ _ _ _ _ _ c.requires

pub tell_path-requires : goal.tell_path-requires
tell_path-requires c = times_of_legal _ _ _ _ _ _ c.requires
