use Rattle.large_documents.proofs.Members.{members_of_path}
use Rattle.large_documents.proofs.run_tables.tell_path.Goals as goal

pub path_table-requires : goal.path_table-requires
path_table-requires c =
    rw c.as_slice.ensures.value (members_of_path _ _ _ _ c.requires c.in_ok-path.ensures)
