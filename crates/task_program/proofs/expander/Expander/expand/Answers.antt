use Rattle.loop_text.specs.LoopsSeen.{tree_of}
use Rattle.task_program.proofs.FewNames.{so_given, somewhere, same_blocks}
use Rattle.task_program.proofs.expander.Expander.expand.Goals as goal

pub take_all-requires : goal.take_all-requires
take_all-requires c = somewhere c.args.self.now c.requires

pub returns-clause-exact : goal.returns-clause-exact
returns-clause-exact c =
    so_given _ c.args.self.now c.take_all.new.taker c.take_all.result c.requires c.take_all.ensures

pub returns-clause-blocks : goal.returns-clause-blocks
returns-clause-blocks c =
    same_blocks (tree_of c.args.statements.now) c.args.self.now c.take_all.new.taker
    c.take_all.result
    (so_given _ c.args.self.now c.take_all.new.taker c.take_all.result c.requires
    c.take_all.ensures)
