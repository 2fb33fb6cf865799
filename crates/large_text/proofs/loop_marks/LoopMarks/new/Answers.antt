use Rattle.std.proofs.Common.{[], refl, sym, ap, arith}
use Rattle.task_program.specs.Nested.IsNested.{Nothing}
use Rattle.large_text.specs.LoopMarked.{blocks_seen}
use Rattle.large_text.specs.LoopMarked.AreOpen.{NoneOpen}
use Rattle.large_text.proofs.LoopMarking.{length_of_none}
use Rattle.large_text.proofs.loop_marks.LoopMarks.new.Goals as goal

pub returns-clause-entered : goal.returns-clause-entered
returns-clause-entered c =
    let no_names = length_of_none _ c.new.ensures in
    let no_items = length_of_none _ c.new-2.ensures in
    record {
      turns = refl;
      few_turns = omega arith;
      lines = refl;
      few_lines = omega arith;
      work = refl;
      little_work = omega arith;
      names = sym c.new.ensures;
      few_names = omega (arith, no_names);
      items = sym c.new-2.ensures;
      few_items = omega (arith, no_items);
      blocks = sym (ap blocks_seen c.new-3.ensures.items);
      open_are = NoneOpen [] Nothing;
      tallies = c.requires.tallies;
      prints = c.requires.prints [];
    }
