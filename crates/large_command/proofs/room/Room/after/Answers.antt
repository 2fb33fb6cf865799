use Rattle.std.proofs.Common.{arith, refl}
use Rattle.large_command.proofs.Lengths.{has_long_line, has_room}
use Rattle.large_command.proofs.room.Room.after.Goals as goal

pub returns : goal.returns
returns c = λ text h.
    has_room text c.args.bytes.now c.args.self _ h c.requires.piece c.if-bytes-self.false
    (omega (arith, c.first_stretch.ensures, c.if-first_stretch-self.false, c.requires.line)) refl
    (c.line_after.ensures text)

pub returns-then-first_stretch-self : goal.returns-then-first_stretch-self
returns-then-first_stretch-self c = λ text h.
    has_long_line text c.args.bytes.now c.args.self h
    (omega (arith, c.first_stretch.ensures, c.if-first_stretch-self.true))
