use Rattle.std.proofs.Common.{◌≤◌, ◌∙◌, length, arith}
use Rattle.std.proofs.lemmas.Grind.{common_steps}
use Rattle.std.proofs.lemmas.List.{take-append-le}
use Rattle.large_command.proofs.TextInput.{IsMetered, as_many_more, has_less_room, is_taken, line_fits}
use Rattle.large_command.proofs.TextInput.{reads_too_long}
use Rattle.large_command.proofs.text_input.take_input.Goals as goal

pub after-requires-clause-line : goal.after-requires-clause-line
after-requires-clause-line g c =
    line_fits _ _ c.pieces.room _ c.pieces.invariant.taken

pub returns-in-Ok-eq0-clause-limited : goal.returns-in-Ok-eq0-clause-limited
returns-in-Ok-eq0-clause-limited g c =
    as_many_more _ _ _ c.pieces.room c.in-Ok-eq0.field-0 c.read_piece.new.buffer _
    c.pieces.invariant.taken c.in-Ok-eq0.ensures.reads (grind (arith, common_steps))

pub returns-in-None-clause-too_long : goal.returns-in-None-clause-too_long
returns-in-None-clause-too_long g c = λ told.
    reads_too_long _ _ _ c.pieces.room c.in-Ok.taken c.read_piece.new.buffer _ _
    c.pieces.invariant.taken c.in-Ok.ensures.reads
    (take-append-le c.in-Ok.taken c.read_piece.new.buffer _
    (omega (arith, c.in-Ok.ensures.within, c.in-Ok.ensures.room)))
    (grind (arith, common_steps)) (grind (arith, common_steps)) c.in-None.ensures

pub returns-in-None-clause-limited : goal.returns-in-None-clause-limited
returns-in-None-clause-limited g c =
    as_many_more _ _ _ c.pieces.room c.in-Ok.taken c.read_piece.new.buffer _
    c.pieces.invariant.taken c.in-Ok.ensures.reads (grind (arith, common_steps))

pub returns-in-Err-take-clause-limited : goal.returns-in-Err-take-clause-limited
returns-in-Err-take-clause-limited g c =
    as_many_more _ _ _ c.pieces.room c.in-Ok.taken c.read_piece.new.buffer _
    c.pieces.invariant.taken c.in-Ok.ensures.reads (grind (arith, common_steps))

pub pieces-smaller : goal.pieces-smaller
pieces-smaller g c =
    let within : c.in-Ok.taken ≤ length c.read_piece.new.buffer =
    omega (arith, c.in-Ok.ensures.within, c.in-Ok.ensures.room) in
    has_less_room _ _ c.pieces.room c.in-Some.rest c.in-Ok.taken c.read_piece.new.buffer _ _
    c.pieces.invariant.taken (take-append-le c.in-Ok.taken c.read_piece.new.buffer _ within) within
    (grind (arith, common_steps)) c.in-Some.ensures

pub pieces-preserved : goal.pieces-preserved
pieces-preserved g c =
    let within : c.in-Ok.taken ≤ length c.read_piece.new.buffer =
    omega (arith, c.in-Ok.ensures.within, c.in-Ok.ensures.room) in
    record {
      taken = is_taken _ _ _ c.pieces.room c.in-Some.rest _ _ _ (IsMetered c.take.new.self)
          c.pieces.invariant.taken c.in-Ok.ensures.reads
          (take-append-le c.in-Ok.taken c.read_piece.new.buffer _ within) c.in-Some.ensures
          c.in-Ok-take.ensures.takes;
      text = λ kept. c.take.ensures.text (c.pieces.invariant.text kept);
      fewer = omega arith;
      paid = omega (arith, c.in-Ok.ensures.paid, c.pieces.invariant.paid);
      tried_again = c.in-Ok.ensures.tried_again ∙ c.pieces.invariant.tried_again;
    }
