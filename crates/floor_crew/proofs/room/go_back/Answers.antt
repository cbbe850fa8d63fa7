use Rattle.std.proofs.Common.{Err, ◌∙◌, sym, ap}
use Rattle.floor_crew.proofs.room.go_back.Goals as goal

-- legal moves have no first illegal one
pub unreachable-requires : goal.unreachable-requires
unreachable-requires g c =
    let n = c.in-Err-Illegal.field-0-0 in
    let why = c.in-Err-Illegal.field-0-1 in
    c.one_first_illegal.ensures.never_both c.args.setup.now.p.now c.args.setup.now.lim c.as_slice.result.now n why
    (c.args.entries.now, c.requires, sym (c.as_slice.ensures ∙ c.in_ok-moves.ensures))
    (c.in-Err-Illegal.ensures.illegal n why (ap Err c.in-Err-Illegal.field-0-is))
