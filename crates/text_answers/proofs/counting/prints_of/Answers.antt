use Rattle.std.proofs.Common.{◌∙◌, sym}
use Rattle.text_answers.proofs.Counted.{legal_is_replayed, prints_again}
use Rattle.text_answers.proofs.counting.prints_of.Goals as goal

-- the state has the numbers
pub returns-in-Ok : goal.returns-in-Ok
returns-in-Ok c =
    prints_again c.args.p.now c.args.lim c.args.entries.now c.as_slice.result.now c.in-Ok.st c.copy.result c.requires (c.as_slice.ensures ∙ c.in_ok-moves.ensures)
    c.in-Ok.ensures.replayed c.copy.ensures

-- legal moves have no first illegal one
pub unreachable-requires : goal.unreachable-requires
unreachable-requires c =
    legal_is_replayed c.in-Err-Illegal.field-0 c.in-Err-Illegal.field-0-0 c.in-Err-Illegal.field-0-1 c.in-Err-Illegal.field-0-is
    (c.in-Err-Illegal.ensures.only_legal (c.args.entries.now, c.requires, sym (c.as_slice.ensures ∙ c.in_ok-moves.ensures)))
