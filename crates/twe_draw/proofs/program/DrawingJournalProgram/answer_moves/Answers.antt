use Rattle.std.proofs.Common.{sym, subst}
use Rattle.twe_draw.specs.Answers.{PictureGiven}
use Rattle.twe_draw.proofs.program.DrawingJournalProgram.answer_moves.Goals as goal

-- the picture is written
pub returns-clause-given : goal.returns-clause-given
returns-clause-given c =
    let d = c.in_ok-picture.picture in
    subst (PictureGiven c.args.self.now c.args.p.now c.args.lim c.args.moves.now) (sym c.on_out.ensures)
    (PictureGiven.drawn d.work d.span d.held d.chain d.bars d.tasks d.holds c.in_ok-text.text c.in_ok-picture.ensures.drawn c.in_ok-text.ensures)
