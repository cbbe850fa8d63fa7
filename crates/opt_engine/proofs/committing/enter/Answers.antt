use Rattle.std.proofs.Common.{◌<◌, List, length, sym, ap, ◌∙◌, subst}
use Rattle.std.specs.List.{All}
use Rattle.twe_base.specs.Limits.{Bounds, IsWithin}
use Rattle.twe_program.specs.WellFormed.{IsWellFormed}
use Rattle.opt_engine.specs.declared.touch.CellValue.{CellValue}
use Rattle.opt_engine.specs.Touches.{with_writes}
use Rattle.opt_engine.proofs.Committed.{fits_moves, fits_settles, reached_by, steps_is, writes_there}
use Rattle.opt_engine.proofs.committing.enter.Goals as goal

-- the writes of the draft are of cells that there are
pub make_writes-requires : goal.make_writes-requires
make_writes-requires c =
    let run = c.args.run.now in
    subst (λ (l : List CellValue). All (λ (w : CellValue). w.cell < length run.state.cells) l) (sym c.as_slice.ensures)
    (writes_there c.args.p.now c.args.lim run.state c.args.d (subst IsWellFormed c.p.view_is c.p.invariant) (reached_by c.args.p.now c.args.lim run c.requires.run) c.requires.drafted)

-- the segment of the draft may be settled
pub settle-requires : goal.settle-requires
settle-requires c =
    let run = c.args.run.now in
    let within = subst (λ (lim : Bounds). IsWithin lim.fuel lim.tasks) c.lim.view_is c.lim.invariant in
    fits_settles c.args.p.now c.args.lim run.state c.args.d (subst IsWellFormed c.p.view_is c.p.invariant) (reached_by c.args.p.now c.args.lim run c.requires.run) c.requires.drafted
    c.make_writes.new.cells within c.requires.fits

-- and its settling is the move
pub returns : goal.returns
returns c =
    let run = c.args.run.now in
    let written = c.make_writes.ensures ∙ ap (with_writes run.state.cells) c.as_slice.ensures in
    steps_is c.args.p.now c.args.lim run _ _ c.in_ok-end.end c.requires.run c.requires.may
    (fits_moves c.args.p.now c.args.lim run.state c.args.d (subst IsWellFormed c.p.view_is c.p.invariant) (reached_by c.args.p.now c.args.lim run c.requires.run) c.requires.drafted
    c.make_writes.new.cells (c.settle.new.st, c.in_ok-end.end) written c.requires.fits c.in_ok-end.ensures)
    c.in_ok-push.ensures.ok
