use Rattle.std.proofs.Common.{◌<◌, List, length, sym, subst}
use Rattle.std.specs.List.{All}
use Rattle.twe_program.specs.WellFormed.{IsWellFormed}
use Rattle.opt_engine.specs.declared.touch.CellValue.{CellValue}
use Rattle.opt_engine.proofs.Committed.{reads_there}
use Rattle.opt_engine.proofs.judging.judge.Goals as goal

-- the reads of the draft are of cells that there are
pub first_change-requires : goal.first_change-requires
first_change-requires c =
    let st = c.args.st.now in
    subst (λ (l : List CellValue). All (λ (r : CellValue). r.cell < length st.cells) l) (sym c.as_slice.ensures)
    (reads_there c.args.p.now c.requires.reached.0 st c.args.d.now (subst IsWellFormed c.p.view_is c.p.invariant) c.requires.reached.1 c.requires.drafted)
