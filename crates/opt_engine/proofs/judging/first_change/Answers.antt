use Rattle.std.proofs.Common.{List, get_or, refl, subst}
use Rattle.std.specs.List.{All}
use Rattle.std.specs.Prelude.{pos}
use Rattle.std.proofs.lemmas.List.{take_all}
use Rattle.std.proofs.lemmas.List.Elements.{All-more}
use Rattle.opt_engine.specs.declared.touch.CellValue.{CellValue}
use Rattle.opt_engine.specs.Drafts.{StandsIn}
use Rattle.opt_engine.proofs.Changes.{change_found}
use Rattle.opt_engine.proofs.judging.first_change.Goals as goal

abbrev none : CellValue
none = record { cell = 0; value = pos 0 }

pub returns-in-Some : goal.returns-in-Some
returns-in-Some c =
    change_found c.args.cells.now c.args.reads.now c.loop-read.read-index (get_or c.args.reads.now c.loop-read.read-index none) none c.in-Some.change c.loop-read-test.true refl
    c.loop-read.invariant c.in-Some.ensures

pub loop-read-preserved : goal.loop-read-preserved
loop-read-preserved c = All-more (StandsIn c.args.cells.now) c.args.reads.now c.loop-read.read-index none c.loop-read-test.true c.loop-read.invariant c.in_default.ensures

pub returns : goal.returns
returns c =
    subst (λ (l : List CellValue). All (StandsIn c.args.cells.now) l) (take_all c.loop-read.read-index c.args.reads.now c.loop-read-test.false) c.loop-read.invariant
