use Rattle.std.proofs.Common.{ℕ, List, sym, subst}
use Rattle.twe_io.specs.Ends.{source}
use Rattle.twe_report.specs.declared.reading.Input.{Input}
use Rattle.twe_report.specs.declared.reading.Input.TheVariants.{Given}
use Rattle.text_answers.specs.inner.Given.{IsInputOf}
use Rattle.text_answers.proofs.Starts.{of_input}
use Rattle.text_answers.proofs.starting.start_command.Goals as goal

-- the input was read
pub returns-in-Given : goal.returns-in-Given
returns-in-Given g c =
    let src = source g.S.Source.left g.S.Source.faults g.S.Source.read_gives in
    let given = subst (λ (i : Input). IsInputOf src c.args.cmd.now c.args.src.now c.input_of.new.src i) c.in-Given.is c.in_ok-input.ensures in
    let text = subst (λ (t : List ℕ). IsInputOf src c.args.cmd.now c.args.src.now c.input_of.new.src (Given t)) (sym c.as_slice.ensures) given in
    of_input src c.args.cmd.now c.args.src.now c.input_of.new.src c.as_slice.result.now c.start_input.result text c.start_input.ensures

-- what was read is short enough
pub start_input-requires-clause-short : goal.start_input-requires-clause-short
start_input-requires-clause-short g c =
    let src = source g.S.Source.left g.S.Source.faults g.S.Source.read_gives in
    let given = subst (λ (i : Input). IsInputOf src c.args.cmd.now c.args.src.now c.input_of.new.src i) c.in-Given.is c.in_ok-input.ensures in
    (subst (λ (t : List ℕ). IsInputOf src c.args.cmd.now c.args.src.now c.input_of.new.src (Given t)) (sym c.as_slice.ensures) given).0

-- a read failed
pub returns-in-Failed : goal.returns-in-Failed
returns-in-Failed g c =
    let src = source g.S.Source.left g.S.Source.faults g.S.Source.read_gives in
    subst (λ (i : Input). IsInputOf src c.args.cmd.now c.args.src.now c.input_of.new.src i) c.in-Failed.is c.in_ok-input.ensures
    c.new-book.result c.new-book.ensures
