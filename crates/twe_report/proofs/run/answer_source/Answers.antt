use Rattle.std.proofs.Common.{ℕ, List, Ok, sym, subst}
use Rattle.twe_io.specs.Ends.{WasRead, source}
use Rattle.twe_report.specs.Reading.{IsInput}
use Rattle.twe_report.specs.declared.reading.Input.{Input}
use Rattle.twe_report.specs.Causes.{TextCause}
use Rattle.twe_report.proofs.Answered.{cause_text}
use Rattle.twe_report.proofs.run.answer_source.Goals as goal

-- the text that was read is answered
pub returns-in-Given : goal.returns-in-Given
returns-in-Given g c =
    let src = source g.S.Source.left g.S.Source.faults g.S.Source.read_gives in
    let was = subst (λ (i : Input). IsInput src c.args.src.now c.read_input.new.src i) c.in-Given.is c.in_ok-input.ensures in
    let text = subst (λ (t : List ℕ). WasRead src c.args.src.now (Ok t) c.read_input.new.src) (sym c.as_slice.ensures) was in
    cause_text g.P.TextProgram.asked g.P.TextProgram.usage g.P.TextProgram.due src c.args.words.now c.args.program.now c.args.src.now c.read_input.new.src
    c.as_slice.result.now c.answer_text.result c.requires text c.answer_text.ensures

-- or why none could be read
pub returns-in-Failed : goal.returns-in-Failed
returns-in-Failed g c =
    let src = source g.S.Source.left g.S.Source.faults g.S.Source.read_gives in
    TextCause.not_read c.args.program.now c.requires (subst (λ (i : Input). IsInput src c.args.src.now c.read_input.new.src i) c.in-Failed.is c.in_ok-input.ensures)

-- what was read is short enough
pub answer_text-requires : goal.answer_text-requires
answer_text-requires g c =
    let src = source g.S.Source.left g.S.Source.faults g.S.Source.read_gives in
    let was = subst (λ (i : Input). IsInput src c.args.src.now c.read_input.new.src i) c.in-Given.is c.in_ok-input.ensures in
    let text = subst (λ (t : List ℕ). WasRead src c.args.src.now (Ok t) c.read_input.new.src) (sym c.as_slice.ensures) was in
    text.told.2
