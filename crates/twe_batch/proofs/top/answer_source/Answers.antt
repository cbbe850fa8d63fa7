use Rattle.std.proofs.Common.{ℕ, List, [], ◌∷◌, Ok, refl, sym, subst}
use Rattle.twe_io.specs.Ends.{WasRead, source}
use Rattle.twe_report.specs.Reading.{IsInput}
use Rattle.twe_report.specs.declared.reading.Input.{Input}
use Rattle.twe_batch.specs.Answers.{BatchCause}
use Rattle.twe_batch.specs.Words.{word_for}
use Rattle.twe_batch.proofs.top.answer_source.Goals as goal

-- the batch that was read is answered
pub returns-in_ok-text-in-Given : goal.returns-in_ok-text-in-Given
returns-in_ok-text-in-Given g c =
    let src = source g.S.Source.left g.S.Source.faults g.S.Source.read_gives in
    let was = subst (λ (i : Input). IsInput src c.args.src.now c.read_input.new.src i) c.in-Given.is c.in_ok-input.ensures in
    let text = subst (λ (t : List ℕ). WasRead src c.args.src.now (Ok t) c.read_input.new.src) (sym c.as_slice.ensures) was in
    let made = c.in_ok-text-in-Given in
    subst (BatchCause src (word_for c.args.job ∷ []) c.args.src.now c.read_input.new.src) (sym c.on_out.ensures)
    (BatchCause.batch c.args.job c.as_slice.result.now made.text refl text made.ensures)

-- or why none could be read
pub returns-in-Failed : goal.returns-in-Failed
returns-in-Failed g c =
    let src = source g.S.Source.left g.S.Source.faults g.S.Source.read_gives in
    BatchCause.not_read c.args.job refl (subst (λ (i : Input). IsInput src c.args.src.now c.read_input.new.src i) c.in-Failed.is c.in_ok-input.ensures)

-- what was read is short enough
pub answer_batch-requires : goal.answer_batch-requires
answer_batch-requires g c =
    let src = source g.S.Source.left g.S.Source.faults g.S.Source.read_gives in
    let was = subst (λ (i : Input). IsInput src c.args.src.now c.read_input.new.src i) c.in-Given.is c.in_ok-input.ensures in
    let text = subst (λ (t : List ℕ). WasRead src c.args.src.now (Ok t) c.read_input.new.src) (sym c.as_slice.ensures) was in
    (c.type_bounds.sync-R, text.told.2)
