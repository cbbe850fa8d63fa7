use Rattle.std.proofs.Common.{◌≡◌, ◌∙◌, false, sym}
use Rattle.text_answers.specs.Input.{has_input}
use Rattle.twe_io.specs.Ends.{source}
use Rattle.text_answers.proofs.Inputs.{input_of_load}
use Rattle.text_answers.proofs.reading.input_of.Goals as goal

-- nothing is read for a load
pub returns : goal.returns
returns g c =
    let none : has_input c.args.cmd.now ≡ false = sym c.has_input.ensures ∙ c.if-has_input.false in
    input_of_load (source g.S.Source.left g.S.Source.faults g.S.Source.read_gives) c.args.cmd.now c.args.src.now c.new.result none c.new.ensures c.requires
    c.load_texts_are_accepted.ensures.never_refused
