use Rattle.twe_io.specs.Ends.{source}
use Rattle.text_answers.proofs.Inputs.{input_was_read}
use Rattle.text_answers.proofs.reading.read_input_of.Goals as goal

pub returns : goal.returns
returns g c =
    input_was_read (source g.S.Source.left g.S.Source.faults g.S.Source.read_gives) c.args.cmd.now c.args.src.now c.read_input.new.src
    c.read_input.result c.requires c.read_input.ensures
