use Rattle.std.proofs.Common.{◌∙◌, w32, to_z, of_z}
use Rattle.opt_engine.proofs.Hinting.{read_first_is}
use Rattle.opt_engine.proofs.hinted.read_first.Goals as goal

pub returns : goal.returns
returns c =
    read_first_is c.args.touching.now c.note_read.new.touching c.args.cell (to_z w32 (of_z w32 c.args.value)) c.requires.may (c.note_read.ensures.cells ∙ c.set.ensures) c.requires.first
    c.note_read.ensures.marks c.note_read.ensures.noted
