use Rattle.determinism_laws.proofs.numbering.Alike.{does_the_same, done_before, join_before, make_before}
use Rattle.determinism_laws.proofs.numbering.laws.segments_do_the_same_on_what_they_read.Goals as goal

pub returns : goal.returns
returns c = record { segment = does_the_same; done = done_before; joins = join_before; makes = make_before }
