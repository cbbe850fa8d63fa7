use Rattle.twe_io.specs.Ends.{source}
use Rattle.twe_io.proofs.Read.{was_read}
use Rattle.twe_io.proofs.reading.read_text.Goals as goal

pub returns : goal.returns
returns g c =
    let said = c.read_all.ensures in
    was_read (source g.S.Source.left g.S.Source.faults g.S.Source.read_gives) _ _ _ said.whole said.ended said.short said.fault said.too_long said.reads
