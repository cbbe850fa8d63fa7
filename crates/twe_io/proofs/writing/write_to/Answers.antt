use Rattle.twe_io.specs.Ends.{sink}
use Rattle.twe_io.proofs.Written.{wrote}
use Rattle.twe_io.proofs.writing.write_to.Goals as goal

pub returns : goal.returns
returns g c =
    wrote (sink g.K.Sink.written g.K.Sink.faults g.K.Sink.write_gives) _ _ _ _ c.write_whole.ensures.whole c.write_whole.ensures.part c.write_whole.ensures.fault c.write_whole.ensures.writes
