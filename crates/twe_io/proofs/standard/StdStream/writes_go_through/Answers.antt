use Rattle.twe_io.specs.Standard.{through}
use Rattle.twe_io.proofs.Through.{writes_through}
use Rattle.twe_io.proofs.standard.StdStream.writes_go_through.Goals as goal

pub returns : goal.returns
returns g c text taken writes =
    writes_through (λ stream. through stream.carried.bytes stream.faults) _ (λ before piece answer after adds. adds) writes
