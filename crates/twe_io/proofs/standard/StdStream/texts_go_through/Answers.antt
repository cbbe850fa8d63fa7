use Rattle.twe_io.specs.Standard.{through}
use Rattle.twe_io.proofs.Through.{text_through}
use Rattle.twe_io.proofs.standard.StdStream.texts_go_through.Goals as goal

pub returns : goal.returns
returns g c limit text reads =
    text_through (λ stream. through stream.carried.bytes stream.faults) _ (λ before room given after adds. adds) limit _ _ text reads
