use Rattle.std.proofs.Common.{length}
use Rattle.twe_parser.specs.inner.Reading.{HasRead}
use Rattle.twe_parser.proofs.parser.Parser.read.Given as goal

abbrev pub invariant-loop-rest : goal.invariant-loop-rest
invariant-loop-rest l = HasRead l.text l.place l.rest l.self

abbrev pub decreases-loop-rest : goal.decreases-loop-rest
decreases-loop-rest l = length l.rest
