use Rattle.effect_sets.proofs.Accesses.{covers-under, apart-under}
use Rattle.effect_sets.proofs.laws.written_tests_are_sound.Goals as goal

pub returns : goal.returns
returns c = record { covered = covers-under; apart = apart-under }
