use Rattle.effect_sets.proofs.Accesses.{within-covers, covers-within, lists-cover}
use Rattle.effect_sets.proofs.laws.cover_is_of_accesses.Goals as goal

pub returns : goal.returns
returns c = record { within = within-covers; exact = covers-within; lists = lists-cover }
