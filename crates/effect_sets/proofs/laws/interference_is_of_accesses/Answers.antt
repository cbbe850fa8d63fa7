use Rattle.effect_sets.proofs.Accesses.{access-conflicts, effects-conflict, covered-alone, covered-apart, lists-alone, lists-apart}
use Rattle.effect_sets.proofs.laws.interference_is_of_accesses.Goals as goal

pub returns : goal.returns
returns c = record {
  effects = effects-conflict;
  access = access-conflicts;
  alone = covered-alone;
  apart = covered-apart;
  lists_alone = lists-alone;
  lists_apart = lists-apart;
}
