use Rattle.std.proofs.Common.{List, Option, subst}
use Rattle.twe_base.specs.declared.place.Place.{Place}
use Rattle.refusal_causes.specs.text_rules.Open.{AreFoundAt}
use Rattle.refusal_causes.proofs.text_rules.Ways.{found_at_end}
use Rattle.refusal_causes.proofs.text_rules.end.open_at_end.Goals as goal

-- they are found
pub unreachable-requires : goal.unreachable-requires
unreachable-requires c =
    let text = c.args.text.now in
    found_at_end text c.args.end c.requires
    (subst (λ (found : Option (List Place)). AreFoundAt text c.args.end found) c.in-None.is c.in_ok-places.ensures)
