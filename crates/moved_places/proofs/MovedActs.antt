-- What a body does, with each place moved.
use Rattle.twe_base.specs.declared.place.Place.{Place}
use Rattle.effect_check.specs.declared.act.Act.{Act}
use Rattle.effect_check.specs.declared.act.ActKind.{ActKind}
use Rattle.effect_check.specs.declared.act.ActKind.TheVariants as kinds

abbrev pub moved_kind : (Place → Place) → ActKind → ActKind
moved_kind to (kinds.Touch effect place) = kinds.Touch effect (to place)
moved_kind to (kinds.Call effects place) = kinds.Call effects (to place)
moved_kind to (kinds.Make future spawned deterministic effects future_place place) =
    kinds.Make future spawned deterministic effects (to future_place) (to place)
moved_kind to (kinds.Wait future join place) = kinds.Wait future join (to place)

abbrev pub moved_act : (Place → Place) → Act → Act
moved_act to act = record { point = act.point; kind = moved_kind to act.kind }
