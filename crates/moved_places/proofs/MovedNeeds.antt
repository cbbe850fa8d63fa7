-- What names and statements need, with each place moved.
use Rattle.twe_base.specs.declared.place.Place.{Place}
use Rattle.name_check.specs.declared.names.GlobalName.{GlobalName}
use Rattle.name_check.specs.Asks.{Ask, uses, needs, declares, returns_value, returns_nothing}
use Rattle.name_check.specs.Sites.{Site}
use Rattle.moved_places.specs.MovedExpression.{moved_name, moved_expression}

abbrev pub moved_global : (Place → Place) → GlobalName → GlobalName
moved_global to name = record { text = name.text; place = to name.place; global = name.global }

abbrev pub moved_ask : (Place → Place) → Ask → Ask
moved_ask to (uses name asks) = uses (moved_name to name) asks
moved_ask to (needs type value) = needs type (moved_expression to value)
moved_ask to (declares name) = declares (moved_name to name)
moved_ask to (returns_value place) = returns_value (to place)
moved_ask to (returns_nothing place) = returns_nothing (to place)

abbrev pub moved_site : (Place → Place) → Site → Site
moved_site to site = record { locals = site.locals; returns = site.returns; ask = moved_ask to site.ask }
