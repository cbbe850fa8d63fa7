-- What is needed where a name or an expression stands, and what is there.
use Rattle.std.specs.Prelude.{true, false, List, [], ◌∷◌}
use Rattle.twe_base.specs.declared.place.Place.{Place}
use Rattle.twe_ast.specs.declared.item.ReturnType.{ReturnType}
use Rattle.name_check.specs.declared.names.GlobalName.{GlobalName}
use Rattle.name_check.specs.declared.scope.LocalName.{LocalName}
use Rattle.name_check.specs.Names.{binding_of}
use Rattle.name_check.specs.Types.{type_of}
use Rattle.name_check.specs.Asks.{Ask, uses, needs, declares, returns_value, returns_nothing, place_of}
use Rattle.name_check.specs.Sites.{Site}
use Rattle.name_check.specs.FailsName.{binding_as}
use Rattle.name_causes.specs.declared.need.NameNeed.{NameNeed}
use Rattle.name_causes.specs.declared.need.NameNeed.TheVariants.{Used, Typed, New, Returned}
use Rattle.name_causes.specs.declared.need.PlacedNeed.{PlacedNeed}

-- a need at its place
abbrev pub placed : Place → NameNeed → PlacedNeed
placed place need = record { place = place; need = need }

-- what one thing that a text asks for needs in a declaration that returns this, if these names are in scope, and what is there
abbrev pub need_of_ask : List GlobalName → List LocalName → ReturnType → Ask → PlacedNeed
need_of_ask globals locals returns (uses name name_use) =
    placed name.place (Used name_use (binding_as globals locals name_use name.text))
need_of_ask globals locals returns (needs type value) = placed (place_of value) (Typed type (type_of globals locals value))
need_of_ask globals locals returns (declares name) = placed name.place (New (binding_of globals locals name.text))
need_of_ask globals locals returns (returns_value place) = placed place (Returned true returns)
need_of_ask globals locals returns (returns_nothing place) = placed place (Returned false returns)

-- the same of several, in their order
abbrev pub needs_of_asks : List GlobalName → List LocalName → ReturnType → List Ask → List PlacedNeed
needs_of_asks globals locals returns [] = []
needs_of_asks globals locals returns (ask ∷ asks) =
    need_of_ask globals locals returns ask ∷ needs_of_asks globals locals returns asks

-- what is needed at a site, and what is there
abbrev pub need_at_site : List GlobalName → Site → PlacedNeed
need_at_site globals site = need_of_ask globals site.locals site.returns site.ask

-- the same of several, in their order
abbrev pub needs_at_sites : List GlobalName → List Site → List PlacedNeed
needs_at_sites globals [] = []
needs_at_sites globals (site ∷ sites) = need_at_site globals site ∷ needs_at_sites globals sites
