-- The ways through statements, on which a future is out and is not, from those before them.
use Rattle.std.specs.Prelude.{ℕ, nat_lt, [], Option, None, Some, option_map, if◌then◌else◌}
use Rattle.twe_base.specs.declared.place.Place.{Place}
use Rattle.twe_program.specs.Statement.{Statement, Block, If, While, Return, Statements, no_more, statement, Arms, arm, otherwise, no_else}
use Rattle.cover_flow.specs.Out.{puts_out, takes_in}
use Rattle.refusal_causes.specs.declared.places.KeptPlaces.{KeptPlaces}
use Rattle.refusal_causes.specs.declared.way.Begins.TheVariants.{Spawn, Join}
use Rattle.refusal_causes.specs.declared.way.ControlWay.{ControlWay}
use Rattle.refusal_causes.specs.declared.ways.OutWays.{OutWays}
use Rattle.refusal_causes.specs.Places.{kept}
use Rattle.refusal_causes.specs.Ways.{shown_at, way_along}
use Rattle.refusal_causes.specs.inner.KeptPlaces.{kept_with}

-- no path comes
abbrev pub nowhere : OutWays
nowhere = record { out = None; not_out = None }

-- at the start of a body no future is out
abbrev pub start : OutWays
start = record { out = None; not_out = Some (way_along 0 []) }

-- of two ways the one with fewer places, and the first one if they have as many
abbrev pub shorter : Option ControlWay → Option ControlWay → Option ControlWay
shorter None b = b
shorter (Some way) None = Some way
shorter (Some way) (Some other) = if nat_lt other.places.count way.places.count then Some other else Some way

-- where two courses meet: the shorter ways of both
abbrev pub either : OutWays → OutWays → OutWays
either a b = record { out = shorter a.out b.out; not_out = shorter a.not_out b.not_out }

-- the places with this one, if there is one
abbrev pub with_place : Option Place → KeptPlaces → KeptPlaces
with_place None places = places
with_place (Some place) places = kept_with place places

-- the way that goes on by this statement
abbrev pub carried : ℕ → Statement → ControlWay → ControlWay
carried f s way =
    if puts_out f s then record { begins = Spawn; places = with_place (shown_at s) (kept []) }
    else (if takes_in f s then record { begins = Join; places = with_place (shown_at s) (kept []) }
    else record { begins = way.begins; places = with_place (shown_at s) way.places })

-- the ways that go on by this statement
abbrev pub stepped : ℕ → Statement → OutWays → OutWays
stepped f s ways =
    let out = option_map (carried f s) ways.out in
    let not_out = option_map (carried f s) ways.not_out in
    if puts_out f s then record { out = shorter out not_out; not_out = None }
    else (if takes_in f s then record { out = None; not_out = shorter out not_out }
    else record { out = out; not_out = not_out })

-- the ways after a statement; no way goes on after a `return`, and after a loop come those before it and those by one turn
abbrev mutual
  pub traced : ℕ → Statement → OutWays → OutWays
  traced f (Block point body) ways = traced_all f body ways
  traced f (If point arms) ways = traced_one f nowhere arms ways
  traced f (While point condition body place) ways =
      either ways (traced_all f body (stepped f (While point condition body place) ways))
  traced f (Return point value) ways = nowhere
  traced f s ways = stepped f s ways

  pub traced_all : ℕ → Statements → OutWays → OutWays
  traced_all f no_more ways = ways
  traced_all f (statement first others) ways = traced_all f others (traced f first ways)

  -- after one of the branches before, or one of these
  pub traced_one : ℕ → OutWays → Arms → OutWays → OutWays
  traced_one f before (arm condition body others) ways = traced_one f (either before (traced_all f body ways)) others ways
  traced_one f before (otherwise body) ways = either before (traced_all f body ways)
  traced_one f before no_else ways = either before ways
