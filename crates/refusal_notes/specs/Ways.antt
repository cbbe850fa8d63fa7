-- What is said of a way.
use Rattle.std.specs.Prelude.{ℕ, nat_lt, if◌then◌else◌, List, [], ◌∷◌, ◌++◌, Option, None, Some, codes}
use Rattle.twe_base.specs.declared.place.Place.{Place}
use Rattle.refusal_causes.specs.declared.places.Four.{Four}
use Rattle.refusal_causes.specs.declared.places.KeptPlaces.{KeptPlaces}
use Rattle.refusal_causes.specs.declared.way.Begins.{Begins}
use Rattle.refusal_causes.specs.declared.way.Begins.TheVariants.{Start, Spawn, Join}
use Rattle.refusal_causes.specs.declared.way.ControlWay.{ControlWay}
use Rattle.twe_report.specs.Texts.{place_text}

-- the place, if there is one
abbrev pub first_text : Option Place → List ℕ
first_text None = []
first_text (Some place) = place_text place

-- a comma and the place, if there is one
abbrev pub next_text : Option Place → List ℕ
next_text None = []
next_text (Some place) = codes ", " ++ place_text place

-- the first four places
abbrev pub four_text : Four → List ℕ
four_text p = first_text p.one ++ (next_text p.two ++ (next_text p.three ++ next_text p.four))

-- two dots, if there are more than eight places
abbrev pub dots_text : ℕ → List ℕ
dots_text count = if nat_lt 8 count then codes ", .." else []

-- of the last four places, the last one first, those that are none of the first four of this many
abbrev pub last_text : ℕ → Four → List ℕ
last_text count p =
    next_text (if nat_lt 7 count then p.four else None)
    ++ (next_text (if nat_lt 6 count then p.three else None)
    ++ (next_text (if nat_lt 5 count then p.two else None)
    ++ next_text (if nat_lt 4 count then p.one else None)))

-- all places or, of more than eight, the first four, two dots and the last four
abbrev pub way_places_text : KeptPlaces → List ℕ
way_places_text places = four_text places.first ++ (dots_text places.count ++ last_text places.count places.last)

-- what stands before this many places of a way that begins so
abbrev pub heading_text : Begins → ℕ → List ℕ
heading_text Spawn count = codes "a way on which it is still out: "
heading_text Join count = codes "a way on which it is not out: joined: "
heading_text Start count =
    if nat_lt 0 count then codes "a way on which it is not out: never spawned: "
    else codes "a way on which it is not out: never spawned"

-- what is said of a way
abbrev pub way_text : ControlWay → List ℕ
way_text way = heading_text way.begins way.places.count ++ way_places_text way.places

-- why an effect of a spawned task may be out: the way on which it is, if there is one
abbrev pub out_reason : Option ControlWay → List ℕ
out_reason None = codes "on some way to here that task is spawned and not joined, and one of both effects writes"
out_reason (Some way) = way_text way

-- a remark on the way, if there is one
abbrev pub way_remarks : Option ControlWay → List (List ℕ)
way_remarks None = []
way_remarks (Some way) = way_text way ∷ []
