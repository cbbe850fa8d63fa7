-- Places in order, of which at most eight are kept.
use Rattle.std.specs.Prelude.{ℕ, ◌-◌, ◌^◌, List, reverse, length, min, slice_get}
use Rattle.twe_base.specs.declared.place.Place.{Place}
use Rattle.refusal_causes.specs.declared.places.Four.{Four}
use Rattle.refusal_causes.specs.declared.places.KeptPlaces.{KeptPlaces}

-- the first four of these places, or all of them if they are fewer
abbrev pub first_four : List Place → Four
first_four places = record {
  one = slice_get places 0;
  two = slice_get places 1;
  three = slice_get places 2;
  four = slice_get places 3;
}

-- so many places at most are counted
abbrev pub max_counted : ℕ
max_counted = 2 ^ 64 - 1

-- what is kept of places that are given with the latest first: the first four, the last four, and how many there are
abbrev pub kept : List Place → KeptPlaces
kept latest = record {
  first = first_four (reverse latest);
  last = first_four latest;
  count = min (length latest) max_counted;
}
