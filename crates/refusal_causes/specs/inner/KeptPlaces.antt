-- One more place, after those that are kept.
use Rattle.std.specs.Prelude.{ℕ, ◌+◌, nat_lt, if◌then◌else◌, None, Some, is_none}
use Rattle.twe_base.specs.declared.place.Place.{Place}
use Rattle.refusal_causes.specs.declared.places.Four.{Four}
use Rattle.refusal_causes.specs.declared.places.KeptPlaces.{KeptPlaces}
use Rattle.refusal_causes.specs.Places.{max_counted}

-- at the end, if there are fewer than four
abbrev pub with_next : Place → Four → Four
with_next place p =
    if is_none p.one then record { one = Some place; two = None; three = None; four = None }
    else (if is_none p.two then record { one = p.one; two = Some place; three = None; four = None }
    else (if is_none p.three then record { one = p.one; two = p.two; three = Some place; four = None }
    else (if is_none p.four then record { one = p.one; two = p.two; three = p.three; four = Some place }
    else p)))

-- at the front, and the fourth is left out
abbrev pub with_front : Place → Four → Four
with_front place p = record { one = Some place; two = p.one; three = p.two; four = p.three }

-- one place more, if so many are counted
abbrev pub one_more : ℕ → ℕ
one_more n = if nat_lt n max_counted then n + 1 else max_counted

-- the places with one more at the end
abbrev pub kept_with : Place → KeptPlaces → KeptPlaces
kept_with place p = record {
  first = with_next place p.first;
  last = with_front place p.last;
  count = one_more p.count;
}
