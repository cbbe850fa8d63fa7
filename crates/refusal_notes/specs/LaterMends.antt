-- Edits by which a task is made by `executeLater` instead of `spawn`, so that it needs no effect of its maker.
use Rattle.std.specs.Prelude.{ℕ, Bool, ◌&&◌, Option, None, Some, List, [], ◌∷◌, ◌++◌, codes, if◌then◌else◌}
use Rattle.twe_base.specs.declared.place.Place.{Place}
use Rattle.twe_report.specs.Texts.{place_text}
use Rattle.refusal_notes.specs.declared.mends.Mend.{Mend}
use Rattle.refusal_notes.specs.declared.spots.CutText.{CutText}
use Rattle.refusal_notes.specs.declared.spots.Mark.{Mark}
use Rattle.refusal_notes.specs.declared.spots.Spot.{Spot}
use Rattle.refusal_notes.specs.Edits.{edited, place_offset}
use Rattle.refusal_notes.specs.Spots.{token_is, next_word, spots_behind}

-- the tokens at the place and after it
abbrev pub spots_at : CutText → Place → List Spot
spots_at cut place = spots_behind (place_offset cut.bytes place) cut.spots

-- `executeLater` instead of `spawn` at 6:14
abbrev pub later_said : Place → List ℕ
later_said place = codes "`executeLater` instead of `spawn` at " ++ place_text place

-- what else comes of it
abbrev pub later_comes : List ℕ
later_comes = codes ", but what follows may run before the task does"

-- the task is made so where this `spawn` begins
abbrev pub later_mend : List ℕ → Mark → Mend
later_mend text mark = record {
  said = later_said mark.place;
  comes = later_comes;
  text = edited text mark.offset 5 (codes "executeLater");
}

-- the same, if there is one
abbrev pub later_mend_at : List ℕ → Option Mark → List Mend
later_mend_at text None = []
later_mend_at text (Some mark) = later_mend text mark ∷ []

-- the first `spawn` at the place or after it is an `executeLater`
abbrev pub next_later_mends : CutText → Place → List Mend
next_later_mends cut place = later_mend_at cut.bytes (next_word (codes "spawn") (spots_at cut place))

-- the name at the place is that of a task that is spawned there
abbrev pub spawns_at : CutText → Place → Bool
spawns_at cut place = token_is (spots_at cut place) 1 (codes ".") && token_is (spots_at cut place) 2 (codes "spawn")

-- the same, if the name at the place is that of a task that is spawned there
abbrev pub later_mends : CutText → Place → List Mend
later_mends cut place = if spawns_at cut place then next_later_mends cut place else []
