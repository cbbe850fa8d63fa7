-- What is kept of places with one more, and the way along a trail that goes on by a statement.
use Rattle.std.proofs.Common.{◌≡◌, ℕ, suc, min, Bool, true, false, ◌||◌, List, [], ◌∷◌, ◌++◌, length, reverse, refl, sym, ap, ◌∙◌, if◌then◌else◌, arith}
use Rattle.std.specs.Prelude.{Option, None, Some, option_to_list}
use mathlib.Core.List.{reverse-cons}
use Rattle.std.proofs.lemmas.Bool.Decides.{nat_tests}
use Rattle.twe_base.specs.declared.place.Place.{Place}
use Rattle.twe_program.specs.Statement.{Statement}
use Rattle.cover_flow.specs.ControlPath.{Path}
use Rattle.cover_flow.specs.Out.{puts_out, takes_in}
use Rattle.refusal_causes.specs.declared.places.Four.{Four}
use Rattle.refusal_causes.specs.declared.places.KeptPlaces.{KeptPlaces}
use Rattle.refusal_causes.specs.declared.way.Begins.{Begins}
use Rattle.refusal_causes.specs.declared.way.Begins.TheVariants.{Spawn, Join}
use Rattle.refusal_causes.specs.declared.way.ControlWay.{ControlWay}
use Rattle.refusal_causes.specs.Places.{first_four, kept, max_counted}
use Rattle.refusal_causes.specs.Ways.{shown_at, begins_of, places_since, way_along}
use Rattle.refusal_causes.specs.inner.KeptPlaces.{with_next, one_more, kept_with}
use Rattle.refusal_causes.specs.inner.Traced.{with_place, carried}

first_four-next : (xs : List Place) (place : Place) → with_next place (first_four xs) ≡ first_four (xs ++ place ∷ [])
first_four-next [] place = refl
first_four-next (a ∷ []) place = refl
first_four-next (a ∷ b ∷ []) place = refl
first_four-next (a ∷ b ∷ c ∷ []) place = refl
first_four-next (a ∷ b ∷ c ∷ d ∷ more) place = refl

one_more-min : (n : ℕ) → one_more (min n max_counted) ≡ min (suc n) max_counted
one_more-min n = grind (arith, nat_tests)

abbrev places : Four → Four → ℕ → KeptPlaces
places first last count = record { first = first; last = last; count = count }

kept-more : (place : Place) (xs : List Place) → kept_with place (kept xs) ≡ kept (place ∷ xs)
kept-more place xs =
    ap (λ n. places (with_next place (first_four (reverse xs))) (first_four (place ∷ xs)) n) (one_more-min (length xs))
    ∙ ap (λ four. places four (first_four (place ∷ xs)) (min (suc (length xs)) max_counted))
    (first_four-next (reverse xs) place ∙ ap first_four (sym (reverse-cons place xs)))

with_place-kept : (place : Option Place) (xs : List Place) → with_place place (kept xs) ≡ kept (option_to_list place ++ xs)
with_place-kept None xs = refl
with_place-kept (Some place) xs = kept-more place xs

abbrev way : Begins → KeptPlaces → ControlWay
way begins places = record { begins = begins; places = places }

-- by whether the statement spawns into the future, or joins it
carried_by : (puts takes : Bool) (place : Option Place) (begins : Begins) (xs : List Place)
    → (if puts then way Spawn (with_place place (kept [])) else (if takes then way Join (with_place place (kept [])) else way begins (with_place place (kept xs))))
    ≡ way (if puts then Spawn else (if takes then Join else begins)) (kept (option_to_list place ++ (if puts || takes then [] else xs)))
carried_by true takes place begins xs = ap (way Spawn) (with_place-kept place [])
carried_by false true place begins xs = ap (way Join) (with_place-kept place [])
carried_by false false place begins xs = ap (way begins) (with_place-kept place xs)

pub carried-along : (f : ℕ) (s : Statement) (trail : Path) → carried f s (way_along f trail) ≡ way_along f (s ∷ trail)
carried-along f s trail = carried_by (puts_out f s) (takes_in f s) (shown_at s) (begins_of f trail) (places_since f trail)
