-- The walk back goes on by one task.
use Rattle.std.proofs.Common.{◌≡◌, ◌<◌, ◌≤◌, ℕ, List, [], ◌∷◌, ◌++◌, Some, length, map, append_assoc, sym, ap, ◌∙◌, subst, arith}
use Rattle.std.specs.Prelude.{slice_get}
use Rattle.std.proofs.lemmas.List.{append-nil, map-append}
use Rattle.span_profile.specs.declared.heaviest_chain.key.Key.{Key}
use Rattle.span_profile.specs.declared.heaviest_chain.key.Key.TheVariants.{Task}
use Rattle.held_span.specs.declared.ways.Ways.{Ways}
use Rattle.held_span.specs.inner.Walking.{AreWays, IsWalk}

-- these tasks were passed on the way from t to here
abbrev pub Passed : Ways → ℕ → ℕ → List Key → ℕ → List Key → Type 0
Passed ways s t before at keys =
    (tasks : List ℕ) × (keys ≡ before ++ map (λ task. Task task) tasks) × ((others : List ℕ) → IsWalk ways s at others → IsWalk ways s t (tasks ++ others))

module _ (ways : Ways) (s t : ℕ) (before : List Key) where
  pub walk-begins : Passed ways s t before t before
  walk-begins = ([], sym (append-nil before), λ others h. h)

  pub walk-goes : (at maker first : ℕ) (keys more : List Key) → s < at → slice_get ways.makers at ≡ Some maker → slice_get ways.firsts maker ≡ Some first → more ≡ keys ++ Task maker ∷ [] → Passed ways s t before at keys → Passed ways s t before first more
  walk-goes at maker first keys more above made back grown passed =
      let tasks = passed.0 in (
        tasks ++ maker ∷ [],
        grown
            ∙ (ap (λ (l : List Key). l ++ Task maker ∷ []) passed.1
            ∙ (append_assoc before (map (λ task. Task task) tasks) (Task maker ∷ [])
            ∙ ap (λ (l : List Key). before ++ l) (sym (map-append (λ task. Task task) tasks (maker ∷ []))))),
        λ others h. subst (IsWalk ways s t) (sym (append_assoc tasks (maker ∷ []) others)) (passed.2 (maker ∷ others) (above, made, (first, back, h))),
      )

  pub walk-ends : (at : ℕ) (keys : List Key) → at ≤ s → Passed ways s t before at keys → (tasks : List ℕ) × IsWalk ways s t tasks × (keys ≡ before ++ map (λ task. Task task) tasks)
  walk-ends at keys over passed =
      (passed.0, subst (IsWalk ways s t) (append-nil passed.0) (passed.2 [] over), passed.1)

-- where the walk goes on is lower, and there
pub walk-lower : (ways : Ways) → AreWays ways → (s at maker first : ℕ) → s < at → slice_get ways.makers at ≡ Some maker → slice_get ways.firsts maker ≡ Some first → first < at
walk-lower ways are s at maker first above made back =
    let lower = are.lower at maker made (omega arith) in
    let first_lower = are.back maker first back in
    omega arith

pub walk-there : (ways : Ways) → AreWays ways → (s at maker : ℕ) → s < at → at < length ways.makers → slice_get ways.makers at ≡ Some maker → maker < length ways.firsts
walk-there ways are s at maker above there made =
    let lower = are.lower at maker made (omega arith) in
    omega (arith, are.as_many)
