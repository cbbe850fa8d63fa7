-- The tasks that a walk passes are on the way, and each other task on the way is followed already by one that it passes.
use Rattle.std.proofs.Common.{◌≡◌, ◌≢◌, ◌<◌, ◌≤◌, inl, inr, ℕ, List, [], ◌∷◌, ◌++◌, Some, subst, arith}
use Rattle.std.specs.Prelude.{slice_get}
use Rattle.std.specs.List.{Contains}
use Rattle.std.proofs.lemmas.Bool.{cases_eq, cases_lt}
use Rattle.wait_graph.specs.Chain.{more}
use Rattle.wait_graph.specs.declared.tasks.Link.{Link}
use Rattle.wait_graph.specs.Waiting.{IsDone, WaitsFor, WaitsOn, WaitsOnUnlessDone}
use Rattle.wait_graph.proofs.ChainLemmas.{Chain-append}
use Rattle.held_span.specs.Ways.{IsOnWay}
use Rattle.held_span.specs.declared.ways.Ways.{Ways}
use Rattle.held_span.specs.inner.Walking.{AreWays, IsMakerOf, IsWalk}
use Rattle.held_span.proofs.Ancestors.{Descends, between, descends_up, first_step, last_step, meeting, one_maker, made_up, waits_descend}
use Rattle.held_span.specs.inner.Paths.{IsPath}
use Rattle.held_span.proofs.Paths.{path-more}
use Rattle.span_profile.proofs.Lists.{contains_cases, contains_first, contains_later, contains_none}

module _ (ways : Ways) (are : AreWays ways) (links : List Link) (wait : (s u : ℕ) → WaitsFor links s u → IsMakerOf ways.makers s u)
    (undone : (s u : ℕ) → WaitsFor links s u → ¬ IsDone links s)
    (first_waits : (m first : ℕ) → slice_get ways.firsts m ≡ Some first → WaitsOnUnlessDone links first m)
    (s t : ℕ) (waits : WaitsOn links s t) where
  -- who waits for t is not done
  waiter_undone : (m : ℕ) → WaitsOn links m t → m ≢ t → ¬ IsDone links m
  waiter_undone m chain other = let step = first_step chain other in undone m step.0 step.1

  first_down : (m first : ℕ) → slice_get ways.firsts m ≡ Some first → WaitsOn links m t → m ≢ t → Descends ways are first m
  first_down m first is chain other = elim (first_waits m first is) [
    | inl from ↦ waits_descend ways are links wait from
    | inr done ↦ absurd (waiter_undone m chain other done)
  ]

  -- What is known of the next task that a walk passes.
  record IsPassed (at maker : ℕ) : Type 0 where
    made : IsMakerOf ways.makers maker at
    lower : maker < at
    down : Descends ways are maker t
    way : IsOnWay links s t maker

  passed : (at maker : ℕ) → Descends ways are at t → s < at → slice_get ways.makers at ≡ Some maker → IsPassed at maker
  passed at maker down above is =
      let made : IsMakerOf ways.makers maker at = record { there = is; some = omega arith } in
      let lower = made_up ways are maker at made in
      let far = descends_up ways are down in
      let whole : Descends ways are maker t = more made down in
      let reached : s ≤ maker = elim (meeting ways are (waits_descend ways are links wait waits) down) [
        | inl forth ↦
            let last = last_step ways are forth (λ same. omega (arith, same, above)) in
            descends_up ways are (subst (λ (x : ℕ). Descends ways are s x) (one_maker ways are last.0 maker at last.2 made) last.1)
        | inr back ↦ let below = descends_up ways are back in absurd (omega (arith, below, above))
      ] in
      let both = between ways are links wait waits maker whole reached in
      record { made = made; lower = lower; down = whole; way = record { reached = both.0; waits = both.1; other = λ same. omega (arith, same, lower, far) } }

  -- where the walk goes on
  next_down : (at maker first : ℕ) → IsPassed at maker → slice_get ways.firsts maker ≡ Some first → Descends ways are first t
  next_down at maker first one is = Chain-append (first_down maker first is one.way.waits one.way.other) one.down

  -- all that it passes are on the way
  pub walk_on_way : (at : ℕ) (walk : List ℕ) → Descends ways are at t → IsWalk ways s at walk → (w : ℕ) → Contains walk w → IsOnWay links s t w
  walk_on_way at [] down is w has = absurd (contains_none w has)
  walk_on_way at (maker ∷ others) down is w has =
      let one = passed at maker down is.0 is.1 in
      elim (contains_cases maker w others has) [
        | inl same ↦ subst (λ (x : ℕ). IsOnWay links s t x) same one.way
        | inr later ↦ walk_on_way is.2.0 others (next_down at maker is.2.0 one is.2.1) is.2.2 w later
      ]

  -- Entries are by tasks. Those by the tasks that the walk passes lead to n, and if the admission of one of these follows the
  -- entries of another, each entry by that other leads to an entry by it.
  module _ (IsEntryBy : ℕ → ℕ → Type 0) (Kept : ℕ → ℕ → Type 0) (n : ℕ) (whole : List ℕ)
      (direct : (w : ℕ) → Contains whole w → (i : ℕ) → IsEntryBy i w → Kept i n)
      (covered : (m first : ℕ) → slice_get ways.firsts m ≡ Some first → ¬ IsDone links m → (w : ℕ) → Descends ways are w m → w ≢ m → first ≤ w
      → (i : ℕ) → IsEntryBy i w → (j : ℕ) × IsEntryBy j m × ((between : List ℕ) × IsPath Kept i between j)) where
    pub walk_covers : (at : ℕ) (walk : List ℕ) → ((w : ℕ) → Contains walk w → Contains whole w) → Descends ways are at t → IsWalk ways s at walk
        → (w : ℕ) → Descends ways are w at → w ≢ at → s ≤ w → (i : ℕ) → IsEntryBy i w → (between : List ℕ) × IsPath Kept i between n
    walk_covers at [] inside down is w from other above i by =
        let below = descends_up ways are from in absurd (omega (arith, below, is, above, other))
    walk_covers at (maker ∷ others) inside down is w from other above i by =
        let one = passed at maker down is.0 is.1 in
        let last = last_step ways are from other in
        let to_maker : Descends ways are w maker = subst (λ (x : ℕ). Descends ways are w x) (one_maker ways are last.0 maker at last.2 one.made) last.1 in
        let first = is.2.0 in
        let to_n : (j : ℕ) → IsEntryBy j maker → Kept j n = direct maker (inside maker (contains_first maker others)) in
        elim (cases_eq w maker) [
          | inl same ↦ ([], to_n i (subst (λ (x : ℕ). IsEntryBy i x) same by))
          | inr ne ↦ elim (cases_lt w first) [
            | inl below ↦
                let to_first : Descends ways are w first = elim (meeting ways are to_maker (first_down maker first is.2.1 one.way.waits one.way.other)) [
                  | inl forth ↦ forth
                  | inr back ↦ let up = descends_up ways are back in absurd (omega (arith, up, below))
                ] in
                walk_covers first others (λ x has. inside x (contains_later maker x others has)) (next_down at maker first one is.2.1) is.2.2 w to_first (λ same. omega (arith, same, below)) above i by
            | inr past ↦
                let found = covered maker first is.2.1 (waiter_undone maker one.way.waits one.way.other) w to_maker ne past i by in
                (found.2.0 ++ found.0 ∷ [], path-more Kept i found.2.0 found.0 n found.2.1 (to_n found.0 found.1))
          ]
        ]
