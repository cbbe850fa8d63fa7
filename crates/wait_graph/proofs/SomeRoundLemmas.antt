-- A walk among fewer numbers than it has steps comes to some number again, so the stuck cycle is a cycle.
use Rattle.std.proofs.Common.{◌≡◌, ℕ, zero, suc, ◌<◌, ◌≤◌, ◌+◌, List, length, get_or, set, drop, cond, Option, ◌⊎◌, None, Some, refl, sym, ap, ◌∙◌, subst, inl, inr, arith, length-set, replicate}
use Rattle.std.specs.Prelude.{count_by, is_none}
use Rattle.std.proofs.lemmas.Bool.{cases_lt}
use Rattle.std.proofs.lemmas.List.{get_or-replicate, get_or_past, length-replicate}
use Rattle.std.proofs.lemmas.List.Folds.{sum_by-replicate}
use Rattle.wait_graph.specs.declared.tasks.Link.{Link}
use Rattle.wait_graph.specs.Link.{IsOrdered}
use Rattle.wait_graph.specs.Walk.{walk}
use Rattle.wait_graph.specs.StuckCycle.{AllAreHeldUp, IsCycle, IsUndone, lowest_undone, next_of, stuck_cycle}
use Rattle.wait_graph.specs.inner.Again.{ComesAgain, after}
use Rattle.wait_graph.proofs.CycleLemmas.{IsUndone-after}
use Rattle.wait_graph.proofs.FoundLemmas.{IsCycle-round, IsFound, IsFound-from, IsRoundOf-found, stuck_cycle-round}
use Rattle.wait_graph.proofs.PlacesLemmas.{ComesAgain-from_place, HasPlaces, HasPlaces-more, count_by-none_set}
use Rattle.wait_graph.proofs.UndoneLemmas.{IsUndone-lowest}
use Rattle.wait_graph.proofs.WalkLemmas.{length-walk}

-- within so many steps the walk from start comes to a number again
record Again (next : ℕ → ℕ) (start size : ℕ) : Type 0 where
  before : ℕ
  steps : ℕ
  again : ComesAgain next before steps start
  within : steps ≤ size

module _ (next : ℕ → ℕ) (start size : ℕ) (stays : (n : ℕ) → after next n start < size) where
  -- no number has a place yet
  abbrev empty : List (Option ℕ)
  empty = replicate size None

  abbrev nowhere : Option ℕ
  nowhere = None

  no_place : (t : ℕ) → get_or empty t nowhere ≡ nowhere
  no_place t = elim (cases_lt t size) [
    | inl below ↦ get_or-replicate size t nowhere nowhere below
    | inr past ↦ get_or_past empty t nowhere (let n : length empty ≡ size = length-replicate size nowhere in omega (arith, n, past))
  ]

  no_places : HasPlaces next start 0 empty
  no_places = record { met = λ t i e. absurd (cc (e, no_place t)); placed = λ i below. absurd (omega arith) }

  some_or_none : (o : Option ℕ) → ((i : ℕ) × (o ≡ Some i)) ⊎ (o ≡ None)
  some_or_none None = inr refl
  some_or_none (Some i) = inl (i, refl)

  found : (left n i : ℕ) (places : List (Option ℕ)) → HasPlaces next start n places → get_or places (after next n start) None ≡ Some i → n + left ≡ size → Again next start size
  found left n i places has some whole = record { before = i; steps = n; again = ComesAgain-from_place next start n i places has some; within = omega (arith, whole) }

  -- the walk is at a number that has a place, or takes one of the places that are left
  again_from : (left n : ℕ) (places : List (Option ℕ)) → HasPlaces next start n places → length places ≡ size → count_by is_none places ≡ left → n + left ≡ size → Again next start size
  again_from zero n places has many none whole =
      let at = after next n start in
      let low : at < length places = let below = stays n in omega (arith, below, many) in
      elim (some_or_none (get_or places at None)) [
        | inl some ↦ found zero n some.0 places has some.1 whole
        | inr new ↦ absurd (let fewer = count_by-none_set at n places low new in omega (arith, fewer, none))
      ]
  again_from (suc left) n places has many none whole =
      let at = after next n start in
      let low : at < length places = let below = stays n in omega (arith, below, many) in
      elim (some_or_none (get_or places at None)) [
        | inl some ↦ found (suc left) n some.0 places has some.1 whole
        | inr new ↦ again_from left (n + 1) (set places at (Some n)) (HasPlaces-more next start n at places has refl low new)
            (length-set places at (Some n) ∙ many) (let fewer = count_by-none_set at n places low new in omega (arith, fewer, none)) (omega (arith, whole))
      ]

  again : Again next start size
  again =
      again_from size 0 empty no_places (length-replicate size nowhere)
      (sum_by-replicate (λ (o : Option ℕ). cond {A = ℕ} (is_none o) 1 0) size nowhere ∙ omega arith) (omega arith)

-- the walk that the stuck cycle is made of
module _ (links : List Link) (held : List (Option ℕ)) (ordered : IsOrdered links) (all : AllAreHeldUp links held) (t : ℕ) (undone : IsUndone links t) where
  abbrev next : ℕ → ℕ
  next = next_of links held

  abbrev start : ℕ
  start = lowest_undone links

  start_undone : IsUndone links start
  start_undone = IsUndone-lowest links t undone

  -- the tasks that it meets before it comes to one of them again
  tasks_found : (a : Again next start (length links)) → IsFound next start a.before (length links) (walk next a.steps start)
  tasks_found a = IsFound-from next start a.before (length links) a.steps (walk next a.steps start) (length-walk next a.steps start) refl a.again a.within

  cycle_by : Again next start (length links) → IsCycle links held (stuck_cycle links held)
  cycle_by a =
      let round = IsRoundOf-found next start a.before (length links) (walk next a.steps start) (tasks_found a) in
      subst (IsCycle links held) (stuck_cycle-round links held a.before (drop a.before (walk next a.steps start)) round)
      (IsCycle-round links held start a.before (length links) (drop a.before (walk next a.steps start)) ordered all start_undone round)

  pub stuck_cycle_goes_round : IsCycle links held (stuck_cycle links held)
  stuck_cycle_goes_round = cycle_by (again next start (length links) (λ n. (IsUndone-after links held n start ordered all start_undone).there))
