-- Each task is known with its maker, and those on its way wait for one another, over a legal move.
use Rattle.std.proofs.Common.{◌≡◌, ◌<◌, ◌≤◌, ◌+◌, ◌++◌, ◌⊎◌, inl, inr, ℕ, List, [], ◌∷◌, length, length-append, length-set, Option, None, Some, refl, sym, ap, ◌∙◌, subst, arith}
use Rattle.std.specs.Prelude.{slice_get, slice_set}
use Rattle.seg_journal.specs.declared.journal.End.{End}
use Rattle.seg_journal.specs.declared.journal.End.TheVariants as ends
use Rattle.seg_journal.specs.declared.journal.Entry.{Entry}
use Rattle.seg_journal.specs.declared.moves.Move.{Move}
use Rattle.twe_base.specs.Limits.{Bounds}
use Rattle.twe_program.specs.Program.{Program}
use Rattle.twe_program.specs.WellFormed.{IsWellFormed}
use Rattle.wait_graph.specs.Chain.{none}
use Rattle.wait_graph.specs.Waiting.{WaitsOn, WaitsOnUnlessDone}
use Rattle.machine_state.specs.declared.state.State.{State}
use Rattle.machine_state.specs.Changes.{LeavesAlone, made_by}
use Rattle.machine_state.specs.Legal.{MayMove}
use Rattle.machine_state.specs.Moves.{move_result}
use Rattle.machine_state.proofs.links.ChainsStay.{chain_stays}
use Rattle.machine_state.proofs.lists.Places.{set_cases}
use Rattle.machine_state.proofs.standing.Standing.{Stands}
use Rattle.machine_state.proofs.tasks.Movers.{mover_there}
use Rattle.held_span.proofs.Longer.{get-cases, get-kept, get-last}
use Rattle.held_span.specs.declared.ways.Ways.{Ways}
use Rattle.held_span.specs.inner.Freeing.{Walks}
use Rattle.run_laws.specs.Orders.{HasMade}
use Rattle.held_span.specs.inner.Spanning.{AreLed}
use Rattle.held_span.specs.inner.Walking.{AreWays, entered}

-- who was made before, or is made by the entry
made_cases : (before : List Entry) (entry : Entry) (s u : ℕ) → HasMade (before ++ entry ∷ []) s u → HasMade before s u ⊎ ((entry.mv.task ≡ s) × (entry.end ≡ ends.Made u))
made_cases before entry s u made = elim (get-cases before entry made.place made.entry made.there) [
  | inl old ↦ inl (record { entry = made.entry; place = made.place; there = old; by = made.by; made = made.made })
  | inr new ↦ inr (sym (ap (λ (e : Entry). e.mv.task) new.1) ∙ made.by, sym (ap (λ (e : Entry). e.end) new.1) ∙ made.made)
]

-- the ways with the next task
pub ways_entered : (ways : Ways) (t : ℕ) → AreWays ways → t < length ways.makers → AreWays (entered ways t)
ways_entered ways t are there = record {
  as_many = length-append ways.firsts (length ways.firsts ∷ []) ∙ (ap (λ (n : ℕ). n + 1) are.as_many ∙ sym (length-append ways.makers (t ∷ [])));
  lower = λ u maker is some. elim (get-cases ways.makers t u maker is) [
    | inl old ↦ are.lower u maker old some
    | inr new ↦ (let last = new.0 in let same = new.1 in omega (arith, last, same, there))
  ];
  back = λ u first is. elim (get-cases ways.firsts (length ways.firsts) u first is) [
    | inl old ↦ are.back u first old
    | inr new ↦ (let last = new.0 in let same = new.1 in omega (arith, last, same))
  ];
}

-- the ways with the first task of another way
pub ways_set : (ways : Ways) (t s : ℕ) → AreWays ways → s ≤ t → AreWays (record { makers = ways.makers; firsts = slice_set ways.firsts t s })
ways_set ways t s are below = record {
  as_many = length-set ways.firsts t s ∙ are.as_many;
  lower = are.lower;
  back = λ u first is. elim (set_cases ways.firsts t u s first is) [
    | inl same ↦ (let at = same.0 in let one = same.1 in omega (arith, at, one, below))
    | inr other ↦ are.back u first other.1
  ];
}

module _ (p : Program) (lim : Bounds) (well : IsWellFormed p) (before : List Entry) (st : State) (stands : Stands p lim st) (mv : Move) (end : End) (may : MayMove st mv)
    (alone : LeavesAlone p st (move_result p lim st mv).0 mv end) (ways : Ways) (led : AreLed before st ways) where
  abbrev after : State
  after = (move_result p lim st mv).0

  abbrev entry : Entry
  entry = record { mv = mv; end = end }

  firsts_on : (m first : ℕ) → slice_get ways.firsts m ≡ Some first → WaitsOnUnlessDone after.links first m
  firsts_on m first is = chain_stays p lim well st mv.kind mv.task first m may stands (led.firsts m first is)

  -- if nobody is made
  module _ (no_child : made_by end ≡ 0) where
    as_many : length ways.makers ≡ length after.tasks
    as_many = let tasks = alone.tasks in let old = led.many in omega (arith, tasks, old, no_child)

    makers_on : (s u : ℕ) → HasMade (before ++ entry ∷ []) s u → slice_get ways.makers u ≡ Some s
    makers_on s u made = elim (made_cases before entry s u made) [
      | inl old ↦ led.makers s u old
      | inr new ↦ (let one = ap made_by new.1 in absurd (omega (arith, one, no_child)))
    ]

    pub led_on : (new : Ways) → new ≡ ways → AreLed (before ++ entry ∷ []) after new
    led_on new same = subst (AreLed (before ++ entry ∷ []) after) (sym same) (record { are = led.are; many = as_many; makers = makers_on; firsts = firsts_on })

    pub led_walked : (low : Option ℕ) (walk : List ℕ) (new : Ways) → ((s : ℕ) → low ≡ Some s → (s ≤ mv.task) × WaitsOn st.links s mv.task) → Walks ways new low mv.task walk
        → AreLed (before ++ entry ∷ []) after new
    led_walked None walk new waits walks = led_on new walks.1
    led_walked (Some s) walk new waits walks =
        subst (AreLed (before ++ entry ∷ []) after) (sym walks.1)
        (record {
          are = ways_set ways mv.task s led.are (waits s refl).0;
          many = as_many;
          makers = makers_on;
          firsts = λ m first is. elim (set_cases ways.firsts mv.task m s first is) [
            | inl same ↦
                subst (λ (n : ℕ). WaitsOnUnlessDone after.links first n) (sym same.0)
                (subst (λ (n : ℕ). WaitsOnUnlessDone after.links n mv.task) same.1 (chain_stays p lim well st mv.kind mv.task s mv.task may stands (inl (waits s refl).1)))
            | inr other ↦ firsts_on m first other.1
          ];
        })

  -- if a task is made
  module _ (c : ℕ) (end_is : end ≡ ends.Made c) where
    pub child_is : c ≡ length ways.makers
    child_is = alone.made c end_is ∙ sym led.many

    mover_below : mv.task < length ways.makers
    mover_below = let there = mover_there st mv.kind mv.task may in let many = led.many in omega (arith, there, many)

    pub led_made : (new : Ways) → new ≡ entered ways mv.task → AreLed (before ++ entry ∷ []) after new
    led_made new is =
        subst (AreLed (before ++ entry ∷ []) after) (sym is)
        (record {
          are = ways_entered ways mv.task led.are mover_below;
          many = length-append ways.makers (mv.task ∷ []) ∙ (
              let tasks = alone.tasks in
              let one = ap made_by end_is in
              let old = led.many in
              omega (arith, tasks, one, old)
              );
          makers = λ s u made. elim (made_cases before entry s u made) [
            | inl old ↦ get-kept ways.makers mv.task u s (led.makers s u old)
            | inr new ↦
                let same : c ≡ u = let both : ends.Made c ≡ ends.Made u = sym end_is ∙ new.1 in cc (both) in
                subst (λ (n : ℕ). slice_get (ways.makers ++ mv.task ∷ []) n ≡ Some s) (sym child_is ∙ same)
                (get-last ways.makers mv.task ∙ ap Some new.0)
          ];
          firsts = λ m first is_first. elim (get-cases ways.firsts (length ways.firsts) m first is_first) [
            | inl old ↦ firsts_on m first old
            | inr new ↦ inl (subst (λ (n : ℕ). WaitsOn after.links n m) (new.0 ∙ sym new.1) none)
          ];
        })
