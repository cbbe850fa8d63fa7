-- The tasks of an execution, in the order in which sequential code makes them, are different and within the limit.
use Rattle.std.proofs.Common.{◌≡◌, ◌≤◌, ◌<◌, ◌+◌, ◌++◌, ◌⊎◌, ◌||◌, ◌==◌, ℕ, Bool, true, false, List, [], ◌∷◌, length, inl, inr, refl, sym, ap, ◌∙◌, subst, arith, length-append}
use Rattle.std.specs.Prelude.{slice_get}
use Rattle.std.specs.List.{list_any}
use Rattle.std.proofs.lemmas.Bool.{eqb-true}
use Rattle.std.proofs.lemmas.List.{append_assoc}
use Rattle.std.proofs.lemmas.Option.{slice_get_within}
use Rattle.seg_journal.specs.declared.journal.Entry.{Entry}
use Rattle.twe_base.specs.Limits.{Bounds}
use Rattle.twe_program.specs.Program.{Program}
use Rattle.twe_program.specs.WellFormed.{IsWellFormed}
use Rattle.effect_check.proofs.Members.{IsIn, in-contains}
use Rattle.isolation_laws.specs.soundness.KeepsEffects.{KeepsEffects}
use Rattle.machine_state.specs.declared.state.State.{State}
use Rattle.machine_state.specs.declared.state.TaskRow.{TaskRow}
use Rattle.machine_state.specs.Changes.{next_segment}
use Rattle.machine_state.specs.Rows.{IsRow}
use Rattle.machine_state.specs.Runs.{Legal, state_after}
use Rattle.machine_state.proofs.lists.Places.{got_one}
use Rattle.determinism_laws.specs.Execution.{Execution, ends, joins, spawns}
use Rattle.determinism_laws.specs.Orders.{EachStandsOnce, SegmentAccesses}
use Rattle.determinism_laws.specs.Segments.{IsSegmentOf, Spawns, state_before}
use Rattle.determinism_laws.specs.Sequential.{IsSegmentAt}
use Rattle.determinism_laws.proofs.RankLaws.{final_stands}
use Rattle.determinism_laws.proofs.Trees.{one_segment, own_after, spawned_number, spawned_there}
use Rattle.determinism_laws.specs.numbering.Numberings.{AllBelow, AllDiffer, numbering_of}
use Rattle.determinism_laws.proofs.numbering.Listed.{listed_at}
use Rattle.determinism_laws.specs.theorem.Steps.{StepsAreNumbered, AreSpawned, tasks_after}

same_by : (a b : ℕ) → (a < b → ⊥) → (b < a → ⊥) → a ≡ b
same_by a b not_below not_above = omega (arith, not_below, not_above)

-- the numbering of a list gives its numbers to the places of the list
pub numbered_suffix : (beyond : ℕ) (before names : List ℕ) (count : ℕ) → length before ≡ count → StepsAreNumbered (numbering_of beyond (before ++ names)) count names
numbered_suffix beyond before [] count is = tt
numbered_suffix beyond before (name ∷ names) count is =
    let more : length (before ++ name ∷ []) ≡ count + 1 = length-append before (name ∷ []) ∙ ap (λ (n : ℕ). n + 1) is in
    let split : (before ++ name ∷ []) ++ names ≡ before ++ name ∷ names = append_assoc before (name ∷ []) names in (
      ap (numbering_of beyond (before ++ name ∷ names)) (sym is) ∙ listed_at beyond before name names,
      subst (λ (l : List ℕ). StepsAreNumbered (numbering_of beyond l) (count + 1) names) split (numbered_suffix beyond (before ++ name ∷ []) names (count + 1) more),
    )

pub tasks_counted : (count : ℕ) (names : List ℕ) → tasks_after count names ≡ count + length names
tasks_counted count [] = omega arith
tasks_counted count (name ∷ names) = let rest = tasks_counted (count + 1) names in omega (arith, rest)

module _ (p : Program) (wf : IsWellFormed p) (keeps : KeepsEffects p) (lim : Bounds) (journal : List Entry) (legal : Legal p lim journal) where
  abbrev st : ℕ → State
  st n = state_before p lim journal n

  -- a task is spawned once
  one_spawn : (q r i j c : ℕ) → Spawns p lim journal q i c → Spawns p lim journal r j c → i ≡ j
  one_spawn q r i j c one two =
      let number_i = spawned_number p wf keeps lim journal legal q i c one in
      let number_j = spawned_number p wf keeps lim journal legal r j c two in
      same_by i j
      (λ less. let there = spawned_there p wf keeps lim journal legal q i c j one less in omega (arith, there, number_j))
      (λ less. let there = spawned_there p wf keeps lim journal legal r j c i two less in omega (arith, there, number_i))

  -- each segment of the list is one at its key, from this place on
  abbrev AllFrom : ℕ → List SegmentAccesses → Type 0
  AllFrom place [] = Unit {0}
  AllFrom place (s ∷ others) = (IsSegmentAt p lim journal s.key s × (place ≤ s.key)) × AllFrom place others

  from_joined : (place : ℕ) (xs ys : List SegmentAccesses) → AllFrom place xs → AllFrom place ys → AllFrom place (xs ++ ys)
  from_joined place [] ys one two = two
  from_joined place (x ∷ xs) ys one two = (one.0, from_joined place xs ys one.1 two)

  from_earlier : (place later : ℕ) (xs : List SegmentAccesses) → place ≤ later → AllFrom later xs → AllFrom place xs
  from_earlier place later [] le all = tt
  from_earlier place later (x ∷ xs) le all = ((all.0.0, omega (arith, le, all.0.1)), from_earlier place later xs le all.1)

  at_key : (place : ℕ) (s : SegmentAccesses) → IsSegmentAt p lim journal place s → IsSegmentAt p lim journal s.key s × (place ≤ s.key)
  at_key place s at = (subst (λ (n : ℕ). IsSegmentAt p lim journal n s) (sym at.key) at, omega (arith, at.key))

  executed_from : (u place : ℕ) (segments : List SegmentAccesses) → Execution p lim journal u place segments → AllFrom place segments
  executed_from u place segments (ends _ _ s value segment at end) = (at_key place s at, tt)
  executed_from u place segments (joins _ _ on next s others segment at end is_next later) =
      (at_key place s at, from_earlier place next others (omega (arith, is_next.least)) (executed_from u next others later))
  executed_from u place segments (spawns _ _ child first next s below others spawn at is_first execution is_next later) = (
    at_key place s at,
    from_joined place below others (from_earlier place first below (omega (arith, is_first.least)) (executed_from child first below execution))
        (from_earlier place next others (omega (arith, is_next.least)) (executed_from u next others later)),
  )

  -- segments at one place are the same
  at_same : (a b : SegmentAccesses) → IsSegmentAt p lim journal a.key a → IsSegmentAt p lim journal b.key b → a.key ≡ b.key → a ≡ b
  at_same a b at_a at_b key =
      let at = subst (λ (n : ℕ). IsSegmentAt p lim journal n b) (sym key) at_b in
      let task : at.task ≡ at_a.task = one_segment journal at.task at_a.task a.key at.segment at_a.segment in
      let row : at.row ≡ at_a.row = got_one (slice_get (st a.key).tasks at_a.task) (subst (λ (n : ℕ). IsRow (st a.key) n at.row) task at.there) at_a.there in
      let accesses : a.accesses ≡ b.accesses = at_a.accesses ∙ ap (λ (r : TaskRow). (next_segment p (st a.key) r).accesses) (sym row) ∙ sym at.accesses in
      λ i. record { key = key i; accesses = accesses i }

  -- the segment that spawned a task of the list
  record SpawnedIn (segments : List SegmentAccesses) (child : ℕ) : Type 0 where
    by : SegmentAccesses
    member : IsIn by segments
    parent : ℕ
    spawn : Spawns p lim journal parent by.key child

  first_or_later : (name child : ℕ) (rest : Bool) (is : Bool) → (name == child) ≡ is → (is || rest) ≡ true → (name ≡ child) ⊎ (rest ≡ true)
  first_or_later name child rest true e there = inl (eqb-true name child e)
  first_or_later name child rest false e there = inr there

  in_later : (s : SegmentAccesses) (segments : List SegmentAccesses) (child : ℕ) → SpawnedIn segments child → SpawnedIn (s ∷ segments) child
  in_later s segments child found = record { by = found.by; member = inr found.member; parent = found.parent; spawn = found.spawn }

  spawned_in : (segments : List SegmentAccesses) (children : List ℕ) → AreSpawned p lim journal segments children → (child : ℕ) → list_any (λ c. c == child) children ≡ true
      → SpawnedIn segments child
  spawned_in [] [] spawned child there = absurd (cc (there))
  spawned_in [] (name ∷ names) spawned child there = absurd spawned
  spawned_in (s ∷ segments) [] spawned child there = absurd (cc (there))
  spawned_in (s ∷ segments) (name ∷ names) (inl later) child there = in_later s segments child (spawned_in segments (name ∷ names) later.1 child there)
  spawned_in (s ∷ segments) (name ∷ names) (inr here) child there =
      elim (first_or_later name child (list_any (λ c. c == child) names) (name == child) refl there) [
        | inl same ↦ record { by = s; member = inl refl; parent = here.0.0; spawn = subst (λ (n : ℕ). Spawns p lim journal here.0.0 s.key n) same here.0.1 }
        | inr later ↦ in_later s segments child (spawned_in segments names here.1 child later)
      ]

  from_member : (place : ℕ) (s : SegmentAccesses) (segments : List SegmentAccesses) → AllFrom place segments → IsIn s segments → IsSegmentAt p lim journal s.key s × (place ≤ s.key)
  from_member place s [] all there = absurd there
  from_member place s (first ∷ others) all (inl here) = subst (λ (x : SegmentAccesses). IsSegmentAt p lim journal x.key x × (place ≤ x.key)) (sym here) all.0
  from_member place s (first ∷ others) all (inr later) = from_member place s others all.1 later

  all_differ : (place : ℕ) (segments : List SegmentAccesses) (children : List ℕ) → AllFrom place segments → EachStandsOnce segments → AreSpawned p lim journal segments children → AllDiffer children
  all_differ place [] [] all once spawned = tt
  all_differ place [] (name ∷ names) all once spawned = absurd spawned
  all_differ place (s ∷ segments) [] all once spawned = tt
  all_differ place (s ∷ segments) (name ∷ names) all once (inl later) = all_differ place segments (name ∷ names) all.1 once.1 later.1
  all_differ place (s ∷ segments) (name ∷ names) all once (inr here) = (
    (λ there.
        let found = spawned_in segments names here.1 name there in
        let key = one_spawn here.0.0 found.parent s.key found.by.key name here.0.1 found.spawn in
        let same : s ≡ found.by = at_same s found.by all.0.0 (from_member place found.by segments all.1 found.member).0 key in
        once.0 (in-contains segments s (subst (λ (x : SegmentAccesses). IsIn x segments) (sym same) found.member))),
    all_differ place segments names all.1 once.1 here.1,
  )

  final_below : (u : ℕ) (row : TaskRow) → 1 ≤ lim.tasks → IsRow (state_after p lim journal) u row → u < lim.tasks
  final_below u row some there =
      let below = slice_get_within (state_after p lim journal).tasks u row there in
      let few = (final_stands p wf keeps lim journal legal).limit some in
      omega (arith, below, few)

  all_below : (segments : List SegmentAccesses) (children : List ℕ) → 1 ≤ lim.tasks → AreSpawned p lim journal segments children → AllBelow lim.tasks children
  all_below [] [] some spawned = tt
  all_below [] (name ∷ names) some spawned = absurd spawned
  all_below (s ∷ segments) [] some spawned = tt
  all_below (s ∷ segments) (name ∷ names) some (inl later) = all_below segments (name ∷ names) some later.1
  all_below (s ∷ segments) (name ∷ names) some (inr here) = (final_below name here.0.1.child some here.0.1.there, all_below segments names some here.1)

  -- the task itself is none of them
  not_itself : (t first : ℕ) (segments : List SegmentAccesses) (children : List ℕ) → IsSegmentOf journal t first → AllFrom first segments → AreSpawned p lim journal segments children
      → list_any (λ c. c == t) children ≡ true → ⊥
  not_itself t first segments children segment all spawned there =
      let found = spawned_in segments children spawned t there in
      let after = own_after p wf keeps lim journal legal found.parent found.by.key t first found.spawn segment in
      let at = from_member first found.by segments all found.member in
      absurd (omega (arith, after, at.1))

  -- what is known of the numbering of the task and of the tasks that it made
  pub record HasNumbering (t : ℕ) (children : List ℕ) : Type 0 where
    pub differ : AllDiffer (t ∷ children)
    pub below : AllBelow lim.tasks (t ∷ children)

  pub has_numbering : (t first : ℕ) (row : TaskRow) (segments : List SegmentAccesses) (children : List ℕ) → 1 ≤ lim.tasks → IsRow (state_after p lim journal) t row
      → Execution p lim journal t first segments → IsSegmentOf journal t first → EachStandsOnce segments → AreSpawned p lim journal segments children → HasNumbering t children
  has_numbering t first row segments children some there execution segment once spawned =
      let all = executed_from t first segments execution in
      record {
        differ = (not_itself t first segments children segment all spawned, all_differ first segments children all once spawned);
        below = (final_below t row some there, all_below segments children some spawned);
      }
