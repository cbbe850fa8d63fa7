-- Every event keeps the invariant, which holds at the start: so it holds in each state that events lead to.
use Rattle.std.proofs.Common.{◌≡◌, ◌⊎◌, ℕ, List, [], ◌∷◌, Some, sym, ap, subst, ◌∙◌, inl, inr, ⊎_elim}
use Rattle.region_paths.specs.declared.elements.Elem.{Elem}
use Rattle.effect_sets.specs.declared.effects.Effect.{Effect}
use Rattle.prefix_tree.specs.Nodes.{IsTreeOfPaths}
use Rattle.floor_laws.specs.admission.admission_core.Tasks.{Tasks}
use Rattle.floor_laws.specs.admission.admission_core.States.{ActivityIsOver, IsAbove, IsAmong, IsApartBelow, Record, Purpose, Admit, Child, Stage, Descends, Steps, Walks, Leaves, held, Activity, State, PassesFor, with_stage}
use Rattle.floor_laws.specs.admission.admission_core.Events.{Places, PlacesChild, Removes, TreeEvent, Begin, Down, Give, WalkDown, WalkUp, PassBy, Place, PlaceChild, TakeOut, Bar, GiveBack, End}
use Rattle.floor_laws.specs.admission.admission_core.Entries.{TaskEvent, TakeTurn, GiveTurn, GiveFirst, Enable, Run, Make}
use Rattle.floor_laws.specs.admission.admission_core.Rule.{CoreIsReached, quiet, in_tree, by_task, DescentsSawPass, WalksSawPass, IsLast}
use Rattle.floor_laws.proofs.admission.admission_core.Invariant.{IsPast, Kept}
use Rattle.floor_laws.proofs.admission.admission_core.TreeLemmas.{above_refl}
use Rattle.floor_laws.proofs.admission.admission_core.PutLemmas.{put_none_keeps}
use Rattle.floor_laws.proofs.admission.admission_core.MoveLemmas.{begin, down, give, walk_down, walk_up, pass_by, leave}
use Rattle.floor_laws.proofs.admission.admission_core.RecordLemmas.{place_keeps}
use Rattle.floor_laws.proofs.admission.admission_core.ChildLemmas.{child_keeps}
use Rattle.floor_laws.proofs.admission.admission_core.RemoveLemmas.{remove_keeps}
use Rattle.floor_laws.proofs.admission.admission_core.EntryLemmas.{take_keeps, give_keeps, first_keeps, admit_keeps}
use Rattle.floor_laws.proofs.admission.admission_core.QuietLemmas.{quiet_kept}
use Rattle.floor_laws.proofs.admission.admission_core.SegmentLemmas.{run_keeps, make_keeps}

-- the activity with its stage, and with its purpose, written out
at_stage : (s : State) (w : ℕ) (a : Activity) (stage : Stage) → s.activities w ≡ Some a → a.stage ≡ stage → s.activities w ≡ Some (record a { stage = stage })
at_stage s w a stage active same = active ∙ ap (λ (x : Stage). Some (record a { stage = x })) same

at_purpose : (s : State) (w : ℕ) (a : Activity) (purpose : Purpose) (stage : Stage) → s.activities w ≡ Some a → a.purpose ≡ purpose → a.stage ≡ stage
    → s.activities w ≡ Some (record { purpose = purpose; place = a.place; stage = stage })
at_purpose s w a purpose stage active first second =
    at_stage s w a stage active second ∙ ap (λ (x : Purpose). Some (record { purpose = x; place = a.place; stage = stage })) first

module _ (nodes : List (List Elem)) (tree : IsTreeOfPaths nodes) (s : State) (kept : Kept nodes s) where
  after_place : (w : ℕ) (a : Activity) (t : ℕ) (e : Effect) (done : List ℕ) → Places nodes s w a t e done
      → Kept nodes (with_stage (record s { records = record { task = t; effect = e; node = a.place } ∷ s.records }) w a (Leaves (held a.stage)))
  after_place w a t e done h =
      let placed = place_keeps nodes tree s kept w t a.place e done (at_purpose s w a (Admit t e) (Walks (a.place ∷ []) done) h.active h.purpose h.stage)
      (λ r among same. subst (λ (x : Purpose). PassesFor s.tasks x r) h.purpose (h.pass r among same)) h.below in
      leave nodes tree (record s { records = record { task = t; effect = e; node = a.place } ∷ s.records }) placed w a (held a.stage) h.active (λ n among. among)

  after_child : (w : ℕ) (a : Activity) (c : ℕ) (e : Effect) (done : List ℕ) → PlacesChild s w a c e done
      → Kept nodes (with_stage (record s { records = record { task = c; effect = e; node = a.place } ∷ s.records }) w a (Leaves (held a.stage)))
  after_child w a c e done h =
      let placed = child_keeps nodes tree s kept w c a.place e done h.child.0 (at_purpose s w a (Child c e) (Walks (a.place ∷ []) done) h.active h.purpose h.stage) h.child.1 h.child.2 h.child.3 in
      leave nodes tree (record s { records = record { task = c; effect = e; node = a.place } ∷ s.records }) placed w a (held a.stage) h.active (λ n among. among)

  after_remove : (w : ℕ) (a : Activity) (t : ℕ) (e : Effect) (done : List ℕ) (records : List Record) → Removes s w a t e done records
      → Kept nodes (with_stage (record s { records = records }) w a (Leaves (held a.stage)))
  after_remove w a t e done records h =
      let removed = remove_keeps nodes s w (record { task = t; effect = e; node = a.place }) records kept h.task h.others in
      leave nodes tree (record s { records = records }) removed w a (held a.stage) h.active (λ n among. among)

  tree_event : (n : State) → TreeEvent nodes s n → Kept nodes n
  tree_event n (Begin w a h is) = subst (λ (x : State). Kept nodes x) (sym is) (begin nodes tree s kept w a h)
  tree_event n (Down w a m c h is) =
      subst (λ (x : State). Kept nodes x) (sym is)
      (down nodes tree s kept w a m c (at_stage s w a (Descends m) h.active h.stage) h.child h.way h.free h.pass)
  tree_event n (Give w a m c stage h is) =
      subst (λ (x : State). Kept nodes x) (sym is)
      (give nodes tree s kept w a m c stage (at_stage s w a (Steps m c) h.active h.at) h.come)
  tree_event n (WalkDown w a t e m c stack done h is) =
      subst (λ (x : State). Kept nodes x) (sym is)
      (walk_down nodes tree s kept w a m c stack done (at_stage s w a (Walks (m ∷ stack) done) h.active h.stage) h.child h.free h.unfinished h.pass)
  tree_event n (WalkUp w a c m stack done h is) =
      subst (λ (x : State). Kept nodes x) (sym is)
      (walk_up nodes tree s kept w a c m stack done (at_stage s w a (Walks (c ∷ m ∷ stack) done) h.active h.stage) h.pass h.below)
  tree_event n (PassBy w a m c stack done h is) =
      subst (λ (x : State). Kept nodes x) (sym is)
      (pass_by nodes tree s kept w a m c stack done (at_stage s w a (Walks (m ∷ stack) done) h.active h.stage) h.child h.free h.bare)
  tree_event n (Place w a t e done h is) = subst (λ (x : State). Kept nodes x) (sym is) (after_place w a t e done h)
  tree_event n (PlaceChild w a c e done h is) = subst (λ (x : State). Kept nodes x) (sym is) (after_child w a c e done h)
  tree_event n (TakeOut w a t e done records h is) = subst (λ (x : State). Kept nodes x) (sym is) (after_remove w a t e done records h)
  tree_event n (Bar w a active is) = subst (λ (x : State). Kept nodes x) (sym is) (leave nodes tree s kept w a (held a.stage) active (λ m among. among))
  tree_event n (GiveBack w a m others active stage is) =
      subst (λ (x : State). Kept nodes x) (sym is)
      (leave nodes tree s kept w (record a { stage = Leaves (m ∷ others) }) others (at_stage s w a (Leaves (m ∷ others)) active stage) (λ x among. inr among))
  tree_event n (End w a active stage is) = subst (λ (x : State). Kept nodes x) (sym is) (put_none_keeps nodes s w kept)

  task_event : (after : Tasks) → TaskEvent nodes s after → Kept nodes (record s { tasks = after })
  task_event after (TakeTurn w t task h) = take_keeps nodes tree s kept after w t task h
  task_event after (GiveTurn w t task h) = give_keeps nodes tree s kept after w t task h
  task_event after (GiveFirst w t task h) = first_keeps nodes tree s kept after w t task h
  task_event after (Enable w t task h) = admit_keeps nodes tree s kept after w t task h
  task_event after (Run w t task joins waits status h) = run_keeps nodes s kept after w t task joins waits status h
  task_event after (Make w t c task joins waits effects spawned h) = make_keeps nodes s kept after w t task c joins waits effects spawned h

pub reached_kept : (nodes : List (List Elem)) (s : State) → IsTreeOfPaths nodes → CoreIsReached nodes s → Kept nodes s
reached_kept nodes n tree (quiet h) = quiet_kept nodes n h
reached_kept nodes n tree (in_tree {s} before event) = tree_event nodes tree s (reached_kept nodes s tree before) n event
reached_kept nodes n tree (by_task {s} after before event is) =
    subst (λ (x : State). Kept nodes x) (sym is) (task_event nodes tree s (reached_kept nodes s tree before) after event)

last_past : (nodes : List (List Elem)) (stage : Stage) (last x : ℕ) → IsLast stage last → ActivityIsOver nodes x last → IsPast nodes stage x
last_past nodes (Descends n) last x is over = subst (λ (y : ℕ). ActivityIsOver nodes x y) is over
last_past nodes (Steps n c) last x is over = subst (λ (y : ℕ). ActivityIsOver nodes x y) is over
last_past nodes (Walks stack done) last x is over = absurd is
last_past nodes (Leaves ns) last x is over = absurd is

pub descents_saw : (nodes : List (List Elem)) (s : State) → Kept nodes s → DescentsSawPass nodes s
descents_saw nodes s kept w t e stage last r active is among over =
    (kept.going w (record { purpose = Admit t e; place = active.0; stage = stage }) active.1).seen r among (last_past nodes stage last r.node is over)

pub walks_saw : (nodes : List (List Elem)) (s : State) → IsTreeOfPaths nodes → Kept nodes s → WalksSawPass nodes s
walks_saw nodes s tree kept w t e last stack done r active among past =
    let g = kept.going w (record { purpose = Admit t e; place = active.0; stage = Walks (last ∷ stack) done }) active.1 in
    ⊎_elim
    (λ (over : ActivityIsOver nodes r.node last). g.seen r among (inl over))
    (λ (rest : ((f : ℕ) × IsAmong f done × IsAbove nodes f r.node) ⊎ IsApartBelow nodes e r.node).
    ⊎_elim
    (λ (low : (f : ℕ) × IsAmong f done × IsAbove nodes f r.node). g.seen r among (inr low))
    (λ (apart : IsApartBelow nodes e r.node).
    let home = (kept.home r among).place in
    λ live i. absurd (apart r.effect r.node home (above_refl nodes tree r.node home.there) i))
    rest)
    past
