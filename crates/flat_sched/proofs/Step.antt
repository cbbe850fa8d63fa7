-- A legal move keeps the books in step with the state.
use Rattle.std.proofs.Common.{◌≡◌, ◌≢◌, ◌⊎◌, ◌<◌, inl, inr, ℕ, List, length, Option, Some, None, Any, true, refl, sym, ap, ◌∙◌, subst}
use Rattle.std.specs.Prelude.{slice_get}
use Rattle.std.proofs.lemmas.Bool.{cases_Bool, cases_eq, cases_lt, false≢true}
use Rattle.std.proofs.lemmas.Option.{slice_get_within}
use Rattle.effect_sets.specs.declared.effects.Effect.{Effect}
use Rattle.effect_sets.specs.declared.effects.Summary.{Summary}
use Rattle.effect_sets.specs.Interference.{SomeInterfere}
use Rattle.region_paths.specs.Concrete.{ConcretePath}
use Rattle.seg_journal.specs.declared.moves.Kind.{Kind}
use Rattle.seg_journal.specs.declared.moves.Kind.TheVariants.{Admit, Run}
use Rattle.twe_base.specs.Limits.{Bounds}
use Rattle.wait_graph.specs.Chain.{none, more}
use Rattle.wait_graph.specs.declared.tasks.Link.{Link}
use Rattle.wait_graph.specs.Link.{link_of}
use Rattle.wait_graph.specs.Waiting.{IsDone, WaitsFor, WaitsForNobody, WaitsOn}
use Rattle.wait_graph.proofs.ChainLemmas.{Chain-stays, Chain-fork}
use Rattle.twe_program.specs.Program.{Program}
use Rattle.twe_program.specs.WellFormed.{IsWellFormed}
use Rattle.machine_state.specs.declared.state.State.{State}
use Rattle.machine_state.specs.declared.state.TaskRow.{TaskRow}
use Rattle.machine_state.specs.declared.state.TaskStatus.{TaskStatus}
use Rattle.machine_state.specs.declared.state.TaskStatus.TheVariants.{Made, Enabled, Done, Faulted}
use Rattle.machine_state.specs.Legal.{Interfere, IsBar, MayRun, MayTake}
use Rattle.twe_machine.specs.Listings.{IsListing}
use Rattle.machine_state.specs.Moves.{admitted, admitted_row, result_by_kind}
use Rattle.machine_state.specs.Rows.{HasStatus, IsRow, row_awaited, is_done_row, is_done_status, link_of_row}
use Rattle.machine_state.proofs.standing.LaterStates.{taken_later}
use Rattle.machine_state.proofs.links.LinksAgree.{status_of}
use Rattle.machine_state.proofs.tasks.MadeTasks.{free_by, made_row, orphan_by, yields_by}
use Rattle.machine_state.proofs.tasks.OtherTasks.{after, after_stands, awaited_there, other, other_done, other_waits, status_back, waits_back, waits_row}
use Rattle.machine_state.proofs.lists.Places.{below_there, got_one, set_same}
use Rattle.machine_state.proofs.standing.ReachedStands.{linked_of}
use Rattle.machine_state.proofs.standing.Standing.{IsOver, Stands}
use Rattle.machine_state.proofs.links.TakenJoins.{row_link}
use Rattle.flat_sched.specs.inner.Books.{IsBehind, IsHeldBack, IsUnder, Keeps, Noted}
use Rattle.flat_sched.specs.inner.Groups.{AreGroups, IsMember, MayWriteAt, WritesPath}
use Rattle.flat_sched.specs.inner.Lists.{IsListed, IsReady}
use Rattle.flat_sched.specs.declared.books.Books.{Books}
use Rattle.flat_sched.specs.declared.groups.Group.{Group}
use Rattle.flat_sched.proofs.HeldUp.{waits_or_not}

one_wait : (st : State) (x y z : ℕ) → WaitsFor st.links x y → WaitsFor st.links x z → z ≡ y
one_wait st x y z a b = let e = a.waits in let f = b.waits in cc (e, f)

ends_once : (st : State) (s u v : ℕ) → WaitsForNobody st.links u → WaitsForNobody st.links v → WaitsOn st.links s u → WaitsOn st.links s v → u ≡ v
ends_once st s u v last end a b =
    elim (Chain-fork (one_wait st) a b) [ inl on ↦ Chain-stays last on | inr back ↦ sym (Chain-stays end back) ]

enabled_by : (st : State) (t : ℕ) (row : TaskRow) (status : TaskStatus) → IsRow st t row → row.status ≡ status → HasStatus st t Enabled ⊎ ¬ HasStatus st t Enabled
enabled_by st t row Enabled here is = inl (row, here, is)
enabled_by st t row Made here is = inr (λ has. let enabled = status_of st t row Enabled has here in cc (is, enabled))
enabled_by st t row Done here is = inr (λ has. let enabled = status_of st t row Enabled has here in cc (is, enabled))
enabled_by st t row Faulted here is = inr (λ has. let enabled = status_of st t row Enabled has here in cc (is, enabled))

over_by : (status : TaskStatus) → is_done_status status ≡ true → IsOver status
over_by Made e = absurd (cc (e))
over_by Enabled e = absurd (cc (e))
over_by Done e = tt
over_by Faulted e = tt

-- an admission enables its task, and leaves the links
links_kept : (st : State) (t : ℕ) (found : Option TaskRow) → (admitted st t found).links ≡ st.links
links_kept st t None = refl
links_kept st t (Some row) = refl

no_run : (st : State) (t : ℕ) → HasStatus st t Made → ¬ MayRun st t
no_run st t made run = let one = status_of st t made.0 Enabled run.0 made.1 in cc (one, made.2)

links_of : (p : Program) (lim : Bounds) (st : State) (kind : Kind) (t : ℕ) → MayTake st kind t → HasStatus st t Made → (result_by_kind p lim st kind t).0.links ≡ st.links
links_of p lim st Admit t may made = links_kept st t (slice_get st.tasks t)
links_of p lim st Run t may made = absurd (no_run st t made may)

enabled_of : (p : Program) (lim : Bounds) (st : State) (kind : Kind) (t : ℕ) → MayTake st kind t → HasStatus st t Made → HasStatus (result_by_kind p lim st kind t).0 t Enabled
enabled_of p lim st Admit t may made =
    subst (λ (o : Option TaskRow). HasStatus (admitted st t o) t Enabled) (sym made.1)
    (admitted_row made.0, set_same st.tasks t made.0 (admitted_row made.0) made.1, refl)
enabled_of p lim st Run t may made = absurd (no_run st t made may)

module _ (p : Program) (lim : Bounds) (well : IsWellFormed p) (st : State) (kind : Kind) (t : ℕ) (may : MayTake st kind t) (stands : Stands p lim st) where
  abbrev next_state : State
  next_state = after p lim well st kind t may stands

  stood : Stands p lim next_state
  stood = after_stands p lim well st kind t may stands

  -- a chain of waits after the move was one before it, or goes through t
  chain_back : {s x : ℕ} → s < length st.tasks → WaitsOn next_state.links s x → WaitsOn st.links s x ⊎ WaitsOn next_state.links t x
  chain_back below none = inl none
  chain_back {s} {x} below (more {b = u} wait rest) =
      elim (cases_eq s t) [
        | inl is ↦ inr (subst (λ (n : ℕ). WaitsOn next_state.links n x) is (more wait rest))
        | inr ne ↦
            let before = waits_back p lim well st kind t may stands s u ne below wait in
            elim (chain_back (awaited_there p lim well st kind t may stands s u before.waits) rest) [ inl chain ↦ inl (more before chain) | inr through ↦ inr through ]
      ]

  -- a task that is done waits for nobody
  waiter_undone : (u : ℕ) → WaitsFor next_state.links t u → ¬ IsDone next_state.links t
  waiter_undone u wait done =
      let row = waits_row next_state.links next_state.tasks stood.links t u wait.waits in
      let link = row_link p lim next_state stood t row.0 row.1 in
      let is : is_done_row row.0 ≡ true = sym (ap (λ (l : Link). l.done) link) ∙ done in
      let ended = (stood.rows t row.0 row.1).over (over_by row.0.status is) in
      let free : (link_of_row row.0).waits ≡ None = ap row_awaited ended in
      let waits = sym (ap (λ (l : Link). l.waits) link) ∙ wait.waits in
      cc (free, waits)

  effects_after : (u : ℕ) (row now : TaskRow) → IsRow st u row → IsRow next_state u now → now.effects ≡ row.effects
  effects_after u row now here has =
      let kept = (taken_later p lim st kind t (linked_of p lim well st stands)).kept u row here in
      ap (λ (r : TaskRow). r.effects) (got_one (slice_get next_state.tasks u) has kept.there) ∙ kept.effects

  -- what a task writes stays, so the tasks of a group stay alike
  writes_after : (u : ℕ) (c : ConcretePath) → MayWriteAt st u c → MayWriteAt next_state u c
  writes_after u c w =
      let kept = (taken_later p lim st kind t (linked_of p lim well st stands)).kept u w.0 w.1 in
      (kept.now, kept.there, subst (λ (e : List Effect). Any (WritesPath c) e) (sym (ap (λ (m : Summary). m.effects) kept.effects)) w.2)

  groups_after : (groups : List (Option Group)) → AreGroups st groups → AreGroups next_state groups
  groups_after groups are u g has =
      let a = are u g has in
      record { path = a.path; key = a.key; members = λ x h. writes_after x a.path (a.members x h) }

  -- a task that was made and moves is admitted: it is enabled, and waits for nobody
  admitted_enabled : HasStatus st t Made → HasStatus next_state t Enabled
  admitted_enabled made = enabled_of p lim st kind t may made

  admitted_free : HasStatus st t Made → WaitsForNobody next_state.links t
  admitted_free made =
      let before = (made_row p lim st t stands made).0 in
      free_by next_state t (ap (λ (ls : List Link). (link_of ls t).waits) (links_of p lim st kind t may made) ∙ before)

  module _ (b b' : Books) (keeps : Keeps st b) (ready : IsReady b.ready t) (listing : IsListing next_state b'.enabled) (noted : Noted next_state (record { kind = kind; task = t }) (length st.tasks) b b') where
    kept_waits : (s u : ℕ) → WaitsFor next_state.links s u → IsListed b'.waiters u s
    kept_waits s u wait =
        elim (cases_lt s (length st.tasks)) [
          | inl below ↦
              elim (cases_eq s t) [
                | inl is ↦ subst (λ (n : ℕ). IsListed b'.waiters u n) (sym is) (let own = subst (λ (n : ℕ). WaitsFor next_state.links n u) is wait in noted.waiting u (waiter_undone u own) own)
                | inr ne ↦
                    let was = keeps.waits s u (waits_back p lim well st kind t may stands s u ne below wait) in
                    elim (cases_eq u t) [
                      | inl is ↦ noted.waiters u s (inr (λ done. false≢true (sym wait.undone ∙ subst (λ (n : ℕ). IsDone next_state.links n) (sym is) done))) was
                      | inr away ↦ noted.waiters u s (inl away) was
                    ]
              ]
          | inr new ↦ noted.new_waits s u new wait
        ]

    -- who has waited and may run now has waited for t
    woken : (x u : ℕ) → x ≢ t → x < length st.tasks → WaitsFor st.links x u → WaitsForNobody next_state.links x → IsReady b'.ready x
    woken x u ne below wait nobody =
        let row = below_there st.tasks x below in
        let waits : (link_of next_state.links x).waits ≡ Some u = other_waits p lim well st kind t may stands x row.0 ne row.1 ∙ wait.waits in
        elim (cases_Bool (link_of next_state.links u).done) [
          | inl done ↦
              elim (cases_eq u t) [
                | inl is ↦ noted.woken x (subst (λ (n : ℕ). IsDone next_state.links n) is done) (subst (λ (n : ℕ). IsListed b.waiters n x) is (keeps.waits x u wait))
                | inr away ↦
                    let to = below_there st.tasks u (awaited_there p lim well st kind t may stands x u wait.waits) in
                    absurd (false≢true (sym wait.undone ∙ (sym (other_done p lim well st kind t may stands u to.0 away to.1) ∙ done)))
              ]
          | inr undone ↦ absurd (nobody u (record { waits = waits; undone = undone }))
        ]

    kept_runs : (x : ℕ) → MayRun next_state x → IsReady b'.ready x
    kept_runs x run =
        elim (cases_lt x (length st.tasks)) [
          | inl below ↦
              elim (cases_eq x t) [
                | inl is ↦ subst (λ (n : ℕ). IsReady b'.ready n) (sym is) (noted.ready t ready)
                | inr ne ↦
                    let has = status_back p lim well st kind t may stands x Enabled ne below run.0 in
                    elim (waits_or_not st.links x) [
                      | inl nobody ↦ noted.ready x (keeps.runs x (has, nobody))
                      | inr waits ↦ woken x waits.0 ne below waits.1 run.1
                    ]
              ]
          | inr new ↦ noted.new_ready x new (slice_get_within next_state.tasks x run.0.0 run.0.1)
        ]

    -- who was under a task still is, or is to be looked at
    under_then : (s x : ℕ) → (s ≢ t) ⊎ HasStatus next_state t Enabled → IsUnder b s x → IsUnder b' s x ⊎ IsReady b'.ready x
    under_then s x on (inl listed) = inl (inl (noted.held s x on listed))
    under_then s x on (inr member) = elim (noted.members s x on member) [ inl stays ↦ inl (inr stays) | inr look ↦ inr look ]

    -- tasks that interfere still do
    interferes : (s x : ℕ) (status : TaskStatus) → x ≢ t → HasStatus next_state s status → Interfere st s x → Interfere next_state s x
    interferes s x status ne has both =
        let x_row = other p lim well st kind t may stands x both.1 ne both.3 in (
          has.0,
          x_row.now,
          has.1,
          x_row.there,
          subst (λ (e : List Effect). SomeInterfere e x_row.now.effects.effects) (sym (ap (λ (m : Summary). m.effects) (effects_after s both.0 has.0 both.2 has.1)))
              (subst (λ (e : List Effect). SomeInterfere both.0.effects.effects e) (sym (ap (λ (m : Summary). m.effects) x_row.effects)) both.4),
        )

    abbrev IsKept : ℕ → Type 0
    IsKept x = IsReady b'.ready x ⊎ (IsHeldBack next_state b' x ⊎ IsBehind (IsReady b'.ready) next_state b' x)

    -- a bar to a task stays one, or the task is to be looked at
    kept_bar : (s x : ℕ) → x ≢ t → s < length st.tasks → HasStatus next_state x Made → HasStatus next_state s Enabled → IsBar st s x → IsUnder b' s x ⊎ IsReady b'.ready x → IsKept x
    kept_bar s x ne below made has bar (inr look) = inl look
    kept_bar s x ne below made has bar (inl under) =
        let fresh = made_row p lim next_state x stood made in
        let free = free_by next_state x fresh.0 in
        let orphan = orphan_by next_state x fresh.1 in
        elim (cases_eq x noted.end) [
          | inl is ↦
              elim noted.is_end.ready [
                | inl look ↦ inl (subst (λ (n : ℕ). IsReady b'.ready n) (sym is) look)
                | inr own ↦ absurd (ne (is ∙ own))
              ]
          | inr away ↦ inr (inl (record {
            holder = s;
            bar = (
              bar.0,
              has,
              interferes s x Enabled ne has bar.2,
              λ yields.
                  elim (chain_back below (yields_by next_state s x orphan yields)) [
                    | inl chain ↦ bar.3 (x, chain, none)
                    | inr through ↦ away (ends_once next_state t x noted.end free noted.is_end.last through noted.is_end.chain)
                  ],
            );
            under = under;
          }))
        ]

    -- who is held by a task that is over is to be looked at, or behind one that is
    kept_freed : (x : ℕ) → HasStatus next_state x Made → ¬ HasStatus next_state t Enabled → IsUnder b t x → IsKept x
    kept_freed x made over (inl listed) = inl (noted.freed x over listed)
    kept_freed x made over (inr member) =
        elim (noted.passed (groups_after b.groups keeps.groups) x over member made) [ inl look ↦ inl look | inr behind ↦ inr (inr behind) ]

    kept_held : (x : ℕ) → x ≢ t → HasStatus next_state x Made → IsHeldBack st b x → IsKept x
    kept_held x ne made held =
        let s = held.holder in
        let row = held.bar.1 in
        let s_below = slice_get_within st.tasks s row.0 row.1 in
        elim (cases_eq s t) [
          | inl is ↦
              let mine = below_there st.tasks t (subst (λ (n : ℕ). n < length st.tasks) is s_below) in
              let kept = (taken_later p lim st kind t (linked_of p lim well st stands)).kept t mine.0 mine.1 in
              elim (enabled_by next_state t kept.now kept.now.status kept.there refl) [
                | inl enabled ↦
                    kept_bar s x ne s_below made (subst (λ (n : ℕ). HasStatus next_state n Enabled) (sym is) enabled) held.bar (under_then s x (inr enabled) held.under)
                | inr over ↦ kept_freed x made over (subst (λ (n : ℕ). IsUnder b n x) is held.under)
              ]
          | inr away ↦
              let same = other p lim well st kind t may stands s row.0 away row.1 in
              kept_bar s x ne s_below made (same.now, same.there, same.status ∙ row.2) held.bar (under_then s x (inl away) held.under)
        ]

    -- a task that was behind one that is admitted is held back by it
    kept_behind : (x : ℕ) → x ≢ t → HasStatus next_state x Made → IsBehind (IsReady b.ready) st b x → IsKept x
    kept_behind x ne made h =
        elim (cases_eq h.lower t) [
          | inl is ↦
              let was = subst (λ (n : ℕ). HasStatus st n Made) is h.made in
              let now = admitted_enabled was in
              let orphan = orphan_by next_state x (made_row p lim next_state x stood made).1 in
              elim (noted.members t x (inr now) (subst (λ (n : ℕ). IsMember b.groups n x) is h.member)) [
                | inl stays ↦ inr (inl (record {
                  holder = t;
                  bar = (
                    λ e. ne (sym e),
                    now,
                    interferes t x Enabled ne now (subst (λ (n : ℕ). Interfere st n x) is h.both),
                    λ yields. ne (sym (Chain-stays (admitted_free was) (yields_by next_state t x orphan yields))),
                  );
                  under = inr stays;
                }))
                | inr look ↦ inl look
              ]
          | inr away ↦
              let same = other p lim well st kind t may stands h.lower h.made.0 away h.made.1 in
              let still : HasStatus next_state h.lower Made = (same.now, same.there, same.status ∙ h.made.2) in
              elim (noted.members h.lower x (inl away) h.member) [
                | inl stays ↦ inr (inr (record {
                  lower = h.lower;
                  made = still;
                  looks = noted.ready h.lower h.looks;
                  below = h.below;
                  both = interferes h.lower x Made ne still h.both;
                  member = stays;
                }))
                | inr look ↦ inl look
              ]
        ]

    kept_made : (x : ℕ) → HasStatus next_state x Made → IsKept x
    kept_made x has =
        elim (cases_lt x (length st.tasks)) [
          | inl below ↦
              elim (cases_eq x t) [
                | inl is ↦ inl (subst (λ (n : ℕ). IsReady b'.ready n) (sym is) (noted.ready t ready))
                | inr ne ↦
                    elim (keeps.made x (status_back p lim well st kind t may stands x Made ne below has)) [
                      | inl look ↦ inl (noted.ready x look)
                      | inr other ↦ elim other [ inl held ↦ kept_held x ne has held | inr behind ↦ kept_behind x ne has behind ]
                    ]
              ]
          | inr new ↦ inl (noted.new_ready x new (slice_get_within next_state.tasks x has.0 has.1))
        ]

    pub keeps_on : Keeps next_state b'
    keeps_on = record {
      runs = kept_runs;
      made = kept_made;
      waits = kept_waits;
      groups = noted.groups (groups_after b.groups keeps.groups);
      listing = listing;
    }
