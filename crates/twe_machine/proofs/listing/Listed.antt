-- The enabled tasks over a legal move.
use Rattle.std.proofs.Common.{◌≡◌, ◌≢◌, ◌≤◌, ◌<◌, ◌+◌, inl, inr, ℕ, List, length, Some, refl, sym, ap, ◌∙◌, subst, arith}
use Rattle.std.specs.Prelude.{slice_get}
use Rattle.std.proofs.lemmas.Bool.{cases_eq, cases_lt}
use Rattle.std.proofs.lemmas.Option.{slice_get-get_or, slice_get_within}
use Rattle.seg_journal.specs.declared.journal.End.{End}
use Rattle.seg_journal.specs.declared.journal.End.TheVariants as ends
use Rattle.seg_journal.specs.declared.moves.Kind.{Kind}
use Rattle.seg_journal.specs.declared.moves.Kind.TheVariants.{Admit, Run}
use Rattle.seg_journal.specs.declared.moves.Move.{Move}
use Rattle.twe_base.specs.Limits.{Bounds}
use Rattle.effect_sets.specs.declared.effects.Effect.{Effect}
use Rattle.effect_sets.specs.declared.effects.Summary.{Summary}
use Rattle.effect_sets.specs.Interference.{Interferes}
use Rattle.twe_program.specs.Program.{Program}
use Rattle.twe_program.specs.WellFormed.{IsWellFormed}
use Rattle.twe_machine.specs.declared.book.NodeTasks.{NodeTasks}
use Rattle.twe_machine.specs.declared.enabled_tasks.EnabledTasks.{EnabledTasks}
use Rattle.machine_state.specs.declared.state.State.{State}
use Rattle.machine_state.specs.declared.state.TaskRow.{TaskRow}
use Rattle.machine_state.specs.declared.state.TaskStatus.TheVariants.{Enabled, Made}
use Rattle.twe_machine.specs.Books.{AreDecided, IsEntered, NodesAreDecided}
use Rattle.machine_state.specs.Changes.{LeavesAlone, made_by}
use Rattle.machine_state.specs.Legal.{MayAdmit, MayMove, MayTake}
use Rattle.twe_machine.specs.Listings.{HasEffect, IsListing, WasListing}
use Rattle.machine_state.specs.Moves.{move_result}
use Rattle.twe_machine.specs.Queues.{IsNoBar}
use Rattle.machine_state.specs.Rows.{HasStatus, IsRow}
use Rattle.machine_state.specs.Runs.{IsReached}
use Rattle.machine_state.proofs.tasks.LeftAlone.{moves_leave_alone}
use Rattle.machine_state.proofs.tasks.OtherTasks.{after, other}
use Rattle.twe_machine.proofs.listing.Leading.{decided_stays}
use Rattle.machine_state.proofs.lists.Places.{below_there, got_one}
use Rattle.machine_state.proofs.standing.ReachedStands.{reached_stands}
use Rattle.machine_state.proofs.standing.SettlesNext.{as_many_links}
use Rattle.machine_state.proofs.standing.Standing.{Stands}

-- a move makes one task at most
pub made_one : (end : End) → made_by end ≤ 1
made_one (ends.Admitted) = omega arith
made_one (ends.Made child) = omega arith
made_one (ends.Waits on) = omega arith
made_one (ends.Joins on) = omega arith
made_one (ends.Done value) = omega arith
made_one (ends.Fault kind place) = omega arith

-- the effects of a task with this number were entered, if it is enabled
abbrev pub Entered : State → EnabledTasks → ℕ → Type 0
Entered st enabled s = (row : TaskRow) (e : Effect) → IsRow st s row → row.status ≡ Enabled → HasEffect row.effects.effects e → IsEntered enabled s e

module _ (p : Program) (lim : Bounds) (well : IsWellFormed p) (st : State) (kind : Kind) (t : ℕ) (may : MayTake st kind t) (stands : Stands p lim st) where
  abbrev next_state : State
  next_state = after p lim well st kind t may stands

  nodes_stay : (nodes : List NodeTasks) → NodesAreDecided st.links nodes → NodesAreDecided next_state.links nodes
  nodes_stay nodes old n node at =
      let h = old n node at in (
        decided_stays p lim well st kind t may stands node.here.entries h.0,
        decided_stays p lim well st kind t may stands node.below.entries h.1,
      )

  -- who decided for others still does
  pub decided_after : (enabled : EnabledTasks) → AreDecided st.links enabled → AreDecided next_state.links enabled
  decided_after enabled old = record { reads = nodes_stay enabled.reads.nodes old.reads; writes = nodes_stay enabled.writes.nodes old.writes }

  module _ (old new : EnabledTasks) (alone : (row : TaskRow) → IsRow st t row → (now : TaskRow) × IsRow next_state t now × (now.effects ≡ row.effects))
      (before : (s : ℕ) → Entered st old s)
      (kept : (s : ℕ) (e : Effect) → HasStatus next_state s Enabled → IsEntered old s e → IsEntered new s e)
      (admitted : kind ≡ Admit → Entered next_state new t)
      (made : (s : ℕ) → length st.tasks ≤ s → Entered next_state new s) where
    own_entered : (k : Kind) → kind ≡ k → Entered next_state new t
    own_entered Admit is = admitted is
    own_entered Run is = λ row e here enabled has.
        let was = (subst (λ (k : Kind). MayTake st k t) is may).0 in
        let now = alone was.0 was.1 in
        let one : now.0 ≡ row = got_one (slice_get next_state.tasks t) now.1 here in
        let same : was.0.effects ≡ row.effects = sym now.2 ∙ ap (λ (r : TaskRow). r.effects) one in
        kept t e (row, here, enabled) (before t was.0 e was.1 was.2 (subst (λ (x : Summary). HasEffect x.effects e) (sym same) has))

    other_entered : (s : ℕ) → s < length st.tasks → s ≢ t → Entered next_state new s
    other_entered s below ne row e here enabled has =
        let was = below_there st.tasks s below in
        let now = other p lim well st kind t may stands s was.0 ne was.1 in
        let one : now.now ≡ row = got_one (slice_get next_state.tasks s) now.there here in
        let same : was.0.effects ≡ row.effects = sym now.effects ∙ ap (λ (r : TaskRow). r.effects) one in
        let status : was.0.status ≡ Enabled = sym now.status ∙ (ap (λ (r : TaskRow). r.status) one ∙ enabled) in
        kept s e (row, here, enabled) (before s was.0 e was.1 status (subst (λ (x : Summary). HasEffect x.effects e) (sym same) has))

    -- the effects of each task that is enabled after the move were entered
    pub entered_after : (s : ℕ) → Entered next_state new s
    entered_after s =
        elim (cases_lt s (length st.tasks)) [
          | inl below ↦
              elim (cases_eq s t) [
                | inl is ↦ subst (λ (n : ℕ). Entered next_state new n) (sym is) (own_entered kind refl)
                | inr ne ↦ other_entered s below ne
              ]
          | inr new_one ↦ made s new_one
        ]

-- the enabled tasks, as the state is left by a legal move
pub was_listed : (p : Program) (lim : Bounds) (st later : State) (mv : Move) (before : ℕ) (enabled : EnabledTasks) → IsWellFormed p → IsReached p lim st → MayMove st mv
    → later ≡ (move_result p lim st mv).0 → before ≡ length st.links → IsListing st enabled → WasListing later mv before enabled
was_listed p lim st later mv before enabled well reached legal is count listing = record {
  p = p;
  lim = lim;
  st = st;
  well = well;
  reached = reached;
  legal = legal;
  is = is;
  count = count ∙ as_many_links p lim st (reached_stands p lim st well reached);
  listing = listing;
}

module _ (later : State) (mv : Move) (before : ℕ) (enabled : EnabledTasks) (was : WasListing later mv before enabled) where
  stood : Stands was.p was.lim was.st
  stood = reached_stands was.p was.lim was.st was.well was.reached

  alone : LeavesAlone was.p was.st (move_result was.p was.lim was.st mv).0 mv (move_result was.p was.lim was.st mv).1
  alone = moves_leave_alone was.p was.lim was.st mv was.well was.reached was.legal

  -- there are as many links as rows
  pub was_linked : length later.links ≡ length later.tasks
  was_linked = subst (λ (s : State). length s.links ≡ length s.tasks) (sym was.is) alone.as_many_links

  -- who decided for others still does
  pub was_decided : AreDecided later.links enabled
  was_decided =
      subst (λ (s : State). AreDecided s.links enabled) (sym was.is)
      (decided_after was.p was.lim was.well was.st mv.kind mv.task was.legal stood enabled was.listing.decided)

  -- a task that is there for the first time has this number
  one_made : (s : ℕ) → length was.st.tasks ≤ s → s < length later.tasks → s ≡ before
  one_made s past below =
      let many = subst (λ (x : State). length x.tasks ≡ length was.st.tasks + made_by (move_result was.p was.lim was.st mv).1) (sym was.is) alone.tasks in
      omega (arith, past, below, many, made_one (move_result was.p was.lim was.st mv).1, was.count)

  own_effects : (row : TaskRow) → IsRow was.st mv.task row → (now : TaskRow) × IsRow later mv.task now × (now.effects ≡ row.effects)
  own_effects row here =
      subst (λ (s : State). (now : TaskRow) × IsRow s mv.task now × (now.effects ≡ row.effects)) (sym was.is)
      (let own = alone.own row here in (own.now, own.there, own.effects))

  -- they are those of the state after the move
  pub is_listing : (new : EnabledTasks)
      → ((s : ℕ) (e : Effect) → HasStatus later s Enabled → IsEntered enabled s e → IsEntered new s e)
      → (mv.kind ≡ Admit → Entered later new mv.task)
      → Entered later new before
      → AreDecided later.links new → IsListing later new
  is_listing new kept admitted made decided = record {
    all = subst (λ (x : State). (s : ℕ) → Entered x new s) (sym was.is)
        (entered_after was.p was.lim was.well was.st mv.kind mv.task was.legal stood enabled new
        (subst (λ (x : State). (row : TaskRow) → IsRow was.st mv.task row → (now : TaskRow) × IsRow x mv.task now × (now.effects ≡ row.effects)) was.is own_effects)
        was.listing.all
        (subst (λ (x : State). (s : ℕ) (e : Effect) → HasStatus x s Enabled → IsEntered enabled s e → IsEntered new s e) was.is kept)
        (subst (λ (x : State). mv.kind ≡ Admit → Entered x new mv.task) was.is admitted)
        (subst (λ (x : State). (s : ℕ) → length was.st.tasks ≤ s → Entered x new s) was.is
        (λ s past row e here status has.
        let one = one_made s past (slice_get_within later.tasks s row here) in
        subst (λ (n : ℕ). IsEntered new n e) (sym one) (made row e (subst (λ (n : ℕ). IsRow later n row) one here) status has))));
    decided = decided;
  }

-- if all that were entered pass each effect of t with which they interfere, t may be admitted
pub may_by : (st : State) (enabled : EnabledTasks) (t : ℕ) (row : TaskRow) → IsRow st t row → ((s : ℕ) → Entered st enabled s) → HasStatus st t Made
    → ((s : ℕ) (e f : Effect) → IsEntered enabled s e → HasEffect row.effects.effects f → Interferes e f → IsNoBar st t s) → MayAdmit st t
may_by st enabled t row here all made pass = (
  made,
  λ s ne has meets.
      let a = meets.0 in
      let b = meets.1 in
      let own : b ≡ row = got_one (slice_get st.tasks t) meets.3 here in
      let status : a.status ≡ Enabled = ap (λ (r : TaskRow). r.status) (got_one (slice_get st.tasks s) meets.2 has.1) ∙ has.2 in
      let any = meets.4 in
      let e = any.1 in
      let inner = any.4 in
      let f = inner.1 in
      let has_e : HasEffect a.effects.effects e = (any.0, slice_get-get_or a.effects.effects any.0 e any.2 ∙ ap Some any.3) in
      let has_f : HasEffect b.effects.effects f = (inner.0, slice_get-get_or b.effects.effects inner.0 f inner.2 ∙ ap Some inner.3) in
      pass s e f (all s a e meets.2 status has_e) (subst (λ (r : TaskRow). HasEffect r.effects.effects f) own has_f) inner.4 ne has meets,
)
