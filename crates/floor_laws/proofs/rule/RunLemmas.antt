-- What a seat may run: the task may run in the state, and its segment starts from the frame that the seat says.
use Rattle.std.proofs.Common.{◌≡◌, ℕ, ℤ, true, false, List, Option, None, Some, sym, ap, subst, ◌∙◌}
use Rattle.std.specs.Prelude.{slice_get}
use Rattle.wait_graph.specs.declared.tasks.Link.{Link}
use Rattle.wait_graph.specs.Link.{link_of}
use Rattle.twe_program.specs.Program.{Program}
use Rattle.seg_meaning.specs.declared.frame.Frame.{Frame}
use Rattle.seg_meaning.specs.Access.{Access}
use Rattle.seg_meaning.specs.Giving.{given}
use Rattle.machine_state.specs.declared.state.State.{State}
use Rattle.machine_state.specs.declared.state.TaskRow.{TaskRow}
use Rattle.machine_state.specs.declared.state.TaskStatus.TheVariants as status
use Rattle.machine_state.specs.Changes.{IsDoneWith}
use Rattle.machine_state.specs.Legal.{MayRun}
use Rattle.machine_state.specs.Moves.{awaited_value, ready_frame, value_of}
use Rattle.machine_state.specs.Rows.{IsRow, LinksAgree, row_awaited, is_done_status}
use Rattle.machine_state.proofs.lists.Places.{got_one}
use Rattle.isolation_laws.proofs.rows.LinksOfRows.{link_there}
use Rattle.floor_laws.specs.declared.rule.view.DoneFact.{DoneFact}
use Rattle.floor_laws.specs.declared.rule.view.HeldTurn.{HeldTurn}
use Rattle.floor_laws.specs.rule.Fitting.{IsOpen, KnowsAwaited, MayRunFrom, RowIs}
use Rattle.floor_laws.specs.rule.Rows.{unmarked}
use Rattle.floor_laws.specs.admission.admission_core.States.{IsAmong}
use Rattle.floor_laws.proofs.rule.Puts.{some_one}

-- all of these facts are among those
abbrev pub AreAmong : List DoneFact → List DoneFact → Type 0
AreAmong facts more = (fact : DoneFact) → IsAmong fact facts → IsAmong fact more

-- all of these facts hold
abbrev pub AllHold : State → List DoneFact → Type 0
AllHold st facts = (fact : DoneFact) → IsAmong fact facts → IsDoneWith st fact.task fact.value

knows_more : (facts more : List DoneFact) (on : Option ℕ) (value : ℤ) → AreAmong facts more → KnowsAwaited facts on value → KnowsAwaited more on value
knows_more facts more None value among knows = knows
knows_more facts more (Some u) value among knows = among (record { task = u; value = value }) knows

-- Knowing more does no harm, nor does a turn with another phase.
pub may_still : (turn other : HeldTurn) (facts more : List DoneFact) (ready : Frame) → other.first ≡ turn.first → other.row ≡ turn.row → AreAmong facts more
    → MayRunFrom turn facts ready → MayRunFrom other more ready
may_still turn other facts more ready first row among may =
    let on : row_awaited turn.row.frame.next ≡ row_awaited other.row.frame.next = ap (λ (r : TaskRow). row_awaited r.frame.next) (sym row) in
    record {
      taken = first ∙ may.taken;
      enabled = ap (λ (r : TaskRow). r.status) row ∙ may.enabled;
      value = may.value;
      known = subst (λ (o : Option ℕ). KnowsAwaited more o may.value) on (knows_more facts more (row_awaited turn.row.frame.next) may.value among may.known);
      frame = may.frame ∙ ap (λ (r : TaskRow). given r.frame may.value) (sym row);
    }

pub open_still : (p : Program) (turns others : ℕ → Option HeldTurn) (facts more : List DoneFact) (task : ℕ) (accesses : List Access)
    → ((turn : HeldTurn) → turns task ≡ Some turn → (other : HeldTurn) × (others task ≡ Some other) × (other.first ≡ turn.first) × (other.row ≡ turn.row))
    → AreAmong facts more → IsOpen p turns facts task accesses → IsOpen p others more task accesses
open_still p turns others facts more task accesses turn_stays among is =
    let now = turn_stays is.turn is.has in
    record {
      turn = now.0;
      has = now.1;
      ready = is.ready;
      may = may_still is.turn now.0 facts more is.ready now.2 now.3 among is.may;
      made = is.made;
    }

-- the value that is known is the one of the awaited task
value_awaited : (st : State) (facts : List DoneFact) (on : Option ℕ) (value : ℤ) → AllHold st facts → KnowsAwaited facts on value → value ≡ awaited_value st.tasks on
value_awaited st facts None value hold knows = knows
value_awaited st facts (Some u) value hold knows =
    let done = hold (record { task = u; value = value }) knows in
    sym done.value_is ∙ ap value_of (sym done.there)

done_link : (st : State) → LinksAgree st → (u : ℕ) (value : ℤ) → IsDoneWith st u value → (link_of st.links u).done ≡ true
done_link st agree u value done = ap (λ (l : Link). l.done) (link_there st agree u done.row done.there) ∙ ap is_done_status done.done

-- who is known to be awaited is done
awaits_done : (st : State) (facts : List DoneFact) → LinksAgree st → AllHold st facts → (on : Option ℕ) (value : ℤ) → KnowsAwaited facts on value
    → (u : ℕ) → on ≡ Some u → (link_of st.links u).done ≡ true
awaits_done st facts agree hold None value knows u is = absurd (cc)
awaits_done st facts agree hold (Some v) value knows u is =
    subst (λ (n : ℕ). (link_of st.links n).done ≡ true) (some_one is) (done_link st agree v value (hold (record { task = v; value = value }) knows))

-- What follows from a row that is known and a turn whose task may run.
pub record Runs (st : State) (t : ℕ) (turn : HeldTurn) (ready : Frame) : Type 0 where
  pub row : TaskRow
  pub there : IsRow st t row
  pub same : unmarked row ≡ turn.row
  pub may : MayRun st t
  pub frame : ready ≡ ready_frame st.tasks row.frame

pub runs : (st : State) (t : ℕ) (turn : HeldTurn) (facts : List DoneFact) (ready : Frame) → LinksAgree st → AllHold st facts → RowIs st t turn.row → MayRunFrom turn facts ready → Runs st t turn ready
runs st t turn facts ready agree hold known may =
    let row = known.row in
    let frame : turn.row.frame ≡ row.frame = sym (ap (λ (r : TaskRow). r.frame) known.same) in
    let enabled : row.status ≡ status.Enabled = ap (λ (r : TaskRow). r.status) known.same ∙ may.enabled in
    let knows : KnowsAwaited facts (row_awaited row.frame.next) may.value = subst (λ (fr : Frame). KnowsAwaited facts (row_awaited fr.next) may.value) frame may.known in
    record {
      row = row;
      there = known.there;
      same = known.same;
      may = (
        (row, known.there, enabled),
        λ u waits.
            let on : row_awaited row.frame.next ≡ Some u = sym (ap (λ (l : Link). l.waits) (link_there st agree t row known.there)) ∙ waits.waits in
            let done = awaits_done st facts agree hold (row_awaited row.frame.next) may.value knows u on in
            let no : true ≡ false = sym done ∙ waits.undone in
            absurd (cc),
      );
      frame = may.frame ∙ (ap (λ (fr : Frame). given fr may.value) frame ∙ ap (given row.frame) (value_awaited st facts (row_awaited row.frame.next) may.value hold knows));
    }

-- a task has one frame to start its next segment from
pub one_ready : (st : State) (t u : ℕ) (turn other : HeldTurn) (ready last : Frame) → t ≡ u → Runs st t turn ready → Runs st u other last → ready ≡ last
one_ready st t u turn other ready last same a b =
    let row : a.row ≡ b.row = got_one (slice_get st.tasks u) (subst (λ (n : ℕ). IsRow st n a.row) same a.there) b.there in
    a.frame ∙ (ap (λ (r : TaskRow). ready_frame st.tasks r.frame) row ∙ sym b.frame)
