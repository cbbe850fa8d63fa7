-- When a draft is of the segment that its task runs next.
use Rattle.std.proofs.Common.{◌≡◌, ◌≢◌, ℕ, ℤ, Bool, List, length, Some, refl, sym, ap, ◌∙◌, inl, inr}
use Rattle.std.specs.Prelude.{◌↔◌, IsTrue, slice_get}
use Rattle.twe_base.specs.Limits.{Bounds}
use Rattle.twe_program.specs.Program.{Program}
use Rattle.twe_program.specs.WellFormed.{IsWellFormed}
use Rattle.seg_meaning.specs.declared.frame.Frame.{Frame}
use Rattle.machine_state.specs.declared.state.State.{State}
use Rattle.machine_state.specs.declared.state.TaskRow.{TaskRow}
use Rattle.machine_state.specs.declared.state.TaskStatus.TheVariants.{Faulted}
use Rattle.machine_state.specs.Moves.{ready_frame}
use Rattle.machine_state.specs.Rows.{IsRow}
use Rattle.machine_state.specs.Runs.{IsReached}
use Rattle.machine_state.proofs.links.LinksAgree.{status_of}
use Rattle.machine_state.proofs.lists.Places.{got_one}
use Rattle.machine_state.proofs.standing.ReachedStands.{reached_stands}
use Rattle.machine_state.proofs.standing.SettlesNext.{as_many_links}
use Rattle.opt_engine.specs.declared.drafts.Drafted.{Drafted}
use Rattle.opt_engine.specs.declared.starts.Start.{Start}
use Rattle.opt_engine.specs.Drafts.{IsDraftedOf, IsNext, DraftIsReady}
use Rattle.state_copies.specs.Frames.{unreserved}
use Rattle.opt_engine.specs.Verdicts.{IsDraftAt, IsStartAt}
use Rattle.state_copies.proofs.Plain.{plainly_ready}

-- a ready task has met no fault
pub ready_well : (st : State) (t : ℕ) (row : TaskRow) → DraftIsReady st t → IsRow st t row → row.status ≢ Faulted
ready_well st t row (inl made) there = λ bad. let status = status_of st t row _ made there in cc (bad, status)
ready_well st t row (inr may) there = λ bad. let status = status_of st t row _ may.0 there in cc (bad, status)

-- nothing is reserved in the frame that a draft began with
pub before_plain : (p : Program) (d : Drafted) → IsDraftedOf p d → d.before ≡ unreserved d.before
before_plain p d is =
    let same : d.before ≡ is.draft.frame = ap (λ (x : Drafted). x.before) is.gave in
    same ∙ (is.is_draft.plain ∙ sym (ap unreserved same))

pub linked : (p : Program) (lim : Bounds) (st : State) → IsWellFormed p → IsReached p lim st → length st.links ≡ length st.tasks
linked p lim st well reached = as_many_links p lim st (reached_stands p lim st well reached)

-- comparing the frame that a draft began with tells whether it is of the task's next segment
pub next_decided : (p : Program) (lim : Bounds) (st : State) (d : Drafted) (row : TaskRow) (copy : Frame) (same : Bool) → IsReached p lim st → IsDraftedOf p d
    → DraftIsReady st d.task → IsRow st d.task row → copy ≡ unreserved (ready_frame st.tasks row.frame) → (IsTrue same ↔ (unreserved d.before ≡ unreserved copy))
    → IsTrue same ↔ IsNext st d
next_decided p lim st d row copy same reached drafted ready there copied says =
    let next = ready_frame st.tasks row.frame in
    let plain : next ≡ unreserved next = plainly_ready p lim st d.task row reached there (ready_well st d.task row ready there) in (
      λ yes. (ready, (row, there, before_plain p d drafted ∙ (says.0 yes ∙ (ap unreserved copied ∙ sym plain)))),
      λ is.
          let own : is.1.0 ≡ row = got_one (slice_get st.tasks d.task) is.1.1 there in
          says.1 (ap unreserved (is.1.2 ∙ ap (λ (r : TaskRow). ready_frame st.tasks r.frame) own) ∙ sym (ap unreserved copied)),
    )

-- a copy of the frame that the next segment of a ready task begins with is a start of it
pub start_is : (p : Program) (lim : Bounds) (st : State) (t : ℕ) (row : TaskRow) (frame : Frame) → IsReached p lim st → DraftIsReady st t → IsRow st t row
    → frame ≡ unreserved (ready_frame st.tasks row.frame) → IsStartAt st t (Some (record { task = t; frame = frame }))
start_is p lim st t row frame reached ready there copied = (
  ready,
  refl,
  (row, there, copied ∙ sym (plainly_ready p lim st t row reached there (ready_well st t row ready there))),
  copied ∙ sym (ap unreserved copied),
)

-- with a copy of the cells a start is a draft
pub draft_is : (p : Program) (lim : Bounds) (st : State) (t : ℕ) (start : Start) (cells : List ℤ) → IsWellFormed p → IsReached p lim st → IsStartAt st t (Some start) → cells ≡ st.cells
    → IsDraftAt p st t (Some (record { task = start.task; frame = start.frame; cells = cells }))
draft_is p lim st t start cells well reached is same = (
  is.0,
  is.1,
  is.2,
  same,
  record { cells = ap length same ∙ (reached_stands p lim st well reached).cells; plain = is.3 },
)
