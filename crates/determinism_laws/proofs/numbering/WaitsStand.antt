-- A segment of a ready frame stops at a wait only if the future of the wait stands for a task.
use Rattle.std.proofs.Common.{◌+◌, ℕ, ℤ, IsTrue, List, [], Option, None, Some}
use Rattle.std.specs.Prelude.{slice_get}
use Rattle.twe_program.specs.Program.{Program}
use Rattle.twe_program.specs.Statement.{Wait, Statements, no_more, statement}
use Rattle.twe_program.specs.Futures.{AllWaitsFollow}
use Rattle.seg_meaning.specs.declared.frame.OpenBody.{OpenBody}
use Rattle.seg_meaning.specs.declared.frame.Frame.{Frame}
use Rattle.seg_meaning.specs.declared.frame.Position.{Position}
use Rattle.seg_meaning.specs.declared.operation.Operation.TheVariants as operations
use Rattle.seg_meaning.specs.Meaning.{body_of}
use Rattle.seg_meaning.specs.Segment.{flow_of, store_at}
use Rattle.seg_meaning.specs.Store.{Flow, goes, returns, fails, stops}
use Rattle.machine_state.specs.segment_laws.Left.{body_left, left_in, left_of}
use Rattle.machine_state.specs.segment_laws.Ready.{IsReady, is_future_set}
use Rattle.machine_state.proofs.segment_laws.Quiet.{leads_nowhere}
use Rattle.machine_state.proofs.segment_laws.Leading.{FlowLeads}
use Rattle.machine_state.proofs.segment_laws.LeftLeading.{body_leads}
use Rattle.machine_state.proofs.segment_laws.Waits.{quietly_waits}

-- the future of a wait at which the flow stops stands for a task
abbrev pub WaitStands : List (Option ℕ) → Flow → Type 0
WaitStands futures (stops (operations.Wait future join into) positions s) = IsTrue (is_future_set futures future)
WaitStands futures (stops (operations.Make future task args spawned place) positions s) = Unit {0}
WaitStands futures (goes s) = Unit {0}
WaitStands futures (returns value s) = Unit {0}
WaitStands futures (fails kind place s) = Unit {0}

module _ (p : Program) (frame : Frame) where
  abbrev then_left : List Position → Statements
  then_left positions = left_in (body_of (slice_get p.tasks frame.decl)) positions

  flow_leads : (body : Option OpenBody) (cells : List ℤ) → FlowLeads (body_left p frame.decl body) no_more then_left (flow_of p frame body cells)
  flow_leads None cells = leads_nowhere no_more
  flow_leads (Some body) cells = body_leads p (frame.fuel + 1) (body_of (slice_get p.tasks frame.decl)) body.open_blocks (store_at frame body.vars cells)

  stands_by : AllWaitsFollow (is_future_set frame.futures) (left_of p frame) → (f : Flow) → FlowLeads (left_of p frame) no_more then_left f → WaitStands frame.futures f
  stands_by waits (stops (operations.Wait future join into) positions s) h =
      let passes = h.2 [] in
      let stmts = statement (Wait h.0 future join into h.1) (then_left positions) in
      (quietly_waits (is_future_set frame.futures) (left_of p frame) stmts passes.0 passes.1 waits).0
  stands_by waits (stops (operations.Make future task args spawned place) positions s) h = tt
  stands_by waits (goes s) h = tt
  stands_by waits (returns value s) h = tt
  stands_by waits (fails kind place s) h = tt

  pub wait_stands : IsReady p frame → (cells : List ℤ) → WaitStands frame.futures (flow_of p frame frame.body cells)
  wait_stands ready cells = stands_by ready.waits (flow_of p frame frame.body cells) (flow_leads frame.body cells)
