-- What each entry of a journal did, as far as the order of entries depends on it.
use Rattle.std.specs.Prelude.{◌+◌, ◌-◌, ℕ, Bool, false, List, [], ◌∷◌, map, Option, None, Some, slice_get}
use Rattle.effect_sets.specs.Access.{PathAccess}
use Rattle.seg_journal.specs.declared.journal.End.{End}
use Rattle.seg_journal.specs.declared.journal.End.TheVariants as ends
use Rattle.seg_journal.specs.declared.journal.Entry.{Entry}
use Rattle.seg_journal.specs.declared.moves.Kind.{Kind}
use Rattle.seg_journal.specs.declared.moves.Kind.TheVariants.{Admit, Run}
use Rattle.twe_base.specs.Limits.{Bounds}
use Rattle.twe_program.specs.Program.{Program}
use Rattle.seg_meaning.specs.Access.{Access as CellAccess}
use Rattle.seg_meaning.specs.Segment.{Stopped}
use Rattle.isolation_laws.specs.soundness.DeclaredNow.{access_of}
use Rattle.machine_state.specs.declared.state.State.{State}
use Rattle.machine_state.specs.declared.state.TaskRow.{TaskRow}
use Rattle.machine_state.specs.Changes.{next_segment}
use Rattle.machine_state.specs.Moves.{move_result, start_of}
use Rattle.machine_state.specs.Rows.{row_awaited}
use Rattle.machine_state.specs.Runs.{is_done}

-- What an entry did: its task, its weight, the task that it made, the task whose value it took first, whether its task is
-- done by it, its accesses to cells and its prints, and its accesses by their concrete paths, where a print is a write of
-- `Console`. Of both lists of accesses the latest stands first.
pub record Strand : Type 0 where
  pub task : ℕ
  pub weight : ℕ
  pub made : Option ℕ
  pub taken : Option ℕ
  pub done : Bool
  pub cells : List CellAccess
  pub accesses : List PathAccess

-- the weight of an entry
abbrev pub weight_of : Strand → ℕ
weight_of strand = strand.weight

-- the task that an entry with this end has made, if it has made one
abbrev pub made_task : End → Option ℕ
made_task (ends.Made child) = Some child
made_task _ = None

-- an admission weighs 1
abbrev pub admission : ℕ → Strand
admission task =
    record { task = task; weight = 1; made = None; taken = None; done = false; cells = []; accesses = [] }

-- a segment weighs 1, and 1 more for each unit of fuel that it took
abbrev pub segment_strand : Program → ℕ → TaskRow → Stopped → End → Strand
segment_strand p task row left end = record {
  task = task;
  weight = 1 + (row.frame.fuel - left.frame.fuel);
  made = made_task end;
  taken = row_awaited row.frame.next;
  done = is_done end;
  cells = left.accesses;
  accesses = map (access_of p) left.accesses;
}

-- what an entry did, by the kind of its move and the row of its task
abbrev pub strand_by_kind : Program → State → Kind → ℕ → Option TaskRow → End → Strand
strand_by_kind p st Admit task found end = admission task
strand_by_kind p st Run task None end = admission task
strand_by_kind p st Run task (Some row) end = segment_strand p task row (next_segment p st row) end

-- what an entry did in this state
abbrev pub strand_of : Program → State → Entry → Strand
strand_of p st entry = strand_by_kind p st entry.mv.kind entry.mv.task (slice_get st.tasks entry.mv.task) entry.end

-- what these entries did, one after another, from this state on
abbrev pub strands_from : Program → Bounds → State → List Entry → List Strand
strands_from p lim st [] = []
strands_from p lim st (entry ∷ entries) = strand_of p st entry ∷ strands_from p lim (move_result p lim st entry.mv).0 entries

-- what the entries of a journal did, one after another
abbrev pub strands : Program → Bounds → List Entry → List Strand
strands p lim journal = strands_from p lim (start_of p lim) journal
