-- What the slots and the phase words of a quiet floor, and the journal, say of the state. Together they say all of it.
use Rattle.std.specs.Prelude.{◌==◌, ℕ, ℤ, pos, Bool, true, false, List, [], ◌∷◌, Option, None, Some, if◌then◌else◌}
use Rattle.std.specs.List.{list_any}
use Rattle.seg_journal.specs.declared.journal.End.{End}
use Rattle.seg_journal.specs.declared.journal.End.TheVariants as ends
use Rattle.seg_journal.specs.declared.journal.Entry.{Entry}
use Rattle.machine_state.specs.declared.state.FirstFault.{FirstFault}
use Rattle.machine_state.specs.declared.state.TaskRow.{TaskRow}
use Rattle.machine_state.specs.declared.state.TaskStatus.{TaskStatus}
use Rattle.machine_state.specs.declared.state.TaskStatus.TheVariants as status
use Rattle.floor_laws.specs.declared.rule.view.Phase.{Phase}
use Rattle.floor_laws.specs.declared.rule.view.Phase.TheVariants.{Absent, Made, Running, Waits, Done, Faulted}
use Rattle.floor_laws.specs.declared.rule.view.TaskSlot.{TaskSlot}

-- Rows.

-- the status of a task whose turn nobody has and whose phase word says this (no made task has the phase `Absent` then)
abbrev pub status_by : Phase → TaskStatus
status_by Absent = status.Made
status_by Made = status.Made
status_by Running = status.Enabled
status_by (Waits u) = status.Enabled
status_by Done = status.Done
status_by Faulted = status.Faulted

-- the value of a task is the one in its frame once it is done, and 0 before
abbrev pub value_by : Phase → ℤ → ℤ
value_by Absent value = pos 0
value_by Made value = pos 0
value_by Running value = pos 0
value_by (Waits u) value = pos 0
value_by Done value = value
value_by Faulted value = pos 0

-- the row of a task whose slot holds this, whose phase word says this, and which was joined or not
abbrev pub row_by : TaskSlot → Phase → Bool → TaskRow
row_by slot phase joined = record {
  decl = slot.decl;
  args = slot.args;
  effects = slot.effects;
  frame = slot.frame;
  parent = slot.parent;
  joined = joined;
  out = slot.frame.out.items;
  status = status_by phase;
  value = value_by phase slot.frame.value;
}

-- task c is a child of the task with this slot, and not joined yet
abbrev pub has_child : ℕ → TaskSlot → Bool
has_child c slot = list_any (λ (k : ℕ). k == c) slot.frame.out.items

-- task c is an unjoined child of one of these tasks
abbrev pub is_unjoined : ℕ → List TaskSlot → Bool
is_unjoined c slots = list_any (has_child c) slots

-- a task with this parent was joined if nobody has it as an unjoined child any more
abbrev pub is_joined : ℕ → Option ℕ → List TaskSlot → Bool
is_joined c None slots = false
is_joined c (Some parent) slots = if is_unjoined c slots then false else true

-- Faults.

-- the fault that an entry of task t with this end has met, if it has met one
abbrev pub fault_of : ℕ → End → Option FirstFault
fault_of t ends.Admitted = None
fault_of t (ends.Made child) = None
fault_of t (ends.Waits on) = None
fault_of t (ends.Joins on) = None
fault_of t (ends.Done value) = None
fault_of t (ends.Fault kind place) = Some (record { task = t; kind = kind; place = place })

-- the earlier fault, or else the later one
abbrev pub earlier_of : Option FirstFault → Option FirstFault → Option FirstFault
earlier_of None later = later
earlier_of (Some fault) later = Some fault

-- the first fault of a journal
abbrev pub first_fault_in : List Entry → Option FirstFault
first_fault_in [] = None
first_fault_in (entry ∷ entries) = earlier_of (fault_of entry.mv.task entry.end) (first_fault_in entries)
