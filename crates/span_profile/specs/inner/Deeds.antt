-- What an entry did, as the code notes it, and its keys.
use Rattle.std.specs.Prelude.{◌≡◌, ◌+◌, ◌-◌, ◌++◌, ℕ, Bool, true, false, List, [], ◌∷◌, map, Option, None, Some}
use Rattle.span_profile.specs.heaviest_chain.Nodes.{Node}
use Rattle.span_profile.specs.declared.heaviest_chain.key.Key.{Key}
use Rattle.span_profile.specs.declared.heaviest_chain.key.Key.TheVariants.{Task, Value, Write, Access}
use Rattle.seg_meaning.specs.Access.{Access as CellAccess, Reads, Writes, Prints}
use Rattle.seg_journal.specs.declared.journal.End.{End}
use Rattle.seg_journal.specs.declared.journal.End.TheVariants as ends
use Rattle.seg_journal.specs.declared.moves.Kind.{Kind}
use Rattle.seg_journal.specs.declared.moves.Kind.TheVariants.{Admit, Run}
use Rattle.seg_journal.specs.declared.moves.Move.{Move}
use Rattle.twe_program.specs.Program.{Program, cell_count}
use Rattle.machine_state.specs.declared.state.State.{State}
use Rattle.machine_state.specs.declared.state.TaskRow.{TaskRow}
use Rattle.machine_state.specs.Changes.{next_segment}
use Rattle.machine_state.specs.Rows.{IsRow, row_awaited}
use Rattle.span_profile.specs.declared.deed.Deed.{Deed}
use Rattle.span_profile.specs.declared.places.NumberedPaths.{NumberedPaths}
use Rattle.span_profile.specs.declared.watched.WatchedCells.{WatchedCells}
use Rattle.span_profile.specs.inner.Numbering.{place_of}
use Rattle.span_profile.specs.inner.Sets.{no_cells}
use Rattle.span_profile.specs.inner.Watch.{read_by, written_by}

-- what the admission of a task did
abbrev pub admission_deed : ℕ → Deed
admission_deed task = record { task = task; weight = 1; taken = None; end = ends.Admitted; printed = false }

-- whether something was printed
abbrev pub has_print : List CellAccess → Bool
has_print [] = false
has_print (Reads cell value ∷ earlier) = has_print earlier
has_print (Writes cell value ∷ earlier) = has_print earlier
has_print (Prints value ∷ earlier) = true

-- A segment of task t, which has this row, did this: its cells are in the sets.
pub record HasDone (p : Program) (st : State) (t : ℕ) (row : TaskRow) (deed : Deed) (watched : WatchedCells) : Type 0 where
  pub task : deed.task ≡ t
  pub weight : deed.weight ≡ 1 + (row.frame.fuel - (next_segment p st row).frame.fuel)
  pub taken : deed.taken ≡ row_awaited row.frame.next
  pub printed : deed.printed ≡ has_print (next_segment p st row).accesses
  pub reads : watched.reads ≡ read_by (next_segment p st row).accesses (no_cells (cell_count p))
  pub writes : watched.writes ≡ written_by (next_segment p st row).accesses (no_cells (cell_count p))

-- an admission reads and writes nothing
pub record HasAdmitted (p : Program) (t : ℕ) (deed : Deed) (watched : WatchedCells) : Type 0 where
  pub deed_is : deed ≡ admission_deed t
  pub reads : watched.reads ≡ no_cells (cell_count p)
  pub writes : watched.writes ≡ no_cells (cell_count p)

-- a move of this kind, of task t, did this
abbrev pub DidKind : Program → State → Kind → ℕ → Deed → WatchedCells → Type 0
DidKind p st Admit t deed watched = HasAdmitted p t deed watched
DidKind p st Run t deed watched = (row : TaskRow) → IsRow st t row → HasDone p st t row deed watched

-- the move did this
abbrev pub DidMove : Program → State → Move → Deed → WatchedCells → Type 0
DidMove p st mv deed watched = DidKind p st mv.kind mv.task deed watched

-- Keys.

-- the keys of writes to these cells
abbrev pub write_keys : NumberedPaths → List ℕ → List Key
write_keys places cells = map (λ (cell : ℕ). Write (place_of places cell)) cells

-- the keys of accesses to these cells
abbrev pub access_keys : NumberedPaths → List ℕ → List Key
access_keys places cells = map (λ (cell : ℕ). Access (place_of places cell)) cells

-- the key of the value that was taken, if one was
abbrev pub value_keys : Option ℕ → List Key
value_keys None = []
value_keys (Some task) = Value task ∷ []

-- what a segment gives by its end: the key of the task that it made, or of the value of its own task, which is done
abbrev pub end_keys : ℕ → End → List Key
end_keys task (ends.Made child) = Task child ∷ []
end_keys task (ends.Done value) = Value task ∷ []
end_keys task _ = []

-- a print asks for what has accessed `Console` before
abbrev pub print_asks : NumberedPaths → Bool → List Key
print_asks places false = []
print_asks places true = Access places.console ∷ []

-- a print gives what a write of `Console` gives
abbrev pub print_gives : NumberedPaths → Bool → List Key
print_gives places false = []
print_gives places true = Write places.console ∷ Access places.console ∷ []

-- The keys that an entry asks for: those of its task, of the value that it took, of writes to the cells that it read, and
-- of accesses to the cells that it wrote.
abbrev pub asked : NumberedPaths → Deed → List ℕ → List ℕ → List Key
asked places deed reads writes =
    (((Task deed.task ∷ []) ++ value_keys deed.taken) ++ write_keys places reads)
    ++ access_keys places writes ++ print_asks places deed.printed

-- The keys that an entry gives: those of its task, of what its end gives, of accesses to the cells that it read, and of
-- writes and accesses to the cells that it wrote.
abbrev pub given : NumberedPaths → Deed → List ℕ → List ℕ → List Key
given places deed reads writes =
    ((((Task deed.task ∷ []) ++ end_keys deed.task deed.end) ++ access_keys places reads) ++ write_keys places writes)
    ++ access_keys places writes ++ print_gives places deed.printed

-- the node of an entry that has done this
abbrev pub node_of : NumberedPaths → Deed → WatchedCells → Node
node_of places deed watched = record {
  weight = deed.weight;
  asks = asked places deed watched.reads.items watched.writes.items;
  gives = given places deed watched.reads.items watched.writes.items;
}
