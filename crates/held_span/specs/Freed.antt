-- What frees an admission. While a task is enabled whose effects interfere with those of a task that is made, it holds that one,
-- until it ends or comes to wait for it. So the admission follows what the other did until then.
use Rattle.std.specs.Prelude.{◌≡◌, ◌⊎◌, ℕ, List, [], ◌∷◌, Some, IsTrue}
use Rattle.seg_journal.specs.declared.journal.Entry.{Entry}
use Rattle.seg_journal.specs.declared.moves.Kind.{Kind}
use Rattle.seg_journal.specs.declared.moves.Kind.TheVariants.{Admit}
use Rattle.twe_base.specs.Limits.{Bounds}
use Rattle.wait_graph.specs.declared.tasks.Link.{Link}
use Rattle.twe_program.specs.Program.{Program}
use Rattle.machine_state.specs.declared.state.State.{State}
use Rattle.machine_state.specs.declared.state.TaskRow.{TaskRow}
use Rattle.machine_state.specs.Moves.{move_result, start_of}
use Rattle.span_profile.specs.LeadsTo.{LeadsTo}
use Rattle.span_profile.specs.Strands.{Strand, strand_of}
use Rattle.held_span.specs.Ways.{IsOnWay, RowsInterfere}

-- what an entry did, the kind of its move, and who waited for whom before it
pub record RunEntry : Type 0 where
  pub strand : Strand
  pub kind : Kind
  pub links : List Link

-- the entry is of the task, or has made it
abbrev pub IsBy : Strand → ℕ → Type 0
IsBy strand task = (strand.task ≡ task) ⊎ (strand.made ≡ Some task)

-- What the first entry did frees the admission that is the second from this holder, if the tasks of the run have these rows.
pub data FreesFrom (rows : List TaskRow) (holder : ℕ) (a b : RunEntry) : Type 0 where
  -- it has ended the holder, whose effects interfere with those of the admitted task
  by_end : b.kind ≡ Admit → IsTrue a.strand.done → a.strand.task ≡ holder → RowsInterfere rows holder b.strand.task
      → FreesFrom rows holder a b
  -- it is by a task through which the holder waits for the admitted one, and their effects interfere
  by_wait : b.kind ≡ Admit → (w : ℕ) → RowsInterfere rows holder b.strand.task → IsOnWay b.links holder b.strand.task w
      → IsBy a.strand w → FreesFrom rows holder a b

-- What the first entry did frees the admission that is the second from some task.
abbrev pub Frees : List TaskRow → RunEntry → RunEntry → Type 0
Frees rows a b = (holder : ℕ) × FreesFrom rows holder a b

-- the second entry follows the first: the first leads to it, or frees it
abbrev pub FollowsFreed : List TaskRow → RunEntry → RunEntry → Type 0
FollowsFreed rows a b = LeadsTo a.strand b.strand ⊎ Frees rows a b

-- the weight of an entry
abbrev pub stage_weight : RunEntry → ℕ
stage_weight stage = stage.strand.weight

-- an entry in this state
abbrev pub stage_of : Program → State → Entry → RunEntry
stage_of p st entry = record { strand = strand_of p st entry; kind = entry.mv.kind; links = st.links }

-- these entries, one after another, from this state on
abbrev pub stages_from : Program → Bounds → State → List Entry → List RunEntry
stages_from p lim st [] = []
stages_from p lim st (entry ∷ entries) = stage_of p st entry ∷ stages_from p lim (move_result p lim st entry.mv).0 entries

-- the entries of a journal
abbrev pub stages : Program → Bounds → List Entry → List RunEntry
stages p lim journal = stages_from p lim (start_of p lim) journal
