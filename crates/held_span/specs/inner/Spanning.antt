-- A run under way, with the chains of its entries.
use Rattle.std.specs.Prelude.{◌≡◌, ◌≢◌, ◌<◌, ◌≤◌, ◌++◌, ◌↔◌, ◌⊎◌, ℕ, List, Some, IsTrue, length, map, slice_get}
use Rattle.std.specs.List.{AllZip, Contains}
use Rattle.prefix_tree.specs.declared.part.Part.{Part}
use Rattle.seg_journal.specs.declared.journal.Entry.{Entry}
use Rattle.twe_base.specs.Limits.{Bounds}
use Rattle.twe_program.specs.Program.{Program}
use Rattle.wait_graph.specs.Chain.{Chain}
use Rattle.wait_graph.specs.declared.tasks.Link.{Link}
use Rattle.wait_graph.specs.Waiting.{IsDone, WaitsOnUnlessDone}
use Rattle.machine_state.specs.declared.state.State.{State}
use Rattle.machine_state.specs.declared.state.TaskRow.{TaskRow}
use Rattle.machine_state.specs.declared.state.TaskStatus.TheVariants.{Enabled}
use Rattle.machine_state.specs.Rows.{HasStatus}
use Rattle.machine_state.specs.Runs.{Legal, state_after}
use Rattle.run_laws.specs.Orders.{HasMade}
use Rattle.held_span.specs.Marks.{AreMarksOf, left_by}
use Rattle.held_span.specs.Rivals.{EffectList}
use Rattle.held_span.specs.declared.marks.EffectMark.{EffectMark}
use Rattle.held_span.specs.declared.marks.EffectMarks.{EffectMarks}
use Rattle.span_profile.specs.Recorders.{Records}
use Rattle.span_profile.specs.Strands.{Strand}
use Rattle.span_profile.specs.declared.heaviest_chain.key.Key.{Key}
use Rattle.span_profile.specs.heaviest_chain.Built.{FrontHolds}
use Rattle.span_profile.specs.heaviest_chain.Chains.{Leads}
use Rattle.span_profile.specs.heaviest_chain.Nodes.{Node, SharesKey}
use Rattle.span_profile.specs.inner.Shows.{Shows}
use Rattle.held_span.specs.Freed.{FollowsFreed, IsBy, RunEntry, stages}
use Rattle.held_span.specs.declared.holders.Holders.{Holders}
use Rattle.held_span.specs.declared.spanning.Spanning.{Spanning}
use Rattle.held_span.specs.declared.ways.Ways.{Ways}
use Rattle.held_span.specs.inner.Freeing.{AreNumbered}
use Rattle.held_span.specs.inner.Holding.{HasRoomFor, Holds}
use Rattle.held_span.specs.inner.Keys.{mark_key}
use Rattle.held_span.specs.inner.Noting.{AreNoted}
use Rattle.held_span.specs.inner.Paths.{IsPath}
use Rattle.held_span.specs.inner.Walking.{AreWays, IsMakerOf}

-- the effects of tasks, by their rows
abbrev pub effect_lists : List TaskRow → List EffectList
effect_lists rows = map (λ (row : TaskRow). row.effects.effects) rows

-- The journal is legal, its tasks have these rows in the end, and these are the marks for their effects.
pub record IsPlan (p : Program) (lim : Bounds) (marks : EffectMarks) (rows : List TaskRow) (journal : List Entry) : Type 0 where
  pub legal : Legal p lim journal
  pub rows_are : rows ≡ (state_after p lim journal).tasks
  pub marks_are : AreMarksOf (effect_lists rows) marks
  pub numbered : AreNumbered marks

-- A task leaves its marks as long as it is enabled.
pub record AreHeld (marks : EffectMarks) (st : State) (holders : Holders) : Type 0 where
  pub room : HasRoomFor holders (length marks.rivals)
  pub holds : (m : EffectMark) (u : ℕ) → Holds holders m u ↔ (HasStatus st u Enabled × Contains (left_by marks u) m)

-- Each task is known with its maker. From the first task of its way on, each one waits for the next until it is done.
pub record AreLed (before : List Entry) (st : State) (ways : Ways) : Type 0 where
  pub are : AreWays ways
  pub many : length ways.makers ≡ length st.tasks
  pub makers : (s u : ℕ) → HasMade before s u → slice_get ways.makers u ≡ Some s
  pub firsts : (m first : ℕ) → slice_get ways.firsts m ≡ Some first → WaitsOnUnlessDone st.links first m

-- the entry of this number is by the task
abbrev pub IsEntryBy : List RunEntry → ℕ → ℕ → Type 0
IsEntryBy stages i task = (stage : RunEntry) × (slice_get stages i ≡ Some stage) × IsBy stage.strand task

-- the entries by those on the way to a task that is not done lead to one by that task
abbrev pub AreFollowed : Ways → List Link → List Node → List RunEntry → Type 0
AreFollowed ways links nodes stages =
    (m first : ℕ) → slice_get ways.firsts m ≡ Some first → ¬ IsDone links m
    → (w : ℕ) → Chain (IsMakerOf ways.makers) w m → w ≢ m → first ≤ w → (i : ℕ) → IsEntryBy stages i w
    → (j : ℕ) × IsEntryBy stages j m × ((between : List ℕ) × IsPath (Leads SharesKey nodes) i between j)

-- The numbers of tasks in what an entry did are below the count.
pub record IsBelow (count : ℕ) (strand : Strand) : Type 0 where
  pub task : strand.task < count
  pub made : (c : ℕ) → strand.made ≡ Some c → c < count
  pub taken : (u : ℕ) → strand.taken ≡ Some u → u < count

-- the entry has ended its task, and this is the key of a mark that the task leaves
abbrev pub GivesMark : EffectMarks → RunEntry → Key → Type 0
GivesMark marks stage key =
    IsTrue stage.strand.done
    × ((mark : EffectMark) × Contains (left_by marks stage.strand.task) mark × (key ≡ mark_key (length marks.lists) mark))

-- The node gives what the entry gives by what it did, and the marks of the task that it has ended.
pub record ShowsStage (tree : List (List Part)) (marks : EffectMarks) (node : Node) (stage : RunEntry) : Type 0 where
  pub base : Node
  pub shown : Shows tree base stage.strand
  pub weight : node.weight ≡ stage.strand.weight
  pub below : IsBelow (length marks.lists) stage.strand
  pub gives : (key : Key) → Contains node.gives key ↔ (Contains base.gives key ⊎ GivesMark marks stage key)

-- Nodes that share a key stand for entries of which the second follows the first, and the others that do are covered by paths.
pub record AreSpanned (rows : List TaskRow) (tree : List (List Part)) (marks : EffectMarks) (nodes : List Node)
    (stages : List RunEntry) : Type 0 where
  pub shows : AllZip (ShowsStage tree marks) nodes stages
  pub sound : (i j : ℕ) → Leads SharesKey nodes i j → Leads (FollowsFreed rows) stages i j
  pub covers : (i j : ℕ) → Leads (FollowsFreed rows) stages i j → (between : List ℕ) × IsPath (Leads SharesKey nodes) i between j

-- Of the journal these entries were taken, and those are the rest.
pub record IsSpanning (p : Program) (lim : Bounds) (marks : EffectMarks) (rows : List TaskRow)
    (before rest : List Entry) (run : Spanning) : Type 0 where
  pub plan : IsPlan p lim marks rows (before ++ rest)
  pub same : run.st ≡ state_after p lim before
  pub tree : List (List Part)
  pub records : Records p tree run.recorder
  pub held : AreHeld marks run.st run.freeing.holders
  pub led : AreLed before run.st run.freeing.ways
  pub nodes : List Node
  pub front : FrontHolds nodes run.chains
  pub spanned : AreSpanned rows tree marks nodes (stages p lim before)
  pub noted : AreNoted rows run.st nodes (stages p lim before) run.notes
  pub followed : AreFollowed run.freeing.ways run.st.links nodes (stages p lim before)
