-- The rule on nodes: what holds of locks, contents and what the seats know, between any two atomic steps.
use Rattle.std.specs.Prelude.{◌≡◌, ℕ, List}
use Rattle.region_paths.specs.declared.elements.Elem.{Elem}
use Rattle.prefix_tree.specs.Nodes.{IsTreeOfPaths}
use Rattle.twe_base.specs.Limits.{Bounds}
use Rattle.twe_program.specs.Program.{Program}
use Rattle.twe_program.specs.WellFormed.{IsWellFormed}
use Rattle.isolation_laws.specs.soundness.KeepsEffects.{KeepsEffects}
use Rattle.machine_state.specs.Runs.{state_after}
use Rattle.seg_journal.specs.declared.numbered.NumberedEntry.{NumberedEntry}
use Rattle.seg_journal.specs.Merging.{journal_of}
use Rattle.floor_laws.specs.rule.Floors.{Floor}
use Rattle.floor_laws.specs.rule.Rule.{KeepsRule}
use Rattle.floor_laws.specs.admission.admission_core.States.{State}
use Rattle.floor_laws.specs.admission.admission_core.Events.{TreeEvent}
use Rattle.floor_laws.specs.admission.admission_core.Rule.{CoreIsReached}
use Rattle.floor_laws.specs.rule.nodes.Fitting.{ContentsFit, KnowledgeFits, LocksFit, RecordsFit, TasksFit}
use Rattle.floor_laws.specs.rule.nodes.Trees.{Tree}

-- The nodes show a state of the core of admission, and events lead to that state. Its tasks are those of the state of the
-- machine, its activities those of the seats, and its records those that stand.
pub record KeepsNodes (nodes : List (List Elem)) (p : Program) (lim : Bounds) (log : List NumberedEntry) (f : Floor) (tree : Tree)
    (core : State) : Type 0 where
  pub reached : CoreIsReached nodes core
  pub tasks : TasksFit (journal_of log) (state_after p lim (journal_of log)) f.held core.tasks
  pub activities : (i : ℕ) → core.activities i ≡ tree.activities i
  pub locks : LocksFit f.workers tree.activities tree.locks
  pub contents : ContentsFit core.records tree.activities tree.contents tree.kept
  pub records : RecordsFit core.records tree.placed tree.removed
  pub known : KnowledgeFits (state_after p lim (journal_of log)) f.held core.records tree.fresh tree.clear tree.waits

-- the program is accepted, the nodes are those of a tree of paths, and the floor and its nodes keep their rules
pub record KeepsBoth (nodes : List (List Elem)) (p : Program) (lim : Bounds) (log : List NumberedEntry) (f : Floor) (tree : Tree)
    (core : State) : Type 0 where
  pub well : IsWellFormed p
  pub effects : KeepsEffects p
  pub paths : IsTreeOfPaths nodes
  pub floor : KeepsRule p lim log f
  pub nodes_keep : KeepsNodes nodes p lim log f tree core

-- a step on nodes that leaves them so is one event of the core, and keeps the rule
abbrev pub IsOneEvent : List (List Elem) → Program → Bounds → List NumberedEntry → Floor → State → Tree → Type 0
IsOneEvent nodes p lim log f core after = (next : State) × TreeEvent nodes core next × KeepsNodes nodes p lim log f after next
