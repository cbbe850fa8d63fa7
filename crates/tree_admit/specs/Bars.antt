-- What is in the way of an admission.
use Rattle.std.specs.Prelude.{◌≡◌, ◌≢◌, ◌<◌, ℕ, IsTrue, List, Some}
use Rattle.effect_sets.specs.declared.effects.Effect.{Effect}
use Rattle.effect_sets.specs.Interference.{statically_interferes}
use Rattle.twe_base.specs.Limits.{Bounds}
use Rattle.twe_program.specs.Program.{Program}
use Rattle.floor_laws.specs.admission.admission_core.States.{IsAmong, Record}
use Rattle.floor_laws.specs.rule.nodes.FactSteps.{IsKnownToWait}
use Rattle.floor_laws.specs.table.Added.{IsAdded}
use Rattle.floor_laws.specs.declared.table.nodes.view.TreeView.{TreeView}
use Rattle.floor_laws.specs.table.nodes.Chains.{HasFollowedTo}
use Rattle.tree_admit.specs.declared.bars.Bar.{Bar}
use Rattle.tree_admit.specs.Alone.{IsInTheWayIfAlone}

-- The record is of another task than t and may interfere with effect e. Its task is the one that the bar names, and is known to
-- wait for the one at which the bar ends, if that is another. That one is not t: since the seat had the first view, it has looked
-- at the phases of the tasks on the way there, one after the other, and found that the last of them was no wait. If it is the
-- only one, the record stands in the way of t. (A record is of a task below the limit on tasks. The seat does not know that,
-- so the rule is said of such tasks alone.)
pub record IsBarOf (p : Program) (lim : Bounds) (since v : TreeView) (t : ℕ) (e : Effect) (r : Record) (bar : Bar) : Type 0 where
  pub other : r.task ≢ t
  pub meets : IsTrue (statically_interferes r.effect e)
  pub task : bar.by ≡ r.task
  pub leads : IsKnownToWait v.waits bar.by bar.end
  pub elsewhere : bar.end ≢ t
  pub followed : bar.by < lim.tasks → HasFollowedTo since.looks v.looks bar.by bar.end
  pub alone : bar.by < lim.tasks → IsInTheWayIfAlone p lim since.floor t r

-- a record of the content is the bar
abbrev pub IsBarIn : Program → Bounds → TreeView → TreeView → ℕ → Effect → List Record → Bar → Type 0
IsBarIn p lim since v t e content bar = (r : Record) × IsAmong r content × IsBarOf p lim since v t e r bar

-- it stood at the node that the bar names while the seat had the content of the node, which it got since it had the first view
abbrev pub WasBarred : Program → Bounds → TreeView → TreeView → ℕ → Effect → Bar → Type 0
WasBarred p lim since v t e bar =
    (content : List Record) × IsAdded (record { node = bar.node; content = Some content }) since.kept v.kept
    × IsBarIn p lim since v t e content bar
