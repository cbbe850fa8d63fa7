-- Tasks that decide for those before them: each task whose record lay at a node before the one of such a task waits for it. So
-- one look at its phase tells of all of them whether they wait for another task.
use Rattle.std.specs.Prelude.{◌≡◌, ◌⊎◌, ◌==◌, ◌<◌, ◌++◌, ℕ, zero, suc, List, [], ◌∷◌, Option, Some, None, if◌then◌else◌}
use mathlib.Core.Option as core
use lib.ListN.{get_elem?}
use Rattle.wait_graph.specs.declared.tasks.Link.{Link}
use Rattle.wait_graph.specs.Waiting.{WaitsOnUnlessDone}
use Rattle.twe_base.specs.Limits.{Bounds}
use Rattle.twe_program.specs.Program.{Program}
use Rattle.floor_laws.specs.admission.admission_core.States.{IsAmong, Record}
use Rattle.floor_laws.specs.rule.nodes.Trees.{Tree, WaitFact}
use Rattle.floor_laws.specs.declared.table.nodes.view.TreeView.{TreeView}
use Rattle.floor_laws.specs.table.nodes.Layout.{decider_at, decider_place, no_decider}
use Rattle.floor_laws.specs.table.nodes.Plays.{TreeStep}
use Rattle.floor_laws.specs.table.nodes.Seats.{TreeSeat}
use Rattle.floor_laws.specs.table.nodes.TreeOf.{content_in}

-- that the task of each of these records waits for w
abbrev pub each_waits : ℕ → List Record → List WaitFact
each_waits w [] = []
each_waits w (r ∷ records) = record { waiter = r.task; awaited = w } ∷ each_waits w records

-- That the task of each record waits for w that was placed before the latest record of w. A content has the latest record first.
abbrev pub led_to : ℕ → List Record → List WaitFact
led_to w [] = []
led_to w (r ∷ records) = if r.task == w then each_waits w records else led_to w records

-- these are the records at node n: they lie there, or are at a seat that has locked the node
abbrev pub AreAt : Tree → ℕ → List Record → Type 0
AreAt tree n records = (tree.contents n ≡ Some records) ⊎ ((i : ℕ) × (tree.kept i n ≡ Some records))

-- A decider word that says that its task decides at a node says the truth: each task whose record was placed there before the
-- latest record of that task waits for it, directly or through others, unless it is done.
abbrev pub DecidersAreSo : Program → Bounds → List ℕ → Tree → List Link → Type 0
DecidersAreSo p lim words tree links =
    (w n : ℕ) (records : List Record) (fact : WaitFact) → w < lim.tasks
    → get_elem? words (decider_place p lim w) ≡ core.some (decider_at n) → AreAt tree n records → IsAmong fact (led_to w records)
    → WaitsOnUnlessDone links fact.waiter fact.awaited

-- Placing.

-- the task of each record is t, or is known to wait for it
abbrev pub AllWaitFor : List WaitFact → ℕ → List Record → Type 0
AllWaitFor waits t content =
    (r : Record) → IsAmong r content → (r.task ≡ t) ⊎ IsAmong (record { waiter = r.task; awaited = t }) waits

-- What a seat with this view may say in the decider word of task t when it places a record of t at node n, which has this
-- content: that t decides at no node; or that it decides here, if it does.
abbrev pub MayDecide : TreeView → ℕ → ℕ → List Record → ℕ → Type 0
MayDecide v t n content said = (said ≡ no_decider) ⊎ ((said ≡ decider_at n) × AllWaitFor v.waits t content)

-- Looking.

-- the waits that are known if w decides at a node with this content, if there is one
abbrev pub led_there : ℕ → Option (List Record) → List WaitFact
led_there w None = []
led_there w (Some records) = led_to w records

-- the seat has found that w decides at node n: of the records there that it has, it knows whose tasks wait for w
abbrev pub decided_view : TreeView → ℕ → ℕ → TreeView
decided_view v w n = record v { waits = led_there w (content_in v.kept n) ++ v.waits }

-- what a seat learns that finds this in the decider word of w
abbrev pub learned_of : TreeView → ℕ → ℕ → TreeView
learned_of v w zero = v
learned_of v w (suc n) = decided_view v w n

-- a load of the decider word of some task tells the seat who waits for that one
abbrev pub LooksUpDecider : Program → Bounds → TreeStep → TreeSeat → ℕ → TreeSeat → Type 0
LooksUpDecider p lim s before found after =
    (w : ℕ) → w < lim.tasks → s.word ≡ decider_place p lim w → after ≡ (learned_of before.0 w found, before.1)
