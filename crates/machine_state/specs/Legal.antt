-- Which moves are legal in a state, and why another one is not.
use Rattle.std.specs.Prelude.{◌≢◌, ◌≤◌, ◌<◌, ◌⊎◌, ℕ, length}
use Rattle.effect_sets.specs.Interference.{SomeInterfere}
use Rattle.seg_journal.specs.declared.moves.Kind.{Kind}
use Rattle.seg_journal.specs.declared.moves.Kind.TheVariants.{Admit, Run}
use Rattle.seg_journal.specs.declared.moves.Move.{Move}
use Rattle.machine_state.specs.declared.why.Why.{Why}
use Rattle.machine_state.specs.declared.why.Why.TheVariants.{NoTask, NotMade, HeldBy, NotEnabled, WaitsFor}
use Rattle.machine_state.specs.declared.state.State.{State}
use Rattle.machine_state.specs.declared.state.TaskRow.{TaskRow}
use Rattle.machine_state.specs.declared.state.TaskStatus.TheVariants.{Made, Enabled}
use Rattle.wait_graph.specs.Waiting.{YieldsTo}
use Rattle.wait_graph.specs.Waiting as graph
use Rattle.machine_state.specs.Rows.{IsRow, HasStatus}

-- some effects of the two tasks interfere
abbrev pub Interfere : State → ℕ → ℕ → Type 0
Interfere st s t = (a : TaskRow) × (b : TaskRow) × IsRow st s a × IsRow st t b × SomeInterfere a.effects.effects b.effects.effects

-- s is a bar to t: it is another task, it is enabled, its effects interfere with those of t, and it doesn't yield to
-- t
abbrev pub IsBar : State → ℕ → ℕ → Type 0
IsBar st s t = (s ≢ t) × HasStatus st s Enabled × Interfere st s t × ¬ YieldsTo st.links s t

-- t may be admitted: it was made, and each other enabled task that interferes with it yields to it
abbrev pub MayAdmit : State → ℕ → Type 0
MayAdmit st t = HasStatus st t Made × ((s : ℕ) → s ≢ t → HasStatus st s Enabled → Interfere st s t → YieldsTo st.links s t)

-- t may run: it is enabled, and waits for nobody
abbrev pub MayRun : State → ℕ → Type 0
MayRun st t = HasStatus st t Enabled × ((u : ℕ) → ¬ graph.WaitsFor st.links t u)

-- t may be admitted, or may run, as the kind says
abbrev pub MayTake : State → Kind → ℕ → Type 0
MayTake st Admit t = MayAdmit st t
MayTake st Run t = MayRun st t

-- the move is legal
abbrev pub MayMove : State → Move → Type 0
MayMove st mv = MayTake st mv.kind mv.task

-- this is the reason why a move of this kind of the task is not legal
abbrev pub Forbids : State → Kind → ℕ → Why → Type 0
Forbids st kind t NoTask = length st.tasks ≤ t
Forbids st Admit t NotMade = (t < length st.tasks) × ¬ HasStatus st t Made
-- the lowest bar
Forbids st Admit t (HeldBy s) = HasStatus st t Made × IsBar st s t × ((r : ℕ) → r < s → ¬ IsBar st r t)
Forbids st Run t NotEnabled = (t < length st.tasks) × ¬ HasStatus st t Enabled
Forbids st Run t (WaitsFor u) = HasStatus st t Enabled × graph.WaitsFor st.links t u
Forbids st Admit t NotEnabled = ⊥
Forbids st Admit t (WaitsFor u) = ⊥
Forbids st Run t NotMade = ⊥
Forbids st Run t (HeldBy s) = ⊥

-- of each two enabled tasks that interfere, one yields to the other
abbrev pub Isolated : State → Type 0
Isolated st =
    (s t : ℕ) → s ≢ t → HasStatus st s Enabled → HasStatus st t Enabled → Interfere st s t
    → YieldsTo st.links s t ⊎ YieldsTo st.links t s
