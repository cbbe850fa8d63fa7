-- The task of a legal move.
use Rattle.std.proofs.Common.{◌≡◌, ◌<◌, ℕ, length, ap, sym, ◌∙◌}
use Rattle.std.proofs.lemmas.Option.{slice_get_within}
use Rattle.seg_journal.specs.declared.moves.Kind.{Kind}
use Rattle.seg_journal.specs.declared.moves.Kind.TheVariants.{Admit, Run}
use Rattle.machine_state.specs.declared.state.State.{State}
use Rattle.machine_state.specs.declared.state.TaskRow.{TaskRow}
use Rattle.machine_state.specs.declared.state.TaskStatus.{TaskStatus}
use Rattle.machine_state.specs.declared.state.TaskStatus.TheVariants.{Made, Enabled, Done}
use Rattle.machine_state.specs.Legal.{MayTake}
use Rattle.machine_state.specs.Rows.{HasStatus}
use Rattle.machine_state.proofs.lists.Places.{got_one}

-- it is there
pub mover_there : (st : State) (kind : Kind) (t : ℕ) → MayTake st kind t → t < length st.tasks
mover_there st Admit t may = slice_get_within st.tasks t may.0.0 may.0.1
mover_there st Run t may = slice_get_within st.tasks t may.0.0 may.0.1

-- a task has one status
one_status : (st : State) (t : ℕ) (a b : TaskStatus) → HasStatus st t a → HasStatus st t b → a ≡ b
one_status st t a b one two = let same : one.0 ≡ two.0 = got_one _ one.1 two.1 in sym one.2 ∙ (ap (λ (r : TaskRow). r.status) same ∙ two.2)

-- it isn't done
pub mover_undone : (st : State) (kind : Kind) (t : ℕ) → MayTake st kind t → ¬ HasStatus st t Done
mover_undone st Admit t may done = let same : Made ≡ Done = one_status st t Made Done may.0 done in cc
mover_undone st Run t may done = let same : Enabled ≡ Done = one_status st t Enabled Done may.0 done in cc
