-- What the steps of the settling of a segment make of a state, taken together.
use Rattle.std.proofs.Common.{◌≡◌, ◌+◌, ◌++◌, ℕ, ℤ, Bool, List, [], ◌∷◌, length, Option, Some, sym, ap, ◌∙◌}
use Rattle.std.specs.Prelude.{slice_get}
use Rattle.effect_sets.specs.declared.effects.Summary.{Summary}
use Rattle.seg_journal.specs.declared.journal.End.{End}
use Rattle.twe_base.specs.Limits.{Bounds}
use Rattle.wait_graph.specs.Link.{link_of, new_link}
use Rattle.seg_meaning.specs.declared.frame.Frame.{Frame}
use Rattle.seg_meaning.specs.declared.stop.Stop.{Stop}
use Rattle.machine_state.specs.declared.state.State.{State}
use Rattle.machine_state.specs.declared.state.TaskRow.{TaskRow}
use Rattle.machine_state.specs.Moves.{state_after_asking, going_row, state_after_make, state_after_storing, state_after_join, joined_child, making_frame, new_row, parent_of, settling_result, stop_result}

-- a task was made: the frame of its maker is stored, and its row and its links stand after the others
pub made_is : (lim : Bounds) (st came after : State) (t : ℕ) (row : TaskRow) (frame maker : Frame) (future : ℕ) (spawned : Bool) (child : Frame) (args : List ℤ) (effects : Summary) (parent : Option ℕ)
    → maker ≡ making_frame future spawned (st.asked + 1) frame
    → came ≡ state_after_storing (state_after_asking st) t maker (going_row row maker)
    → parent ≡ parent_of t spawned
    → length came.tasks ≡ st.asked + 1
    → after ≡ record came {
      tasks = came.tasks ++ new_row lim (length came.tasks) parent child args effects ∷ [];
      links = came.links ++ new_link parent ∷ [];
    }
    → after ≡ state_after_make lim st t row frame future spawned child args effects
made_is lim st came after t row frame maker future spawned child args effects parent makes comes spawns number adds =
    let came_is : came ≡ state_after_storing (state_after_asking st) t (making_frame future spawned (st.asked + 1) frame) (going_row row (making_frame future spawned (st.asked + 1) frame)) =
    comes ∙ ap (λ (f : Frame). state_after_storing (state_after_asking st) t f (going_row row f)) makes
    in
    adds ∙ (λ i. record (came_is i) {
      tasks = (came_is i).tasks ++ new_row lim (number i) (spawns i) child args effects ∷ [];
      links = (came_is i).links ++ new_link (spawns i) ∷ [];
    })

-- a segment is settled: its join was taken, and then its stop
pub settled_is : (lim : Bounds) (st after : State) (t : ℕ) (row : TaskRow) (frame : Frame) (stop : Stop) (moved : State × End)
    → slice_get st.tasks t ≡ Some row
    → after ≡ state_after_join st (joined_child row.out (link_of st.links t).waits)
    → moved ≡ stop_result lim after t row frame stop
    → moved ≡ settling_result lim st t (slice_get st.tasks t) frame stop
settled_is lim st after t row frame stop moved here joins stops =
    stops ∙ (ap (λ (s : State). stop_result lim s t row frame stop) joins ∙ sym (ap (λ (found : Option TaskRow). settling_result lim st t found frame stop) here))
