-- A move of a program without its places is that of the program, but that a fault may have another place.
use Rattle.std.proofs.Common.{◌≡◌, ℕ, ◌+◌, ℤ, Bool, true, false, List, [], ◌∷◌, ◌++◌, map, Option, None, Some, refl, sym, ap, ◌∙◌, subst}
use Rattle.std.specs.Prelude.{if◌then◌else◌, nat_lt, option_map, replicate, slice_get}
use Rattle.twe_base.specs.declared.fault.FaultKind.{FaultKind}
use Rattle.twe_base.specs.declared.fault.FaultKind.TheVariants.{TaskLimit}
use Rattle.twe_base.specs.declared.place.Place.{Place}
use Rattle.twe_base.specs.Limits.{Bounds}
use Rattle.effect_sets.specs.declared.effects.Summary.{Summary}
use Rattle.twe_program.specs.declared.program.CellDecl.{CellDecl}
use Rattle.twe_program.specs.Program.{Program, size_of}
use Rattle.wait_graph.specs.Link.{link_of, new_link}
use Rattle.seg_journal.specs.declared.journal.End.{End}
use Rattle.seg_journal.specs.declared.journal.End.TheVariants as ends
use Rattle.seg_journal.specs.declared.moves.Kind.{Kind}
use Rattle.seg_journal.specs.declared.moves.Kind.TheVariants.{Admit, Run}
use Rattle.seg_journal.specs.declared.moves.Move.{Move}
use Rattle.seg_meaning.specs.declared.frame.Frame.{Frame}
use Rattle.seg_meaning.specs.declared.stop.Stop.{Stop}
use Rattle.seg_meaning.specs.declared.stop.Stop.TheVariants as stops
use Rattle.seg_meaning.specs.Entry.{effects_at, entry_frame}
use Rattle.seg_meaning.specs.Segment.{Stopped, segment}
use Rattle.machine_state.specs.declared.state.FirstFault.{FirstFault}
use Rattle.machine_state.specs.declared.state.State.{State}
use Rattle.machine_state.specs.declared.state.TaskRow.{TaskRow}
use Rattle.machine_state.specs.Legal.{MayMove, MayTake}
use Rattle.machine_state.specs.Moves.{admitted, first_fault_of, initial_values, joined_child, move_result, new_row, ran, ready_frame, result_by_kind, settling_result, start_of, state_after_asking, state_after_fault, state_after_join, state_after_make, stop_result, stopped_frame}
use Rattle.summary_texts.specs.paste_laws.places.Places.{SameButPlaces, bare_program, no_place, placeless_cell}
use Rattle.place_laws.specs.Alike.{SameStates}
use Rattle.place_laws.specs.Bare.{bare_end, bare_fault, bare_state, bare_stop}
use Rattle.place_laws.proofs.Declarations.{same_effects, same_entry}
use Rattle.place_laws.proofs.Segments.{segment_bare}

-- the state after a move and the end of the move, without places
abbrev pub bare_result : State × End → State × End
bare_result result = (bare_state result.0, bare_end result.1)

first_bare : (first : Option FirstFault) (t : ℕ) (kind : FaultKind) (place : Place)
    → first_fault_of (option_map bare_fault first) t kind no_place ≡ option_map bare_fault (first_fault_of first t kind place)
first_bare None t kind place = refl
first_bare (Some earlier) t kind place = refl

fault_bare : (st : State) (t : ℕ) (row : TaskRow) (frame : Frame) (kind : FaultKind) (place : Place)
    → state_after_fault (bare_state st) t row frame kind no_place ≡ bare_state (state_after_fault st t row frame kind place)
fault_bare st t row frame kind place =
    ap (λ (first : Option FirstFault). record (state_after_fault st t row frame kind place) { first_fault = first }) (first_bare st.first_fault t kind place)

module _ (lim : Bounds) (st : State) (t : ℕ) (row : TaskRow) (frame : Frame) where
  made_bare : (child : Frame) (args : List ℤ) (effects : Summary) (spawned : Bool) (future : ℕ) (place : Place) (fits : Bool)
      → (if fits then (state_after_make lim (bare_state st) t row frame future spawned child args effects, ends.Made (st.asked + 1))
      else (state_after_fault (state_after_asking (bare_state st)) t row (stopped_frame frame) TaskLimit no_place, ends.Fault TaskLimit no_place))
      ≡ bare_result
      (if fits then (state_after_make lim st t row frame future spawned child args effects, ends.Made (st.asked + 1))
      else (state_after_fault (state_after_asking st) t row (stopped_frame frame) TaskLimit place, ends.Fault TaskLimit place))
  made_bare child args effects spawned future place true = refl
  made_bare child args effects spawned future place false =
      ap (λ (s : State). (s, ends.Fault TaskLimit no_place)) (fault_bare (state_after_asking st) t row (stopped_frame frame) TaskLimit place)

  stop_bare : (stop : Stop) → stop_result lim (bare_state st) t row frame (bare_stop stop) ≡ bare_result (stop_result lim st t row frame stop)
  stop_bare (stops.Make child args effects spawned future place) = made_bare child args effects spawned future place (nat_lt (st.asked + 1) lim.tasks)
  stop_bare (stops.Waits on) = refl
  stop_bare (stops.Joins on) = refl
  stop_bare (stops.Done value) = refl
  stop_bare (stops.Fault kind place) = ap (λ (s : State). (s, ends.Fault kind no_place)) (fault_bare st t row frame kind place)

join_bare : (st : State) (child : Option ℕ) → state_after_join (bare_state st) child ≡ bare_state (state_after_join st child)
join_bare st None = refl
join_bare st (Some child) = refl

settling_bare : (lim : Bounds) (st : State) (t : ℕ) (row : TaskRow) (frame : Frame) (stop : Stop)
    → settling_result lim (bare_state st) t (Some row) frame (bare_stop stop) ≡ bare_result (settling_result lim st t (Some row) frame stop)
settling_bare lim st t row frame stop =
    let child = joined_child row.out (link_of st.links t).waits in
    ap (λ (s : State). stop_result lim s t row frame (bare_stop stop)) (join_bare st child) ∙ stop_bare lim (state_after_join st child) t row frame stop

module _ (p : Program) (lim : Bounds) (st : State) where
  ran_bare : (t : ℕ) (row : Option TaskRow) → ran (bare_program p) lim (bare_state st) t row ≡ bare_result (ran p lim st t row)
  ran_bare t None = refl
  ran_bare t (Some row) =
      let frame = ready_frame st.tasks row.frame in
      ap (λ (left : Stopped). settling_result lim (record (bare_state st) { cells = left.cells }) t (Some row) left.frame left.stop) (segment_bare p frame st.cells)
      ∙ settling_bare lim (record st { cells = (segment p frame st.cells).cells }) t row (segment p frame st.cells).frame (segment p frame st.cells).stop

  admitted_bare : (t : ℕ) (row : Option TaskRow) → admitted (bare_state st) t row ≡ bare_state (admitted st t row)
  admitted_bare t None = refl
  admitted_bare t (Some row) = refl

  kind_bare : (kind : Kind) (t : ℕ) → result_by_kind (bare_program p) lim (bare_state st) kind t ≡ bare_result (result_by_kind p lim st kind t)
  kind_bare Admit t = ap (λ (s : State). (s, ends.Admitted)) (admitted_bare t (slice_get st.tasks t))
  kind_bare Run t = ran_bare t (slice_get st.tasks t)

  pub move_bare : (mv : Move) → move_result (bare_program p) lim (bare_state st) mv ≡ bare_result (move_result p lim st mv)
  move_bare mv = kind_bare mv.kind mv.task

-- the same moves are legal
take_bare : (st : State) (kind : Kind) (t : ℕ) → MayTake st kind t → MayTake (bare_state st) kind t
take_bare st Admit t may = may
take_bare st Run t may = may

bare_take : (st : State) (kind : Kind) (t : ℕ) → MayTake (bare_state st) kind t → MayTake st kind t
bare_take st Admit t may = may
bare_take st Run t may = may

pub moves_bare : (st : State) (mv : Move) → MayMove st mv → MayMove (bare_state st) mv
moves_bare st mv may = take_bare st mv.kind mv.task may

pub bare_moves : (st : State) (mv : Move) → MayMove (bare_state st) mv → MayMove st mv
bare_moves st mv may = bare_take st mv.kind mv.task may

pub legal_alike : (st other : State) (mv : Move) → SameStates st other → MayMove st mv → MayMove other mv
legal_alike st other mv same may = bare_moves other mv (subst (λ (s : State). MayMove s mv) same (moves_bare st mv may))

pub moves_alike : (p q : Program) (lim : Bounds) (st other : State) (mv : Move) → SameButPlaces p q → SameStates st other
    → bare_result (move_result p lim st mv) ≡ bare_result (move_result q lim other mv)
moves_alike p q lim st other mv same states =
    sym (move_bare p lim st mv) ∙ ap (λ (r : Program). move_result r lim (bare_state st) mv) same
    ∙ ap (λ (s : State). move_result (bare_program q) lim s mv) states ∙ move_bare q lim other mv

-- Both start in the same state.

initial_bare : (cells : List CellDecl) → initial_values (map placeless_cell cells) ≡ initial_values cells
initial_bare [] = refl
initial_bare (cell ∷ cells) = ap (λ (values : List ℤ). replicate (size_of cell.dims) cell.init ++ values) (initial_bare cells)

-- the start with these cells, and with a `main` with this frame and these effects
abbrev started : Bounds → List ℤ → Frame → Summary → State
started lim cells frame effects = record {
  cells = cells;
  tasks = new_row lim 0 None frame [] effects ∷ [];
  links = new_link None ∷ [];
  prints = [];
  asked = 0;
  first_fault = None;
}

start_bare : (p : Program) (lim : Bounds) → start_of (bare_program p) lim ≡ start_of p lim
start_bare p lim =
    let its_effects = effects_at (bare_program p) p.main [] in
    ap (λ (cells : List ℤ). started lim cells (entry_frame (bare_program p) p.main []) its_effects) (initial_bare p.cells)
    ∙ ap (λ (frame : Frame). started lim (initial_values p.cells) frame its_effects) (same_entry p p.main [])
    ∙ ap (started lim (initial_values p.cells) (entry_frame p p.main [])) (same_effects p p.main [])

pub starts_alike : (p q : Program) (lim : Bounds) → SameButPlaces p q → start_of p lim ≡ start_of q lim
starts_alike p q lim same = sym (start_bare p lim) ∙ ap (λ (r : Program). start_of r lim) same ∙ start_bare q lim
