-- What a run says, without the places of the text in it.
use Rattle.std.specs.Prelude.{option_map}
use Rattle.seg_journal.specs.declared.journal.End.{End}
use Rattle.seg_journal.specs.declared.journal.End.TheVariants as ends
use Rattle.seg_journal.specs.declared.journal.Entry.{Entry}
use Rattle.seg_meaning.specs.declared.stop.Stop.{Stop}
use Rattle.seg_meaning.specs.declared.stop.Stop.TheVariants as stops
use Rattle.seg_meaning.specs.Segment.{Stopped}
use Rattle.machine_state.specs.declared.ending.Outcome.{Outcome}
use Rattle.machine_state.specs.declared.ending.Outcome.TheVariants as outcomes
use Rattle.machine_state.specs.declared.state.FirstFault.{FirstFault}
use Rattle.machine_state.specs.declared.state.State.{State}
use Rattle.summary_texts.specs.paste_laws.places.Places.{no_place}

-- how a segment stops, without the place of a make or of a fault
abbrev pub bare_stop : Stop → Stop
bare_stop (stops.Make child args effects spawned future place) = stops.Make child args effects spawned future no_place
bare_stop (stops.Waits on) = stops.Waits on
bare_stop (stops.Joins on) = stops.Joins on
bare_stop (stops.Done value) = stops.Done value
bare_stop (stops.Fault kind place) = stops.Fault kind no_place

-- what a segment leaves, without the places in it: a frame has none
abbrev pub bare_stopped : Stopped → Stopped
bare_stopped left = record left { stop = bare_stop left.stop }

-- the end of a move, without the place of a fault
abbrev pub bare_end : End → End
bare_end ends.Admitted = ends.Admitted
bare_end (ends.Made child) = ends.Made child
bare_end (ends.Waits on) = ends.Waits on
bare_end (ends.Joins on) = ends.Joins on
bare_end (ends.Done value) = ends.Done value
bare_end (ends.Fault kind place) = ends.Fault kind no_place

-- an entry of a journal, without the place of a fault
abbrev pub bare_entry : Entry → Entry
bare_entry entry = record entry { end = bare_end entry.end }

-- the first fault of a run, without its place: the task that met it, and its kind
abbrev pub bare_fault : FirstFault → FirstFault
bare_fault fault = record fault { place = no_place }

-- a state without the place of its first fault: no other part of a state has a place
abbrev pub bare_state : State → State
bare_state st = record st { first_fault = option_map bare_fault st.first_fault }

-- an outcome without the place of a fault
abbrev pub bare_outcome : Outcome → Outcome
bare_outcome outcomes.AllDone = outcomes.AllDone
bare_outcome (outcomes.Fault task kind place) = outcomes.Fault task kind no_place
bare_outcome outcomes.Stuck = outcomes.Stuck
bare_outcome outcomes.Unfinished = outcomes.Unfinished
