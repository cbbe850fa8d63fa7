-- The floor that a table shows.
use Rattle.std.specs.Prelude.{◌==◌, ℕ, List, [], ◌∷◌, Option, None, Some, if◌then◌else◌}
use mathlib.Core.Option as core
use lib.ListN.{get_elem?}
use Rattle.atomic_table.specs.Table as table
use Rattle.twe_program.specs.Program.{Program, cell_count}
use Rattle.seg_journal.specs.declared.numbered.NumberedEntry.{NumberedEntry}
use Rattle.floor_laws.specs.declared.rule.view.DoneFact.{DoneFact}
use Rattle.floor_laws.specs.declared.rule.view.HeldTurn.{HeldTurn}
use Rattle.floor_laws.specs.declared.rule.view.OpenSegment.{OpenSegment}
use Rattle.floor_laws.specs.declared.rule.view.TaskSlot.{TaskSlot}
use Rattle.floor_laws.specs.rule.Floors.{Floor, Home, Away, Empty, Holds}
use Rattle.floor_laws.specs.declared.table.view.TurnChange.{TurnChange}
use Rattle.floor_laws.specs.declared.table.view.View.{View}
use Rattle.floor_laws.specs.table.Layout.{asked_of_clock, cell_words_from, clock_place, entries_of_clock, cache_line, number_at, phase_word_at, phase_place, turn_word_at, turn_place}

-- a table of the floor: a slot holds a task, or nothing before its task is made
abbrev pub Table : Type 0
Table = table.State (Option TaskSlot) View

-- a slot that was taken out is away
abbrev pub home_at : core.Option (core.Option (Option TaskSlot)) → Home
home_at core.none = Empty
home_at (core.some core.none) = Away
home_at (core.some (core.some None)) = Empty
home_at (core.some (core.some (Some slot))) = Holds slot

-- the latest change of a task's turn says whether a worker has it
abbrev pub turn_in : List TurnChange → ℕ → Option HeldTurn
turn_in [] t = None
turn_in (change ∷ changes) t = if t == change.task then change.turn else turn_in changes t

-- What the view of a seat says, if the seat is there.

-- the number of its worker
abbrev pub worker_at : core.Option View → ℕ
worker_at core.none = 0
worker_at (core.some v) = v.worker

-- the entries that it has drawn
abbrev pub part_at : core.Option View → List NumberedEntry
part_at core.none = []
part_at (core.some v) = v.part

-- the turns that it has
abbrev pub turns_at : core.Option View → ℕ → Option HeldTurn
turns_at core.none = λ t. None
turns_at (core.some v) = turn_in v.turns

-- the segment that it has open
abbrev pub segment_at : core.Option View → Option OpenSegment
segment_at core.none = None
segment_at (core.some v) = v.segment

-- the tasks that it knows to be done
abbrev pub seat_facts_at : core.Option View → List DoneFact
seat_facts_at core.none = []
seat_facts_at (core.some v) = v.done

-- the floor that a table shows: its words and slots by their places, and what the views of its seats say
abbrev pub floor_of : Program → Table → Floor
floor_of p s = record {
  entries = entries_of_clock (number_at (get_elem? s.words clock_place));
  asked = asked_of_clock (number_at (get_elem? s.words clock_place));
  cells = cell_words_from s.words cache_line (cell_count p);
  turns = λ t. turn_word_at (get_elem? s.words (turn_place p t));
  phases = λ t. phase_word_at (get_elem? s.words (phase_place p t));
  homes = λ t. home_at (get_elem? s.homes t);
  workers = λ i. worker_at (get_elem? s.views i);
  parts = λ i. part_at (get_elem? s.views i);
  held = λ i. turns_at (get_elem? s.views i);
  segments = λ i. segment_at (get_elem? s.views i);
  facts = λ i. seat_facts_at (get_elem? s.views i);
}
