-- The bars of a picture: one for each entry of a journal, in their order.
use Rattle.std.specs.Prelude.{◌≡◌, ◌-◌, ◌++◌, ◌==◌, ◌||◌, ◌&&◌, ℕ, suc, Bool, false, List, [], ◌∷◌, Option, None, Some, length, max, if◌then◌else◌, slice_get}
use Rattle.std.specs.List.{fold}
use Rattle.seg_journal.specs.declared.journal.End.{End}
use Rattle.seg_journal.specs.declared.journal.End.TheVariants as ends
use Rattle.seg_journal.specs.declared.journal.Entry.{Entry}
use Rattle.twe_base.specs.Limits.{Bounds}
use Rattle.twe_program.specs.Program.{Program}
use Rattle.machine_state.specs.declared.state.State.{State}
use Rattle.machine_state.specs.Moves.{move_result}
use Rattle.machine_state.specs.Runs.{is_done}
use Rattle.span_profile.specs.Strands.{Strand, made_task, strand_of}
use Rattle.twe_draw.specs.declared.picture.bars.EntryBar.{EntryBar}

-- whether an entry with this end has made the task
abbrev pub ends_by_making : ℕ → End → Bool
ends_by_making task (ends.Made child) = task == child
ends_by_making task _ = false

-- whether the entry of a bar is of the task or has made it
abbrev pub concerns : ℕ → EntryBar → Bool
concerns task bar = (task == bar.task) || ends_by_making task bar.end

-- whether the entry of a bar has done the task
abbrev pub has_done : ℕ → EntryBar → Bool
has_done task bar = is_done bar.end && (task == bar.task)

-- the number of the last of these bars that passes the test, if one does
abbrev pub last_that : (EntryBar → Bool) → List EntryBar → Option ℕ
last_that test bars = fold (λ (last : Option ℕ) (bar : EntryBar). if test bar then Some bar.number else last) None bars

-- the number of the bar whose entry has done the task whose value is taken, if one is
abbrev pub giver_in : List EntryBar → Option ℕ → Option ℕ
giver_in bars None = None
giver_in bars (Some task) = last_that (has_done task) bars

-- a time that was looked up
abbrev pub time_found : Option ℕ → ℕ
time_found None = 0
time_found (Some time) = time

-- the time of the entry of this number
abbrev pub time_at : List ℕ → ℕ → ℕ
time_at times number = time_found (slice_get times number)

-- The bar of the entry that did this, after the bars of those before it, if entries start and end at these times. It stands in
-- the row of its task.
abbrev pub bar_of : List ℕ → List ℕ → List EntryBar → Entry → Strand → EntryBar
bar_of starts ends before entry strand = record {
  number = length before;
  task = strand.task;
  kind = entry.mv.kind;
  taken = strand.taken;
  end = entry.end;
  begins = time_at starts (length before);
  ends = time_at ends (length before);
  previous = last_that (concerns strand.task) before;
  giver = giver_in before strand.taken;
}

-- the bar of the entry for a move in this state
abbrev pub bar_in : Program → List ℕ → List ℕ → State → List EntryBar → Entry → EntryBar
bar_in p starts ends st before entry = bar_of starts ends before entry (strand_of p st entry)

-- the bars of these entries from this state on, after the bars of the entries before them
abbrev pub bars_from : Program → Bounds → List ℕ → List ℕ → State → List EntryBar → List Entry → List EntryBar
bars_from p lim starts ends st before [] = []
bars_from p lim starts ends st before (entry ∷ entries) =
    bar_in p starts ends st before entry
    ∷ bars_from p lim starts ends (move_result p lim st entry.mv).0
    (before ++ bar_in p starts ends st before entry ∷ []) entries

-- the bar has this number, stands in the row of the task of this strand, and says whose value it took, what it made, and whether
-- its task was done
pub record IsShown (number : ℕ) (strand : Strand) (bar : EntryBar) : Type 0 where
  pub number_is : bar.number ≡ number
  pub task : bar.task ≡ strand.task
  pub taken : bar.taken ≡ strand.taken
  pub made : made_task bar.end ≡ strand.made
  pub done : is_done bar.end ≡ strand.done

-- there is one bar for each of these, the first of which has this number, in their order
abbrev pub Shows : ℕ → List Strand → List EntryBar → Type 0
Shows number [] [] = Unit {0}
Shows number [] (bar ∷ bars) = ⊥
Shows number (strand ∷ strands) [] = ⊥
Shows number (strand ∷ strands) (bar ∷ bars) = IsShown number strand bar × Shows (suc number) strands bars

-- how long a bar is
abbrev pub bar_length : EntryBar → ℕ
bar_length bar = bar.ends - bar.begins

-- when the last of these bars ends, and 0 if there is none
abbrev pub end_of_bars : List EntryBar → ℕ
end_of_bars [] = 0
end_of_bars (bar ∷ bars) = max bar.ends (end_of_bars bars)
