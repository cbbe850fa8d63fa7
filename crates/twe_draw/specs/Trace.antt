-- A run as Chrome's trace events, which Perfetto reads: an array of JSON with a name for each row and an event for each entry.
use Rattle.std.specs.Prelude.{◌≡◌, ◌-◌, ◌++◌, ℕ, List, [], ◌∷◌, map, Option, None, Some, codes, slice_get}
use Rattle.serde_json.specs.Data.{Data, number, unsigned, string, array, object, member, no_members}
use Rattle.serde_json.specs.Read.{read}
use Rattle.serde_json.specs.View.{items_of}
use Rattle.serde_json.specs.Written.{compact_text}
use Rattle.seg_journal.specs.declared.journal.End.{End}
use Rattle.seg_journal.specs.declared.journal.End.TheVariants as ends
use Rattle.twe_program.specs.Program.{Program}
use Rattle.machine_state.specs.declared.state.TaskRow.{TaskRow}
use Rattle.run_texts.specs.TaskLabels.{decl_name}
use Rattle.twe_draw.specs.declared.picture.bars.EntryBar.{EntryBar}
use Rattle.twe_draw.specs.Bars.{class_of}

-- the name of the declaration of a row
abbrev pub row_name : Program → TaskRow → List ℕ
row_name p row = decl_name (slice_get p.tasks row.decl)

-- the same of a row that was looked up
abbrev pub row_name_found : Program → Option TaskRow → List ℕ
row_name_found p None = []
row_name_found p (Some row) = row_name p row

-- how an entry ended, in a word
abbrev pub end_name : End → List ℕ
end_name ends.Admitted = codes "admitted"
end_name (ends.Made child) = codes "made"
end_name (ends.Waits on) = codes "waits"
end_name (ends.Joins on) = codes "joins"
end_name (ends.Done value) = codes "done"
end_name (ends.Fault kind place) = codes "fault"

-- a row is named by the declaration of its task
abbrev pub row_event : Program → TaskRow → Data
row_event p row = object
    (member (codes "args") (object (member (codes "name") (string (row_name p row)) no_members))
    (member (codes "name") (string (codes "thread_name"))
    (member (codes "ph") (string (codes "M"))
    (member (codes "pid") (number (unsigned 0))
    (member (codes "tid") (number (unsigned row.frame.task)) no_members)))))

-- what is told of an entry: how it ended, and its number
abbrev pub entry_args : EntryBar → Data
entry_args bar = object
    (member (codes "end") (string (end_name bar.end)) (member (codes "entry") (number (unsigned bar.number)) no_members))

-- an entry, from its beginning on, as long as it takes, in the row of its task
abbrev pub bar_event : Program → List TaskRow → EntryBar → Data
bar_event p tasks bar = object
    (member (codes "args") (entry_args bar)
    (member (codes "cat") (string (class_of p (slice_get tasks bar.task) bar.kind))
    (member (codes "dur") (number (unsigned (bar.ends - bar.begins)))
    (member (codes "name") (string (row_name_found p (slice_get tasks bar.task)))
    (member (codes "ph") (string (codes "X"))
    (member (codes "pid") (number (unsigned 0))
    (member (codes "tid") (number (unsigned bar.task))
    (member (codes "ts") (number (unsigned bar.begins)) no_members))))))))

-- the events of a run: the names of its rows, and its entries
abbrev pub trace_data : Program → List EntryBar → List TaskRow → Data
trace_data p bars tasks = array (items_of (map (row_event p) tasks ++ map (bar_event p tasks) bars))

-- The text is the JSON of the events of a run, without spaces, and the end of a line. The JSON reads back to the events.
pub record IsTrace (p : Program) (bars : List EntryBar) (tasks : List TaskRow) (text : List ℕ) : Type 0 where
  pub json : List ℕ
  pub text_is : text ≡ json ++ 10 ∷ []
  pub json_is : json ≡ compact_text (trace_data p bars tasks)
  pub reads_back : read json ≡ Some (trace_data p bars tasks)
