-- What is written as JSON: one object, on one line. Names of tasks are identifiers, so nothing in them has to be escaped.
use Rattle.std.specs.Prelude.{◌-◌, ◌++◌, ◌==◌, ℕ, List, [], ◌∷◌, codes, if◌then◌else◌}
use Rattle.std.specs.List.{flat_map}
use Rattle.twe_program.specs.declared.program.Decl.{Decl}
use Rattle.schedules.specs.Schedules.{least_time}
use Rattle.span_profile.specs.Advice.{parallelism_of}
use Rattle.span_profile.specs.Totals.{total_of}
use Rattle.span_profile.specs.declared.totals.TaskTotal.{TaskTotal}
use Rattle.span_profile.specs.declared.totals.TaskWork.{TaskWork}
use Rattle.held_span.specs.declared.hold.Hold.{Hold}
use Rattle.machine_state.specs.declared.state.TaskRow.{TaskRow}
use Rattle.twe_advise.specs.HeldTimes.{held_time}
use Rattle.twe_advise.specs.Paces.{shown_time, speed_up}
use Rattle.twe_advise.specs.declared.paces.PacedTime.{PacedTime}
use Rattle.twe_advise.specs.Texts.{hundredths_text, rows_by, word_number}

-- `{"work":8,"span":6,"parallelism":1.33`
unfoldable pub json_head : ℕ → ℕ → List ℕ
json_head work span =
    (word_number (codes "{\"work\":") work ++ word_number (codes ",\"span\":") span)
    ++ (codes ",\"parallelism\":" ++ hundredths_text (parallelism_of work span))

-- `,"held_span":8,"held_longer_by":2`
unfoldable pub json_held : ℕ → ℕ → List ℕ
json_held span held = word_number (codes ",\"held_span\":") held ++ word_number (codes ",\"held_longer_by\":") (held - span)

-- `,"paced_held":8,"speed_up":1.00}`
abbrev pub json_speed_up : ℕ → ℕ → List ℕ
json_speed_up work time =
    word_number (codes ",\"paced_held\":") time
    ++ (codes ",\"speed_up\":" ++ (hundredths_text (speed_up work time) ++ codes "}"))

-- `{"workers":2,"least":6,"paced":6,"paced_held":8,"speed_up":1.00}`
unfoldable pub json_time : ℕ → ℕ → PacedTime → List ℕ
json_time work span pace =
    ((word_number (codes "{\"workers\":") pace.workers
    ++ word_number (codes ",\"least\":") (least_time work span pace.workers))
    ++ word_number (codes ",\"paced\":") (shown_time work pace.time)) ++ json_speed_up work (shown_time work pace.held)

-- the same after a comma
abbrev pub json_next_time : ℕ → ℕ → PacedTime → List ℕ
json_next_time work span pace = codes "," ++ json_time work span pace

-- these objects with commas between them
abbrev pub json_paces : ℕ → ℕ → List PacedTime → List ℕ
json_paces work span [] = []
json_paces work span (pace ∷ paces) = json_time work span pace ++ flat_map (json_next_time work span) paces

-- the times
unfoldable pub json_times : ℕ → ℕ → List PacedTime → List ℕ
json_times work span paces = codes ",\"times\":[" ++ json_paces work span paces

-- a comma, unless this is the first one
abbrev pub comma_before : ℕ → List ℕ
comma_before number = if number == 0 then [] else codes ","

-- `{"name":"inc","made":1,"work":2,"heaviest":2,"held":2}`
abbrev pub json_task : TaskTotal → ℕ → List ℕ → List ℕ
json_task total held name =
    (((codes "{\"name\":\"" ++ name) ++ word_number (codes "\",\"made\":") total.made)
    ++ (word_number (codes ",\"work\":") total.work ++ word_number (codes ",\"heaviest\":") total.heaviest))
    ++ (word_number (codes ",\"held\":") held ++ codes "}")

-- the object of the declaration with this number, which comes after a comma unless it is the first
abbrev pub json_task_of : List TaskWork → List TaskRow → List Hold → ℕ → Decl → List ℕ
json_task_of works rows holds number decl =
    comma_before number ++ json_task (total_of number works) (held_time rows holds number) decl.name

-- the objects of these declarations, the first of which has this number
abbrev pub json_tasks : List TaskWork → List TaskRow → List Hold → ℕ → List Decl → List ℕ
json_tasks works rows holds number decls = rows_by (json_task_of works rows holds) number decls

-- the object, with these objects of the pairs that held most and of the chain
abbrev pub json_text : List Decl → ℕ → ℕ → ℕ → List Hold → List PacedTime → List TaskWork → List TaskRow → List ℕ → List ℕ
    → List ℕ
json_text decls work span held holds paces works rows pairs chain =
    ((((((((json_head work span ++ json_held span held) ++ json_times work span paces) ++ codes "],\"tasks\":[")
    ++ json_tasks works rows holds 0 decls) ++ codes "],\"holds\":[") ++ pairs) ++ codes "],\"chain\":[") ++ chain)
    ++ codes "]}\n"
