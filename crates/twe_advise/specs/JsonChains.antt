-- The heaviest chain as JSON: an object for each of its entries. Names of tasks and of regions are identifiers, so nothing in
-- them has to be escaped.
use Rattle.std.specs.Prelude.{◌++◌, ℕ, suc, Bool, true, false, List, [], ◌∷◌, Option, None, Some, codes, slice_get}
use Rattle.twe_base.specs.declared.place.Place.{Place}
use Rattle.twe_program.specs.declared.program.Decl.{Decl}
use Rattle.twe_program.specs.Program.{Program}
use Rattle.machine_state.specs.declared.state.TaskRow.{TaskRow}
use Rattle.run_texts.specs.CellTexts.{cell_text}
use Rattle.run_texts.specs.TaskLabels.{listed_args, decl_name}
use Rattle.span_profile.specs.declared.reasons.ChainStep.{ChainStep}
use Rattle.span_profile.specs.declared.reasons.LinkReason.{LinkReason}
use Rattle.span_profile.specs.declared.reasons.LinkReason.TheVariants.{First, GoesOn, Made, Took, Read, Printed, Wrote, Unlinked}
use Rattle.twe_advise.specs.Chains.{begin_of}
use Rattle.twe_advise.specs.Json.{comma_before}
use Rattle.twe_advise.specs.Texts.{word_number}

-- whether the entry before wrote the path
abbrev pub json_wrote : Bool → List ℕ
json_wrote true = codes "\",\"wrote\":true"
json_wrote false = codes "\",\"wrote\":false"

-- `"writes","path":"Total","wrote":false`
abbrev pub json_path : List ℕ → List ℕ → Bool → List ℕ
json_path why path wrote = why ++ (codes ",\"path\":\"" ++ (path ++ json_wrote wrote))

-- why an entry comes after the one before it
abbrev pub json_reason : Program → LinkReason → List ℕ
json_reason p First = codes "\"first\""
json_reason p GoesOn = codes "\"same task\""
json_reason p Made = codes "\"made\""
json_reason p Took = codes "\"waited\""
json_reason p (Read cell) = json_path (codes "\"reads\"") (cell_text p cell) true
json_reason p (Printed wrote) = json_path (codes "\"writes\"") (codes "Console") wrote
json_reason p (Wrote cell wrote) = json_path (codes "\"writes\"") (cell_text p cell) wrote
json_reason p Unlinked = codes "null"

-- `,"line":4,"column":11`
abbrev pub json_place : Place → List ℕ
json_place place = word_number (codes ",\"line\":") place.line ++ word_number (codes ",\"column\":") place.col

-- the place of a declaration that was looked up
abbrev pub json_place_found : Option Decl → List ℕ
json_place_found None = []
json_place_found (Some decl) = json_place decl.place

-- `,"name":"part","args":[0],"line":4,"column":11`
abbrev pub json_label : Program → TaskRow → List ℕ
json_label p row =
    codes ",\"name\":\""
    ++ (decl_name (slice_get p.tasks row.decl)
    ++ (codes "\",\"args\":[" ++ (listed_args row.args ++ (codes "]" ++ json_place_found (slice_get p.tasks row.decl)))))

-- the same of a task that was looked up
abbrev pub json_label_found : Program → Option TaskRow → List ℕ
json_label_found p None = []
json_label_found p (Some row) = json_label p row

-- `{"entry":6,"begins":4,"task":1,"name":"part","args":[0],"line":4,"column":11,"why":"made"}`
abbrev pub json_step : Program → List TaskRow → List ℕ → ChainStep → List ℕ
json_step p tasks starts step =
    word_number (codes "{\"entry\":") step.entry
    ++ (word_number (codes ",\"begins\":") (begin_of starts step.entry)
    ++ (word_number (codes ",\"task\":") step.task
    ++ (json_label_found p (slice_get tasks step.task) ++ (codes ",\"why\":" ++ (json_reason p step.reason ++ codes "}")))))

-- the object of the entry with this number in the chain, which comes after a comma unless it is the first
abbrev pub json_next_step : Program → List TaskRow → List ℕ → ℕ → ChainStep → List ℕ
json_next_step p tasks starts number step = comma_before number ++ json_step p tasks starts step

-- the objects of these entries, the first of which has this number in the chain
abbrev pub json_steps : Program → List TaskRow → List ℕ → ℕ → List ChainStep → List ℕ
json_steps p tasks starts number [] = []
json_steps p tasks starts number (step ∷ steps) =
    json_next_step p tasks starts number step ++ json_steps p tasks starts (suc number) steps
