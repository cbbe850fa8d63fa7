-- The calls that were active at a fault.
use Rattle.std.specs.Prelude.{◌+◌, ◌++◌, ◌==◌, ◌&&◌, ℕ, Bool, List, [], ◌∷◌, Option, None, Some, codes, decimal, if◌then◌else◌, map, slice_get, take}
use Rattle.run_texts.specs.TaskLabels.{decl_name}
use Rattle.seg_meaning.specs.declared.active.ActiveCall.{ActiveCall}
use Rattle.twe_program.specs.Program.{Program}
use Rattle.explain_pages.specs.declared.places.note.Note.{Note}
use Rattle.explain_pages.specs.places.Notes.{note_at}
use Rattle.explain_pages.specs.names.Variables.{is_same_place}
use Rattle.run_notes.specs.declared.calls_shown.CallRun.{CallRun}

-- how many runs of calls are shown at most
abbrev pub most_runs : ℕ
most_runs = 8

-- the calls are of the same method at the same place
abbrev pub is_same_call : ActiveCall → ActiveCall → Bool
is_same_call call other = (call.method == other.method) && is_same_place call.place other.place

-- these runs of calls with one call more inside them, which joins the first of them if it is the same
abbrev pub with_call : ActiveCall → List CallRun → List CallRun
with_call call [] = record { call = call; times = 1; depth = 1 } ∷ []
with_call call (run ∷ runs) =
    if is_same_call call run.call then record { call = run.call; times = run.times + 1; depth = run.depth + 1 } ∷ runs
    else record { call = call; times = 1; depth = run.depth + 1 } ∷ (run ∷ runs)

-- active calls, the latest first, as runs of the same call, each with its length and with the number of calls from it on
abbrev pub runs_of : List ActiveCall → List CallRun
runs_of [] = []
runs_of (call ∷ calls) = with_call call (runs_of calls)

-- how often the call of a run is active, unless it is once
abbrev pub times_words : ℕ → List ℕ
times_words times =
    if times == 1 then [] else codes " " ++ (decimal times ++ codes " times, each inside the one before")

-- the method that is called here
abbrev pub call_caption : Program → CallRun → List ℕ
call_caption p run =
    codes "in `" ++ (decl_name (slice_get p.methods run.call.method) ++ (codes "`, called here" ++ times_words run.times))

-- the same at the place of the call
abbrev pub call_note : Program → CallRun → Note
call_note p run = note_at run.call.place (call_caption p run)

-- the first runs, the latest call first
abbrev pub call_notes : Program → List CallRun → List Note
call_notes p runs = map (call_note p) (take most_runs runs)

-- how many calls are left out
abbrev pub calls_left_out_text : ℕ → List ℕ
calls_left_out_text number = codes "active calls that are left out here: " ++ decimal number

-- the same from this run on, if there is one
abbrev pub calls_left_out_from : Option CallRun → List (List ℕ)
calls_left_out_from None = []
calls_left_out_from (Some run) = calls_left_out_text run.depth ∷ []

-- the same, if some are left out
abbrev pub calls_left_out : List CallRun → List (List ℕ)
calls_left_out runs = calls_left_out_from (slice_get runs most_runs)
