-- What is said of a task that waits for another, and of one that is held by another.
use Rattle.std.specs.Prelude.{◌++◌, ℕ, List, [], ◌∷◌, Option, None, Some, codes, slice_get}
use Rattle.effect_sets.specs.declared.effects.Effect.{Effect}
use Rattle.twe_base.specs.declared.place.Place.{Place}
use Rattle.twe_program.specs.declared.program.Decl.{Decl}
use Rattle.twe_program.specs.Program.{Program}
use Rattle.machine_state.specs.declared.state.State.{State}
use Rattle.machine_state.specs.declared.state.TaskRow.{TaskRow}
use Rattle.run_facts.specs.declared.making.TaskMaking.{TaskMaking}
use Rattle.run_facts.specs.Clashes.{effects_of_task, first_clashing}
use Rattle.run_facts.specs.Makings.{making_of, place_of_row}
use Rattle.twe_frontend.specs.meaning.EffectTexts.{effect_text}
use Rattle.explain_pages.specs.declared.places.note.Note.{Note}
use Rattle.run_notes.specs.Faulted.{notes_if}
use Rattle.run_notes.specs.TaskTexts.{task_shown}

-- when a task is no longer held
abbrev pub held_rule : List ℕ
held_rule = codes "a task is held until no enabled task that interferes with it is left, but for those that wait for it"

-- the task waits for the other one
abbrev pub wait_caption : Program → State → ℕ → ℕ → List ℕ
wait_caption p st task other = task_shown p st task ++ (codes " waits here for " ++ task_shown p st other)

-- the task waits for the other one, at the place where it stands
abbrev pub wait_notes : Program → State → ℕ → ℕ → List Note
wait_notes p st task other = notes_if (place_of_row p (slice_get st.tasks task)) (wait_caption p st task other)

-- the place of the name of a declaration that was looked up
abbrev pub place_of_decl : Option Decl → Option Place
place_of_decl None = None
place_of_decl (Some decl) = Some decl.place

-- the place of the declaration of a task that was looked up
abbrev pub declared_at_row : Program → Option TaskRow → Option Place
declared_at_row p None = None
declared_at_row p (Some row) = place_of_decl (slice_get p.tasks row.decl)

-- the place where a task was made, or if it was made by none, that of its declaration
abbrev pub place_if_made : Program → State → ℕ → Option TaskMaking → Option Place
place_if_made p st task None = declared_at_row p (slice_get st.tasks task)
place_if_made p st task (Some making) = making.place

-- the place from which a task comes
abbrev pub origin_of : Program → State → List TaskMaking → ℕ → Option Place
origin_of p st makings task = place_if_made p st task (making_of makings task)

-- these words and an effect between accents, if there is one
abbrev pub effect_shown : Program → List ℕ → Option Effect → List ℕ
effect_shown p words None = []
effect_shown p words (Some effect) = words ++ (effect_text p.regions [] effect ++ codes "`")

-- the effects that interfere with one that was looked up
abbrev pub clashing_with : List Effect → Option Effect → Option Effect
clashing_with effects None = None
clashing_with effects (Some effect) = first_clashing effects (effect ∷ [])

-- the effect of the task for which the other one holds it
abbrev pub held_effect : State → ℕ → ℕ → Option Effect
held_effect st task holder = first_clashing (effects_of_task st task) (effects_of_task st holder)

-- the effect for which the holder holds the task
abbrev pub holding_effect : State → ℕ → ℕ → Option Effect
holding_effect st task holder = clashing_with (effects_of_task st holder) (held_effect st task holder)

-- the task is held
abbrev pub held_caption : Program → State → ℕ → ℕ → List ℕ
held_caption p st task holder =
    task_shown p st task ++ (effect_shown p (codes " needs `") (held_effect st task holder)
    ++ (codes ", and is held by " ++ task_shown p st holder))

-- the other task holds it
abbrev pub holder_caption : Program → State → ℕ → ℕ → List ℕ
holder_caption p st task holder =
    task_shown p st holder ++ (codes " comes from here" ++ effect_shown p (codes ", and has `") (holding_effect st task holder))

-- the task is held, and the other one holds it, at the places from which they come
abbrev pub held_notes : Program → State → List TaskMaking → ℕ → ℕ → List Note
held_notes p st makings task holder =
    notes_if (origin_of p st makings task) (held_caption p st task holder)
    ++ notes_if (origin_of p st makings holder) (holder_caption p st task holder)
