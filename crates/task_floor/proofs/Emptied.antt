-- What was taken out of the slots of tasks.
use Rattle.std.proofs.Common.{◌≡◌, ◌+◌, ◌++◌, ℕ, List, [], ◌∷◌, map, take, Option, None, Some, refl, sym, ap, subst, ◌∙◌, append_assoc}
use mathlib.Core.Option.{some}
use lib.ListN.{get_elem?}
use Rattle.region_paths.specs.declared.elements.Elem.{Elem}
use Rattle.twe_base.specs.Limits.{Bounds}
use Rattle.twe_program.specs.Program.{Program}
use Rattle.floor_laws.specs.declared.rule.view.TaskSlot.{TaskSlot}
use Rattle.floor_laws.specs.declared.table.nodes.slot.TreeSlot.{TreeSlot}
use Rattle.floor_laws.specs.declared.table.nodes.slot.TreeSlot.TheVariants as kinds
use Rattle.floor_laws.specs.declared.table.nodes.view.TreeView.{TreeView}
use Rattle.floor_laws.specs.table.nodes.Shown.{EndedBesideNodes}
use Rattle.task_floor.proofs.steps.Taken.{take_one}
use Rattle.task_floor.specs.inner.Emptying.{EndedWith, task_in}
use Rattle.task_floor.specs.steps.inner.Reading.{held_in}

held_more : (l : List TreeSlot) (x : TreeSlot) → held_in (map task_in (l ++ x ∷ [])) ≡ held_in (map task_in l) ++ held_in (task_in x ∷ [])
held_more [] x = refl
held_more (y ∷ l) x = by (held_more l x) (task_in y)
  where
    by : held_in (map task_in (l ++ x ∷ [])) ≡ held_in (map task_in l) ++ held_in (task_in x ∷ []) → (slot : Option TaskSlot)
        → held_in (slot ∷ map task_in (l ++ x ∷ [])) ≡ held_in (slot ∷ map task_in l) ++ held_in (task_in x ∷ [])
    by later None = later
    by later (Some task) = ap (λ (t : List TaskSlot). task ∷ t) later

-- one more was taken
pub taken_more : (start : List TaskSlot) (all : List TreeSlot) (i : ℕ) (x : TreeSlot) (old new : List TaskSlot) → old ≡ start ++ held_in (map task_in (take i all))
    → new ≡ old ++ held_in (task_in x ∷ []) → get_elem? all i ≡ some x → new ≡ start ++ held_in (map task_in (take (i + 1) all))
taken_more start all i x old new before is at =
    is ∙ (ap (λ (l : List TaskSlot). l ++ held_in (task_in x ∷ [])) before
    ∙ (append_assoc start (held_in (map task_in (take i all))) (held_in (task_in x ∷ []))
    ∙ ap (λ (l : List TaskSlot). start ++ l) (sym (held_more (take i all) x) ∙ ap (λ (l : List TreeSlot). held_in (map task_in l)) (sym (take_one all i x at)))))

-- slots that hold these tasks
tasks_in : (slots : List TreeSlot) (tasks : List (Option TaskSlot)) → slots ≡ map kinds.Task tasks → map task_in slots ≡ tasks
tasks_in slots tasks is = ap (map task_in) is ∙ again tasks
  where
    again : (l : List (Option TaskSlot)) → map task_in (map kinds.Task l) ≡ l
    again [] = refl
    again (x ∷ l) = ap (λ (t : List (Option TaskSlot)). x ∷ t) (again l)

-- A closed table of which the tasks were taken out of their slots.
pub emptied_shows : (nodes : List (List Elem)) (p : Program) (lim : Bounds) (v : TreeView) (words : List ℕ) (all_slots : List TreeSlot) → EndedBesideNodes nodes p lim v words all_slots
    → (left : List ℕ) (tasks : List TaskSlot) → left ≡ words → tasks ≡ held_in (map task_in (take lim.tasks all_slots)) → EndedWith p lim v.floor left tasks
emptied_shows nodes p lim v words all_slots ended left tasks left_is tasks_are =
    subst (λ (l : List ℕ). EndedWith p lim v.floor l tasks) (sym left_is) (record {
      slots = ended.tasks;
      quiet = ended.floor;
      held = tasks_are ∙ ap held_in (tasks_in (take lim.tasks all_slots) ended.tasks ended.task_slots);
    })
