-- A table with nodes that is closed at a quiet point shows what a table of the floor does.
use Rattle.std.proofs.Common.{◌≡◌, ◌<◌, ◌≤◌, ℕ, zero, suc, List, [], ◌∷◌, length, map, Option, None, refl, sym, ap, ◌∙◌, arith}
use Rattle.std.specs.Prelude.{take}
use mathlib.Core.Option as core
use mathlib.Core.Option.{some-injective, some-ne-none}
use lib.ListN.{get_elem?}
use Rattle.atomic_table.specs.Table.{Final, Seen}
use Rattle.atomic_table.proofs.Lists.{at_map}
use Rattle.region_paths.specs.declared.elements.Elem.{Elem}
use Rattle.twe_base.specs.Limits.{Bounds}
use Rattle.twe_program.specs.Program.{Program}
use Rattle.machine_state.specs.declared.state.State as machine
use Rattle.machine_state.specs.Runs.{state_after}
use Rattle.seg_journal.specs.Merging.{journal_of}
use Rattle.floor_laws.specs.declared.rule.view.TaskSlot.{TaskSlot}
use Rattle.floor_laws.specs.rule.Fitting.{HomeFits}
use Rattle.floor_laws.specs.rule.Floors.{Home, Away, Empty, Holds}
use Rattle.floor_laws.specs.rule.Steps.{IsQuiet}
use Rattle.floor_laws.proofs.rule.Puts.{none_some}
use Rattle.floor_laws.specs.declared.table.view.SeatKind.TheVariants.{Main}
use Rattle.floor_laws.specs.table.FloorOf.{Table, floor_of, home_at}
use Rattle.floor_laws.specs.table.Holds.{HasGivenAll, TableKeeps}
use Rattle.floor_laws.specs.table.Layout.{word_count}
use Rattle.floor_laws.proofs.table.Ends.{quiet}
use Rattle.floor_laws.proofs.table.Rests.{closed_quiet}
use Rattle.floor_laws.specs.declared.table.nodes.slot.TreeSlot.{TreeSlot}
use Rattle.floor_laws.specs.declared.table.nodes.slot.TreeSlot.TheVariants as kinds
use Rattle.floor_laws.specs.declared.table.nodes.view.TreeView.{TreeView}
use Rattle.floor_laws.specs.table.nodes.Holds.{TreeKeeps}
use Rattle.floor_laws.specs.table.nodes.Shown.{EndedBesideNodes}
use Rattle.floor_laws.specs.table.nodes.TreeOf.{TreeTable, floor_part, floor_view, task_home}
use Rattle.floor_laws.proofs.table.nodes.Elements.{at_some, take_there}

-- Slots that hold tasks.

abbrev task_in : TreeSlot → Option TaskSlot
task_in (kinds.Task slot) = slot
task_in (kinds.Node records) = None
task_in (kinds.Errand errand) = None

abbrev HasTask : List TreeSlot → ℕ → Type 0
HasTask slots k = (slot : Option TaskSlot) × (get_elem? slots k ≡ core.some (kinds.Task slot))

-- the tasks that the first n slots hold
abbrev tasks_of : ℕ → List TreeSlot → List (Option TaskSlot)
tasks_of n slots = map task_in (take n slots)

tasks_again : (n : ℕ) (slots : List TreeSlot) → ((k : ℕ) → k < n → HasTask slots k) → take n slots ≡ map kinds.Task (tasks_of n slots)
tasks_again zero slots all = refl
tasks_again (suc n) [] all = refl
tasks_again (suc n) (x ∷ slots) all =
    let first = all 0 (omega arith) in
    let is : x ≡ kinds.Task first.0 = some-injective x (kinds.Task first.0) first.1 in
    let here : x ≡ kinds.Task (task_in x) = is ∙ ap (λ (y : TreeSlot). kinds.Task (task_in y)) (sym is) in
    let rest = tasks_again n slots (λ k low. all (suc k) (omega (arith, low))) in
    λ i. here i ∷ rest i

tasks_count : (n : ℕ) (slots : List TreeSlot) → n ≤ length slots → length (tasks_of n slots) ≡ n
tasks_count zero slots within = refl
tasks_count (suc n) [] within = absurd (omega (arith, within))
tasks_count (suc n) (x ∷ slots) within = ap suc (tasks_count n slots (omega (arith, within)))

task_at : (n k : ℕ) (slots : List TreeSlot) (slot : Option TaskSlot) → k < n → get_elem? slots k ≡ core.some (kinds.Task slot) → get_elem? (tasks_of n slots) k ≡ core.some slot
task_at n k slots slot low is = at_map task_in (take n slots) k (kinds.Task slot) (take_there slots n k low ∙ is)

-- Slots at home that show tasks.

is_task : (home : core.Option TreeSlot) (slot : Option TaskSlot) → task_home home ≡ core.some slot → home ≡ core.some (kinds.Task slot)
is_task core.none slot is = absurd (some-ne-none slot (sym is))
is_task (core.some (kinds.Task x)) slot is = ap (λ (z : Option TaskSlot). core.some (kinds.Task z)) (some-injective x slot is)
is_task (core.some (kinds.Node records)) slot is = absurd (some-ne-none slot (sym is))
is_task (core.some (kinds.Errand errand)) slot is = absurd (some-ne-none slot (sym is))

home_of_task : (n k : ℕ) (hs : List (core.Option TreeSlot)) (slot : Option TaskSlot) → get_elem? (map task_home (take n hs)) k ≡ core.some (core.some slot)
    → (k < n) × (get_elem? hs k ≡ core.some (core.some (kinds.Task slot)))
home_of_task zero k hs slot is = absurd (some-ne-none (core.some slot) (sym is))
home_of_task (suc n) k [] slot is = absurd (some-ne-none (core.some slot) (sym is))
home_of_task (suc n) zero (h ∷ hs) slot is = (omega arith, ap core.some (is_task h slot (some-injective (task_home h) (core.some slot) is)))
home_of_task (suc n) (suc k) (h ∷ hs) slot is =
    let rest = home_of_task n k hs slot is in
    let low = rest.0 in
    (omega (arith, low), rest.1)

module _ (nodes : List (List Elem)) (p : Program) (lim : Bounds) (s : TreeTable) (kept : TreeKeeps nodes p lim s) (id : ℕ) (v : TreeView) (at : get_elem? s.views id ≡ core.some v)
    (main : v.floor.kind ≡ Main) (none : v.floor.out ≡ 0) (given : HasGivenAll v.floor) where
  abbrev fs : Table
  fs = floor_part p lim s

  abbrev st : machine.State
  st = state_after p lim (journal_of kept.floor.log)

  at_floor : get_elem? fs.views id ≡ core.some v.floor
  at_floor = at_map floor_view s.views id v at

  is_quiet : IsQuiet (floor_of p fs)
  is_quiet = quiet p lim fs kept.floor id v.floor at_floor main none given

  -- no slot of a task is away
  not_away : (t : ℕ) (home : Home) → HomeFits st (floor_of p fs).held t home → home ≡ Away → ⊥
  not_away t Away by same = none_some (sym (is_quiet.no_turns by.seat t) ∙ by.has)
  not_away t Empty fits same = cc (same)
  not_away t (Holds slot) here same = cc (same)

  there : (t : ℕ) (home : core.Option (Option TaskSlot)) → get_elem? fs.homes t ≡ core.some home → (slot : Option TaskSlot) × (home ≡ core.some slot)
  there t core.none is = absurd (not_away t (home_at (get_elem? fs.homes t)) (kept.floor.rule.fits.homes t) (ap home_at is))
  there t (core.some slot) is = (slot, refl)

  task_is_home : (t : ℕ) → t < lim.tasks → (slot : Option TaskSlot) × (get_elem? s.homes t ≡ core.some (core.some (kinds.Task slot)))
  task_is_home t below =
      let count = kept.floor.slots in
      let found = at_some fs.homes t (omega (arith, count, below)) in
      let slot = there t found.0 found.1 in
      (slot.0, (home_of_task lim.tasks t s.homes slot.0 (found.1 ∙ ap core.some slot.1)).1)

  module _ (words : List ℕ) (slots : List TreeSlot) (same : s.words ≡ words) (count : length s.homes ≡ length slots)
      (homes : (k : ℕ) (y : TreeSlot) → get_elem? s.homes k ≡ core.some (core.some y) → get_elem? slots k ≡ core.some y) where
    abbrev tasks : List (Option TaskSlot)
    tasks = tasks_of lim.tasks slots

    has_tasks : (k : ℕ) → k < lim.tasks → HasTask slots k
    has_tasks k below = let home = task_is_home k below in (home.0, homes k (kinds.Task home.0) home.1)

    size : length tasks ≡ lim.tasks
    size =
        let all = kept.slots in
        tasks_count lim.tasks slots (omega (arith, all, count))

    task_shown : (k : ℕ) (slot : Option TaskSlot) → get_elem? fs.homes k ≡ core.some (core.some slot) → get_elem? tasks k ≡ core.some slot
    task_shown k slot is =
        let home = home_of_task lim.tasks k s.homes slot is in
        task_at lim.tasks k slots slot home.0 (homes k (kinds.Task slot) home.1)

    final : Final (Seen (TableKeeps p lim) id v.floor) (take (word_count p lim) words) tasks
    final = (fs, (kept.floor, at_floor), ap (take (word_count p lim)) same, kept.floor.slots ∙ sym size, task_shown)

    shown : EndedBesideNodes nodes p lim v words slots
    shown = record {
      all_words = sym (ap length same) ∙ kept.words;
      all_slots = sym count ∙ kept.slots;
      tasks = tasks;
      task_slots = tasks_again lim.tasks slots has_tasks;
      floor = closed_quiet p lim id v.floor (take (word_count p lim) words) tasks main none given final;
    }

-- A closed table.
pub closed_shows : (nodes : List (List Elem)) (p : Program) (lim : Bounds) (id : ℕ) (v : TreeView) (words : List ℕ) (slots : List TreeSlot) → v.floor.kind ≡ Main → v.floor.out ≡ 0
    → HasGivenAll v.floor → Final (Seen (TreeKeeps nodes p lim) id v) words slots → EndedBesideNodes nodes p lim v words slots
closed_shows nodes p lim id v words slots main none given (s, seen, same, count, homes) = shown nodes p lim s seen.0 id v seen.1 main none given words slots same count homes
