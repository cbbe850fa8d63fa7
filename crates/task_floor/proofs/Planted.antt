-- The words and slots of nodes behind those of a floor show the state and the records of its enabled tasks.
use Rattle.std.proofs.Common.{◌≡◌, ◌+◌, ◌-◌, ◌++◌, ◌<◌, ℕ, zero, suc, List, [], ◌∷◌, drop, length, map, take, replicate, Option, None, Some, refl, sym, ap, subst, ◌∙◌, inl, arith, length-append}
use Rattle.std.specs.Prelude.{slice_get}
use Rattle.std.proofs.lemmas.List.{drop-replicate, length-map, length-replicate, map-append}
use mathlib.Core.Option as core
use lib.ListN.{get_elem?}
use Rattle.atomic_table.proofs.Lists.{at_map}
use Rattle.region_paths.specs.declared.elements.Elem.{Elem}
use Rattle.twe_base.specs.Limits.{Bounds}
use Rattle.twe_program.specs.Program.{Program}
use Rattle.seg_meaning.specs.Entry.{effects_at, entry_frame}
use Rattle.machine_state.specs.declared.state.State.{State}
use Rattle.machine_state.specs.declared.state.TaskRow.{TaskRow}
use Rattle.machine_state.specs.declared.state.TaskStatus.TheVariants as status
use Rattle.machine_state.specs.Moves.{new_row, start_of}
use Rattle.seg_journal.specs.declared.numbered.NumberedEntry.{NumberedEntry}
use Rattle.floor_laws.specs.declared.rule.view.TaskSlot.{TaskSlot}
use Rattle.floor_laws.proofs.rule.Puts.{none_some, some_one}
use Rattle.floor_laws.specs.table.Holds.{IsLaidOut}
use Rattle.floor_laws.specs.table.Layout.{word_count}
use Rattle.floor_laws.specs.admission.admission_core.States.{IsAmong, Record}
use Rattle.floor_laws.specs.rule.nodes.Starts.{AreOfEnabled}
use Rattle.floor_laws.specs.declared.table.nodes.slot.TreeSlot.{TreeSlot}
use Rattle.floor_laws.specs.declared.table.nodes.slot.TreeSlot.TheVariants as kinds
use Rattle.floor_laws.specs.table.nodes.Holds.{HoldsContent, IsTreeLaidOut}
use Rattle.floor_laws.specs.table.nodes.Layout.{content_place, decider_place, free_lock, lock_place, no_decider, tree_slot_count, tree_word_count}
use Rattle.task_floor.specs.steps.Opening.{ShowsRun}
use Rattle.task_floor.proofs.steps.Laid.{get_past}
use Rattle.task_floor.specs.Opening.{ShowsTreeRun}
use Rattle.task_floor.specs.inner.Recording.{HoldRecords}
use Rattle.task_floor.specs.steps.inner.Laying.{held_slot}
use Rattle.task_floor.proofs.Sorted.{all_same}

take_front : {A : Type 0} (a b : List A) (n : ℕ) → length a ≡ n → take n (a ++ b) ≡ a
take_front [] b zero is = refl
take_front [] b (suc n) is = absurd (omega (arith, is))
take_front (x ∷ a) b zero is = absurd (omega (arith, is))
take_front {A} (x ∷ a) b (suc n) is = ap (λ (l : List A). x ∷ l) (take_front a b n (omega (arith, is)))

-- the records of enabled tasks stand at nodes
pub records_within : (nodes : List (List Elem)) (st : State) (records : List Record) → AreOfEnabled nodes st records → (r : Record) → IsAmong r records → r.node < length nodes
records_within nodes st records are r among = (are.only r among).placed.place.there

module _ (nodes : List (List Elem)) (p : Program) (lim : Bounds) (log : List NumberedEntry) (st : State) (records : List Record) (words : List ℕ) (held : List (Option TaskSlot))
    (contents : List (List Record)) (floor : IsLaidOut p lim log st words held) (hold : HoldRecords (length nodes) records contents) where
  abbrev all_words : List ℕ
  all_words = words ++ replicate (lim.tasks + length nodes) 0

  abbrev all_slots : List TreeSlot
  all_slots = map kinds.Task held ++ map kinds.Node contents

  held_count : length (map kinds.Task held) ≡ lim.tasks
  held_count = length-map held kinds.Task ∙ floor.slot_count

  slots_count : length all_slots ≡ tree_slot_count nodes lim
  slots_count =
      let both = length-append (map kinds.Task held) (map kinds.Node contents) in
      let front = held_count in
      let behind = length-map contents kinds.Node in
      let count = hold.count in
      omega (arith, both, front, behind, count)

  words_count : length all_words ≡ tree_word_count nodes p lim
  words_count =
      let both = length-append words (replicate (lim.tasks + length nodes) 0) in
      let front = floor.word_count in
      let behind = length-replicate {A = ℕ} (lim.tasks + length nodes) 0 in
      omega (arith, both, front, behind)

  decider_there : (t : ℕ) → t < lim.tasks → get_elem? all_words (decider_place p lim t) ≡ core.some no_decider
  decider_there t few =
      let front = floor.word_count in
      get_past words (replicate (lim.tasks + length nodes) 0) (decider_place p lim t) t (omega (arith, front)) ∙ all_same (lim.tasks + length nodes) t 0 (omega (arith, few))

  lock_there : (n : ℕ) → n < length nodes → get_elem? all_words (lock_place p lim n) ≡ core.some free_lock
  lock_there n below =
      let front = floor.word_count in
      get_past words (replicate (lim.tasks + length nodes) 0) (lock_place p lim n) (lim.tasks + n) (omega (arith, front))
      ∙ all_same (lim.tasks + length nodes) (lim.tasks + n) 0 (omega (arith, below))

  content_there : (n : ℕ) → n < length nodes → HoldsContent records all_slots (content_place lim n) n
  content_there n below =
      let those = hold.each n below in
      record {
        content = those.content;
        there =
            get_past (map kinds.Task held) (map kinds.Node contents) (content_place lim n) n (ap (λ (k : ℕ). k + n) (sym held_count))
            ∙ at_map kinds.Node contents n those.content those.there;
        all = those.all;
        once = those.once;
      }

  pub planted : IsTreeLaidOut nodes p lim log st records all_words all_slots
  planted = record {
    all_words = words_count;
    all_slots = slots_count;
    tasks = held;
    task_slots = take_front (map kinds.Task held) (map kinds.Node contents) lim.tasks held_count;
    floor = subst (λ (l : List ℕ). IsLaidOut p lim log st l held) (sym (take_front words (replicate (lim.tasks + length nodes) 0) (word_count p lim) floor.word_count)) floor;
    deciders = decider_there;
    locks = lock_there;
    contents = content_there;
  }

-- a floor that shows a run does so with these nodes too
pub shows_planted : (nodes : List (List Elem)) (p : Program) (lim : Bounds) (log : List NumberedEntry) (st : State) (records : List Record) (words : List ℕ) (held : List (Option TaskSlot))
    (contents : List (List Record)) → ShowsRun p lim log st words held → AreOfEnabled nodes st records → HoldRecords (length nodes) records contents
    → (whole : List ℕ) (slots : List TreeSlot) → whole ≡ words ++ replicate (lim.tasks + length nodes) 0 → slots ≡ map kinds.Task held ++ map kinds.Node contents
    → ShowsTreeRun nodes p lim log st records whole slots
shows_planted nodes p lim log st records words held contents shows enabled hold whole slots words_are slots_are =
    subst (λ (l : List ℕ). ShowsTreeRun nodes p lim log st records l slots) (sym words_are)
    (subst (λ (l : List TreeSlot). ShowsTreeRun nodes p lim log st records (words ++ replicate (lim.tasks + length nodes) 0) l) (sym slots_are)
    (record {
      run = shows.run;
      order = shows.order;
      prints = shows.prints;
      enabled = enabled;
      laid = planted nodes p lim log st records words held contents shows.laid hold;
    }))

-- the slots of the tasks that were made, and those of the tasks that were not
pub task_slots : (rows : List TaskRow) (count : ℕ)
    → map kinds.Task (map held_slot rows) ++ map kinds.Task (replicate (count - length rows) None) ≡ map kinds.Task (map held_slot rows ++ drop (length rows) (replicate count None))
task_slots rows count =
    ap (λ (l : List (Option TaskSlot)). map kinds.Task (map held_slot rows) ++ map kinds.Task l) (sym (drop-replicate (length rows) count None))
    ∙ sym (map-append kinds.Task (map held_slot rows) (drop (length rows) (replicate count None)))

-- At the start of a run no record stands, since no task is enabled.

only_row : (x row : TaskRow) (t : ℕ) → slice_get (x ∷ []) t ≡ Some row → row ≡ x
only_row x row zero is = sym (some_one is)
only_row x row (suc t) is = absurd (none_some is)

not_enabled : status.Made ≡ status.Enabled → ⊥
not_enabled same = cc (same)

pub none_at_start : (nodes : List (List Elem)) (p : Program) (lim : Bounds) (st : State) → st ≡ start_of p lim → (records : List Record) → AreOfEnabled nodes st records → records ≡ []
none_at_start nodes p lim st is [] are = refl
none_at_start nodes p lim st is (r ∷ records) are =
    let one = are.only r (inl refl) in
    let main : TaskRow = new_row lim 0 None (entry_frame p p.main []) [] (effects_at p p.main []) in
    let there : slice_get (main ∷ []) r.task ≡ Some one.placed.row = ap (λ (s : State). slice_get s.tasks r.task) (sym is) ∙ one.placed.there in
    absurd (not_enabled (sym (ap (λ (x : TaskRow). x.status) (only_row main one.placed.row r.task there)) ∙ one.enabled))
