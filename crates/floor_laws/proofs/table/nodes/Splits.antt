-- Splitting a seat off keeps the rule of the table with nodes.
use Rattle.std.proofs.Common.{◌≡◌, ◌≢◌, ◌+◌, ◌++◌, ℕ, zero, suc, List, [], ◌∷◌, length, map, None, refl, sym, ap, subst, ◌∙◌, ⊎_elim, length-set}
use Rattle.std.specs.Prelude.{slice_set}
use Rattle.std.proofs.lemmas.Bool.{cases_eq}
use mathlib.Core.Option as core
use lib.ListN.{get_elem?}
use Rattle.atomic_table.specs.Table.{Splits}
use Rattle.atomic_table.proofs.Lists.{at_map}
use Rattle.region_paths.specs.declared.elements.Elem.{Elem}
use Rattle.twe_base.specs.Limits.{Bounds}
use Rattle.twe_program.specs.Program.{Program}
use Rattle.machine_state.specs.Runs.{state_after}
use Rattle.seg_journal.specs.declared.numbered.NumberedEntry.{NumberedEntry}
use Rattle.seg_journal.specs.Merging.{journal_of}
use Rattle.floor_laws.specs.rule.Floors.{Floor, put}
use Rattle.floor_laws.specs.rule.Rule.{KeepsRule}
use Rattle.floor_laws.specs.rule.Steps.{after_split}
use Rattle.floor_laws.specs.admission.admission_core.States as among
use Rattle.floor_laws.proofs.rule.Puts.{put_else, put_here}
use Rattle.floor_laws.specs.declared.table.view.SeatKind.TheVariants.{Main}
use Rattle.floor_laws.specs.declared.table.view.View.{View}
use Rattle.floor_laws.specs.table.FloorOf.{Table, floor_of, part_at, turns_at, worker_at}
use Rattle.floor_laws.specs.table.Holds.{TableKeeps, left_view, right_view}
use Rattle.floor_laws.proofs.table.Seats.{split_allowed}
use Rattle.floor_laws.proofs.table.Views.{seats_kept}
use Rattle.floor_laws.specs.rule.nodes.Rule.{KeepsBoth, KeepsNodes}
use Rattle.floor_laws.specs.rule.nodes.Trees.{Tree}
use Rattle.floor_laws.proofs.rule.nodes.SeatSteps.{splits}
use Rattle.floor_laws.proofs.rule.nodes.TurnEvents.{floor_same}
use Rattle.floor_laws.specs.declared.table.nodes.view.TreeView.{TreeView}
use Rattle.floor_laws.specs.table.nodes.Deciders.{DecidersAreSo}
use Rattle.floor_laws.specs.table.nodes.Holds.{TreeKeeps, left_tree_view, right_tree_view}
use Rattle.floor_laws.specs.table.nodes.TreeOf.{TreeTable, activity_at, clear_at, floor_part, floor_shown, floor_view, fresh_at, kept_at, placed_at, removed_at, tree_of, waits_at}
use Rattle.floor_laws.proofs.table.nodes.Elements.{elements_kept, map_length, map_put}
use Rattle.floor_laws.proofs.table.nodes.OneLog.{one_log}
use Rattle.floor_laws.proofs.table.nodes.Ties.{same_floor, tree_is}

module _ {A : Type 0} where
  map_added : {B : Type 0} (g : A → B) (l : List A) (x : A) → map g (l ++ x ∷ []) ≡ map g l ++ g x ∷ []
  map_added g [] x = refl
  map_added {B} g (y ∷ l) x = ap (λ (t : List B). g y ∷ t) (map_added g l x)

  none_last : (l : List A) → get_elem? l (length l) ≡ core.none
  none_last [] = refl
  none_last (y ∷ l) = none_last l

  last_added : (l : List A) (x : A) → get_elem? (l ++ x ∷ []) (length l) ≡ core.some x
  last_added [] x = refl
  last_added (y ∷ l) x = last_added l x

  else_added : (l : List A) (x : A) (j : ℕ) → j ≢ length l → get_elem? (l ++ x ∷ []) j ≡ get_elem? l j
  else_added [] x zero other = absurd (other refl)
  else_added [] x (suc j) other = refl
  else_added (y ∷ l) x zero other = refl
  else_added (y ∷ l) x (suc j) other = else_added l x j (λ same. other (ap suc same))

  -- a new element of which a part is as if it were not there
  added_same : {X : Type 0} (part : core.Option A → X) (x : A) → part (core.some x) ≡ part core.none → (l : List A) (j : ℕ) → part (get_elem? (l ++ x ∷ []) j) ≡ part (get_elem? l j)
  added_same part x same [] zero = same
  added_same part x same [] (suc j) = refl
  added_same part x same (y ∷ l) zero = refl
  added_same part x same (y ∷ l) (suc j) = added_same part x same l j

  added_put : {X : Type 0} (part : core.Option A → X) (l : List A) (x : A) (j : ℕ) → part (get_elem? (l ++ x ∷ []) j) ≡ put (λ (i : ℕ). part (get_elem? l i)) (length l) (part (core.some x)) j
  added_put {X} part l x j =
      ⊎_elim
      (λ (same : j ≡ length l).
      ap (λ (n : ℕ). part (get_elem? (l ++ x ∷ []) n)) same ∙ (ap part (last_added l x) ∙ (sym (put_here was (length l) (part (core.some x))) ∙ ap (put was (length l) (part (core.some x))) (sym same))))
      (λ (other : j ≢ length l). ap part (else_added l x j other) ∙ sym (put_else was (length l) j (part (core.some x)) other))
      (cases_eq j (length l))
    where
      was : ℕ → X
      was i = part (get_elem? l i)

module _ (nodes : List (List Elem)) (p : Program) (lim : Bounds) (s : TreeTable) (kept : TreeKeeps nodes p lim s) (id : ℕ) (v : TreeView) (at : get_elem? s.views id ≡ core.some v) (main : v.floor.kind ≡ Main) where
  abbrev fs : Table
  fs = floor_part p lim s

  abbrev f : Floor
  f = floor_shown p lim s

  abbrev log : List NumberedEntry
  log = kept.floor.log

  abbrev left : List TreeView
  left = slice_set s.views id (left_tree_view v)

  abbrev right : TreeView
  right = right_tree_view v

  abbrev next : TreeTable
  next = record { words = s.words; homes = s.homes; views = left ++ right ∷ [] }

  abbrev left_floor : List View
  left_floor = slice_set fs.views id (left_view v.floor)

  abbrev floor_next : Table
  floor_next = record { words = fs.words; homes = fs.homes; views = left_floor ++ right_view v.floor ∷ [] }

  at_floor : get_elem? fs.views id ≡ core.some v.floor
  at_floor = at_map floor_view s.views id v at

  part_tie : floor_part p lim next ≡ floor_next
  part_tie =
      let views = map_added floor_view left right ∙ ap (λ (l : List View). l ++ right_view v.floor ∷ []) (map_put floor_view s.views id (left_tree_view v)) in
      λ k. record { words = fs.words; homes = fs.homes; views = views k }

  keep : TableKeeps p lim floor_next
  keep = split_allowed p lim id v.floor main fs kept.floor at_floor

  abbrev f_next : Floor
  f_next = floor_of p floor_next

  parts_stay : (j : ℕ) → f_next.parts j ≡ f.parts j
  parts_stay j = added_same part_at (right_view v.floor) refl left_floor j ∙ ap (λ (g : ℕ → List NumberedEntry). g j) (seats_kept part_at fs.views id v.floor (left_view v.floor) at_floor refl)

  same_log : keep.log ≡ log
  same_log =
      one_log keep.log f_next.parts keep.rule.parts log (sym keep.rule.entries ∙ kept.floor.rule.entries)
      (λ j e has. kept.floor.rule.parts.entries j e (subst (among.IsAmong e) (parts_stay j) has))

  part_stays : {X : Type 0} (part : core.Option TreeView → X) → part (core.some right) ≡ part core.none → part (core.some (left_tree_view v)) ≡ part (core.some v)
      → ◌≡◌ {A = ℕ → X} (λ j. part (get_elem? (left ++ right ∷ []) j)) (λ j. part (get_elem? s.views j))
  part_stays part none same = λ k j. (added_same part right none left j ∙ ap (λ (g : ℕ → _). g j) (elements_kept part s.views id v (left_tree_view v) at same)) k

  tree_stays : tree_of p lim next ≡ tree_of p lim s
  tree_stays =
      tree_is _ (tree_of p lim s) refl refl (part_stays activity_at refl refl) (part_stays kept_at refl refl) (part_stays placed_at refl refl) (part_stays removed_at refl refl) (part_stays fresh_at refl refl)
      (part_stays clear_at refl refl)
      (part_stays waits_at refl refl)

  -- the seats of the nodes after the seat was split
  abbrev seat : ℕ
  seat = length left_floor

  abbrev split_floor : Floor
  split_floor = after_split f seat (v.floor.split + 1)

  held_stay : (j t : ℕ) → f_next.held j t ≡ f.held j t
  held_stay j t =
      added_same (λ (o : core.Option View). turns_at o t) (right_view v.floor) refl left_floor j
      ∙ ap (λ (g : ℕ → ℕ → _). g j t) (seats_kept turns_at fs.views id v.floor (left_view v.floor) at_floor refl)

  workers_put : f_next.workers ≡ put f.workers seat (v.floor.split + 1)
  workers_put = (λ k j. added_put worker_at left_floor (right_view v.floor) j k) ∙ ap (λ (g : ℕ → ℕ). put g seat (v.floor.split + 1)) (seats_kept worker_at fs.views id v.floor (left_view v.floor) at_floor refl)

  idle : (tree_of p lim s).activities seat ≡ None
  idle = ap activity_at (subst (λ (n : ℕ). get_elem? s.views n ≡ core.none) (sym (length-set fs.views id (left_view v.floor) ∙ map_length floor_view s.views)) (none_last s.views))

  nodes_next : KeepsNodes nodes p lim log f_next (tree_of p lim next) kept.core
  nodes_next =
      let before = splits nodes p lim log f (tree_of p lim s) kept.core kept.both.nodes_keep seat (v.floor.split + 1) idle in
      subst (λ (t : Tree). KeepsNodes nodes p lim log f_next t kept.core) (sym tree_stays)
      (floor_same nodes p lim log split_floor (tree_of p lim s) kept.core before f_next (λ k j t. held_stay j t k) workers_put)

  pub split_step : TreeKeeps nodes p lim (record { words = s.words; homes = s.homes; views = slice_set s.views id (left_tree_view v) ++ right_tree_view v ∷ [] })
  split_step =
      let again = same_floor p lim floor_next (floor_part p lim next) part_tie keep in
      record {
        words = kept.words;
        slots = kept.slots;
        floor = again.0;
        core = kept.core;
        both = subst (λ (l : List NumberedEntry). KeepsBoth nodes p lim l (floor_shown p lim next) (tree_of p lim next) kept.core) (sym (again.1 ∙ same_log))
            (subst (λ (g : Table). KeepsBoth nodes p lim log (floor_of p g) (tree_of p lim next) kept.core) (sym part_tie)
            (record {
              well = kept.both.well;
              effects = kept.both.effects;
              paths = kept.both.paths;
              floor = subst (λ (l : List NumberedEntry). KeepsRule p lim l f_next) same_log keep.rule;
              nodes_keep = nodes_next;
            }));
        bare = kept.bare;
        deciders = subst (λ (l : List NumberedEntry). DecidersAreSo p lim s.words (tree_of p lim next) (state_after p lim (journal_of l)).links) (sym (again.1 ∙ same_log))
            (subst (λ (t : Tree). DecidersAreSo p lim s.words t (state_after p lim (journal_of log)).links) (sym tree_stays) kept.deciders);
      }

pub split_tree : (nodes : List (List Elem)) (p : Program) (lim : Bounds) (id : ℕ) (v : TreeView) → v.floor.kind ≡ Main → Splits (TreeKeeps nodes p lim) id v (left_tree_view v) (right_tree_view v)
split_tree nodes p lim id v main s kept at = split_step nodes p lim s kept id v at main
