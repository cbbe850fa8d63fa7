-- Joining two seats keeps the rule of the table with nodes.
use Rattle.std.proofs.Common.{◌≡◌, ◌≢◌, ◌⊎◌, ◌++◌, ℕ, List, [], ◌∷◌, None, refl, sym, ap, subst, ◌∙◌, inl, inr, ⊎_elim}
use Rattle.std.specs.Prelude.{slice_get, slice_set, Some}
use mathlib.Core.Option as core
use lib.ListN.{get_elem?}
use Rattle.atomic_table.specs.Table.{Joins}
use Rattle.atomic_table.proofs.Lists.{at_map}
use Rattle.region_paths.specs.declared.elements.Elem.{Elem}
use Rattle.twe_base.specs.Limits.{Bounds}
use Rattle.twe_program.specs.Program.{Program}
use Rattle.machine_state.specs.Runs.{state_after}
use Rattle.seg_journal.specs.declared.numbered.NumberedEntry.{NumberedEntry}
use Rattle.seg_journal.specs.Merging.{journal_of}
use Rattle.floor_laws.specs.rule.Floors.{Floor, put}
use Rattle.floor_laws.specs.rule.Rule.{KeepsRule}
use Rattle.floor_laws.specs.rule.Steps.{after_join, after_split}
use Rattle.floor_laws.specs.admission.admission_core.States as among
use Rattle.floor_laws.proofs.rule.Puts.{put_all}
use Rattle.floor_laws.specs.declared.table.view.SeatKind.TheVariants.{Main, Other}
use Rattle.floor_laws.specs.declared.table.view.View.{View}
use Rattle.floor_laws.specs.table.FloorOf.{Table, floor_of, part_at, turns_at, worker_at}
use Rattle.floor_laws.specs.table.Holds.{HasGivenAll, TableKeeps, spent_view}
use Rattle.floor_laws.proofs.table.Elements.{at_else}
use Rattle.floor_laws.proofs.table.Seats.{join_allowed}
use Rattle.floor_laws.proofs.table.Views.{seats_kept, seats_put}
use Rattle.floor_laws.specs.admission.admission_core.States.{Record}
use Rattle.floor_laws.specs.rule.nodes.Rule.{KeepsBoth, KeepsNodes}
use Rattle.floor_laws.specs.rule.nodes.Trees.{Tree, WaitFact}
use Rattle.floor_laws.specs.rule.nodes.TurnSteps.{after_joining}
use Rattle.floor_laws.proofs.rule.nodes.SeatSteps.{joins, splits}
use Rattle.floor_laws.proofs.rule.nodes.TurnEvents.{floor_same}
use Rattle.floor_laws.specs.declared.table.nodes.view.TreeView.{TreeView}
use Rattle.floor_laws.specs.table.nodes.Deciders.{DecidersAreSo}
use Rattle.floor_laws.specs.table.nodes.Holds.{HasLeftTree, TreeKeeps, joined_tree_view, spent_tree_view}
use Rattle.floor_laws.specs.table.nodes.TreeOf.{TreeTable, activity_at, clear_at, content_in, floor_part, floor_shown, floor_view, fresh_at, kept_at, placed_at, removed_at, tree_of, waits_at}
use Rattle.floor_laws.proofs.table.nodes.Elements.{elements_kept, elements_put, map_put}
use Rattle.floor_laws.proofs.table.nodes.OneLog.{one_log}
use Rattle.floor_laws.proofs.table.nodes.Ties.{same_floor, tree_is}

among_either : {X : Type 0} (x : X) (xs ys : List X) → among.IsAmong x (xs ++ ys) → among.IsAmong x xs ⊎ among.IsAmong x ys
among_either x [] ys has = inr has
among_either x (y ∷ xs) ys (inl same) = inl (inl same)
among_either x (y ∷ xs) ys (inr later) = ⊎_elim (λ left. inl (inr left)) (λ right. inr right) (among_either x xs ys later)

module _ (nodes : List (List Elem)) (p : Program) (lim : Bounds) (s : TreeTable) (kept : TreeKeeps nodes p lim s) (id other : ℕ) (v w : TreeView) (at : get_elem? s.views id ≡ core.some v) (differ : other ≢ id)
    (at_next : get_elem? (slice_set s.views id (joined_tree_view v w)) other ≡ core.some w) (main : v.floor.kind ≡ Main) (is_one : w.floor.kind ≡ Other) (given : HasGivenAll w.floor) (left : HasLeftTree w) where
  abbrev fs : Table
  fs = floor_part p lim s

  abbrev f : Floor
  f = floor_shown p lim s

  abbrev tree : Tree
  tree = tree_of p lim s

  abbrev log : List NumberedEntry
  log = kept.floor.log

  abbrev both : TreeView
  both = joined_tree_view v w

  abbrev one : List TreeView
  one = slice_set s.views id both

  abbrev next : TreeTable
  next = record { words = s.words; homes = s.homes; views = slice_set one other spent_tree_view }

  at_other : get_elem? s.views other ≡ core.some w
  at_other = sym (at_else s.views id other both differ) ∙ at_next

  abbrev floor_one : List View
  floor_one = slice_set fs.views id both.floor

  abbrev floor_next : Table
  floor_next = record { words = fs.words; homes = fs.homes; views = slice_set floor_one other spent_view }

  at_floor : get_elem? fs.views id ≡ core.some v.floor
  at_floor = at_map floor_view s.views id v at

  at_floor_other : get_elem? fs.views other ≡ core.some w.floor
  at_floor_other = at_map floor_view s.views other w at_other

  at_floor_next : get_elem? floor_one other ≡ core.some w.floor
  at_floor_next = at_else fs.views id other both.floor differ ∙ at_floor_other

  part_tie : floor_part p lim next ≡ floor_next
  part_tie =
      let views = map_put floor_view one other spent_tree_view ∙ ap (λ (l : List View). slice_set l other spent_view) (map_put floor_view s.views id both) in
      λ k. record { words = fs.words; homes = fs.homes; views = views k }

  keep : TableKeeps p lim floor_next
  keep = join_allowed p lim id other v.floor w.floor main is_one given fs kept.floor at_floor differ at_floor_next

  abbrev f_next : Floor
  f_next = floor_of p floor_next

  -- the log
  parts_put : f_next.parts ≡ put (put f.parts id (v.floor.part ++ w.floor.part)) other []
  parts_put =
      seats_put part_at floor_one other w.floor spent_view at_floor_next [] refl
      ∙ ap (λ (g : ℕ → List NumberedEntry). put g other []) (seats_put part_at fs.views id v.floor both.floor at_floor (v.floor.part ++ w.floor.part) refl)

  abbrev Stand : ℕ → List NumberedEntry → Type 0
  Stand j part = (e : NumberedEntry) → among.IsAmong e part → slice_get log e.number ≡ Some e

  stood : (j : ℕ) → Stand j (f.parts j)
  stood j = kept.floor.rule.parts.entries j

  both_stand : Stand id (v.floor.part ++ w.floor.part)
  both_stand e has =
      ⊎_elim (λ (mine : among.IsAmong e v.floor.part). stood id e (subst (among.IsAmong e) (sym (ap part_at at_floor)) mine))
      (λ (theirs : among.IsAmong e w.floor.part). stood other e (subst (among.IsAmong e) (sym (ap part_at at_floor_other)) theirs)) (among_either e v.floor.part w.floor.part has)

  all_stand : (j : ℕ) → Stand j (put (put f.parts id (v.floor.part ++ w.floor.part)) other [] j)
  all_stand = put_all Stand (put f.parts id (v.floor.part ++ w.floor.part)) other [] (λ e has. absurd has) (λ j apart. put_all Stand f.parts id (v.floor.part ++ w.floor.part) both_stand (λ i away. stood i) j)

  same_log : keep.log ≡ log
  same_log =
      one_log keep.log f_next.parts keep.rule.parts log (sym keep.rule.entries ∙ kept.floor.rule.entries)
      (λ j e has. all_stand j e (subst (λ (g : ℕ → List NumberedEntry). among.IsAmong e (g j)) parts_put has))

  -- the nodes
  none_kept : content_in w.kept ≡ (λ (n : ℕ). None)
  none_kept = λ k n. left.kept n k

  tree_tie : tree_of p lim next ≡ after_joining tree id other
  tree_tie =
      tree_is _ (after_joining tree id other) refl refl
      (elements_kept activity_at one other w spent_tree_view at_next (sym left.activity) ∙ elements_kept activity_at s.views id v both at refl)
      (elements_kept kept_at one other w spent_tree_view at_next (sym none_kept) ∙ elements_kept kept_at s.views id v both at refl)
      (elements_put placed_at one other w spent_tree_view at_next [] refl
      ∙ ap (λ (g : ℕ → List Record). put g other []) (elements_put placed_at s.views id v both at (tree.placed id ++ tree.placed other) (λ k. placed_at (sym at k) ++ placed_at (sym at_other k))))
      (elements_put removed_at one other w spent_tree_view at_next [] refl
      ∙ ap (λ (g : ℕ → List Record). put g other []) (elements_put removed_at s.views id v both at (tree.removed id ++ tree.removed other) (λ k. removed_at (sym at k) ++ removed_at (sym at_other k))))
      (elements_kept fresh_at one other w spent_tree_view at_next (sym left.fresh) ∙ elements_kept fresh_at s.views id v both at refl)
      (elements_kept clear_at one other w spent_tree_view at_next (sym left.clear) ∙ elements_kept clear_at s.views id v both at refl)
      (elements_put waits_at one other w spent_tree_view at_next [] refl
      ∙ ap (λ (g : ℕ → List WaitFact). put g other []) (elements_put waits_at s.views id v both at (tree.waits id ++ tree.waits other) (λ k. waits_at (sym at k) ++ waits_at (sym at_other k))))

  none_turns : turns_at (core.some spent_view) ≡ turns_at (core.some w.floor)
  none_turns = λ k t. sym (given.turns t) k

  held_stay : f_next.held ≡ f.held
  held_stay = seats_kept turns_at floor_one other w.floor spent_view at_floor_next none_turns ∙ seats_kept turns_at fs.views id v.floor both.floor at_floor refl

  workers_put : f_next.workers ≡ put f.workers other 0
  workers_put =
      seats_put worker_at floor_one other w.floor spent_view at_floor_next 0 refl ∙ ap (λ (g : ℕ → ℕ). put g other 0) (seats_kept worker_at fs.views id v.floor both.floor at_floor refl)

  nodes_next : KeepsNodes nodes p lim log f_next (tree_of p lim next) kept.core
  nodes_next =
      let met = joins nodes p lim log f tree kept.core kept.both.nodes_keep id other differ in
      let idle : tree.activities other ≡ None = ap activity_at at_other ∙ left.activity in
      let apart = splits nodes p lim log (after_join f id other) (after_joining tree id other) kept.core met other 0 idle in
      subst (λ (t : Tree). KeepsNodes nodes p lim log f_next t kept.core) (sym tree_tie)
      (floor_same nodes p lim log (after_split (after_join f id other) other 0) (after_joining tree id other) kept.core apart f_next held_stay workers_put)

  pub join_step : TreeKeeps nodes p lim (record { words = s.words; homes = s.homes; views = slice_set (slice_set s.views id (joined_tree_view v w)) other spent_tree_view })
  join_step =
      let again = same_floor p lim floor_next (floor_part p lim next) part_tie keep in
      record {
        words = kept.words;
        slots = kept.slots;
        floor = again.0;
        core = kept.core;
        both = subst (λ (l : List NumberedEntry). KeepsBoth nodes p lim l (floor_shown p lim next) (tree_of p lim next) kept.core) (sym (again.1 ∙ same_log))
            (subst (λ (g : Table). KeepsBoth nodes p lim log (floor_of p g) (tree_of p lim next) kept.core) (sym part_tie)
            (record {
              well = kept.both.well;
              effects = kept.both.effects;
              paths = kept.both.paths;
              floor = subst (λ (l : List NumberedEntry). KeepsRule p lim l f_next) same_log keep.rule;
              nodes_keep = nodes_next;
            }));
        bare = kept.bare;
        deciders = subst (λ (l : List NumberedEntry). DecidersAreSo p lim s.words (tree_of p lim next) (state_after p lim (journal_of l)).links) (sym (again.1 ∙ same_log))
            (subst (λ (t : Tree). DecidersAreSo p lim s.words t (state_after p lim (journal_of log)).links) (sym tree_tie) kept.deciders);
      }

pub join_tree : (nodes : List (List Elem)) (p : Program) (lim : Bounds) (id other : ℕ) (v w : TreeView) → v.floor.kind ≡ Main → w.floor.kind ≡ Other → HasGivenAll w.floor → HasLeftTree w
    → Joins (TreeKeeps nodes p lim) id v other w (joined_tree_view v w) spent_tree_view
join_tree nodes p lim id other v w main is_one given left s kept at differ at_next = join_step nodes p lim s kept id other v w at differ at_next main is_one given left
