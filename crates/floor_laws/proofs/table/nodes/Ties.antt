-- A table whose floor stays as it was keeps the rule, if the nodes that it shows keep theirs.
use Rattle.std.proofs.Common.{◌≡◌, ◌≢◌, ◌<◌, ℕ, List, [], length, Some, refl, sym, ap, subst, ◌∙◌, ⊎_elim, arith}
use Rattle.std.specs.Prelude.{◌^◌, slice_set}
use Rattle.std.proofs.lemmas.Bool.{cases_eq}
use mathlib.Core.Option as core
use mathlib.Core.Option.{some-injective}
use lib.ListN.{get_elem?}
use Rattle.region_paths.specs.declared.elements.Elem.{Elem}
use Rattle.twe_base.specs.Limits.{Bounds}
use Rattle.twe_program.specs.Program.{Program, cell_count}
use Rattle.machine_state.specs.Runs.{state_after}
use Rattle.seg_journal.specs.declared.numbered.NumberedEntry.{NumberedEntry}
use Rattle.seg_journal.specs.Merging.{journal_of}
use Rattle.floor_laws.specs.rule.Floors.{Floor}
use Rattle.floor_laws.specs.rule.Rule.{KeepsRule}
use Rattle.floor_laws.specs.table.FloorOf.{Table, floor_of}
use Rattle.floor_laws.specs.table.Holds.{SeatsFit, TableKeeps}
use Rattle.floor_laws.specs.table.Layout.{cell_place, number_at}
use Rattle.floor_laws.proofs.table.Elements.{at_else, at_within}
use Rattle.floor_laws.specs.admission.admission_core.States.{State}
use Rattle.floor_laws.specs.rule.nodes.Rule.{KeepsBoth, KeepsNodes}
use Rattle.floor_laws.specs.rule.nodes.Trees.{Tree}
use Rattle.floor_laws.proofs.rule.nodes.TurnEvents.{floor_same}
use Rattle.floor_laws.specs.declared.table.nodes.slot.TreeSlot.{TreeSlot}
use Rattle.floor_laws.specs.table.nodes.Deciders.{DecidersAreSo}
use Rattle.floor_laws.specs.table.nodes.Holds.{BareAreEmpty, TreeKeeps}
use Rattle.floor_laws.specs.table.nodes.Layout.{bare_lock, content_place, lock_place}
use Rattle.floor_laws.specs.table.nodes.TreeOf.{TreeTable, content_at, floor_part, floor_shown, tree_of}

-- two trees with the same parts are one
pub tree_is : (g h : Tree) → g.locks ≡ h.locks → g.contents ≡ h.contents → g.activities ≡ h.activities → g.kept ≡ h.kept → g.placed ≡ h.placed
    → g.removed ≡ h.removed → g.fresh ≡ h.fresh → g.clear ≡ h.clear → g.waits ≡ h.waits → g ≡ h
tree_is g h locks contents activities kept placed removed fresh clear waits = λ k. record {
  locks = locks k;
  contents = contents k;
  activities = activities k;
  kept = kept k;
  placed = placed k;
  removed = removed k;
  fresh = fresh k;
  clear = clear k;
  waits = waits k;
}

-- a table of the floor that is another one keeps the rule, with the same log
pub same_floor : (p : Program) (lim : Bounds) (a b : Table) → b ≡ a → (keep : TableKeeps p lim a) → (kept : TableKeeps p lim b) × (kept.log ≡ keep.log)
same_floor p lim a b same keep = (
  record {
    well = keep.well;
    keeps = keep.keeps;
    within = keep.within;
    words = ap (λ (t : Table). length t.words) same ∙ keep.words;
    slots = ap (λ (t : Table). length t.homes) same ∙ keep.slots;
    cells = subst (λ (t : Table). CellsFit t) (sym same) keep.cells;
    seats = subst (λ (t : Table). SeatsFit t.views) (sym same) keep.seats;
    log = keep.log;
    rule = subst (λ (t : Table). KeepsRule p lim keep.log (floor_of p t)) (sym same) keep.rule;
  },
  refl,
)
  where
    CellsFit : Table → Type 0
    CellsFit t = (c : ℕ) → c < cell_count p → number_at (get_elem? t.words (cell_place c)) < 2 ^ 32

-- The lock word of a node was set: it is not bare.
pub bare_word : (p : Program) (lim : Bounds) (words : List ℕ) (homes : List (core.Option TreeSlot)) (n x : ℕ) → lock_place p lim n < length words → BareAreEmpty p lim words homes → x ≢ bare_lock
    → BareAreEmpty p lim (slice_set words (lock_place p lim n) x) homes
bare_word p lim words homes n x within bare other m is =
    ⊎_elim
    (λ (same : m ≡ n).
    let found = subst (λ (k : ℕ). get_elem? (slice_set words (lock_place p lim n) x) (lock_place p lim k) ≡ core.some bare_lock) same is in
    absurd (other (some-injective x bare_lock (sym (at_within words (lock_place p lim n) x within) ∙ found))))
    (λ (apart : m ≢ n). bare m (sym (at_else words (lock_place p lim n) (lock_place p lim m) x (λ same. apart (omega (arith, same)))) ∙ is))
    (cases_eq m n)

-- The lock word of a node and its slot were set: if the word is bare, the content has no record.
pub bare_node : (p : Program) (lim : Bounds) (words : List ℕ) (homes : List (core.Option TreeSlot)) (n x : ℕ) (y : core.Option TreeSlot) → lock_place p lim n < length words
    → content_place lim n < length homes → BareAreEmpty p lim words homes → (x ≡ bare_lock → content_at (core.some y) ≡ Some [])
    → BareAreEmpty p lim (slice_set words (lock_place p lim n) x) (slice_set homes (content_place lim n) y)
bare_node p lim words homes n x y in_words in_homes bare own m is =
    ⊎_elim
    (λ (same : m ≡ n).
    let found = subst (λ (k : ℕ). get_elem? (slice_set words (lock_place p lim n) x) (lock_place p lim k) ≡ core.some bare_lock) same is in
    let empty = own (some-injective x bare_lock (sym (at_within words (lock_place p lim n) x in_words) ∙ found)) in
    subst (λ (k : ℕ). content_at (get_elem? (slice_set homes (content_place lim n) y) (content_place lim k)) ≡ Some []) (sym same)
    (ap content_at (at_within homes (content_place lim n) y in_homes) ∙ empty))
    (λ (apart : m ≢ n).
    ap content_at (at_else homes (content_place lim n) (content_place lim m) y (λ same. apart (omega (arith, same))))
    ∙ bare m (sym (at_else words (lock_place p lim n) (lock_place p lim m) x (λ same. apart (omega (arith, same)))) ∙ is))
    (cases_eq m n)

module _ (nodes : List (List Elem)) (p : Program) (lim : Bounds) (s : TreeTable) (kept : TreeKeeps nodes p lim s) where
  -- the table after a step that leaves the floor as it was
  pub keeps_after : (next : TreeTable) (tree : Tree) (core : State) → length next.words ≡ length s.words → length next.homes ≡ length s.homes
      → floor_part p lim next ≡ floor_part p lim s → tree_of p lim next ≡ tree
      → KeepsNodes nodes p lim kept.floor.log (floor_shown p lim s) tree core → BareAreEmpty p lim next.words next.homes
      → DecidersAreSo p lim next.words tree (state_after p lim (journal_of kept.floor.log)).links → TreeKeeps nodes p lim next
  keeps_after next tree core words slots floor shows nodes_keep bare deciders =
      let log = kept.floor.log in
      let again = same_floor p lim (floor_part p lim s) (floor_part p lim next) floor kept.floor in
      let f : floor_shown p lim next ≡ floor_shown p lim s = ap (floor_of p) floor in
      let moved : KeepsNodes nodes p lim log (floor_shown p lim next) tree core =
      floor_same nodes p lim log (floor_shown p lim s) tree core nodes_keep (floor_shown p lim next) (ap (λ (g : Floor). g.held) f) (ap (λ (g : Floor). g.workers) f) in
      record {
        words = words ∙ kept.words;
        slots = slots ∙ kept.slots;
        floor = again.0;
        core = core;
        both = subst (λ (l : List NumberedEntry). KeepsBoth nodes p lim l (floor_shown p lim next) (tree_of p lim next) core) (sym again.1)
            (record {
              well = kept.both.well;
              effects = kept.both.effects;
              paths = kept.both.paths;
              floor = subst (KeepsRule p lim log) (sym f) kept.both.floor;
              nodes_keep = subst (λ (t : Tree). KeepsNodes nodes p lim log (floor_shown p lim next) t core) (sym shows) moved;
            });
        bare = bare;
        deciders = subst (λ (l : List NumberedEntry). DecidersAreSo p lim next.words (tree_of p lim next) (state_after p lim (journal_of l)).links) (sym again.1)
            (subst (λ (t : Tree). DecidersAreSo p lim next.words t (state_after p lim (journal_of log)).links) (sym shows) deciders);
      }
