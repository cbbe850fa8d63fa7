-- A table that is closed at a quiet point shows the rest of the state too, and its last seat's entries are numbered.
use Rattle.std.proofs.Common.{◌≡◌, ◌<◌, ◌≤◌, ℕ, zero, suc, List, [], ◌∷◌, length, Option, None, Some, refl, sym, ap, subst, ◌∙◌, arith}
use Rattle.std.specs.Prelude.{count_by, Contains}
use Rattle.std.proofs.lemmas.Option.{slice_get_within}
use mathlib.Core.Option as core
use lib.ListN.{get_elem?}
use Rattle.atomic_table.specs.Table.{Final, Seen}
use Rattle.twe_base.specs.Limits.{Bounds}
use Rattle.twe_program.specs.Program.{Program, cell_count}
use Rattle.machine_state.specs.declared.state.State.{State}
use Rattle.machine_state.specs.Runs.{state_after}
use Rattle.seg_journal.specs.declared.numbered.NumberedEntry.{NumberedEntry}
use Rattle.seg_journal.specs.Merging.{AreNumbered, IsMergeOf, all_of, has_number, journal_of}
use Rattle.floor_laws.specs.declared.rule.view.TaskSlot.{TaskSlot}
use Rattle.floor_laws.specs.rule.Fitting.{HomeFits}
use Rattle.floor_laws.specs.rule.Floors.{Floor, Home, Away, Empty, Holds}
use Rattle.floor_laws.specs.rule.Steps.{IsQuiet, ShowsState}
use Rattle.floor_laws.proofs.rule.Puts.{none_some}
use Rattle.floor_laws.specs.declared.table.view.SeatKind.TheVariants.{Main}
use Rattle.floor_laws.specs.declared.table.view.View.{View}
use Rattle.floor_laws.specs.table.FloorOf.{Table, floor_of, home_at}
use Rattle.floor_laws.specs.table.Holds.{Ended, HasGivenAll, TableKeeps}
use Rattle.floor_laws.specs.table.Layout.{asked_of_clock, cell_words_from, clock_place, number_at, phase_place, phase_word_at}
use Rattle.floor_laws.specs.table.Shown.{EndedQuiet, ShowsRest}
use Rattle.floor_laws.proofs.table.Alone.{merged, numbered, one_merge}
use Rattle.floor_laws.proofs.table.Ends.{closed_ends, quiet, showing}

-- Entries that are shared out to parts in another way.
pub numbered_same : (parts others : List (List NumberedEntry)) → all_of parts ≡ all_of others → AreNumbered others → AreNumbered parts
numbered_same parts others same numbered =
    let count = ap length same in
    record {
      within = λ e has.
          let below = numbered.within e (subst (λ (l : List NumberedEntry). Contains l e) same has) in
          omega (arith, below, count);
      once = λ n below. ap (count_by (has_number n)) same ∙ numbered.once n (omega (arith, below, count));
    }

pub merge_same : (parts others : List (List NumberedEntry)) (log : List NumberedEntry) → all_of parts ≡ all_of others → IsMergeOf others log → IsMergeOf parts log
merge_same parts others log same merge = record {
  size = merge.size ∙ sym (ap length same);
  entries = λ e has. merge.entries e (subst (λ (l : List NumberedEntry). Contains l e) same has);
}

-- Slots.

at_some : {A : Type 0} (l : List A) (i : ℕ) → i < length l → (x : A) × (get_elem? l i ≡ core.some x)
at_some [] i below = absurd (omega (arith, below))
at_some (x ∷ l) zero below = (x, refl)
at_some (x ∷ l) (suc i) below = at_some l i (omega (arith, below))

empty_slot : (home : core.Option (Option TaskSlot)) → home_at (core.some home) ≡ Empty → home ≡ core.some None
empty_slot core.none is = absurd (cc (is))
empty_slot (core.some None) is = refl
empty_slot (core.some (Some slot)) is = absurd (cc (is))

module _ (p : Program) (lim : Bounds) (s : Table) (kept : TableKeeps p lim s) (id : ℕ) (v : View) (at : get_elem? s.views id ≡ core.some v) (main : v.kind ≡ Main) (none : v.out ≡ 0) (given : HasGivenAll v) where
  abbrev f : Floor
  f = floor_of p s

  abbrev st : State
  st = state_after p lim (journal_of kept.log)

  is_quiet : IsQuiet f
  is_quiet = quiet p lim s kept id v at main none given

  shown : ShowsState st f
  shown = showing p lim s kept id v at main none given

  -- before a task is made its slot is empty
  empty_by : (t : ℕ) → length st.tasks ≤ t → (home : Home) → HomeFits st f.held t home → home ≡ Empty
  empty_by t past Away by = absurd (none_some (sym (is_quiet.no_turns by.seat t) ∙ by.has))
  empty_by t past Empty fits = refl
  empty_by t past (Holds slot) here = let below = slice_get_within st.tasks t here.1.row here.1.there in absurd (omega (arith, below, past))

  empty_home : (t : ℕ) → length st.tasks ≤ t → t < lim.tasks → get_elem? s.homes t ≡ core.some (core.some None)
  empty_home t past below =
      let slots = kept.slots in
      let found = at_some s.homes t (omega (arith, slots, below)) in
      let empty : home_at (core.some found.0) ≡ Empty = sym (ap home_at found.1) ∙ empty_by t past (f.homes t) (kept.rule.fits.homes t) in
      found.1 ∙ ap core.some (empty_slot found.0 empty)

  module _ (words : List ℕ) (slots : List (Option TaskSlot)) (same : s.words ≡ words) (count : length s.homes ≡ length slots)
      (homes : (k : ℕ) (y : Option TaskSlot) → get_elem? s.homes k ≡ core.some (core.some y) → get_elem? slots k ≡ core.some y) where
    rest_shown : ShowsRest p lim st words slots
    rest_shown = record {
      word_count = sym (ap length same) ∙ kept.words;
      slot_count = sym count ∙ kept.slots;
      asked = sym (ap (λ (l : List ℕ). asked_of_clock (number_at (get_elem? l clock_place))) same) ∙ shown.asked;
      cells = sym (ap (λ (l : List ℕ). cell_words_from l 8 (cell_count p)) same) ∙ shown.cells;
      phases = λ t row there. sym (ap (λ (l : List ℕ). phase_word_at (get_elem? l (phase_place p t))) same) ∙ shown.phases t row there;
      unmade = λ t past below. homes t None (empty_home t past below);
    }

    quietly : Ended p lim v words slots → EndedQuiet p lim v words slots
    quietly ended =
        let one : kept.log ≡ ended.log = one_merge (v.part ∷ []) kept.log ended.log (numbered p lim s kept id v at main none) (merged p lim s kept id v at main none) ended.merge in
        record {
          well = kept.well;
          within = kept.within;
          ended = ended;
          numbered = numbered p lim s kept id v at main none;
          rest = subst (λ (l : List NumberedEntry). ShowsRest p lim (state_after p lim (journal_of l)) words slots) one rest_shown;
        }

-- A closed table.
pub closed_quiet : (p : Program) (lim : Bounds) (id : ℕ) (v : View) (words : List ℕ) (slots : List (Option TaskSlot)) → v.kind ≡ Main → v.out ≡ 0 → HasGivenAll v
    → Final (Seen (TableKeeps p lim) id v) words slots → EndedQuiet p lim v words slots
closed_quiet p lim id v words slots main none given (s, seen, same, count, homes) =
    quietly p lim s seen.0 id v seen.1 main none given words slots same count homes (closed_ends p lim id v words slots main none given (s, seen, same, count, homes))
