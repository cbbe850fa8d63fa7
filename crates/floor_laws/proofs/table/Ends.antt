-- A table that is closed at a quiet point shows the state that its journal leads to, and the last seat's entries are the journal.
use Rattle.std.proofs.Common.{◌≡◌, ◌≢◌, ◌<◌, ℕ, ℤ, List, Option, None, Some, refl, sym, ap, subst, ◌∙◌, ⊎_elim, arith}
use Rattle.std.specs.Prelude.{◌^◌, slice_index}
use Rattle.std.proofs.lemmas.Bool.{cases_eq}
use mathlib.Core.Option as core
use lib.ListN.{get_elem?}
use Rattle.atomic_table.specs.Table.{Final, Seen}
use Rattle.twe_base.specs.Limits.{Bounds}
use Rattle.twe_program.specs.Program.{Program, cell_count}
use Rattle.machine_state.specs.Runs.{state_after}
use Rattle.seg_journal.specs.Merging.{journal_of}
use Rattle.floor_laws.specs.declared.rule.view.TaskSlot.{TaskSlot}
use Rattle.floor_laws.specs.rule.Floors.{Floor}
use Rattle.floor_laws.specs.rule.Rows.{slot_of}
use Rattle.floor_laws.specs.rule.Steps.{IsQuiet, ShowsState}
use Rattle.floor_laws.specs.rule.Touches.{cell_at}
use Rattle.floor_laws.proofs.rule.QuietLemmas.{shows}
use Rattle.floor_laws.specs.declared.table.view.SeatKind.TheVariants.{Main}
use Rattle.floor_laws.specs.declared.table.view.View.{View}
use Rattle.floor_laws.specs.table.FloorOf.{Table, floor_of, segment_at, turns_at}
use Rattle.floor_laws.specs.table.Holds.{Ended, HasGivenAll, IsWordOf, TableKeeps}
use Rattle.floor_laws.specs.table.Layout.{cell_place, number_at, value_of_word}
use Rattle.floor_laws.proofs.table.Alone.{merged, segment_of_others, turns_of_others}
use Rattle.floor_laws.proofs.table.Elements.{word_at}
use Rattle.floor_laws.proofs.table.Steps.{home_holds}
use Rattle.floor_laws.proofs.table.Words.{cells_at}

module _ (p : Program) (lim : Bounds) (s : Table) (kept : TableKeeps p lim s) (id : ℕ) (v : View) (at : get_elem? s.views id ≡ core.some v) (main : v.kind ≡ Main) (none : v.out ≡ 0) (given : HasGivenAll v) where
  abbrev f : Floor
  f = floor_of p s

  -- nobody has a turn, and no segment is open
  turns_by : (i t : ℕ) → turns_at (get_elem? s.views i) t ≡ None
  turns_by i t =
      ⊎_elim
      (λ (same : i ≡ id). ap (λ (o : core.Option View). turns_at o t) (ap (get_elem? s.views) same ∙ at) ∙ given.turns t)
      (λ (other : i ≢ id). turns_of_others p lim s kept id v at main none i (get_elem? s.views i) refl other t)
      (cases_eq i id)

  segment_by : (i : ℕ) → segment_at (get_elem? s.views i) ≡ None
  segment_by i =
      ⊎_elim
      (λ (same : i ≡ id). ap segment_at (ap (get_elem? s.views) same ∙ at) ∙ given.segment)
      (λ (other : i ≢ id). segment_of_others p lim s kept id v at main none i (get_elem? s.views i) refl other)
      (cases_eq i id)

  pub quiet : IsQuiet f
  quiet = record {
    no_turns = turns_by;
    closed = segment_by;
  }

  pub showing : ShowsState (state_after p lim (journal_of kept.log)) f
  showing = shows p (state_after p lim (journal_of kept.log)) f kept.rule.fits quiet

  -- the words and the slots afterwards
  module _ (words : List ℕ) (slots : List (Option TaskSlot)) (same : s.words ≡ words) (homes : (k : ℕ) (y : Option TaskSlot) → get_elem? s.homes k ≡ core.some (core.some y) → get_elem? slots k ≡ core.some y) where
    cell_shown : (c : ℕ) → c < cell_count p → IsWordOf words (cell_place c) (cell_at (state_after p lim (journal_of kept.log)).cells c)
    cell_shown c below =
        let counts = kept.words in
        let found = word_at s.words (cell_place c) (omega (arith, counts, below)) in
        record {
          word = slice_index s.words (cell_place c);
          there = ap (λ (l : List ℕ). get_elem? l (cell_place c)) (sym same) ∙ found;
          small = subst (λ (o : core.Option ℕ). number_at o < 2 ^ 32) found (kept.cells c below);
          means =
              sym (ap (λ (o : core.Option ℕ). value_of_word (number_at o)) found)
              ∙ (sym (cells_at s.words 8 (cell_count p) c (cell_place c) refl below) ∙ ap (λ (l : List ℤ). cell_at l c) showing.cells);
        }

    ended : Ended p lim v words slots
    ended = record {
      log = kept.log;
      legal = kept.rule.legal;
      merge = merged p lim s kept id v at main none;
      prints = kept.rule.prints;
      shows = record {
        cells = cell_shown;
        slots_are = λ t row there. homes t (Some (slot_of row)) (home_holds (get_elem? s.homes t) (slot_of row) (showing.slots t row there));
      };
    }

-- A closed table.
pub closed_ends : (p : Program) (lim : Bounds) (id : ℕ) (v : View) (words : List ℕ) (slots : List (Option TaskSlot)) → v.kind ≡ Main → v.out ≡ 0 → HasGivenAll v
    → Final (Seen (TableKeeps p lim) id v) words slots → Ended p lim v words slots
closed_ends p lim id v words slots main none given (s, seen, same, count, homes) = ended p lim s seen.0 id v seen.1 main none given words slots same homes
