-- A segment over hints is the draft of some cells, and the marks that it leaves can be taken away.
use Rattle.std.proofs.Common.{◌≡◌, ◌<◌, ℕ, zero, suc, ℤ, Bool, true, false, List, [], ◌∷◌, ◌++◌, length, map, replicate, Option, None, Some, refl, sym, ap, ◌∙◌, subst, inl, inr, length-set}
use Rattle.std.specs.List.{All}
use Rattle.std.specs.Prelude.{◌||◌, if◌then◌else◌, is_some, nat_eq, slice_get, slice_set}
use Rattle.std.proofs.lemmas.Bool.{false≢true, or_cases}
use Rattle.std.proofs.lemmas.Bool.Decides.{eqb_tells}
use Rattle.std.proofs.lemmas.List.{length-replicate}
use Rattle.twe_program.specs.Program.{Program, cell_count}
use Rattle.twe_program.specs.WellFormed.{IsWellFormed}
use Rattle.seg_meaning.specs.declared.frame.Frame.{Frame}
use Rattle.seg_meaning.specs.declared.stop.Stop.{Stop}
use Rattle.seg_meaning.specs.Access.{Access, Reads, Writes, Prints, Agrees, Follows, MayAll, after, value_in}
use Rattle.seg_meaning.specs.Plain.{list_ways}
use Rattle.seg_meaning.specs.Segment.{CarriesOut, MayCarryOut, Stopped, segment}
use Rattle.seg_meaning.proofs.Accesses.{may_carry_out}
use Rattle.machine_state.proofs.lists.Places.{below_there, set_other, set_same}
use Rattle.opt_engine.specs.declared.notes.CellMark.{CellMark}
use Rattle.opt_engine.specs.declared.notes.CellMark.TheVariants as marks
use Rattle.opt_engine.specs.declared.notes.CellNotes.{CellNotes}
use Rattle.opt_engine.specs.declared.touch.CellValue.{CellValue}
use Rattle.opt_engine.specs.declared.touching.Touching.{Touching}
use Rattle.opt_engine.specs.Drafts.{IsDraftedOf, StandsIn}
use Rattle.state_copies.specs.Frames.{unreserved}
use Rattle.opt_engine.specs.Touches.{first_reads, is_touched, last_write, last_writes, last_written, written_cells}
use Rattle.opt_engine.specs.inner.Hinting.{HintFollows, hint_knows, hint_ways, known_by, without_marks}
use Rattle.opt_engine.specs.inner.Noting.{fresh, no_notes, notes_after, read_noted, value_at, write_noted}
use Rattle.opt_engine.proofs.Drafting.{may_touch}
use Rattle.opt_engine.proofs.Marks.{is_mark, mark_of, notes_stand, touched_is}
use Rattle.opt_engine.proofs.Places.{Each, each_all, each_push, each_pushed, each_weaker, get_replicate, if_false, if_true, map_same, or_true, same_list}
use Rattle.opt_engine.proofs.Touched.{IsWrittenOf, after_get, both_same, has, has_written, last_or, length_after, reads_below, set_there, untouched_unwritten, values_are, writes_below, written_each}

-- What is known after accesses.

eq_flip : (a b : ℕ) → nat_eq a b ≡ nat_eq b a
eq_flip a b =
    elim (eqb_tells a b) [
      | inl same ↦ elim (eqb_tells b a) [ inl too ↦ same.0 ∙ sym too.0 | inr other ↦ absurd (other.1 (sym same.1)) ]
      | inr other ↦ elim (eqb_tells b a) [ inl same ↦ absurd (other.1 (sym same.1)) | inr too ↦ other.0 ∙ sym too.0 ]
    ]

-- the value that a cell is known to have
abbrev last_known : List Access → ℕ → Option ℤ
last_known [] k = None
last_known (Reads cell value ∷ earlier) k = if nat_eq cell k then Some value else last_known earlier k
last_known (Writes cell value ∷ earlier) k = if nat_eq cell k then Some value else last_known earlier k
last_known (Prints value ∷ earlier) k = last_known earlier k

-- each read of a cell whose value is known gives that value
abbrev Consistent : List Access → Type 0
Consistent [] = Unit {0}
Consistent (Reads cell value ∷ earlier) = Consistent earlier × ((known : ℤ) → last_known earlier cell ≡ Some known → value ≡ known)
Consistent (Writes cell value ∷ earlier) = Consistent earlier
Consistent (Prints value ∷ earlier) = Consistent earlier

-- what accesses make of cells that are learned from hints
record HasHinted (old : Touching) (accesses : List Access) (new : Touching) : Type 0 where
  consistent : Consistent accesses
  known : (k : ℕ) → hint_knows new k ≡ last_known accesses k
  may : MayAll list_ways old.cells accesses
  size : length new.cells ≡ length old.cells
  notes : new.missing ≡ None → (old.missing ≡ None) × (new.notes ≡ notes_after accesses old.notes)

hinted : (old : Touching) (accesses : List Access) (new : Touching) → ((k : ℕ) → hint_knows old k ≡ None) → Follows HintFollows old accesses new → HasHinted old accesses new
hinted old [] new none is = record {
  consistent = tt;
  known = λ k. ap (λ (t : Touching). hint_knows t k) is ∙ none k;
  may = tt;
  size = ap (λ (t : Touching). length t.cells) is;
  notes = λ whole. (sym (ap (λ (t : Touching). t.missing) is) ∙ whole, ap (λ (t : Touching). t.notes) is);
}
hinted old (Reads cell value ∷ earlier) new none is =
    let before = hinted old earlier is.0 none is.1 in
    record {
      consistent = (before.consistent, λ known same. is.2.1 known (before.known cell ∙ same));
      known = λ k. is.2.2 k ∙ (λ i. if eq_flip k cell i then Some value else before.known k i);
      may = (subst (λ (n : ℕ). cell < n) before.size is.2.0, before.may);
      size = is.2.3 ∙ before.size;
      notes = λ whole. let last = is.2.4 whole in let first = before.notes last.0 in (first.0, last.1 ∙ ap (λ (n : CellNotes). read_noted cell value n) first.1);
    }
hinted old (Writes cell value ∷ earlier) new none is =
    let before = hinted old earlier is.0 none is.1 in
    record {
      consistent = before.consistent;
      known = λ k. is.2.1 k ∙ (λ i. if eq_flip k cell i then Some value else before.known k i);
      may = (subst (λ (n : ℕ). cell < n) before.size is.2.0, before.may);
      size = is.2.2 ∙ before.size;
      notes = λ whole. let last = is.2.3 whole in let first = before.notes last.0 in (first.0, last.1 ∙ ap (λ (n : CellNotes). write_noted cell n) first.1);
    }
hinted old (Prints value ∷ earlier) new none is =
    let before = hinted old earlier new none is in
    record { consistent = before.consistent; known = before.known; may = before.may; size = before.size; notes = before.notes }

known_by_test : (b : Bool) (value : ℤ) (known : Option ℤ) → (b || is_some known) ≡ is_some (if b then Some value else known)
known_by_test true value known = refl
known_by_test false value known = refl

-- exactly the touched cells are known
touched_known_so : (accesses : List Access) (k : ℕ) → is_touched accesses k ≡ is_some (last_known accesses k)
touched_known_so [] k = refl
touched_known_so (Reads cell value ∷ earlier) k =
    ap (λ (b : Bool). nat_eq cell k || b) (touched_known_so earlier k) ∙ known_by_test (nat_eq cell k) value (last_known earlier k)
touched_known_so (Writes cell value ∷ earlier) k =
    ap (λ (b : Bool). nat_eq cell k || b) (touched_known_so earlier k) ∙ known_by_test (nat_eq cell k) value (last_known earlier k)
touched_known_so (Prints value ∷ earlier) k = touched_known_so earlier k

some_of : (known : Option ℤ) → is_some known ≡ true → (v : ℤ) × (known ≡ Some v)
some_of None is = absurd (false≢true is)
some_of (Some v) is = (v, refl)

touched_known : (accesses : List Access) (k : ℕ) → is_touched accesses k ≡ true → (v : ℤ) × (last_known accesses k ≡ Some v)
touched_known accesses k touched = some_of (last_known accesses k) (sym (touched_known_so accesses k) ∙ touched)

-- Cells that have the first values read agree with consistent accesses.

-- the cells agree with the accesses, and have what is known after them
abbrev AgreesSo : List ℤ → List Access → Type 0
AgreesSo cells accesses =
    Agrees cells accesses × ((k : ℕ) (v : ℤ) → k < length cells → last_known accesses k ≡ Some v → slice_get (after cells accesses) k ≡ Some v)

module _ (cells : List ℤ) where
  read_agrees_so : (cell : ℕ) (value : ℤ) (earlier : List Access) → AgreesSo cells earlier → slice_get (after cells earlier) cell ≡ Some value → AgreesSo cells (Reads cell value ∷ earlier)
  read_agrees_so cell value earlier before here = ((before.0, ap value_in here), same) where
    same : (k : ℕ) (v : ℤ) → k < length cells → (if nat_eq cell k then Some value else last_known earlier k) ≡ Some v → slice_get (after cells earlier) k ≡ Some v
    same k v lt known =
        elim (eqb_tells cell k) [
          | inl own ↦ (
              let at : slice_get (after cells earlier) k ≡ Some value = subst (λ (n : ℕ). slice_get (after cells earlier) n ≡ Some value) own.1 here in
              at ∙ (sym (if_true (nat_eq cell k) (Some value) (last_known earlier k) own.0) ∙ known)
              )
          | inr other ↦ before.1 k v lt (sym (if_false (nat_eq cell k) (Some value) (last_known earlier k) other.0) ∙ known)
        ]

  consistent_agrees : (accesses : List Access) → Consistent accesses → MayAll list_ways cells accesses → Each (StandsIn cells) (first_reads accesses) → AgreesSo cells accesses
  consistent_agrees [] consistent may stands = (tt, λ k v lt known. absurd (cc (known)))
  consistent_agrees (Reads cell value ∷ earlier) consistent may stands = by (consistent_agrees earlier consistent.0 may.1) (is_touched earlier cell) refl stands where
    by : (Each (StandsIn cells) (first_reads earlier) → AgreesSo cells earlier) → (b : Bool) → is_touched earlier cell ≡ b
        → Each (StandsIn cells) (if b then first_reads earlier else first_reads earlier ++ record { cell = cell; value = value } ∷ []) → AgreesSo cells (Reads cell value ∷ earlier)
    by so true touched each =
        let before = so each in
        let known = touched_known earlier cell touched in
        read_agrees_so cell value earlier before (before.1 cell known.0 may.0 known.1 ∙ ap (λ (v : ℤ). Some v) (sym (consistent.1 known.0 known.1)))
    by so false untouched each =
        let parts = each_pushed (StandsIn cells) (first_reads earlier) (record { cell = cell; value = value }) each in
        read_agrees_so cell value earlier (so parts.0)
        (after_get cells earlier cell may.0 ∙ (ap (λ (o : Option ℤ). last_or o (slice_get cells cell)) (untouched_unwritten earlier cell untouched) ∙ parts.1))
  consistent_agrees (Writes cell value ∷ earlier) consistent may stands =
      let before = consistent_agrees earlier consistent may.1 stands in (before.0, same before) where
        same : AgreesSo cells earlier → (k : ℕ) (v : ℤ) → k < length cells → (if nat_eq cell k then Some value else last_known earlier k) ≡ Some v
            → slice_get (slice_set (after cells earlier) cell value) k ≡ Some v
        same before k v lt known =
            let below : cell < length (after cells earlier) = subst (λ (n : ℕ). cell < n) (sym (length_after cells earlier)) may.0 in
            elim (eqb_tells cell k) [
              | inl own ↦ (
                  let at : slice_get (slice_set (after cells earlier) cell value) k ≡ Some value =
                  subst (λ (n : ℕ). slice_get (slice_set (after cells earlier) cell value) n ≡ Some value) own.1 (set_there (after cells earlier) cell value below) in
                  at ∙ (sym (if_true (nat_eq cell k) (Some value) (last_known earlier k) own.0) ∙ known)
                  )
              | inr other ↦ (
                  set_other (after cells earlier) cell k value (λ e. other.1 (sym e))
                  ∙ before.1 k v lt (sym (if_false (nat_eq cell k) (Some value) (last_known earlier k) other.0) ∙ known)
                  )
            ]
  consistent_agrees (Prints value ∷ earlier) consistent may stands = consistent_agrees earlier consistent may stands

-- Such cells.

-- the cells of a list, but with the first values that were read
abbrev hint_cells : List ℤ → List Access → List ℤ
hint_cells base [] = base
hint_cells base (Reads cell value ∷ earlier) = if is_touched earlier cell then hint_cells base earlier else slice_set (hint_cells base earlier) cell value
hint_cells base (Writes cell value ∷ earlier) = hint_cells base earlier
hint_cells base (Prints value ∷ earlier) = hint_cells base earlier

hint_long : (base : List ℤ) (accesses : List Access) → length (hint_cells base accesses) ≡ length base
hint_long base [] = refl
hint_long base (Reads cell value ∷ earlier) = by (hint_long base earlier) (is_touched earlier cell) where
  by : length (hint_cells base earlier) ≡ length base → (b : Bool) → length (if b then hint_cells base earlier else slice_set (hint_cells base earlier) cell value) ≡ length base
  by long true = long
  by long false = length-set (hint_cells base earlier) cell value ∙ long
hint_long base (Writes cell value ∷ earlier) = hint_long base earlier
hint_long base (Prints value ∷ earlier) = hint_long base earlier

may_long : (cells other : List ℤ) (accesses : List Access) → length cells ≡ length other → MayAll list_ways cells accesses → MayAll list_ways other accesses
may_long cells other [] long may = tt
may_long cells other (Reads cell value ∷ earlier) long may = (subst (λ (n : ℕ). cell < n) long may.0, may_long cells other earlier long may.1)
may_long cells other (Writes cell value ∷ earlier) long may = (subst (λ (n : ℕ). cell < n) long may.0, may_long cells other earlier long may.1)
may_long cells other (Prints value ∷ earlier) long may = may_long cells other earlier long may

-- the cell was touched, and has the value that was read
abbrev IsHinted : List ℤ → List Access → CellValue → Type 0
IsHinted base accesses read = (is_touched accesses read.cell ≡ true) × StandsIn (hint_cells base accesses) read

touched_still : (b touched : Bool) → touched ≡ true → (b || touched) ≡ true
touched_still b touched is = ap (λ (t : Bool). b || t) is ∙ or_true b

touched_own : (cell : ℕ) (touched : Bool) → (nat_eq cell cell || touched) ≡ true
touched_own cell touched = elim (eqb_tells cell cell) [ inl same ↦ ap (λ (b : Bool). b || touched) same.0 | inr other ↦ absurd (other.1 refl) ]

-- the same after a read of a cell, which was touched before or not
abbrev IsHintedBy : List ℤ → List Access → ℕ → ℤ → Bool → CellValue → Type 0
IsHintedBy base earlier cell value b read =
    ((nat_eq cell read.cell || is_touched earlier read.cell) ≡ true) × StandsIn (if b then hint_cells base earlier else slice_set (hint_cells base earlier) cell value) read

hint_each : (base : List ℤ) (accesses : List Access) → MayAll list_ways base accesses → Each (IsHinted base accesses) (first_reads accesses)
hint_each base [] may = tt
hint_each base (Reads cell value ∷ earlier) may = by (hint_each base earlier may.1) (is_touched earlier cell) refl where
  by : Each (IsHinted base earlier) (first_reads earlier) → (b : Bool) → is_touched earlier cell ≡ b
      → Each (IsHintedBy base earlier cell value b) (if b then first_reads earlier else first_reads earlier ++ record { cell = cell; value = value } ∷ [])
  by before true touched =
      each_weaker (IsHinted base earlier) (IsHintedBy base earlier cell value true) (first_reads earlier) (λ read is. (touched_still (nat_eq cell read.cell) (is_touched earlier read.cell) is.0, is.1)) before
  by before false untouched =
      let below : cell < length (hint_cells base earlier) = subst (λ (n : ℕ). cell < n) (sym (hint_long base earlier)) may.0 in
      each_push (IsHintedBy base earlier cell value false) (first_reads earlier) (record { cell = cell; value = value })
      (each_weaker (IsHinted base earlier) (IsHintedBy base earlier cell value false) (first_reads earlier)
      (λ read is. (
        touched_still (nat_eq cell read.cell) (is_touched earlier read.cell) is.0,
        set_other (hint_cells base earlier) cell read.cell value (λ e. false≢true (sym untouched ∙ subst (λ (n : ℕ). is_touched earlier n ≡ true) e is.0)) ∙ is.1,
      )) before)
      (touched_own cell (is_touched earlier cell), set_there (hint_cells base earlier) cell value below)
hint_each base (Writes cell value ∷ earlier) may =
    each_weaker (IsHinted base earlier) (IsHinted base (Writes cell value ∷ earlier)) (first_reads earlier)
    (λ read is. (touched_still (nat_eq cell read.cell) (is_touched earlier read.cell) is.0, is.1)) (hint_each base earlier may.1)
hint_each base (Prints value ∷ earlier) may = hint_each base earlier may

-- Taking marks away.

-- the cell is among these
abbrev has_cell : List CellValue → ℕ → Bool
has_cell [] k = false
has_cell (at ∷ others) k = nat_eq at.cell k || has_cell others k

or_again : (a b c : Bool) → (a || (b || c)) ≡ ((a || b) || c)
or_again true b c = refl
or_again false b c = refl

has_cell_push : (xs : List CellValue) (at : CellValue) (k : ℕ) → has_cell (xs ++ at ∷ []) k ≡ (has_cell xs k || nat_eq at.cell k)
has_cell_push [] at k = by (nat_eq at.cell k) where
  by : (b : Bool) → (b || false) ≡ b
  by true = refl
  by false = refl
has_cell_push (x ∷ xs) at k = ap (λ (b : Bool). nat_eq x.cell k || b) (has_cell_push xs at k) ∙ or_again (nat_eq x.cell k) (has_cell xs k) (nat_eq at.cell k)

has_cell_map : (accesses : List Access) (cells : List ℕ) (k : ℕ) → has_cell (map (last_write accesses) cells) k ≡ has cells k
has_cell_map accesses [] k = refl
has_cell_map accesses (cell ∷ cells) k = ap (λ (b : Bool). nat_eq cell k || b) (has_cell_map accesses cells k)

without_long : (kept : List CellMark) (cells : List CellValue) → length (without_marks kept cells) ≡ length kept
without_long kept [] = refl
without_long kept (at ∷ others) = without_long (slice_set kept at.cell marks.Untouched) others ∙ length-set kept at.cell marks.Untouched

without_get : (kept : List CellMark) (cells : List CellValue) (k : ℕ) → k < length kept
    → slice_get (without_marks kept cells) k ≡ (if has_cell cells k then Some marks.Untouched else slice_get kept k)
without_get kept [] k lt = refl
without_get kept (at ∷ others) k lt =
    let now = slice_set kept at.cell marks.Untouched in
    let later = without_get now others k (subst (λ (n : ℕ). k < n) (sym (length-set kept at.cell marks.Untouched)) lt) in
    elim (eqb_tells at.cell k) [
      | inl same ↦ (
          let was = below_there kept k lt in
          let own : slice_get now k ≡ Some marks.Untouched =
          subst (λ (n : ℕ). slice_get (slice_set kept n marks.Untouched) k ≡ Some marks.Untouched) (sym same.1) (set_same kept k was.0 marks.Untouched was.1) in
          later ∙ (both_same (has_cell others k) (Some marks.Untouched) (slice_get now k) own
          ∙ sym (if_true (nat_eq at.cell k || has_cell others k) (Some marks.Untouched) (slice_get kept k) (ap (λ (b : Bool). b || has_cell others k) same.0)))
          )
      | inr other ↦ (
          later ∙ (ap (λ (o : Option CellMark). if has_cell others k then Some marks.Untouched else o) (set_other kept at.cell k marks.Untouched (λ e. other.1 (sym e)))
          ∙ sym (ap (λ (b : Bool). if (b || has_cell others k) then Some marks.Untouched else slice_get kept k) other.0))
          )
    ]

or_own : (a b c : Bool) → b ≡ true → ((a || b) || c) ≡ true
or_own a b c is = ap (λ (t : Bool). (a || t) || c) is ∙ ap (λ (t : Bool). t || c) (or_true a)

or_older : (a b c : Bool) → (a || c) ≡ true → ((a || b) || c) ≡ true
or_older true b c is = refl
or_older false b c is = ap (λ (t : Bool). b || t) is ∙ or_true b

or_written : (a b : Bool) (value : ℤ) (written : Option ℤ) → (a || is_some written) ≡ true → (a || is_some (if b then Some value else written)) ≡ true
or_written a true value written is = or_true a
or_written a false value written is = is

or_own_write : (a b : Bool) (value : ℤ) (written : Option ℤ) → b ≡ true → (a || is_some (if b then Some value else written)) ≡ true
or_own_write a b value written is = ap (λ (t : Bool). a || is_some (if t then Some value else written)) is ∙ or_true a

-- each touched cell was read first or written
touched_listed : (accesses : List Access) (k : ℕ) → is_touched accesses k ≡ true → (has_cell (first_reads accesses) k || is_some (last_written accesses k)) ≡ true
touched_listed [] k touched = absurd (false≢true touched)
touched_listed (Reads cell value ∷ earlier) k touched = by (touched_listed earlier k) (is_touched earlier cell) refl where
  by : (is_touched earlier k ≡ true → (has_cell (first_reads earlier) k || is_some (last_written earlier k)) ≡ true) → (b : Bool) → is_touched earlier cell ≡ b
      → (has_cell (if b then first_reads earlier else first_reads earlier ++ record { cell = cell; value = value } ∷ []) k || is_some (last_written earlier k)) ≡ true
  by listed true before =
      elim (or_cases (nat_eq cell k) (is_touched earlier k) touched) [
        | inl own ↦ listed (elim (eqb_tells cell k) [ inl same ↦ subst (λ (n : ℕ). is_touched earlier n ≡ true) same.1 before | inr other ↦ absurd (false≢true (sym other.0 ∙ own)) ])
        | inr older ↦ listed older
      ]
  by listed false before =
      ap (λ (b : Bool). b || is_some (last_written earlier k)) (has_cell_push (first_reads earlier) (record { cell = cell; value = value }) k)
      ∙ elim (or_cases (nat_eq cell k) (is_touched earlier k) touched) [
        | inl own ↦ or_own (has_cell (first_reads earlier) k) (nat_eq cell k) (is_some (last_written earlier k)) own
        | inr older ↦ or_older (has_cell (first_reads earlier) k) (nat_eq cell k) (is_some (last_written earlier k)) (listed older)
      ]
touched_listed (Writes cell value ∷ earlier) k touched =
    elim (or_cases (nat_eq cell k) (is_touched earlier k) touched) [
      | inl own ↦ or_own_write (has_cell (first_reads earlier) k) (nat_eq cell k) value (last_written earlier k) own
      | inr older ↦ or_written (has_cell (first_reads earlier) k) (nat_eq cell k) value (last_written earlier k) (touched_listed earlier k older)
    ]
touched_listed (Prints value ∷ earlier) k touched = touched_listed earlier k touched

-- a cell that was touched is among those whose marks are taken away, and any other has no mark
unmarked_at : (read written touched : Bool) (mark : CellMark) → (touched ≡ true → (read || written) ≡ true) → touched ≡ is_mark mark
    → (if written then Some marks.Untouched else (if read then Some marks.Untouched else Some mark)) ≡ Some marks.Untouched
unmarked_at read true touched mark listed is = refl
unmarked_at true false touched mark listed is = refl
unmarked_at false false touched marks.Untouched listed is = refl
unmarked_at false false touched marks.Read listed is = absurd (false≢true (listed is))
unmarked_at false false touched marks.Written listed is = absurd (false≢true (listed is))

-- no mark is left once those of the reads and of the writes are taken away
unmarked : (cells : List ℤ) (accesses : List Access) → MayAll list_ways cells accesses
    → without_marks (without_marks (notes_after accesses (no_notes (length cells))).marks (first_reads accesses)) (last_writes accesses) ≡ replicate (length cells) marks.Untouched
unmarked cells accesses may =
    let n = length cells in
    let kept : List CellMark = (notes_after accesses (no_notes n)).marks in
    let stands = notes_stand cells accesses may in
    let read = without_marks kept (first_reads accesses) in
    let read_long : length read ≡ n = without_long kept (first_reads accesses) ∙ stands.size in
    let long : length (without_marks read (last_writes accesses)) ≡ n = without_long read (last_writes accesses) ∙ read_long in
    same_list (without_marks read (last_writes accesses)) (replicate n marks.Untouched) (long ∙ sym (length-replicate n marks.Untouched))
    (λ k lt.
    let below : k < n = subst (λ (m : ℕ). k < m) long lt in
    let written : has_cell (last_writes accesses) k ≡ is_some (last_written accesses k) = has_cell_map accesses (written_cells accesses) k ∙ has_written accesses k in
    let listed : is_touched accesses k ≡ true → (has_cell (first_reads accesses) k || has_cell (last_writes accesses) k) ≡ true =
    λ touched. ap (λ (b : Bool). has_cell (first_reads accesses) k || b) written ∙ touched_listed accesses k touched in
    without_get read (last_writes accesses) k (subst (λ (m : ℕ). k < m) (sym read_long) below)
    ∙ (ap (λ (o : Option CellMark). if has_cell (last_writes accesses) k then Some marks.Untouched else o)
    (without_get kept (first_reads accesses) k (subst (λ (m : ℕ). k < m) (sym stands.size) below)
    ∙ ap (λ (o : Option CellMark). if has_cell (first_reads accesses) k then Some marks.Untouched else o) (stands.marked k below))
    ∙ (unmarked_at (has_cell (first_reads accesses) k) (has_cell (last_writes accesses) k) (is_touched accesses k) (mark_of accesses k) listed (touched_is accesses k)
    ∙ sym (get_replicate n k marks.Untouched below))))

-- A run over hints.

no_mark : (n k : ℕ) (value : Option ℤ) → known_by (slice_get (replicate n marks.Untouched) k) value ≡ None
no_mark zero k value = refl
no_mark (suc n) zero value = refl
no_mark (suc n) (suc k) value = no_mark n k value

cell_known : (mark : Option CellMark) (value : Option ℤ) (v : ℤ) → known_by mark value ≡ Some v → value ≡ Some v
cell_known None value v is = absurd (cc (is))
cell_known (Some marks.Untouched) value v is = absurd (cc (is))
cell_known (Some marks.Read) value v is = is
cell_known (Some marks.Written) value v is = is

written_touched : (accesses : List Access) (k : ℕ) → is_some (last_written accesses k) ≡ true → (b : Bool) → is_touched accesses k ≡ b → b ≡ true
written_touched accesses k written true is = refl
written_touched accesses k written false is = absurd (false≢true (sym (ap (λ (o : Option ℤ). is_some o) (untouched_unwritten accesses k is)) ∙ written))

-- a segment of the program may be run over hints
pub may_hint : (p : Program) (t : Touching) → IsWellFormed p → t ≡ fresh t.cells → length t.cells ≡ cell_count p → (frame : Frame) → MayCarryOut p hint_ways frame t
may_hint p t well begun count frame = λ cells.
    let marked : length t.notes.marks ≡ length t.cells = ap (λ (x : Touching). length x.notes.marks) begun ∙ length-replicate (length t.cells) marks.Untouched in
    may_touch hint_knows HintFollows t (segment p frame cells).accesses marked (may_carry_out p well t.cells count frame cells)

module _ (p : Program) (task : ℕ) (frame new_frame : Frame) (old new : Touching) (stop : Stop) (well : IsWellFormed p) (plain : frame ≡ unreserved frame)
    (begun : old ≡ fresh old.cells) (count : length old.cells ≡ cell_count p) (carried : CarriesOut p HintFollows frame old stop new_frame new) (whole : new.missing ≡ None) where
  run : HasHinted old carried.accesses new
  run = hinted old carried.accesses new (λ k. ap (λ (t : Touching). hint_knows t k) begun ∙ no_mark (length old.cells) k (slice_get old.cells k)) carried.follows

  -- the cells of which it is the draft
  abbrev cells : List ℤ
  cells = hint_cells old.cells carried.accesses

  long : length cells ≡ length old.cells
  long = hint_long old.cells carried.accesses

  may : MayAll list_ways cells carried.accesses
  may = may_long old.cells cells carried.accesses (sym long) run.may

  so : AgreesSo cells carried.accesses
  so =
      consistent_agrees cells carried.accesses run.consistent may
      (each_weaker (IsHinted old.cells carried.accesses) (StandsIn cells) (first_reads carried.accesses) (λ read is. is.1) (hint_each old.cells carried.accesses run.may))

  means : segment p frame cells ≡ record { frame = new_frame; cells = after cells carried.accesses; accesses = carried.accesses; stop = stop }
  means = carried.means cells so.0

  made : carried.accesses ≡ (segment p frame cells).accesses
  made = sym (ap (λ (r : Stopped). r.accesses) means)

  noted : new.notes ≡ notes_after carried.accesses (no_notes (length cells))
  noted = (run.notes whole).1 ∙ ap (λ (n : CellNotes). notes_after carried.accesses n) (ap (λ (t : Touching). t.notes) begun ∙ ap no_notes (sym long))

  reads : new.notes.reads ≡ first_reads carried.accesses
  reads = ap (λ (n : CellNotes). n.reads) noted ∙ (notes_stand cells carried.accesses may).reads

  same_value : (k : ℕ) → IsWrittenOf (length cells) carried.accesses k → value_at new.cells k ≡ value_at (after cells carried.accesses) k
  same_value k is =
      let known = touched_known carried.accesses k (written_touched carried.accesses k is.0 (is_touched carried.accesses k) refl) in
      let left : slice_get new.cells k ≡ Some known.0 = cell_known (slice_get new.notes.marks k) (slice_get new.cells k) known.0 (run.known k ∙ known.1) in
      ap (λ (o : Option ℤ). record { cell = k; value = value_in o }) (left ∙ sym (so.1 k known.0 is.1 known.1))

  writes : map (value_at new.cells) new.notes.written ≡ last_writes carried.accesses
  writes =
      ap (map (value_at new.cells)) (ap (λ (n : CellNotes). n.written) noted ∙ (notes_stand cells carried.accesses may).written)
      ∙ (map_same (value_at new.cells) (value_at (after cells carried.accesses)) (written_cells carried.accesses)
      (each_weaker (IsWrittenOf (length cells) carried.accesses) (λ (k : ℕ). value_at new.cells k ≡ value_at (after cells carried.accesses) k) (written_cells carried.accesses) same_value
      (written_each cells carried.accesses may))
      ∙ values_are cells carried.accesses may)

  -- it is a draft
  pub is_drafted : IsDraftedOf p (record { task = task; before = frame; after = new_frame; reads = new.notes.reads; writes = map (value_at new.cells) new.notes.written; stop = stop })
  is_drafted = record {
    draft = record { task = task; frame = frame; cells = cells };
    is_draft = record { cells = long ∙ count; plain = plain };
    gave = λ i. record {
      task = task;
      before = frame;
      after = sym (ap (λ (r : Stopped). r.frame) means) i;
      reads = (reads ∙ ap first_reads made) i;
      writes = (writes ∙ ap last_writes made) i;
      stop = sym (ap (λ (r : Stopped). r.stop) means) i;
    };
  }

  -- its marks can be taken away
  pub leaves_none : without_marks (without_marks new.notes.marks new.notes.reads) (map (value_at new.cells) new.notes.written) ≡ replicate (length new.cells) marks.Untouched
  leaves_none =
      (λ i. without_marks (without_marks (ap (λ (n : CellNotes). n.marks) noted i) (reads i)) (writes i))
      ∙ (unmarked cells carried.accesses may ∙ ap (λ (n : ℕ). replicate n marks.Untouched) (long ∙ sym run.size))

  marks_long : length new.notes.marks ≡ length cells
  marks_long = ap (λ (n : CellNotes). length n.marks) noted ∙ (notes_stand cells carried.accesses may).size

  pub reads_marked : All (λ (r : CellValue). r.cell < length new.notes.marks) new.notes.reads
  reads_marked =
      each_all (λ (r : CellValue). r.cell < length new.notes.marks) new.notes.reads
      (subst (Each (λ (r : CellValue). r.cell < length new.notes.marks)) (sym reads)
      (each_weaker (λ (r : CellValue). r.cell < length cells) (λ (r : CellValue). r.cell < length new.notes.marks) (first_reads carried.accesses)
      (λ r lt. subst (λ (n : ℕ). r.cell < n) (sym marks_long) lt) (reads_below cells carried.accesses may)))

  pub writes_marked : All (λ (w : CellValue). w.cell < length new.notes.marks) (map (value_at new.cells) new.notes.written)
  writes_marked =
      each_all (λ (w : CellValue). w.cell < length new.notes.marks) (map (value_at new.cells) new.notes.written)
      (subst (Each (λ (w : CellValue). w.cell < length new.notes.marks)) (sym writes)
      (each_weaker (λ (w : CellValue). w.cell < length cells) (λ (w : CellValue). w.cell < length new.notes.marks) (last_writes carried.accesses)
      (λ w lt. subst (λ (n : ℕ). w.cell < n) (sym marks_long) lt) (writes_below cells carried.accesses may)))

  pub same_size : length new.cells ≡ length old.cells
  same_size = run.size

-- What a run over hints leaves: a draft, marks that can be taken away, and as many cells as before.
pub record IsLeft (p : Program) (task : ℕ) (frame new_frame : Frame) (stop : Stop) (size : ℕ) (new : Touching) : Type 0 where
  pub drafted : IsDraftedOf p (record { task = task; before = frame; after = new_frame; reads = new.notes.reads; writes = map (value_at new.cells) new.notes.written; stop = stop })
  pub none : without_marks (without_marks new.notes.marks new.notes.reads) (map (value_at new.cells) new.notes.written) ≡ replicate (length new.cells) marks.Untouched
  pub reads : All (λ (r : CellValue). r.cell < length new.notes.marks) new.notes.reads
  pub writes : All (λ (w : CellValue). w.cell < length new.notes.marks) (map (value_at new.cells) new.notes.written)
  pub size_is : length new.cells ≡ size

-- the run of a copy of the frame, whose cells are handed in and taken back
pub left_so : (p : Program) (task : ℕ) (frame copy new_frame : Frame) (old given new handed : Touching) (stop : Stop) (size : ℕ) → IsWellFormed p → frame ≡ unreserved frame → copy ≡ unreserved frame
    → old ≡ fresh old.cells → length old.cells ≡ size → size ≡ cell_count p → given ≡ old → CarriesOut p HintFollows copy given stop new_frame handed → new ≡ handed → new.missing ≡ None
    → IsLeft p task frame new_frame stop size new
left_so p task frame copy new_frame old given new handed stop size well plain copied begun sized count given_is carried handed_is whole =
    let ran : CarriesOut p HintFollows frame old stop new_frame new =
    subst (λ (x : Touching). CarriesOut p HintFollows frame old stop new_frame x) (sym handed_is)
    (subst (λ (x : Touching). CarriesOut p HintFollows frame x stop new_frame handed) given_is
    (subst (λ (f : Frame). CarriesOut p HintFollows f given stop new_frame handed) (copied ∙ sym plain) carried)) in
    record {
      drafted = is_drafted p task frame new_frame old new stop well plain begun (sized ∙ count) ran whole;
      none = leaves_none p task frame new_frame old new stop well plain begun (sized ∙ count) ran whole;
      reads = reads_marked p task frame new_frame old new stop well plain begun (sized ∙ count) ran whole;
      writes = writes_marked p task frame new_frame old new stop well plain begun (sized ∙ count) ran whole;
      size_is = same_size p task frame new_frame old new stop well plain begun (sized ∙ count) ran whole ∙ sized;
    }
