-- Each entry of a row that is shown has one mark.
use Rattle.std.proofs.Common.{◌≡◌, ◌≢◌, ◌<◌, ◌+◌, ◌++◌, ℕ, zero, suc, Bool, true, false, List, [], ◌∷◌, Option, None, Some, refl, sym, ap, subst, ◌∙◌, arith}
use Rattle.std.specs.Prelude.{if◌then◌else◌, slice_get}
use Rattle.std.specs.List.{flat_map}
use Rattle.std.proofs.lemmas.Bool.{eq-eqb, ne_eqb}
use Rattle.std.proofs.lemmas.List.Concat.{flat_map-cons}
use Rattle.machine_state.specs.declared.state.TaskRow.{TaskRow}
use Rattle.twe_program.specs.Program.{Program}
use Rattle.span_profile.specs.Strands.{Strand}
use Rattle.twe_draw.specs.picture.Bars.{Shows}
use Rattle.twe_draw.specs.declared.picture.bars.EntryBar.{EntryBar}
use Rattle.twe_draw.specs.declared.scale.Axis.{Axis}
use Rattle.twe_draw.specs.Bars.{bar_placed, bar_shown}
use Rattle.twe_draw.specs.Marks.{is_row, marked, marks_of}
use Rattle.twe_draw.specs.Shown.{row_at}

-- an entry with another number
another : (r : Bool) (bar : EntryBar) (rest : List EntryBar) (number : ℕ) → bar.number ≢ number
    → marks_of number (if r then bar ∷ rest else rest) ≡ marks_of number rest
another true bar rest number differ =
    ap (λ (same : Bool). if same then suc (marks_of number rest) else marks_of number rest) (ne_eqb bar.number number differ)
another false bar rest number differ = refl

-- an entry with this number
this_one : (bar : EntryBar) (rest : List EntryBar) (number : ℕ) → bar.number ≡ number
    → marks_of number (bar ∷ rest) ≡ suc (marks_of number rest)
this_one bar rest number is =
    ap (λ (same : Bool). if same then suc (marks_of number rest) else marks_of number rest) (eq-eqb bar.number number is)

-- no entry with a number below the first
none_below : (rows : List (Option ℕ)) (first number : ℕ) (strands : List Strand) (bars : List EntryBar) → Shows first strands bars
    → number < first → marks_of number (marked rows bars) ≡ 0
none_below rows first number [] [] shows below = refl
none_below rows first number [] (bar ∷ bars) shows below = absurd shows
none_below rows first number (strand ∷ strands) [] shows below = absurd shows
none_below rows first number (strand ∷ strands) (bar ∷ bars) shows below =
    let is : bar.number ≡ first = shows.0.number_is in
    another (is_row (row_at rows bar.task)) bar (marked rows bars) number (λ same. omega arith)
    ∙ none_below rows (suc first) number strands bars shows.1 (omega arith)

-- the entry of this number has one
pub one_mark : (rows : List (Option ℕ)) (first number row : ℕ) (strands : List Strand) (bars : List EntryBar) (bar : EntryBar)
    → Shows first strands bars → slice_get bars number ≡ Some bar → row_at rows bar.task ≡ Some row
    → marks_of (first + number) (marked rows bars) ≡ 1
one_mark rows first number row strands [] bar shows there has = absurd (cc)
one_mark rows first number row [] (b ∷ bars) bar shows there has = absurd shows
one_mark rows first zero row (strand ∷ strands) (b ∷ bars) bar shows there has =
    let same : b ≡ bar = cc in
    let is : b.number ≡ first + zero = let named = shows.0.number_is in omega arith in
    let with_row : is_row (row_at rows b.task) ≡ true =
    ap (λ (m : EntryBar). is_row (row_at rows m.task)) same ∙ ap is_row has in
    ap (λ (r : Bool). marks_of (first + zero) (if r then b ∷ marked rows bars else marked rows bars)) with_row
    ∙ (this_one b (marked rows bars) (first + zero) is
    ∙ ap (λ (n : ℕ). suc n) (none_below rows (suc first) (first + zero) strands bars shows.1 (omega arith)))
one_mark rows first (suc number) row (strand ∷ strands) (b ∷ bars) bar shows there has =
    let is : b.number ≡ first = shows.0.number_is in
    let next : suc first + number ≡ first + suc number = omega arith in
    another (is_row (row_at rows b.task)) b (marked rows bars) (first + suc number) (λ same. omega arith)
    ∙ subst (λ (n : ℕ). marks_of n (marked rows bars) ≡ 1) next
    (one_mark rows (suc first) number row strands bars bar shows.1 there has)

-- an entry whose task has no row writes nothing
bare : (p : Program) (tasks : List TaskRow) (all : List EntryBar) (rows : List (Option ℕ)) (axis : Axis) (bar : EntryBar)
    (row : Option ℕ) (rest : List ℕ) (bars : List EntryBar)
    → rest ≡ flat_map (bar_shown p tasks all rows axis) bars → row_at rows bar.task ≡ row
    → bar_placed p tasks all axis bar row ++ rest
    ≡ flat_map (bar_shown p tasks all rows axis) (if is_row row then bar ∷ bars else bars)
bare p tasks all rows axis bar None rest bars is found = is
bare p tasks all rows axis bar (Some row) rest bars is found =
    (λ i. bar_placed p tasks all axis bar (sym found i) ++ is i) ∙ sym (flat_map-cons (bar_shown p tasks all rows axis) bar bars)

pub only_marked : (p : Program) (tasks : List TaskRow) (all : List EntryBar) (rows : List (Option ℕ)) (axis : Axis) (bars : List EntryBar)
    → flat_map (bar_shown p tasks all rows axis) bars ≡ flat_map (bar_shown p tasks all rows axis) (marked rows bars)
only_marked p tasks all rows axis [] = refl
only_marked p tasks all rows axis (bar ∷ bars) =
    flat_map-cons (bar_shown p tasks all rows axis) bar bars
    ∙ bare p tasks all rows axis bar (row_at rows bar.task) (flat_map (bar_shown p tasks all rows axis) bars) (marked rows bars)
    (only_marked p tasks all rows axis bars) refl
