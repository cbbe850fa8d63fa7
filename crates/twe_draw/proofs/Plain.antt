-- The events of a trace have no number with a point, and nest little.
use Rattle.std.proofs.Common.{◌≡◌, ◌++◌, ◌≤◌, ℕ, max, false, List, [], ◌∷◌, map, refl, sym, subst, arith}
use Rattle.std.proofs.Math.Nat.{max-eq_left}
use Rattle.serde_json.specs.Data.{depth, items_depth}
use Rattle.serde_json.specs.Read.{max_depth}
use Rattle.serde_json.specs.View.{items_of}
use Rattle.serde_json.specs.Written.{items_have_float}
use Rattle.machine_state.specs.declared.state.TaskRow.{TaskRow}
use Rattle.twe_program.specs.Program.{Program}
use Rattle.twe_draw.specs.declared.picture.bars.EntryBar.{EntryBar}
use Rattle.twe_draw.specs.Trace.{bar_event, row_event, trace_data}

bars_are_plain : (p : Program) (tasks : List TaskRow) (bars : List EntryBar)
    → items_have_float (items_of (map (bar_event p tasks) bars)) ≡ false
bars_are_plain p tasks [] = refl
bars_are_plain p tasks (bar ∷ bars) = bars_are_plain p tasks bars

pub events_are_plain : (p : Program) (tasks rows : List TaskRow) (bars : List EntryBar)
    → items_have_float (items_of (map (row_event p) rows ++ map (bar_event p tasks) bars)) ≡ false
events_are_plain p tasks [] bars = bars_are_plain p tasks bars
events_are_plain p tasks (row ∷ rows) bars = events_are_plain p tasks rows bars

-- what nests no deeper than 2, with one value more that does
one_more : (n : ℕ) → n ≤ 2 → max 2 n ≤ 2
one_more n small = let two : 2 ≤ 2 = omega arith in subst (λ (m : ℕ). m ≤ 2) (sym (max-eq_left small)) two

bars_nest : (p : Program) (tasks : List TaskRow) (bars : List EntryBar) → items_depth (items_of (map (bar_event p tasks) bars)) ≤ 2
bars_nest p tasks [] = omega arith
bars_nest p tasks (bar ∷ bars) = one_more (items_depth (items_of (map (bar_event p tasks) bars))) (bars_nest p tasks bars)

events_nest : (p : Program) (tasks rows : List TaskRow) (bars : List EntryBar)
    → items_depth (items_of (map (row_event p) rows ++ map (bar_event p tasks) bars)) ≤ 2
events_nest p tasks [] bars = bars_nest p tasks bars
events_nest p tasks (row ∷ rows) bars =
    one_more (items_depth (items_of (map (row_event p) rows ++ map (bar_event p tasks) bars)))
    (events_nest p tasks rows bars)

pub events_are_shallow : (p : Program) (tasks : List TaskRow) (bars : List EntryBar) → depth (trace_data p bars tasks) ≤ max_depth
events_are_shallow p tasks bars = let small = events_nest p tasks tasks bars in omega (arith, small)
