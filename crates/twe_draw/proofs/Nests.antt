-- The tags of what stands in a picture nest: rows, holds, bars, arrows and the heaviest chain.
use Rattle.std.proofs.Common.{◌≡◌, ◌++◌, ℕ, Bool, true, false, List, [], ◌∷◌, Option, None, Some, refl, sym, subst}
use Rattle.std.specs.Prelude.{◌==◌, ◌&&◌, codes, if◌then◌else◌, nat_lt, option_and_then, slice_get}
use Rattle.std.specs.List.{flat_map, list_all}
use Rattle.std.proofs.lemmas.List.Concat.{flat_map-cons}
use Rattle.seg_journal.specs.declared.journal.End.{End}
use Rattle.seg_journal.specs.declared.journal.End.TheVariants as ends
use Rattle.seg_journal.specs.declared.moves.Kind.{Kind}
use Rattle.seg_journal.specs.declared.moves.Kind.TheVariants.{Admit, Run}
use Rattle.twe_program.specs.Program.{Program}
use Rattle.machine_state.specs.declared.state.TaskRow.{TaskRow}
use Rattle.run_texts.specs.TaskLabels.{task_call}
use Rattle.held_span.specs.declared.hold.Hold.{Hold}
use Rattle.twe_draw.specs.declared.picture.bars.EntryBar.{EntryBar}
use Rattle.twe_draw.specs.picture.Markup.{IsMarkup, IsText, is_value_byte}
use Rattle.twe_draw.specs.picture.Shapes.{row_line, titled_box, upright, words_at}
use Rattle.twe_draw.proofs.picture.Nest.{plain_box_nests, row_line_nests, titled_box_nests, upright_nests, words_nest}
use Rattle.twe_draw.specs.declared.scale.Axis.{Axis}
use Rattle.twe_draw.specs.Scale.{bar_begin, bar_end, held_begin, row_bottom, row_top, time_column, time_width}
use Rattle.twe_draw.specs.Labels.{bar_title, held_title, wait_title}
use Rattle.twe_draw.specs.Shown.{row_at}
use Rattle.twe_draw.specs.Arrows.{arrow, arrows_placed, arrows_shown, made_arrow, made_placed, taken_arrow, taken_placed}
use Rattle.twe_draw.specs.Bars.{bar_placed, bar_shape, bar_shown, class_of, is_deterministic_row, is_waiting, outline, outline_found, outline_placed, row_placed, row_shown, wait_shape, wait_since}
use Rattle.twe_draw.specs.Held.{held_found, held_placed, held_shown}
use Rattle.twe_draw.specs.Pages.{picture_shapes}

pub nothing_nests : IsMarkup []
nothing_nests = IsMarkup.text [] IsText.nothing

pub either_nests : (b : Bool) (x y : List ℕ) → IsMarkup x → IsMarkup y → IsMarkup (if b then x else y)
either_nests true x y p q = p
either_nests false x y p q = q

all_nest : {X : Type 0} (f : X → List ℕ) (xs : List X) → ((x : X) → IsMarkup (f x)) → IsMarkup (flat_map f xs)
all_nest f [] each = nothing_nests
all_nest f (x ∷ xs) each =
    subst (λ (l : List ℕ). IsMarkup l) (sym (flat_map-cons f x xs))
    (IsMarkup.both (f x) (flat_map f xs) (each x) (all_nest f xs each))

row_nests : (p : Program) (task : TaskRow) (row : Option ℕ) → IsMarkup (row_placed p task row)
row_nests p task None = nothing_nests
row_nests p task (Some row) =
    IsMarkup.both (words_at 6 (row_bottom row) (task_call p task)) (row_line (row_bottom row))
    (words_nest (task_call p task) 6 (row_bottom row)) (row_line_nests (row_bottom row))

shade_is_value : (b : Bool) → list_all is_value_byte (if b then codes "deterministic" else codes "segment") ≡ true
shade_is_value true = refl
shade_is_value false = refl

class_is_value : (p : Program) (task : Option TaskRow) (kind : Kind) → list_all is_value_byte (class_of p task kind) ≡ true
class_is_value p task Admit = refl
class_is_value p task Run = shade_is_value (is_deterministic_row p task)

bar_nests : (p : Program) (tasks : List TaskRow) (axis : Axis) (bar : EntryBar) (row : ℕ) → IsMarkup (bar_shape p tasks axis bar row)
bar_nests p tasks axis bar row =
    titled_box_nests (class_of p (slice_get tasks bar.task) bar.kind) (bar_title p tasks bar)
    (time_column axis.length (bar_begin axis.kind bar)) (row_top row)
    (time_width axis.length (bar_begin axis.kind bar) (bar_end axis.kind bar))
    (class_is_value p (slice_get tasks bar.task) bar.kind)

wait_nests : (p : Program) (tasks : List TaskRow) (axis : Axis) (bar : EntryBar) (row : ℕ) (before : Option EntryBar)
    → IsMarkup (wait_since p tasks axis bar row before)
wait_nests p tasks axis bar row None = nothing_nests
wait_nests p tasks axis bar row (Some before) =
    either_nests ((before.task == bar.task) && is_waiting before.end)
    (titled_box (codes "waits") (time_column axis.length (bar_end axis.kind before)) (row_top row)
    (time_width axis.length (bar_end axis.kind before) (bar_begin axis.kind bar)) (wait_title p tasks before))
    []
    (titled_box_nests (codes "waits") (wait_title p tasks before) (time_column axis.length (bar_end axis.kind before))
    (row_top row) (time_width axis.length (bar_end axis.kind before) (bar_begin axis.kind bar)) refl)
    nothing_nests

placed_nests : (p : Program) (tasks : List TaskRow) (bars : List EntryBar) (axis : Axis) (bar : EntryBar) (row : Option ℕ)
    → IsMarkup (bar_placed p tasks bars axis bar row)
placed_nests p tasks bars axis bar None = nothing_nests
placed_nests p tasks bars axis bar (Some row) =
    IsMarkup.both (wait_shape p tasks bars axis bar row) (bar_shape p tasks axis bar row)
    (wait_nests p tasks axis bar row (option_and_then (slice_get bars) bar.previous)) (bar_nests p tasks axis bar row)

arrow_nests : (class : List ℕ) (left from to : ℕ) → list_all is_value_byte class ≡ true → IsMarkup (arrow class left from to)
arrow_nests class left from to plain =
    either_nests (nat_lt from to) (upright class left (row_bottom from) (row_top to))
    (upright class left (row_top from) (row_bottom to))
    (upright_nests class left (row_bottom from) (row_top to) plain)
    (upright_nests class left (row_top from) (row_bottom to) plain)

made_placed_nests : (axis : Axis) (bar : EntryBar) (row : ℕ) (child : Option ℕ) → IsMarkup (made_placed axis bar row child)
made_placed_nests axis bar row None = nothing_nests
made_placed_nests axis bar row (Some child) =
    arrow_nests (codes "makes") (time_column axis.length (bar_end axis.kind bar)) row child refl

made_nests : (rows : List (Option ℕ)) (axis : Axis) (bar : EntryBar) (row : ℕ) (end : End)
    → IsMarkup (made_arrow rows axis bar row end)
made_nests rows axis bar row (ends.Made child) = made_placed_nests axis bar row (row_at rows child)
made_nests rows axis bar row _ = nothing_nests

taken_placed_nests : (axis : Axis) (bar : EntryBar) (row : ℕ) (giver : Option ℕ) → IsMarkup (taken_placed axis bar row giver)
taken_placed_nests axis bar row None = nothing_nests
taken_placed_nests axis bar row (Some giver) =
    arrow_nests (codes "gives") (time_column axis.length (bar_begin axis.kind bar)) giver row refl

taken_nests : (rows : List (Option ℕ)) (axis : Axis) (bar : EntryBar) (row : ℕ) (giver : Option EntryBar)
    → IsMarkup (taken_arrow rows axis bar row giver)
taken_nests rows axis bar row None = nothing_nests
taken_nests rows axis bar row (Some giver) = taken_placed_nests axis bar row (row_at rows giver.task)

arrows_nest : (bars : List EntryBar) (rows : List (Option ℕ)) (axis : Axis) (bar : EntryBar) (row : Option ℕ)
    → IsMarkup (arrows_placed bars rows axis bar row)
arrows_nest bars rows axis bar None = nothing_nests
arrows_nest bars rows axis bar (Some row) =
    IsMarkup.both (made_arrow rows axis bar row bar.end)
    (taken_arrow rows axis bar row (option_and_then (slice_get bars) bar.giver))
    (made_nests rows axis bar row bar.end) (taken_nests rows axis bar row (option_and_then (slice_get bars) bar.giver))

outline_placed_nests : (axis : Axis) (bar : EntryBar) (row : Option ℕ) → IsMarkup (outline_placed axis bar row)
outline_placed_nests axis bar None = nothing_nests
outline_placed_nests axis bar (Some row) =
    plain_box_nests (codes "chain") (time_column axis.length (bar_begin axis.kind bar)) (row_top row)
    (time_width axis.length (bar_begin axis.kind bar) (bar_end axis.kind bar)) refl

outline_nests : (rows : List (Option ℕ)) (axis : Axis) (bar : Option EntryBar) → IsMarkup (outline_found rows axis bar)
outline_nests rows axis None = nothing_nests
outline_nests rows axis (Some bar) = outline_placed_nests axis bar (row_at rows bar.task)

held_nests : (p : Program) (tasks : List TaskRow) (axis : Axis) (hold : Hold) (bar : EntryBar) (row : Option ℕ)
    → IsMarkup (held_placed p tasks axis hold bar row)
held_nests p tasks axis hold bar None = nothing_nests
held_nests p tasks axis hold bar (Some row) =
    titled_box_nests (codes "held") (held_title p tasks hold) (time_column axis.length (held_begin axis.kind bar hold))
    (row_top row) (time_width axis.length (held_begin axis.kind bar hold) (bar_begin axis.kind bar)) refl

held_found_nests : (p : Program) (tasks : List TaskRow) (rows : List (Option ℕ)) (axis : Axis) (hold : Hold) (bar : Option EntryBar)
    → IsMarkup (held_found p tasks rows axis hold bar)
held_found_nests p tasks rows axis hold None = nothing_nests
held_found_nests p tasks rows axis hold (Some bar) = held_nests p tasks axis hold bar (row_at rows hold.task)

-- what stands above the rows and the holds
abbrev upper_shapes : Program → Axis → List (Option ℕ) → List ℕ → List EntryBar → List TaskRow → List ℕ
upper_shapes p axis rows chain bars tasks =
    flat_map (bar_shown p tasks bars rows axis) bars
    ++ (flat_map (arrows_shown bars rows axis) bars ++ flat_map (outline bars rows axis) chain)

upper_nest : (p : Program) (axis : Axis) (rows : List (Option ℕ)) (chain : List ℕ) (bars : List EntryBar) (tasks : List TaskRow)
    → IsMarkup (upper_shapes p axis rows chain bars tasks)
upper_nest p axis rows chain bars tasks =
    IsMarkup.both (flat_map (bar_shown p tasks bars rows axis) bars)
    (flat_map (arrows_shown bars rows axis) bars ++ flat_map (outline bars rows axis) chain)
    (all_nest (bar_shown p tasks bars rows axis) bars (λ bar. placed_nests p tasks bars axis bar (row_at rows bar.task)))
    (IsMarkup.both (flat_map (arrows_shown bars rows axis) bars) (flat_map (outline bars rows axis) chain)
    (all_nest (arrows_shown bars rows axis) bars (λ bar. arrows_nest bars rows axis bar (row_at rows bar.task)))
    (all_nest (outline bars rows axis) chain (λ number. outline_nests rows axis (slice_get bars number))))

-- the tags of all of it nest
pub shapes_nest : (p : Program) (axis : Axis) (rows : List (Option ℕ)) (chain : List ℕ) (bars : List EntryBar) (tasks : List TaskRow)
    (holds : List Hold) → IsMarkup (picture_shapes p axis rows chain bars tasks holds)
shapes_nest p axis rows chain bars tasks holds =
    IsMarkup.both (flat_map (row_shown p rows) tasks)
    (flat_map (held_shown p tasks bars rows axis) holds ++ upper_shapes p axis rows chain bars tasks)
    (all_nest (row_shown p rows) tasks (λ task. row_nests p task (row_at rows task.frame.task)))
    (IsMarkup.both (flat_map (held_shown p tasks bars rows axis) holds) (upper_shapes p axis rows chain bars tasks)
    (all_nest (held_shown p tasks bars rows axis) holds (λ hold. held_found_nests p tasks rows axis hold (slice_get bars hold.entry)))
    (upper_nest p axis rows chain bars tasks))
