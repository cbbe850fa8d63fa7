-- What is written of a run.
use Rattle.std.specs.Prelude.{◌≡◌, ◌++◌, ℕ, Bool, List, Option, codes, length}
use Rattle.std.specs.List.{flat_map}
use Rattle.twe_program.specs.Program.{Program}
use Rattle.machine_state.specs.declared.state.TaskRow.{TaskRow}
use Rattle.held_span.specs.declared.hold.Hold.{Hold}
use Rattle.twe_draw.specs.declared.picture.bars.EntryBar.{EntryBar}
use Rattle.twe_draw.specs.picture.Choice.{how_many}
use Rattle.twe_draw.specs.picture.Rows.{rows_from}
use Rattle.twe_draw.specs.declared.scale.Axis.{Axis}
use Rattle.twe_draw.specs.declared.words.AxisKind.{AxisKind}
use Rattle.twe_draw.specs.declared.words.Drawing.{Drawing}
use Rattle.twe_draw.specs.declared.words.Drawing.TheVariants.{Picture, Trace}
use Rattle.twe_draw.specs.Arrows.{arrows_shown}
use Rattle.twe_draw.specs.Bars.{bar_shown, outline, row_shown}
use Rattle.twe_draw.specs.Head.{picture_head}
use Rattle.twe_draw.specs.Held.{held_shown}
use Rattle.twe_draw.specs.Scale.{axis_of}
use Rattle.twe_draw.specs.Shown.{AreShownTasks}
use Rattle.twe_draw.specs.Trace.{IsTrace}

-- what stands in a picture: rows, holds, bars, arrows, and the heaviest chain
abbrev pub picture_shapes : Program → Axis → List (Option ℕ) → List ℕ → List EntryBar → List TaskRow → List Hold → List ℕ
picture_shapes p axis rows chain bars tasks holds =
    flat_map (row_shown p rows) tasks
    ++ (flat_map (held_shown p tasks bars rows axis) holds
    ++ (flat_map (bar_shown p tasks bars rows axis) bars
    ++ (flat_map (arrows_shown bars rows axis) bars ++ flat_map (outline bars rows axis) chain)))

-- the picture of a run, in which these tasks are shown
abbrev pub picture_text : AxisKind → Program → List Bool → ℕ → ℕ → ℕ → List ℕ → List EntryBar → List TaskRow → List Hold → List ℕ
picture_text kind p shown work span held chain bars tasks holds =
    picture_head kind (length tasks) (how_many shown) work span held
    ++ (picture_shapes p (axis_of kind held bars) (rows_from 0 shown) chain bars tasks holds ++ codes "</svg>\n")

-- The text is the picture of a run. Each task that is shown has a row.
pub record IsPictureText (kind : AxisKind) (p : Program) (work span held : ℕ) (chain : List ℕ) (bars : List EntryBar)
    (tasks : List TaskRow) (holds : List Hold) (text : List ℕ) : Type 0 where
  pub shown : List Bool
  pub shown_are : AreShownTasks chain bars tasks shown
  pub text_is : text ≡ picture_text kind p shown work span held chain bars tasks holds

-- this is written of a run: a picture, or a trace
abbrev pub IsDrawing : Drawing → Program → ℕ → ℕ → ℕ → List ℕ → List EntryBar → List TaskRow → List Hold → List ℕ → Type 0
IsDrawing (Picture kind) p work span held chain bars tasks holds text =
    IsPictureText kind p work span held chain bars tasks holds text
IsDrawing Trace p work span held chain bars tasks holds text = IsTrace p bars tasks text
