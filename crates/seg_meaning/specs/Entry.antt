-- The frame and the effects of a task before its first segment.
use Rattle.std.specs.Prelude.{ℕ, ℤ, pos, List, [], ◌∷◌, map, replicate, Option, None, Some, slice_get}
use Rattle.region_paths.specs.declared.elements.Elem.TheVariants.{Index}
use Rattle.effect_sets.specs.declared.effects.Summary.{Summary}
use Rattle.effect_sets.specs.Filled.{fill_summary}
use Rattle.twe_program.specs.declared.program.Decl.{Decl}
use Rattle.twe_program.specs.Program.{Program}
use Rattle.seg_meaning.specs.declared.frame.OpenBody.{OpenBody}
use Rattle.seg_meaning.specs.declared.frame.Frame.{Frame}
use Rattle.seg_meaning.specs.declared.frame.Next.TheVariants.{Go}
use Rattle.seg_meaning.specs.Children.{no_children}
use Rattle.seg_meaning.specs.Meaning.{vars_at_start}

-- the number of futures of a body
abbrev pub future_count_of : Option Decl → ℕ
future_count_of None = 0
future_count_of (Some decl) = decl.body.futures

-- the body before its first statement
abbrev pub entry_body : Option Decl → List ℤ → OpenBody
entry_body decl args = record { vars = vars_at_start decl args; open_blocks = record { block = 0; after = 0 } ∷ [] }

-- the frame of a task of a declaration with these arguments; its number and its fuel are 0, and set when it is made
abbrev pub frame_of : Option Decl → ℕ → List ℤ → Frame
frame_of decl task args = record {
  task = 0;
  decl = task;
  body = Some (entry_body decl args);
  fuel = 0;
  futures = replicate (future_count_of decl) None;
  out = no_children;
  next = Go;
  value = pos 0;
  prints = [];
}

-- the frame of a task of the program with these arguments, before its first segment
abbrev pub entry_frame : Program → ℕ → List ℤ → Frame
entry_frame p task args = frame_of (slice_get p.tasks task) task args

-- the effects of a task of a declaration with these arguments: the declaration's summary, filled with them
abbrev pub effects_of : Option Decl → List ℤ → Summary
effects_of None args = record { effects = [] }
effects_of (Some decl) args = fill_summary (map (λ value. Index value) args) decl.summary

-- the same for a task of the program, by the number of its declaration
abbrev pub effects_at : Program → ℕ → List ℤ → Summary
effects_at p task args = effects_of (slice_get p.tasks task) args
