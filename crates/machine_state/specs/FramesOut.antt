-- A row whose frame was taken out while a segment runs.
use Rattle.std.specs.Prelude.{pos, [], None}
use Rattle.seg_meaning.specs.declared.frame.Frame.{Frame}
use Rattle.seg_meaning.specs.declared.frame.Next.TheVariants.{Ended}
use Rattle.seg_meaning.specs.Children.{no_children}
use Rattle.machine_state.specs.declared.state.TaskRow.{TaskRow}

-- a frame with nothing left to run
abbrev pub no_frame : Frame
no_frame = record {
  task = 0;
  decl = 0;
  body = None;
  fuel = 0;
  futures = [];
  out = no_children;
  next = Ended;
  value = pos 0;
  prints = [];
}

-- the row while its frame is out
abbrev pub without_frame : TaskRow → TaskRow
without_frame row = record row { frame = no_frame }
