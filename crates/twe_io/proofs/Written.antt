-- From what the calls that write ensure to how a text is written.
use Rattle.std.proofs.Common.{ℕ, List, Result, Ok, Err, OnOk, OnErr}
use Rattle.std.specs.Io.KnownBytes.{Appends}
use Rattle.twe_io.specs.Faults.{Rose}
use Rattle.twe_io.specs.Told.{TakesPart}
use Rattle.twe_io.specs.Runs.{WritesWhole}
use Rattle.twe_io.specs.Ends.{SinkTells}
use Rattle.twe_io.specs.Writing.{Wrote}

pub wrote : {K E : Type 0} (tells : SinkTells K) (text : List ℕ) (before after : K) (result : Result Unit E)
    → OnOk result (Appends (tells.written before) (tells.written after) text) → OnErr result (TakesPart (tells.written before) (tells.written after) text)
    → OnErr result (Rose (tells.faults before) (tells.faults after)) → WritesWhole tells.gives text before result after → Wrote tells text before result after
wrote tells text before after (Ok done) whole part fault writes = record { writes = writes; appended = whole }
wrote tells text before after (Err e) whole part fault (taken, failing, less, writes, fails) =
    record { taken = taken; failing = failing; less = less; writes = writes; fails = fails; part = part; fault = fault }
