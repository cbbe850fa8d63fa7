use Rattle.std.proofs.Common.{length, le_refl, arith, length-drop}
use Rattle.std.proofs.lemmas.Slice.{between_to_end}
use Rattle.twe_io.proofs.Progress.{Sent-none, Sent-more}
use Rattle.twe_io.proofs.whole.write_whole.Goals as goal

pub loop-taken-init : goal.loop-taken-init
loop-taken-init g c = Sent-none _ _ _ _ _

pub loop-taken-preserved : goal.loop-taken-preserved
loop-taken-preserved g c =
    let said = c.in_ok-taken.ensures in
    let text = c.args.text.now in
    let whole = between_to_end text c.loop-taken.taken (length text) (le_refl _) in
    Sent-more _ _ _ _ _ _ _ _ _ _ c.loop-taken.invariant (omega arith) whole (said.some (omega (arith, length-drop c.loop-taken.taken text))) said.within said.appended said.counts said.gives
