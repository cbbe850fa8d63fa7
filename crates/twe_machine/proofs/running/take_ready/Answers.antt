use Rattle.std.proofs.Common.{◌≡◌, SFits, w32, rules}
use Rattle.std.proofs.lemmas.Int.{to_z-of_z}
use Rattle.seg_meaning.specs.Giving.{given}
use Rattle.machine_state.proofs.tasks.Ready.{taken_ready}
use Rattle.twe_machine.proofs.running.take_ready.Goals as goal

-- the value is that of the rows before the frame was out
pub returns-clause-frame : goal.returns-clause-frame
returns-clause-frame c =
    λ row here.
    let fits : SFits w32 c.awaited_value-value.result = search rules in
    let gave : c.give.new.self ≡ given c.replace-frame.result c.awaited_value-value.result = simp (to_z-of_z, fits) at c.give.ensures in
    taken_ready c.args.rows.now c.args.t row c.item_mut.result.now c.replace-frame.result c.replace-frame.new.dest c.give.new.self c.awaited.result c.awaited_value-value.result here c.item_mut.ensures.value c.replace-frame.ensures.value c.awaited.ensures c.awaited_value-value.ensures gave
