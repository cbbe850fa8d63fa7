use Rattle.std.proofs.Common.{◌≡◌, ℤ, ◌∙◌, subst, w32, to_z, of_z}
use Rattle.std.proofs.lemmas.Int.{to_z-of_z}
use Rattle.seg_meaning.specs.Access.{HasWritten}
use Rattle.opt_engine.specs.inner.Hinting.{hint_ways}
use Rattle.opt_engine.proofs.Hinting.{written_is}
use Rattle.opt_engine.proofs.hinted.write_hinted.Goals as goal

pub returns : goal.returns
returns c =
    let value : to_z w32 (of_z w32 c.args.value) ≡ c.args.value = to_z-of_z w32 c.args.value c.ranges.value in
    subst (λ (v : ℤ). HasWritten hint_ways c.args.touching.now c.args.cell v c.note_write.new.touching) value
    (written_is c.args.touching.now c.note_write.new.touching c.args.cell (to_z w32 (of_z w32 c.args.value)) c.requires (c.note_write.ensures.cells ∙ c.set.ensures)
    c.note_write.ensures.marks c.note_write.ensures.noted)
