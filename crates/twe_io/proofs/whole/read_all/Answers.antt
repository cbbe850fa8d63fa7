use Rattle.std.proofs.Common.{◌≡◌, Err, arith, refl, ◌∙◌}
use Rattle.twe_io.specs.declared.whole.ReadFail.TheVariants.{ReadFault, OutOfMemory}
use Rattle.twe_io.proofs.TooLong.{too_long-not, GivesLess-none, answer_is}
use Rattle.twe_io.proofs.Progress.{in_room}
use Rattle.twe_io.proofs.whole.read_all.Goals as goal

pub returns-in_err-buffer-clause-too_long : goal.returns-in_err-buffer-clause-too_long
returns-in_err-buffer-clause-too_long g c =
    let memory = answer_is _ (OutOfMemory c.in_err-buffer.field-0.0) c.from_residual.ensures.1 in
    too_long-not _ _ _ _ (λ e. cc) (GivesLess-none _ _)

pub returns-in_err-buffer-clause-reads : goal.returns-in_err-buffer-clause-reads
returns-in_err-buffer-clause-reads g c =
    rw (answer_is _ (OutOfMemory c.in_err-buffer.field-0.0) c.from_residual.ensures.1) refl

pub returns-in_err-taken-clause-too_long : goal.returns-in_err-taken-clause-too_long
returns-in_err-taken-clause-too_long g c =
    let fault : c.from_residual-in_err-taken.result ≡ Err ReadFault = answer_is _ ReadFault c.from_residual-in_err-taken.ensures.1 in
    let (given, split, fewer) = c.in_err-taken.ensures.lost in
    too_long-not _ _ _ _ (λ e. cc) (given, split, omega (arith, fewer, c.deref_mut.ensures.len, c.in_ok-buffer.ensures))

pub returns-in_err-taken-clause-reads : goal.returns-in_err-taken-clause-reads
returns-in_err-taken-clause-reads g c =
    rw (answer_is _ ReadFault c.from_residual-in_err-taken.ensures.1)
    (c.in_err-taken.ensures.broken.0, in_room _ _ _ _ _ _ _ (c.deref_mut.ensures.len ∙ c.in_ok-buffer.ensures) c.in_err-taken.ensures.broken.1)
