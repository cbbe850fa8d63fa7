use Rattle.std.proofs.Common.{◌≡◌, suc, List, Fits, w64, length, ap, arith, rules}
use Rattle.seg_exec.specs.declared.steps.continuation.Continuation.{Continuation}
use Rattle.seg_exec.proofs.steps.Calls.{calls_within}
use Rattle.seg_exec.proofs.steps.frames.Frames.push.Goals as goal

pub overflow_add-self : goal.overflow_add-self
overflow_add-self c =
    let few = calls_within c.self.inside.items in
    let longer : length c.push.new.self ≡ suc (length c.self.inside.items) = ap (λ (xs : List Continuation). length xs) c.in_ok-push.ensures.ok in
    let fits : Fits w64 (length c.push.new.self) = search rules in
    omega (arith, few, longer, fits, c.self.invariant)
