use Rattle.std.proofs.Common.{List, sym, subst}
use Rattle.refusal_causes.specs.declared.found.CausedFailure.{CausedFailure}
use Rattle.refusal_causes.specs.Listing.{AreAllCauses}
use Rattle.refusal_causes.proofs.Complete.{none_fails}
use Rattle.refusal_causes.proofs.Entries.{all_listed}
use Rattle.refusal_causes.proofs.Kept.{all_keep}
use Rattle.refusal_causes.proofs.listing.all_causes.Goals as goal

-- what is not listed fails nowhere
pub returns : goal.returns
returns c =
    let p = c.args.p.now in
    let found = c.note_methods.new.found in
    subst (λ (xs : List CausedFailure). AreAllCauses p xs) (sym c.in_ok-failures.ensures)
    (all_listed p found (c.in_ok-note_methods.ensures.grows.sound (c.in_ok-note_tasks.ensures.grows.sound c.new-found.ensures))
    (λ rule place fails none. none_fails p rule place
    (all_keep p c.note_tasks.new.found found c.in_ok-note_methods.ensures.grows c.in_ok-note_tasks.ensures.kept c.in_ok-note_methods.ensures.kept
    rule place none) fails))
