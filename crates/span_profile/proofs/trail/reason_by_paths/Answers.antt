use Rattle.std.proofs.Common.{ℕ, true, List, Option, subst}
use Rattle.span_profile.specs.inner.Trails.{IsFirstThat, gave_cell}
use Rattle.span_profile.proofs.PathReasons.{reads_none, reason_read}
use Rattle.span_profile.proofs.trail.reason_by_paths.Goals as goal

pub returns-in-None : goal.returns-in-None
returns-in-None c = λ p are a b e m untold.
    let test = gave_cell c.args.fronts.now c.args.places.now true c.args.number in
    let found = subst (λ (l : List ℕ). IsFirstThat test l c.first_given.result) c.as_slice.ensures c.first_given.ensures in
    c.reason_by_writes.ensures p are a b e m untold
    (reads_none p c.args.places.now are c.args.fronts.now c.args.number a b m c.args.deed.now c.args.watched.now e
    (subst (λ (o : Option ℕ). IsFirstThat test c.args.watched.now.reads.items o) c.in-None.is found))

pub returns-in-Some : goal.returns-in-Some
returns-in-Some c = λ p are a b e m untold.
    let test = gave_cell c.args.fronts.now c.args.places.now true c.args.number in
    let found = subst (λ (l : List ℕ). IsFirstThat test l c.first_given.result) c.as_slice.ensures c.first_given.ensures in
    reason_read p c.args.places.now are c.args.fronts.now c.args.number a b m c.args.deed.now c.args.watched.now e c.in-Some.cell
    (subst (λ (o : Option ℕ). IsFirstThat test c.args.watched.now.reads.items o) c.in-Some.is found) untold
