use Rattle.std.proofs.Common.{ℕ, Bool, false, List, Option, inl, inr, sym, ap, ◌∙◌, subst}
use Rattle.span_profile.specs.declared.heaviest_chain.key.Key.TheVariants.{Write}
use Rattle.span_profile.specs.inner.Trails.{IsFirstThat, gave, gave_cell}
use Rattle.span_profile.proofs.PathReasons.{prints_none, reason_printed, reason_unlinked, reason_written}
use Rattle.span_profile.proofs.trail.reason_by_writes.Goals.{else-writes_console-via-then-writes_console+else-gave, else-writes_console-via-else-writes_console}
use Rattle.span_profile.proofs.trail.reason_by_writes.Goals as goal

pub returns-then-gave : goal.returns-then-gave
returns-then-gave c = λ p are a b e m untold quiet.
    reason_printed p c.args.places.now are c.args.fronts.now c.args.number a b m c.args.deed.now c.args.watched.now e c.gave-then-gave.result (sym c.writes_console.ensures ∙ c.if-writes_console.true)
    (sym c.gave.ensures ∙ c.if-gave.true) c.gave-then-gave.ensures untold quiet

pub returns-in-None : goal.returns-in-None
returns-in-None c = λ p are a b e m untold quiet.
    let test = gave_cell c.args.fronts.now c.args.places.now false c.args.number in
    let silent = prints_none p c.args.places.now are c.args.fronts.now c.args.number a b m c.args.deed.now c.args.watched.now e (elim c.else-writes_console.branch [
      | else-writes_console-via-then-writes_console+else-gave w ↦ inr (sym w.gave.ensures ∙ w.if-gave.false)
      | else-writes_console-via-else-writes_console w ↦ inl (sym c.writes_console.ensures ∙ w.if-writes_console.false)
    ]) in
    let found = subst (λ (l : List ℕ). IsFirstThat test l c.first_given.result) c.as_slice.ensures c.first_given.ensures in
    reason_unlinked p c.args.places.now are c.args.fronts.now c.args.number a b m c.args.deed.now c.args.watched.now e
    (subst (λ (o : Option ℕ). IsFirstThat test c.args.watched.now.writes.items o) c.in-None.is found) untold quiet silent

pub returns-in-Some : goal.returns-in-Some
returns-in-Some c = λ p are a b e m untold quiet.
    let test = gave_cell c.args.fronts.now c.args.places.now false c.args.number in
    let silent = prints_none p c.args.places.now are c.args.fronts.now c.args.number a b m c.args.deed.now c.args.watched.now e (elim c.else-writes_console.branch [
      | else-writes_console-via-then-writes_console+else-gave w ↦ inr (sym w.gave.ensures ∙ w.if-gave.false)
      | else-writes_console-via-else-writes_console w ↦ inl (sym c.writes_console.ensures ∙ w.if-writes_console.false)
    ]) in
    let found = subst (λ (l : List ℕ). IsFirstThat test l c.first_given.result) c.as_slice.ensures c.first_given.ensures in
    reason_written p c.args.places.now are c.args.fronts.now c.args.number a b m c.args.deed.now c.args.watched.now e c.in-Some.cell c.gave-in-Some.result
    (subst (λ (o : Option ℕ). IsFirstThat test c.args.watched.now.writes.items o) c.in-Some.is found)
    (c.gave-in-Some.ensures ∙ ap (λ (n : ℕ). gave c.args.fronts.now (Write n) c.args.number) c.of.ensures) untold quiet silent
