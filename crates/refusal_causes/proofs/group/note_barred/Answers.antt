use Rattle.std.proofs.Common.{◌∙◌, false, IfSome, Option, refl, sym, subst}
use Rattle.refusal_causes.specs.declared.barring.SpawnBar.{SpawnBar}
use Rattle.refusal_causes.specs.Barring.{IsSpawnBar}
use Rattle.refusal_causes.specs.Seeking.{needs_of}
use Rattle.refusal_causes.proofs.Listed.{barred_fails}
use Rattle.refusal_causes.proofs.group.note_barred.Goals as goal

-- the rule fails
pub note-requires-clause-fails : goal.note-requires-clause-fails
note-requires-clause-fails c =
    let p = c.args.p.now in
    let task = c.args.task.now in
    let act = c.args.act.now in
    let needs = needs_of act.kind in
    let bar : SpawnBar = c.in-Some-barred.field-0 in
    let barred : IsSpawnBar p false task act.point needs bar =
    subst (λ (o : Option SpawnBar). IfSome o (IsSpawnBar p false task act.point needs)) c.in-Some-barred.is c.in_ok-barred-in-Some.ensures.found in
    (barred_fails p task c.requires.inside act.point needs bar barred act.kind refl c.requires.done c.in-Some.field-0
    (sym c.need_at-need.ensures ∙ c.in-Some.is)).0

-- the cause is true
pub note-requires-clause-caused : goal.note-requires-clause-caused
note-requires-clause-caused c =
    let p = c.args.p.now in
    let task = c.args.task.now in
    let act = c.args.act.now in
    let needs = needs_of act.kind in
    let bar : SpawnBar = c.in-Some-barred.field-0 in
    let barred : IsSpawnBar p false task act.point needs bar =
    subst (λ (o : Option SpawnBar). IfSome o (IsSpawnBar p false task act.point needs)) c.in-Some-barred.is c.in_ok-barred-in-Some.ensures.found in
    (barred_fails p task c.requires.inside act.point needs bar barred act.kind refl c.requires.done c.in-Some.field-0
    (sym c.need_at-need.ensures ∙ c.in-Some.is)).1
