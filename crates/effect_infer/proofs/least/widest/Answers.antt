use Rattle.std.proofs.Common.{◌≡◌, List, length, ap, ◌∙◌, subst}
use Rattle.std.proofs.lemmas.Result.{IfOk-weaker}
use Rattle.twe_program.specs.declared.program.Decl.{Decl}
use Rattle.twe_program.specs.Program.{Program}
use Rattle.twe_program.specs.WellFormed.{IsWellFormed}
use Rattle.effect_infer.specs.Table.{IsWidestTable}
use Rattle.effect_infer.proofs.Results.{widest-table, keeps-of}
use Rattle.effect_infer.proofs.least.widest.Goals as goal

-- the widest of what was found
pub returns-clause-widest : goal.returns-clause-widest
returns-clause-widest c =
    let methods = c.as_slice-methods.ensures ∙ ap (λ (q : Program). q.methods) c.p.view_is in
    IfOk-weaker c.keep_widest.result _ (IsWidestTable c.args.p.now)
    (λ table keeps. widest-table c.args.p.now c.in_ok-all.all table c.in_ok-all.ensures
    (keeps-of _ _ _ _ table (λ f. Unit {0}) (ap (λ (ds : List Decl). length ds) methods) c.as_slice.ensures keeps)) c.keep_widest.ensures

pub returns-clause-well_formed : goal.returns-clause-well_formed
returns-clause-well_formed c =
    IfOk-weaker c.keep_widest.result _ (λ table. IsWellFormed c.args.p.now) (λ table keeps. subst IsWellFormed c.p.view_is c.p.invariant) c.keep_widest.ensures
