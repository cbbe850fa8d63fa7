use Rattle.std.proofs.Common.{List, sym, subst}
use Rattle.std.specs.List.{All}
use Rattle.twe_program.specs.declared.program.Decl.{Decl}
use Rattle.twe_program.specs.WellFormed.{DeclFits, IsWellFormed}
use Rattle.refusal_causes.specs.inner.Keeping.{KeepsThere}
use Rattle.refusal_causes.proofs.Complete.{all_fit, none_fails}
use Rattle.refusal_causes.proofs.Loops.{not_found}
use Rattle.refusal_causes.proofs.searching.cause_at.Goals as goal

-- each declaration fits the program
pub cause_in_some-requires : goal.cause_in_some-requires
cause_in_some-requires c =
    let p = c.args.p.now in
    let wf : IsWellFormed p = subst IsWellFormed c.p.view_is c.p.invariant in
    subst (λ (xs : List Decl). All (DeclFits p) xs) (sym c.decls_for-decls.ensures) (all_fit p wf c.args.rule)

-- the rule does fail
pub unreachable-requires : goal.unreachable-requires
unreachable-requires c =
    let p = c.args.p.now in
    let P = KeepsThere p c.args.rule c.args.place in
    none_fails p c.args.rule c.args.place
    (subst (λ (xs : List Decl). All P xs) c.decls_for-decls.ensures
    (not_found (All P c.decls_for-decls.result.now) c.in_ok-found.found c.in-None.is c.in_ok-found.ensures.none))
    c.requires
