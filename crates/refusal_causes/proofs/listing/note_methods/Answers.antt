use Rattle.std.proofs.Common.{◌≡◌, ◌∙◌, List, ap, sym, subst}
use Rattle.std.specs.Prelude.{Contains}
use Rattle.std.specs.List.{All}
use Rattle.std.proofs.lemmas.List.Elements.{All-contains_itself, All-nil}
use Rattle.twe_program.specs.declared.program.Decl.{Decl}
use Rattle.twe_program.specs.Program.{Program}
use Rattle.effect_check.specs.declared.rule.ERule.TheVariants.{E8}
use Rattle.refusal_causes.specs.inner.Keeping.{KeepsThere}
use Rattle.refusal_causes.proofs.Entries.{grows_not, grows_then}
use Rattle.refusal_causes.proofs.Loops.{at_item, one_more, whole}
use Rattle.refusal_causes.proofs.listing.note_methods.Goals as goal

-- it is one of the program's
pub note_method-requires : goal.note_method-requires
note_method-requires c =
    let p : Program = c.args.p.now in
    let items : c.as_slice-method-items.result.now ≡ p.methods = c.as_slice-method-items.ensures ∙ ap (λ (q : Program). q.methods) c.p.view_is in
    record {
      inside = at_item (Contains p.methods) c.as_slice-method-items.result.now c.loop-method.method-index c.method-item.result c.loop-method-test.true c.method-item.is
          (subst (λ (xs : List Decl). All (Contains p.methods) xs) (sym items) (All-contains_itself p.methods));
    }

-- nothing is done yet
pub loop-method-init : goal.loop-method-init
loop-method-init c = record {
  grows = grows_not c.args.p.now c.args.found.now;
  kept = λ place none. All-nil (KeepsThere c.args.p.now E8 place);
}

-- one method more
pub loop-method-preserved : goal.loop-method-preserved
loop-method-preserved c = record {
  grows = grows_then c.args.p.now c.args.found.now c.loop-method.found c.note_method.new.found c.loop-method.invariant.grows
      c.in_ok-note_method.ensures.grows;
  kept = λ place none.
      one_more (KeepsThere c.args.p.now E8 place) c.as_slice-method-items.result.now c.loop-method.method-index c.method-item.result
      c.loop-method-test.true c.method-item.is
      (c.loop-method.invariant.kept place (c.in_ok-note_method.ensures.grows.keeps E8 place none))
      (c.in_ok-note_method.ensures.kept place none);
}

-- all methods
pub returns-clause-kept : goal.returns-clause-kept
returns-clause-kept c = λ place none.
    let p : Program = c.args.p.now in
    let items : c.as_slice-method-items.result.now ≡ p.methods = c.as_slice-method-items.ensures ∙ ap (λ (q : Program). q.methods) c.p.view_is in
    subst (λ (xs : List Decl). All (KeepsThere p E8 place) xs) items
    (whole (KeepsThere p E8 place) c.as_slice-method-items.result.now c.loop-method.method-index c.loop-method-test.false
    (c.loop-method.invariant.kept place none))
