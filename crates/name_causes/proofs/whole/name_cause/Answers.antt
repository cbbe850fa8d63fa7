use Rattle.std.proofs.Common.{◌≡◌, ◌∙◌, List, Option, sym, subst}
use Rattle.std.specs.Prelude.{IfNone, IfSome}
use Rattle.std.specs.List.{All}
use Rattle.name_causes.specs.Causes.{IsNameCause}
use Rattle.name_causes.specs.Others.{needs_of_text}
use Rattle.name_causes.specs.declared.need.NameNeed.{NameNeed}
use Rattle.name_causes.specs.declared.need.PlacedNeed.{PlacedNeed}
use Rattle.name_causes.specs.inner.Rest.{IsBrokenAmong, KeepsRule}
use Rattle.name_causes.proofs.Complete.{rest}
use Rattle.name_causes.proofs.whole.name_cause.Goals as goal

-- a need breaks the rule
pub returns-in-Some : goal.returns-in-Some
returns-in-Some c =
    let ast = c.args.ast.now in
    let needs : c.as_slice.result.now ≡ needs_of_text ast = c.as_slice.ensures ∙ c.in_ok-needs.ensures in
    let found : IsBrokenAmong c.args.rule c.args.place c.as_slice.result.now c.in-Some.need =
    subst (λ (o : Option NameNeed). IfSome o (IsBrokenAmong c.args.rule c.args.place c.as_slice.result.now)) c.in-Some.is c.first_broken-found.ensures.found in
    let among = subst (λ (xs : List PlacedNeed). IsBrokenAmong c.args.rule c.args.place xs c.in-Some.need) needs found in
    subst (λ (need : NameNeed). IsNameCause ast c.args.rule c.args.place need) (sym among.3)
    (IsNameCause.needed among.0 c.requires.fails among.1 among.2.0 among.2.1)

-- none does
pub rest_cause-requires : goal.rest_cause-requires
rest_cause-requires c =
    let ast = c.args.ast.now in
    let needs : c.as_slice.result.now ≡ needs_of_text ast = c.as_slice.ensures ∙ c.in_ok-needs.ensures in
    rest ast c.args.rule c.args.place c.requires.fails
    (subst (λ (xs : List PlacedNeed). All (KeepsRule c.args.rule c.args.place) xs) needs
    (subst (λ (o : Option NameNeed). IfNone o (All (KeepsRule c.args.rule c.args.place) c.as_slice.result.now)) c.in-None.is c.first_broken-found.ensures.none))
