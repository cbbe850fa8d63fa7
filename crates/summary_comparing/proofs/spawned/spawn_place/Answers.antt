use Rattle.std.proofs.Common.{◌≡◌, ◌≤◌, List, Some, length, refl, sym, ap, ◌∙◌, subst, arith}
use Rattle.std.specs.Prelude.{slice_get}
use Rattle.std.proofs.lemmas.Option.{slice_get_read}
use Rattle.effect_check.specs.declared.act.Act.{Act}
use Rattle.summary_comparing.specs.Chained.{IsSpawnPlace}
use Rattle.summary_comparing.specs.inner.Sources.{acts_before}
use Rattle.summary_comparing.proofs.Chained.{act-within, spawned-at}
use Rattle.summary_comparing.proofs.spawned.spawn_place.Goals as goal

-- some spawn needs it
pub returns-in-None : goal.returns-in-None
returns-in-None c =
    let decl = c.args.decl.now in
    let at = c.in_ok-at.at in
    let is = c.in_ok-at.ensures ∙ ap (λ (xs : List Act). acts_before decl.params xs c.args.effect.now) c.requires.all in
    let within = act-within c.args.p.now decl c.args.effect.now at c.requires.needed is in
    let past = subst (λ (xs : List Act). length xs ≤ at) c.requires.all c.in-None.ensures.lookup.3 in
    absurd (omega (arith, within, past))

-- the spawn that was found
pub returns-in-Some : goal.returns-in-Some
returns-in-Some c =
    let p = c.args.p.now in
    let decl = c.args.decl.now in
    let effect = c.args.effect.now in
    let acts = c.args.acts.now in
    let at = c.in_ok-at.at in
    let is = c.in_ok-at.ensures ∙ ap (λ (xs : List Act). acts_before decl.params xs effect) c.requires.all in
    let look = c.in-Some.ensures.lookup in
    let found = subst (λ (xs : List Act). slice_get xs at ≡ Some c.in-Some.act.now) c.requires.all
    (slice_get_read acts (length acts) at c.in-Some.act.now refl look.3.0 look.1) in
    subst (IsSpawnPlace p decl effect) (sym c.act_place.ensures) (spawned-at p decl effect at c.in-Some.act.now c.requires.needed is found)
