use Rattle.std.proofs.Common.{◌≡◌, ◌≤◌, List, Some, length, refl, subst, arith}
use Rattle.std.specs.Prelude.{slice_get}
use Rattle.std.proofs.lemmas.Option.{slice_get_read}
use Rattle.std.proofs.lemmas.Result.{IfOk-weaker}
use Rattle.twe_base.specs.declared.place.Place.{Place}
use Rattle.summary_comparing.specs.Chained.{IsNeedChain}
use Rattle.summary_comparing.proofs.Chained.{place-within, placed-chain}
use Rattle.summary_comparing.proofs.chain.placed_chain.Goals as goal

-- each step has a place
pub returns-in-None : goal.returns-in-None
returns-in-None c =
    let within = place-within c.args.p.now c.args.decl.now c.args.effect.now c.args.at c.args.step.now c.requires.step in
    let past = subst (λ (ps : List Place). length ps ≤ c.args.at) c.requires.its c.in-None.ensures.lookup.3 in
    absurd (omega (arith, within, past))

-- the chain from there
pub returns-in-Some : goal.returns-in-Some
returns-in-Some c =
    let p = c.args.p.now in
    let decl = c.args.decl.now in
    let place = c.in-Some.place.now in
    let places = c.args.places.now in
    let look = c.in-Some.ensures.lookup in
    let found = subst (λ (ps : List Place). slice_get ps c.args.at ≡ Some place) c.requires.its
    (slice_get_read places (length places) c.args.at place refl look.3.0 look.1) in
    IfOk-weaker c.step_chain.result _ (IsNeedChain p c.args.summaries.now decl c.args.effect.now)
    (λ chain leads. placed-chain p decl c.args.effect.now c.args.summaries.now c.args.at c.args.step.now place chain c.requires.step found leads)
    c.step_chain.ensures
