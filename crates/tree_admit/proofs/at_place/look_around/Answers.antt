-- The worker walks below the place, or looks at the place alone.
use Rattle.std.proofs.Common.{[], ◌∷◌, None}
use Rattle.tree_admit.specs.Descents.{walking}
use Rattle.tree_admit.proofs.Looking.{arrived_has, looked_ready, on_ok}
use Rattle.tree_admit.proofs.Putting.{place_stops}
use Rattle.tree_admit.proofs.Stepping.{barred_after, in_hand}
use Rattle.tree_admit.proofs.Steps.{followed_has, gave_left}
use Rattle.tree_admit.proofs.at_place.look_around.Goals as goal

pub back_out-requires-clause-may : goal.back_out-requires-clause-may
back_out-requires-clause-may g c =
    let (earlier, rest, may) = c.requires.may in
    let lim = g.N.Named.lim in
    let errand = c.args.errand in
    let e = c.args.effect.now in
    let content = c.args.content in
    let me = c.look_at.new.stand.me in
    let a = walking errand e (errand.place ∷ []) [] in
    let has = followed_has lim earlier rest a errand.place content c.args.stand.now.me (arrived_has g.N.Planted.nodes lim earlier rest errand e content c.args.stand.now.me may) me c.look_at.ensures.only in
    (None, rest, place_stops errand e [] lim earlier rest content me has, in_hand lim earlier rest a errand.place content me has)

pub returns-in-Ok-clause-ready : goal.returns-in-Ok-clause-ready
returns-in-Ok-clause-ready g c = λ earlier rest may.
    looked_ready g.N.Planted.nodes g.N.Named.lim earlier rest c.args.errand c.args.effect.now c.args.content c.args.stand.now.me may c.look_at.new.stand.me c.look_at.ensures.only c.in-Ok.ensures.passes
    (c.goes_below.ensures.stays c.if-goes_below.false)

pub returns-in-Err-clause-barred : goal.returns-in-Err-clause-barred
returns-in-Err-clause-barred g c = λ earlier rest may.
    let lim = g.N.Named.lim in
    let errand = c.args.errand in
    let e = c.args.effect.now in
    let content = c.args.content in
    let me = c.look_at.new.stand.me in
    let final = c.back_out.new.stand.me in
    let a = walking errand e (errand.place ∷ []) [] in
    let has = followed_has lim earlier rest a errand.place content c.args.stand.now.me (arrived_has g.N.Planted.nodes lim earlier rest errand e content c.args.stand.now.me may) me c.look_at.ensures.only in
    let gave = c.back_out.ensures.gave None rest (place_stops errand e [] lim earlier rest content me has) (in_hand lim earlier rest a errand.place content me has) in
    let barred = c.in-Err.ensures.barred in (
      gave_left lim earlier rest a errand.place content me has None final (may.outside.none errand.place) gave,
      barred.0,
      barred_after lim earlier rest a errand.place content me has g.N.Named.prog c.args.stand.now.me errand.task e c.in-Err.bar None final (may.outside.none errand.place) may.has.learned barred.1 barred.2 gave,
    )

pub returns-then-goes_below-clause-wait : goal.returns-then-goes_below-clause-wait
returns-then-goes_below-clause-wait g c =
    on_ok _ _ c.walk_around.result (λ seen none is. let no = none in let yes = is in absurd (cc (no, yes))) c.walk_around.ensures.wait

pub look_at-requires-clause-kept : goal.look_at-requires-clause-kept
look_at-requires-clause-kept g c = c.requires.may.2.has.known
