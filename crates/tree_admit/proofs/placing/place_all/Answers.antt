-- Each errand adds a record, or meets an obstacle and leaves the records as they are.
use Rattle.std.proofs.Common.{◌≡◌, ◌∙◌, ℕ, length, subst, arith}
use Rattle.tree_admit.specs.Attempts.{HasPlacedFirst}
use Rattle.tree_admit.proofs.Attempts.{met_since, none_before, placed_more, placed_still}
use Rattle.tree_admit.proofs.placing.place_all.Goals as goal

pub place_effect-requires-clause-unplaced : goal.place_effect-requires-clause-unplaced
place_effect-requires-clause-unplaced g c = λ is.
    let both = c.is_unplaced-first.ensures is in
    none_before g.N.Planted.nodes c.args.task c.args.effects.now c.loop-number.number c.args.stand.now.me c.loop-number.stand.me both.1
    (c.requires.unplaced both.0) c.loop-number.invariant.placed

pub returns-in-Err-clause-stopped : goal.returns-in-Err-clause-stopped
returns-in-Err-clause-stopped g c =
    let met = c.in-Err.ensures.met in
    record {
      within = c.loop-number-test.true;
      placed = placed_still g.N.Planted.nodes c.args.task c.args.effects.now c.loop-number.number c.args.stand.now.me c.loop-number.stand.me c.place_effect.new.stand.me
          c.loop-number.invariant.placed met.0;
      by = met_since g.N.Planted.nodes c.args.task c.args.effects.now g.N.Named.prog g.N.Named.lim c.args.kind c.args.stand.now.me c.loop-number.stand.me c.place_effect.new.stand.me c.in-Err.by
          c.loop-number.invariant.placed.keeps met.1;
    }

pub loop-number-preserved : goal.loop-number-preserved
loop-number-preserved g c =
    let stands = c.in-Ok.ensures.stands in
    record {
      placed = placed_more g.N.Planted.nodes c.args.task c.args.effects.now c.loop-number.number c.args.stand.now.me c.loop-number.stand.me c.place_effect.new.stand.me
          stands.0 c.loop-number.invariant.placed stands.1 stands.2;
      same = (c.place_effect.ensures.same.0 ∙ c.loop-number.invariant.same.0, c.place_effect.ensures.same.1 ∙ c.loop-number.invariant.same.1);
    }

pub returns-clause-all : goal.returns-clause-all
returns-clause-all g c =
    let most = c.loop-number.auto.number-end in
    let past = c.loop-number-test.false in
    let all : c.loop-number.number ≡ length c.args.effects.now = omega (arith, most, past) in
    subst (λ (k : ℕ). HasPlacedFirst g.N.Planted.nodes c.args.task c.args.effects.now k c.args.stand.now.me c.loop-number.stand.me) all c.loop-number.invariant.placed
