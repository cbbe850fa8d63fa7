-- Records that pass go on to pass while the stand learns of waits.
use Rattle.std.proofs.Common.{◌-◌, ap, sym, ◌∙◌, arith}
use Rattle.floor_laws.specs.admission.admission_core.States.{Record}
use Rattle.floor_laws.specs.table.nodes.TreeOf.{content_in}
use Rattle.tree_admit.specs.Passing.{EaseOrWaits}
use Rattle.tree_admit.proofs.Alone.{learned_served}
use Rattle.tree_admit.proofs.Between.{at_is_among, both_between, one_before, this_record}
use Rattle.tree_admit.proofs.Following.{followed_trans}
use Rattle.tree_admit.proofs.Learning.{bar_since}
use Rattle.tree_admit.proofs.PassedOver.{all_seen_kept}
use Rattle.tree_admit.proofs.testing.first_pass.Goals as goal

pub returns-in-Err-clause-barred : goal.returns-in-Err-clause-barred
returns-in-Err-clause-barred g c =
    let r = c.in-Some.r.now in (
      c.in-Err.ensures.barred.0,
      (
        r,
        at_is_among c.args.content.now (c.loop-left.left - 1) r (sym c.in-Some.ensures),
        bar_since g.N.Named.prog g.N.Named.lim c.args.task c.args.effect.now c.args.stand.now.me.0 c.loop-left.stand.me.0 c.record_passes.new.stand.me.0 r c.in-Err.bar
            c.loop-left.invariant.only.learned.looks (learned_served c.args.task c.args.stand.now.me.0 c.loop-left.stand.me.0 c.loop-left.invariant.only.learned) c.in-Err.ensures.barred.1,
      ),
    )

pub returns-in-Err-clause-only : goal.returns-in-Err-clause-only
returns-in-Err-clause-only g c =
    followed_trans c.args.stand.now.me c.loop-left.stand.me c.record_passes.new.stand.me c.loop-left.invariant.only
    c.record_passes.ensures.only

pub loop-left-preserved : goal.loop-left-preserved
loop-left-preserved g c =
    let t = c.args.task in
    let e = c.args.effect.now in
    let content = c.args.content.now in
    let all = c.args.first in
    let k = c.loop-left.left - 1 in
    let old = c.loop-left.stand.me in
    let new = c.record_passes.new.stand.me in
    let only = c.record_passes.ensures.only in
    let pass = λ (x : Record). EaseOrWaits new.0.waits t e x in
    let this = this_record pass content k c.in-Some.r.now c.in-Some.ensures c.in-Ok.ensures.passes in
    let kept = all_seen_kept old.0 new.0 t e content c.loop-left.left all only.learned c.loop-left.invariant.passes in
    let here = one_before pass content k c.loop-left.left all (omega arith) this kept in
    record {
      passes = both_between pass content c.in-Ok.rest k all c.in-Ok.ensures.others.1 here;
      only = followed_trans c.args.stand.now.me old new c.loop-left.invariant.only only;
      here = c.record_passes.ensures.same.0 ∙ c.loop-left.invariant.here;
      id = c.record_passes.ensures.same.1 ∙ c.loop-left.invariant.id;
    }

pub returns-clause-passes : goal.returns-clause-passes
returns-clause-passes g c = λ j r from before at. c.loop-left.invariant.passes j r (omega (arith, c.loop-left-test.false, from)) before at

pub record_passes-requires-clause-kept : goal.record_passes-requires-clause-kept
record_passes-requires-clause-kept g c = ap (λ l. content_in l c.args.node) c.loop-left.invariant.only.kept ∙ c.requires.kept

pub record_passes-requires-clause-among : goal.record_passes-requires-clause-among
record_passes-requires-clause-among g c = at_is_among c.args.content.now (c.loop-left.left - 1) c.in-Some.r.now (sym c.in-Some.ensures)
