-- The records that are not decided are looked at.
use Rattle.std.proofs.Common.{length, ap, ◌∙◌}
use Rattle.floor_laws.specs.table.nodes.TreeOf.{content_in}
use Rattle.tree_admit.proofs.Alone.{learned_served}
use Rattle.tree_admit.proofs.Decided.{decided_kept, looked_pass, looked_waits}
use Rattle.tree_admit.proofs.Following.{followed_trans}
use Rattle.tree_admit.proofs.Learning.{bar_in_since, live_kept}
use Rattle.tree_admit.proofs.testing.records_pass.Goals as goal

pub first_pass-requires-clause-live : goal.first_pass-requires-clause-live
first_pass-requires-clause-live g c = live_kept c.args.stand.now.me.0 c.undecided.new.stand.me.0 c.undecided.ensures.only.learned c.requires.live

pub first_pass-requires-clause-kept : goal.first_pass-requires-clause-kept
first_pass-requires-clause-kept g c = ap (λ l. content_in l c.args.node) c.undecided.ensures.only.kept ∙ c.requires.kept

pub returns-in-Ok-first_pass-clause-passes : goal.returns-in-Ok-first_pass-clause-passes
returns-in-Ok-first_pass-clause-passes g c =
    let t = c.args.task in
    let content = c.args.content.now in
    let after = c.first_pass.new.stand.me.0 in
    let decided = decided_kept c.undecided.new.stand.me.0 after t content c.in-Ok.first (length content) c.first_pass.ensures.only.learned c.in-Ok.ensures.decided in
    looked_pass after t c.args.effect.now content c.in-Ok.first c.in-Ok-first_pass.ensures.passes decided

pub returns-in-Ok-first_pass-clause-wait : goal.returns-in-Ok-first_pass-clause-wait
returns-in-Ok-first_pass-clause-wait g c is =
    let t = c.args.task in
    let content = c.args.content.now in
    let after = c.first_pass.new.stand.me.0 in
    let decided = decided_kept c.undecided.new.stand.me.0 after t content c.in-Ok.first (length content) c.first_pass.ensures.only.learned c.in-Ok.ensures.decided in
    looked_waits after t c.args.effect.now content c.in-Ok.first c.in-Ok-first_pass.ensures.passes decided (c.none_is_apart.ensures is)

pub returns-in-Ok-first_pass-clause-only : goal.returns-in-Ok-first_pass-clause-only
returns-in-Ok-first_pass-clause-only g c =
    followed_trans c.args.stand.now.me c.undecided.new.stand.me c.first_pass.new.stand.me c.undecided.ensures.only c.first_pass.ensures.only

pub returns-in-Err-first_pass-clause-barred : goal.returns-in-Err-first_pass-clause-barred
returns-in-Err-first_pass-clause-barred g c =
    let before = c.args.stand.now.me.0 in
    let between = c.undecided.new.stand.me.0 in
    let only = c.undecided.ensures.only.learned in
    let barred = c.in-Err-first_pass.ensures.barred in (
      barred.0,
      bar_in_since g.N.Named.prog g.N.Named.lim c.args.task c.args.effect.now before between c.first_pass.new.stand.me.0 c.args.content.now c.in-Err-first_pass.bar only.looks
          (learned_served c.args.task before between only) barred.1,
    )

pub returns-in-Err-first_pass-clause-only : goal.returns-in-Err-first_pass-clause-only
returns-in-Err-first_pass-clause-only g c =
    followed_trans c.args.stand.now.me c.undecided.new.stand.me c.first_pass.new.stand.me c.undecided.ensures.only c.first_pass.ensures.only
