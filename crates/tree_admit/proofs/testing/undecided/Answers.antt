-- The latest record decides for those before it: whom its task waits for, theirs wait for.
use Rattle.std.proofs.Common.{sym, ap, ◌∙◌}
use Rattle.floor_laws.specs.table.nodes.TreeOf.{content_in}
use Rattle.tree_admit.proofs.Alone.{learned_served}
use Rattle.tree_admit.proofs.Between.{at_is_among}
use Rattle.tree_admit.proofs.Decided.{decided_waits, looked_up}
use Rattle.tree_admit.proofs.Following.{followed_trans}
use Rattle.tree_admit.proofs.Learning.{bar_since, live_kept}
use Rattle.tree_admit.proofs.testing.undecided.Goals as goal

pub returns-then-not-decides-clause-only : goal.returns-then-not-decides-clause-only
returns-then-not-decides-clause-only g c =
    looked_up c.args.stand.now.me c.decides.new.stand.me c.task-by.result c.decides.ensures.told.0 c.decides.ensures.told.1

pub record_leads-requires-clause-live : goal.record_leads-requires-clause-live
record_leads-requires-clause-live g c =
    let only = looked_up c.args.stand.now.me c.decides.new.stand.me c.task-by.result c.decides.ensures.told.0 c.decides.ensures.told.1 in
    live_kept c.args.stand.now.me.0 c.decides.new.stand.me.0 only.learned c.requires.live

pub record_leads-requires-clause-kept : goal.record_leads-requires-clause-kept
record_leads-requires-clause-kept g c =
    let only = looked_up c.args.stand.now.me c.decides.new.stand.me c.task-by.result c.decides.ensures.told.0 c.decides.ensures.told.1 in
    ap (λ l. content_in l c.args.node) only.kept ∙ c.requires.kept

pub record_leads-requires-clause-among : goal.record_leads-requires-clause-among
record_leads-requires-clause-among g c = at_is_among c.args.content.now 0 c.in-Some.r.now (sym c.in-Some.ensures)

pub record_leads-requires-clause-uneasy : goal.record_leads-requires-clause-uneasy
record_leads-requires-clause-uneasy g c = sym c.passes_at_once.ensures ∙ c.if-passes_at_once.false

pub returns-in-Ok-clause-decided : goal.returns-in-Ok-clause-decided
returns-in-Ok-clause-decided g c =
    let told = c.decides.ensures.told in
    decided_waits c.args.stand.now.me c.decides.new.stand.me c.record_leads.new.stand.me.0 c.args.task c.args.node c.args.content.now c.in-Some.r.now c.task-by.result told.0 told.1
    c.task-by.ensures (told.2 c.if-not-decides.false) c.requires.kept (sym c.in-Some.ensures) c.in-Ok.ensures.known c.in-Ok.ensures.led

pub returns-in-Ok-clause-only : goal.returns-in-Ok-clause-only
returns-in-Ok-clause-only g c =
    let only = looked_up c.args.stand.now.me c.decides.new.stand.me c.task-by.result c.decides.ensures.told.0 c.decides.ensures.told.1 in
    followed_trans c.args.stand.now.me c.decides.new.stand.me c.record_leads.new.stand.me only c.record_leads.ensures.only

pub returns-in-Err-clause-barred : goal.returns-in-Err-clause-barred
returns-in-Err-clause-barred g c =
    let r = c.in-Some.r.now in
    let before = c.args.stand.now.me in
    let after = c.decides.new.stand.me in
    let only = looked_up before after c.task-by.result c.decides.ensures.told.0 c.decides.ensures.told.1 in (
      c.in-Err.ensures.barred.0,
      (
        r,
        at_is_among c.args.content.now 0 r (sym c.in-Some.ensures),
        bar_since g.N.Named.prog g.N.Named.lim c.args.task c.args.effect.now before.0 after.0 c.record_leads.new.stand.me.0 r c.in-Err.bar only.learned.looks
            (learned_served c.args.task before.0 after.0 only.learned) c.in-Err.ensures.barred.1,
      ),
    )

pub returns-in-Err-clause-only : goal.returns-in-Err-clause-only
returns-in-Err-clause-only g c =
    let only = looked_up c.args.stand.now.me c.decides.new.stand.me c.task-by.result c.decides.ensures.told.0 c.decides.ensures.told.1 in
    followed_trans c.args.stand.now.me c.decides.new.stand.me c.record_leads.new.stand.me only c.record_leads.ensures.only
