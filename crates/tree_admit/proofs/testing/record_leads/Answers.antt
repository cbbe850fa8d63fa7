-- A record at which the waits do not lead to the task is a bar.
use Rattle.std.proofs.Common.{◌≢◌, ℕ, refl, sym, subst}
use Rattle.floor_laws.specs.admission.admission_core.States.{IsAmong}
use Rattle.tree_admit.specs.Alone.{LeadsElsewhere}
use Rattle.tree_admit.proofs.PassedOver.{uneasy}
use Rattle.tree_admit.proofs.testing.record_leads.Goals as goal

pub follow_past-requires-clause-other : goal.follow_past-requires-clause-other
follow_past-requires-clause-other g c =
    let other = (uneasy c.args.task c.args.effect.now c.args.r.now c.requires.uneasy).0 in
    subst (λ (s : ℕ). s ≢ c.args.task) (sym c.task-by.ensures) other

pub returns-in-Ok-clause-known : goal.returns-in-Ok-clause-known
returns-in-Ok-clause-known g c =
    subst (λ (s : ℕ). IsAmong (record { waiter = s; awaited = c.args.task }) c.follow_past.new.stand.me.0.waits) c.task-by.ensures c.in-Ok.ensures.known

pub returns-in-Ok-clause-led : goal.returns-in-Ok-clause-led
returns-in-Ok-clause-led g c = λ s known.
    c.in-Ok.ensures.led s (subst (λ (u : ℕ). IsAmong (record { waiter = s; awaited = u }) c.args.stand.now.me.0.waits) (sym c.task-by.ensures) known)

pub returns-in-Err-clause-barred : goal.returns-in-Err-clause-barred
returns-in-Err-clause-barred g c =
    let r = c.args.r.now in
    let by = c.task-by.ensures in
    let uneasy_one = uneasy c.args.task c.args.effect.now r c.requires.uneasy in (
      refl,
      record {
        other = uneasy_one.0;
        meets = uneasy_one.1;
        task = by;
        leads = c.in-Err.ensures.end.0;
        elsewhere = c.in-Err.ensures.end.1;
        followed = c.in-Err.ensures.followed;
        alone = λ low st alone only.
            let found = c.in-Err.ensures.alone low in
            record {
              of_enabled = found.enabled st alone c.args.node c.args.content.now r c.requires.kept c.requires.among (only r.task uneasy_one.0);
              leads = subst (λ (s : ℕ). LeadsElsewhere st.links s c.args.task) by (found.elsewhere st alone only);
              row = λ turn row has there. found.rows st c.args.task turn row alone has there;
              legal = found.legal st alone;
            };
      },
    )
