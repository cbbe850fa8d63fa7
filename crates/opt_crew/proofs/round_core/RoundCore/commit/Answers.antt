use Rattle.std.proofs.Common.{◌≡◌, None, Some, sym, ap, ◌∙◌, rules}
use Rattle.std.specs.Prelude.{option_copied}
use Rattle.opt_crew.proofs.Faultless.{answered_stops}
use Rattle.opt_crew.proofs.round_core.RoundCore.commit.Goals as goal

-- nothing comes after a fault when a draft was taken, since there was none before
pub invariant_of-self-in-Committed : goal.invariant_of-self-in-Committed
invariant_of-self-in-Committed g c =
    let run = c.in_ok-run.run'.now in
    let clear : run.state.first_fault ≡ None = search rules in
    let is : c.self.inside.core ≡ Some run = sym c.run.ensures.same ∙ ap option_copied c.in_ok-run.ensures.ok_part in
    answered_stops g.N.RoundName.prog g.N.RoundName.lim g.N.RoundName.earlier c.self.inside.core c.commit_shown.new.self run c.into_drafted.result c.in_ok-number.field-0 is c.self.invariant clear
    c.in_ok-number.ensures.ok
