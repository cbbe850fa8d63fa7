use Rattle.std.proofs.Common.{◌≡◌, None, Some, sym, ap, ◌∙◌, rules}
use Rattle.std.specs.Prelude.{option_copied}
use Rattle.opt_crew.proofs.Faultless.{went_stops}
use Rattle.opt_crew.proofs.round_core.RoundCore.take_next.Goals as goal

-- nothing comes after a fault when the moves were taken, since there was none before
pub invariant_of-self-2 : goal.invariant_of-self-2
invariant_of-self-2 g c =
    let run = c.in_ok-run.run'.now in
    let clear : run.state.first_fault ≡ None = search rules in
    let is : c.self.inside.core ≡ Some run = sym c.run.ensures.same ∙ ap option_copied c.in_ok-run.ensures.ok_part in
    went_stops g.N.RoundName.prog g.N.RoundName.lim g.N.RoundName.earlier c.self.inside.core c.take_next.new.self run c.args.task c.in_ok-went.went is c.self.invariant clear
    c.in_ok-went.ensures.ok
