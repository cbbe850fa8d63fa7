use Rattle.std.proofs.Common.{sym, ◌∙◌}
use Rattle.opt_engine.proofs.NextMoves.{next_answered}
use Rattle.opt_engine.proofs.draft_core.Core.take_next.Goals as goal

-- the core answers as its run does
pub returns-clause-ok : goal.returns-clause-ok
returns-clause-ok g c =
    let core = c.self.inside in
    next_answered c.args.p.now g.N.RoundName.prog core.lim g.N.RoundName.lim g.N.RoundName.earlier c.args.self.now core.run c.in_ok-run.run' c.in_ok-after.after c.args.t c.in_ok-after.number
    c.requires.named c.self.invariant.0 (sym c.take.ensures.value ∙ c.in_ok-run.ensures.ok_part) c.self.view_is c.self.invariant.1 c.in_ok-after.ensures.goes
