use Rattle.std.proofs.Common.{sym, ap, ◌∙◌, subst}
use Rattle.twe_io.specs.declared.status.Status.TheVariants.{Done}
use Rattle.twe_io.specs.Answers.{on_out}
use Rattle.twe_profile.specs.Answers.{ProfileGiven}
use Rattle.twe_profile.proofs.answering.profile_answer.Goals as goal

-- the profile is written
pub returns-clause-given : goal.returns-clause-given
returns-clause-given c =
    let h = c.in_ok-found.found in
    subst (ProfileGiven c.args.p.now c.args.lim c.args.moves.now) (sym (c.on_out.ensures ∙ ap (on_out Done) c.in_ok-text.ensures))
    (ProfileGiven.profiled h.work h.span h.chain c.in_ok-found.ensures.profiled)
