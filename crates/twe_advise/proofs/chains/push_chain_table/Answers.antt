use Rattle.std.specs.Prelude.{codes}
use Rattle.std.proofs.lemmas.Result.{on_ok_weaker}
use Rattle.twe_advise.specs.Chains.{chain_text, step_lines}
use Rattle.twe_advise.proofs.Pieces.{two_pieces}
use Rattle.twe_advise.proofs.chains.push_chain_table.Goals as goal

pub returns : goal.returns
unfolding chain_text
returns c =
    on_ok_weaker c.push_steps.result
    (two_pieces c.args.text.now (codes "\n       entry      begins  heaviest chain\n") (step_lines c.args.p.now c.args.tasks.now c.args.starts.now 0 c.args.steps.now) c.push_all.new.self c.push_steps.new.text
    c.in_ok-push_all.ensures.ok)
    c.push_steps.ensures
