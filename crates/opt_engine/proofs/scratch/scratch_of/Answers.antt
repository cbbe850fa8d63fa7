use Rattle.std.proofs.Common.{◌∙◌, subst}
use Rattle.twe_program.specs.WellFormed.{IsWellFormed}
use Rattle.seg_meaning.proofs.Results.{if_ok_map}
use Rattle.machine_state.proofs.standing.ReachedStands.{reached_stands}
use Rattle.opt_engine.proofs.scratch.scratch_of.Goals as goal

-- a reached state has as many values as the program has cells
pub returns : goal.returns
returns c =
    let stands = reached_stands c.args.p.now c.requires.0 c.args.st.now (subst IsWellFormed c.p.view_is c.p.invariant) c.requires.1 in
    if_ok_map c.new.result (λ scratch counted. counted ∙ (c.len.ensures ∙ stands.cells)) c.new.ensures
