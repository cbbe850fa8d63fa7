use Rattle.run_facts.proofs.Found.{only_admission}
use Rattle.run_facts.proofs.legal_moves.admission_of.Goals as goal

-- a task that was made has no other move
pub returns-else-may_be_admitted : goal.returns-else-may_be_admitted
returns-else-may_be_admitted c = only_admission c.args.st.now c.args.task c.requires.made (λ may. let e = c.if-may_be_admitted.ensures.1 may in cc)
