use Rattle.summary_comparing.proofs.Places.{accessed-at, called-at}
use Rattle.summary_comparing.proofs.chain_laws.steps_are_at_their_places.Goals as goal

pub returns-clause-access : goal.returns-clause-access
returns-clause-access c p decl need place at = accessed-at p decl need place at

pub returns-clause-call : goal.returns-clause-call
returns-clause-call c p decl callee args place at = called-at p decl callee args place at
