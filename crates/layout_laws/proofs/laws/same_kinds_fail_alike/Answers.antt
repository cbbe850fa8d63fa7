use Rattle.layout_laws.proofs.AlikeRules.{fail_alike}
use Rattle.layout_laws.proofs.laws.same_kinds_fail_alike.Goals as goal

pub returns : goal.returns
returns c text other kinds has also rule place = fail_alike text other kinds has also rule place
