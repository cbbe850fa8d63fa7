use Rattle.isolation_laws.proofs.journals.Journals.{beginnings_legal}
use Rattle.isolation_laws.proofs.laws.beginnings_of_legal_journals_are_legal.Goals as goal

pub returns : goal.returns
returns c = beginnings_legal
