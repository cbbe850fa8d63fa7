use Rattle.twe_draw.proofs.picture.InTime.{leads_first, frees_first}
use Rattle.twe_draw.proofs.picture.laws.what_leads_ends_first.Goals as goal

pub returns-clause-leads : goal.returns-clause-leads
returns-clause-leads c = leads_first

pub returns-clause-frees : goal.returns-clause-frees
returns-clause-frees c = frees_first
