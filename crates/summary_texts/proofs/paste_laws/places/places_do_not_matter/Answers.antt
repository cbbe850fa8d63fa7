use Rattle.summary_texts.proofs.paste_laws.places.Texts.{accepted-alike}
use Rattle.summary_texts.proofs.paste_laws.places.places_do_not_matter.Goals as goal

pub returns : goal.returns
returns c text other p its accepted again same = accepted-alike text other p its accepted again same
