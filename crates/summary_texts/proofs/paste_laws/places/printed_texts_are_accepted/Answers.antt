use Rattle.summary_texts.proofs.paste_laws.places.Texts.{printed-accepted}
use Rattle.summary_texts.proofs.paste_laws.places.printed_texts_are_accepted.Goals as goal

pub returns : goal.returns
returns c text p accepted = printed-accepted text p accepted
