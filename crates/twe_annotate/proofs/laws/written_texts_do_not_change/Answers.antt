use Rattle.twe_annotate.proofs.Written.{all-least}
use Rattle.twe_annotate.proofs.laws.written_texts_do_not_change.Goals as goal

-- the same bytes are written
pub returns : goal.returns
returns c text bytes twice tree its p q all each means least can is also again has =
    c.pasted_texts_do_not_change.ensures text bytes twice tree its p q all each means (all-least p all least.least) can is also again.least has.bytes
