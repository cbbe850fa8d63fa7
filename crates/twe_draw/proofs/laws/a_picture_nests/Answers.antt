use Rattle.twe_draw.proofs.Documents.{picture_is_document}
use Rattle.twe_draw.proofs.laws.a_picture_nests.Goals as goal

pub returns : goal.returns
returns c = picture_is_document
