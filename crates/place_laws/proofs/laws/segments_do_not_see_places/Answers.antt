use Rattle.place_laws.proofs.Segments.{segments_alike}
use Rattle.place_laws.proofs.laws.segments_do_not_see_places.Goals as goal

pub returns : goal.returns
returns c = segments_alike
