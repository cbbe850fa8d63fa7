use Rattle.floor_laws.proofs.table.nodes.Contents.{found_among}
use Rattle.floor_laws.proofs.table.nodes.content_laws.what_is_found_is_there.Goals as goal

pub returns : goal.returns
returns c = found_among
