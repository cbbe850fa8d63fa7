use Rattle.std.proofs.Common.{ℕ, List, Option, ap, ◌∙◌}
use Rattle.twe_draw.specs.picture.inner.Known.{number_at}
use Rattle.twe_draw.proofs.picture.Tables.{room_more}
use Rattle.twe_draw.proofs.picture.numbers.make_room.Goals as goal

-- room for one task more changes nothing
pub growing-preserved : goal.growing-preserved
growing-preserved c = λ t. ap (λ (numbers : List (Option ℕ)). number_at numbers t) c.in_ok-push.ensures.ok ∙ (room_more c.growing.numbers t ∙ c.growing.invariant t)
