use Rattle.std.proofs.Common.{ℕ, List, Option, Some, ap, ◌∙◌}
use Rattle.std.specs.Prelude.{◌==◌, if◌then◌else◌}
use Rattle.twe_draw.specs.picture.inner.Known.{number_at}
use Rattle.twe_draw.proofs.picture.Tables.{put_at}
use Rattle.twe_draw.proofs.picture.numbers.put_number.Goals as goal

-- there is room for the task, and its number changes
pub returns : goal.returns
returns c = λ t.
    ap (λ (l : List (Option ℕ)). number_at l t) c.set.ensures
    ∙ (put_at c.make_room.new.numbers c.args.task t c.args.number c.in_ok-make_room.ensures.room
    ∙ ap (λ (old : Option ℕ). if t == c.args.task then Some c.args.number else old) (c.in_ok-make_room.ensures.same t))
