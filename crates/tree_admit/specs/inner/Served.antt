-- What a stand's view of the floor is after it has served one task.
use Rattle.std.specs.Prelude.{◌≡◌, ◌≢◌, ℕ, Some}
use Rattle.floor_laws.specs.declared.rule.view.HeldTurn.{HeldTurn}
use Rattle.floor_laws.specs.table.FloorOf.{turn_in}
use Rattle.floor_laws.specs.declared.table.view.View.{View}

-- The second view has drawn no entry since the first one, and has the turns that the first one has. It may have a turn of task t
-- beside them.
pub record HasOnlyServed (t : ℕ) (u v : View) : Type 0 where
  pub kind : v.kind ≡ u.kind
  pub out : v.out ≡ u.out
  pub part : v.part ≡ u.part
  pub turns : (w : ℕ) → w ≢ t → turn_in v.turns w ≡ turn_in u.turns w
  pub own : (turn : HeldTurn) → turn_in u.turns t ≡ Some turn → turn_in v.turns t ≡ Some turn
