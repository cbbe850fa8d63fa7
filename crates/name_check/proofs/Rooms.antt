-- The room for a part of a body and for what follows it.
use Rattle.std.proofs.Common.{◌≡◌, ℕ, ◌+◌, length, take, List, arith}
use Rattle.twe_ast.specs.Statement.{Statement, Statements}
use Rattle.name_check.specs.declared.names.GlobalName.{GlobalName}
use Rattle.name_check.specs.declared.scope.BodyScope.{BodyScope}
use Rattle.name_check.specs.BodyScope.{after, after_all, after_block, counted_binding}
use Rattle.name_check.specs.Size.{statements_in, statements_in_all}
use Rattle.name_check.specs.inner.Room.{HasRoom}
use Rattle.name_check.proofs.Walks.{Passes, passes, passes_all, passes-block, passes-take}

module _ (a b : BodyScope) (m n : ℕ) (room : HasRoom a (m + n)) where
  pub room_before : HasRoom a m
  room_before = record { points = omega arith; vars = omega arith; futures = omega arith }

  pub room_past : Passes a b m → HasRoom b n
  room_past h = record { points = omega arith; vars = omega arith; futures = omega arith }

-- inside a statement that is counted
pub room_inside : (here : BodyScope) (n : ℕ) → HasRoom here (n + 1) → HasRoom (counted_binding here) n
room_inside here n room = record { points = omega arith; vars = omega arith; futures = omega arith }

module _ (globals : List GlobalName) (here : BodyScope) where
  -- after a statement, and after a block
  pub room_after : (s : Statement) (n : ℕ) → HasRoom here (statements_in s + n) → HasRoom (after globals here s) n
  room_after s n room = room_past here (after globals here s) (statements_in s) n room (passes globals here s)

  pub room_after_block : (body : Statements) (n : ℕ) → HasRoom here (statements_in_all body + n) → HasRoom (after_block globals here body) n
  room_after_block body n room =
      room_past here (after_block globals here body) (statements_in_all body) n room
      (passes-block here (after_all globals here body) (statements_in_all body) (passes_all globals here body))

  -- where a block is left, what was seen before it is the first part of what is seen in it
  pub seen_outside : (body : Statements) → take (length here.locals) (after_all globals here body).locals ≡ here.locals
  seen_outside body = passes-take here (after_all globals here body) (statements_in_all body) (passes_all globals here body)
