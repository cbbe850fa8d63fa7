-- Lists whose items are borrowed mutably.
use Rattle.std.specs.Prelude.{List, ℕ, slice_set, take, drop, length, ◌++◌}
use Rattle.std.specs.Borrow.{Lends, MutBor, Fml, Array, RattleType}
use Rattle.twe_base.specs.contracts.list.List.{the_row}

-- The new items in place of the old ones. There are as many of them, since a slice keeps its length.
abbrev pub with_items : {T : Type 0} → List T → List T → List T
with_items old new = take (length old) (new ++ drop (length new) old)

module _ (T : RattleType) where
  -- when the borrow ends, the list has at this index what was last written there
  abbrev pub LendsItem : MutBor (List T.Denot) → ℕ → MutBor T.Denot → Fml
  LendsItem list at item = Lends (the_row T) T list item (slice_set list.now at)

  -- when the borrow ends, the list has the items that were last in the slice
  abbrev pub LendsItems : MutBor (List T.Denot) → MutBor (List T.Denot) → Fml
  LendsItems list items = Lends (the_row T) (Array T 0) list items (with_items list.now)
