-- The stands of a round, which were split off from the main one.
use Rattle.std.specs.Prelude.{◌≡◌, ℕ, List, []}
use Rattle.atomic_table.specs.Seated.{TableId}
use Rattle.seg_journal.specs.declared.numbered.NumberedEntry.{NumberedEntry}
use Rattle.seg_journal.specs.Merging.{all_of}
use Rattle.floor_laws.specs.declared.table.view.SeatKind.TheVariants.{Main, Other}
use Rattle.floor_laws.specs.table.Holds.{HasGivenAll}
use Rattle.task_floor.specs.Stands.{TreeStand}

-- a stand of a worker on this table
pub record IsOtherOn (table : TableId) (stand : TreeStand) : Type 0 where
  pub here : stand.table_id ≡ table
  pub kind : stand.me.0.floor.kind ≡ Other

-- The main stand on this table, which has nothing in hand. So many others are out.
pub record IsMainOn (table : TableId) (stand : TreeStand) (out : ℕ) : Type 0 where
  pub here : stand.table_id ≡ table
  pub kind : stand.me.0.floor.kind ≡ Main
  pub given : HasGivenAll stand.me.0.floor
  pub empty : stand.me.1 ≡ []
  pub count : stand.me.0.floor.out ≡ out

-- before others join it, and while the parts of those that have joined are kept beside its own
abbrev pub HasParts : TreeStand → List (List NumberedEntry) → Type 0
HasParts stand parts = all_of parts ≡ stand.me.0.floor.part

-- the main stand on this table, from which so many others were split off, and which was joined to none of them
pub record IsNewOn (table : TableId) (stand : TreeStand) (split : ℕ) : Type 0 where
  pub main : IsMainOn table stand split
  pub number : stand.me.0.floor.split ≡ split
