-- What a stand that touches a cell may do afterwards, and what it knows.
use Rattle.std.proofs.Common.{◌≡◌, ℕ, ℤ, Some, sym, ap, subst, ◌∙◌}
use Rattle.twe_program.specs.Program.{Program}
use Rattle.seg_meaning.specs.Access.{Access, KnowsNow, MaySame, Prints, Reads, Writes, Ways, ways_of}
use Rattle.floor_laws.specs.declared.rule.view.OpenSegment.{OpenSegment}
use Rattle.floor_laws.specs.declared.rule.view.Touch.{Touch}
use Rattle.floor_laws.specs.declared.rule.view.Touch.TheVariants.{Read, Write}
use Rattle.floor_laws.specs.rule.LastTouches.{last_touched}
use Rattle.floor_laws.specs.rule.Touches.{touches_of}
use Rattle.floor_laws.proofs.rule.Puts.{some_one}
use Rattle.floor_laws.specs.table.Tells.{IsLatest, Seat, WroteCell, with_touch}
use Rattle.task_floor.specs.steps.Segments.{HasTouched, MayReadCell, MayWriteCell, StandValue, latest_task, stand_knows}
use Rattle.task_floor.specs.steps.Stands.{HasLoaded, MayAccess}

-- each access is a touch
abbrev pub StandFollows : StandValue → Access → StandValue → Type 0
StandFollows old (Reads cell value) new = HasTouched old new (Read cell value)
StandFollows old (Writes cell value) new = HasTouched old new (Write cell value)
StandFollows old (Prints value) new = new ≡ old

-- what a stand of this program states
abbrev pub stand_ways : Program → Ways StandValue
stand_ways p = ways_of stand_knows (MayReadCell p) (MayWriteCell p) StandFollows

-- the latest task is one
pub latest_is : (me : Seat) (t : ℕ) → IsLatest me t → latest_task me.1 ≡ t
latest_is me t latest = ap latest_task latest.is

pub latest_own : (me : Seat) (t : ℕ) → IsLatest me t → IsLatest me (latest_task me.1)
latest_own me t latest = subst (IsLatest me) (sym (latest_is me t latest)) latest

-- no segment of another task is open
abbrev IsOfLatest : Seat → Type 0
IsOfLatest me = (s : OpenSegment) → me.0.segment ≡ Some s → s.task ≡ latest_task me.1

of_latest : (p : Program) (me : Seat) (x : Access) → MayAccess p me x → IsOfLatest me
of_latest p me x may s is = may.may.own s is ∙ sym (latest_is me may.task may.latest)

abbrev touched : Seat → Touch → Seat
touched me touch = (with_touch me.0 (latest_task me.1) touch, me.1)

-- a touch changes nothing in what may be accessed
still_may : (p : Program) (me : Seat) (touch : Touch) (x : Access) → MayAccess p me x → MayAccess p (touched me touch) x
still_may p me touch x may = record {
  task = may.task;
  latest = record { slot = may.latest.slot; rest = may.latest.rest; is = may.latest.is };
  may = record {
    turn = may.may.turn;
    has = may.may.has;
    ready = may.may.ready;
    may = may.may.may;
    made = may.may.made;
    own = λ s is. ap (λ (o : OpenSegment). o.task) (sym (some_one is)) ∙ latest_is me may.task may.latest;
  };
}

might_before : (p : Program) (me : Seat) (touch : Touch) (x : Access) → IsOfLatest me → MayAccess p (touched me touch) x → MayAccess p me x
might_before p me touch x own may =
    let latest : IsLatest me may.task = record { slot = may.latest.slot; rest = may.latest.rest; is = may.latest.is } in
    record {
      task = may.task;
      latest = latest;
      may = record {
        turn = may.may.turn;
        has = may.may.has;
        ready = may.may.ready;
        may = may.may.may;
        made = may.may.made;
        own = λ s is. own s is ∙ latest_is me may.task latest;
      };
    }

module _ (p : Program) (old new : StandValue) (touch : Touch) (after : HasTouched old new touch) (x : Access) (may : MayAccess p old.me x) where
  to : (y : Access) → MayAccess p old.me y → MayAccess p new.me y
  to y may_y = subst (λ (me : Seat). MayAccess p me y) (sym after.seat) (still_may p old.me touch y may_y)

  from : (y : Access) → MayAccess p new.me y → MayAccess p old.me y
  from y may_y = might_before p old.me touch y (of_latest p old.me x may) (subst (λ (me : Seat). MayAccess p me y) after.seat may_y)

  pub may_same : MaySame (stand_ways p) old new
  may_same = record {
    read = λ k. (λ m. record { below = m.below; value = m.value; may = to (Reads k m.value) m.may }, λ m. record { below = m.below; value = m.value; may = from (Reads k m.value) m.may });
    write = λ k. (λ m. record { below = m.below; value = m.value; may = to (Writes k m.value) m.may }, λ m. record { below = m.below; value = m.value; may = from (Writes k m.value) m.may });
  }

-- the value of the touched cell is known
pub knows_read : (old new : StandValue) (cell : ℕ) (value : ℤ) → HasTouched old new (Read cell value) → KnowsNow (stand_knows old) cell value (stand_knows new)
knows_read old new cell value after k = ap (λ (me : Seat). last_touched (touches_of me.0.segment) k) after.seat

pub knows_written : (old new : StandValue) (cell : ℕ) (value : ℤ) → HasTouched old new (Write cell value) → KnowsNow (stand_knows old) cell value (stand_knows new)
knows_written old new cell value after k = ap (λ (me : Seat). last_touched (touches_of me.0.segment) k) after.seat

-- What a load and a store of the floor do to a stand that may make them.

pub loaded_touch : (p : Program) (old new : StandValue) (cell : ℕ) (value : ℤ) → MayReadCell p old cell → ((t : ℕ) → IsLatest old.me t → HasLoaded old.me t cell value new.me)
    → (new.table_id ≡ old.table_id) × (new.id ≡ old.id) → HasTouched old new (Read cell value)
loaded_touch p old new cell value may loaded same = record { seat = loaded (latest_task old.me.1) (latest_own old.me may.may.task may.may.latest); same = same }

pub stored_touch : (p : Program) (old new : StandValue) (cell : ℕ) (value : ℤ) → MayWriteCell p old cell → ((t : ℕ) → IsLatest old.me t → WroteCell old.me t cell value new.me)
    → (new.table_id ≡ old.table_id) × (new.id ≡ old.id) → HasTouched old new (Write cell value)
stored_touch p old new cell value may stored same = record { seat = stored (latest_task old.me.1) (latest_own old.me may.may.task may.may.latest); same = same }

pub touch_kind : (old new : StandValue) (touch : Touch) → HasTouched old new touch → new.me.0.kind ≡ old.me.0.kind
touch_kind old new touch after = ap (λ (me : Seat). me.0.kind) after.seat

-- a write of another value is as good: the value does not count
pub may_write_value : (p : Program) (me : Seat) (cell : ℕ) (any value : ℤ) → MayAccess p me (Writes cell any) → MayAccess p me (Writes cell value)
may_write_value p me cell any value may = record {
  task = may.task;
  latest = may.latest;
  may = record {
    turn = may.may.turn;
    has = may.may.has;
    ready = may.may.ready;
    may = may.may.may;
    made = record { cells = may.may.made.cells; made = may.may.made.made; makes = may.may.made.makes; same = may.may.made.same };
    own = may.may.own;
  };
}
