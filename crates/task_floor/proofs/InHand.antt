-- A segment with a cell in hand: what stays true of it when the cell is read or written again, put down, or another is taken.
use Rattle.std.proofs.Common.{◌≡◌, ◌≢◌, ◌<◌, ℕ, zero, suc, ℤ, Bool, List, [], ◌∷◌, length, Option, None, Some, if◌then◌else◌, refl, sym, ap, subst, ◌∙◌, ⊎_elim, eq-eqb, ne_eqb}
use Rattle.std.specs.Prelude.{nat_eq, slice_set}
use Rattle.std.proofs.lemmas.Bool.{cases_eq}
use Rattle.twe_base.specs.Limits.{Bounds}
use Rattle.twe_program.specs.Program.{Program, cell_count}
use Rattle.seg_meaning.specs.Access.{Agrees, HasRead, HasWritten, KnowsNow, MaySame, Reads, Writes, after}
use Rattle.floor_laws.specs.declared.rule.view.OpenSegment.{OpenSegment}
use Rattle.floor_laws.specs.declared.rule.view.Touch.{Touch}
use Rattle.floor_laws.specs.declared.rule.view.Touch.TheVariants.{Read, Write}
use Rattle.floor_laws.specs.rule.Touches.{access_by, accesses_of, cell_at, touches_of}
use Rattle.floor_laws.proofs.rule.AccessLemmas.{after_length}
use Rattle.floor_laws.proofs.rule.LastTouches.{last_is, set_here}
use Rattle.floor_laws.proofs.rule.Puts.{none_some, some_one}
use Rattle.floor_laws.specs.table.Tells.{IsLastTouch, Seat}
use Rattle.floor_laws.specs.declared.table.nodes.view.TreeView.{TreeView}
use Rattle.floor_laws.specs.table.nodes.FloorSeats.{floor_seat, tasks_out}
use Rattle.task_floor.specs.declared.in_hand.CellInHand.{CellInHand}
use Rattle.task_floor.specs.declared.in_hand.CellInHand.TheVariants.{Nothing, Known, Written}
use Rattle.task_floor.specs.Segments.{HasTouched, MayReadCell, MayWriteCell, stand_knows}
use Rattle.task_floor.specs.Stands.{TreeStand}
use Rattle.task_floor.specs.inner.InHand.{GoesOver, HandFits, IsFreeFor, SegView, TouchesAlone, known_with, seg_knows, seg_ways, stand_accesses, value_in_hand, with_hand}
use Rattle.task_floor.specs.steps.Segments.{latest_task}
use Rattle.task_floor.proofs.Touching as touching

abbrev some_if : ℕ → ℕ → ℤ → Option ℤ → Option ℤ
some_if k c value last = if nat_eq k c then Some value else last

if_here : (k c : ℕ) (value : ℤ) (last : Option ℤ) → k ≡ c → some_if k c value last ≡ Some value
if_here k c value last same = ap (λ (b : Bool). if b then Some value else last) (eq-eqb k c same)

if_else : (k c : ℕ) (value : ℤ) (last : Option ℤ) → k ≢ c → some_if k c value last ≡ last
if_else k c value last other = ap (λ (b : Bool). if b then Some value else last) (ne_eqb k c other)

-- What is known.

-- the value in hand is the one that is known
pub known_in_hand : (hand : CellInHand) (known : ℕ → Option ℤ) (c : ℕ) (value : ℤ) → value_in_hand hand c ≡ Some value → known_with hand known c ≡ Some value
known_in_hand Nothing known c value is = absurd (none_some is)
known_in_hand (Known cell held) known c value is =
    ⊎_elim
    (λ (same : c ≡ cell). if_here c cell held (known c) same ∙ (sym (if_here c cell held None same) ∙ is))
    (λ (other : c ≢ cell). absurd (none_some (sym (if_else c cell held None other) ∙ is)))
    (cases_eq c cell)
known_in_hand (Written cell held) known c value is =
    ⊎_elim
    (λ (same : c ≡ cell). if_here c cell held (known c) same ∙ (sym (if_here c cell held None same) ∙ is))
    (λ (other : c ≢ cell). absurd (none_some (sym (if_else c cell held None other) ∙ is)))
    (cases_eq c cell)

-- a value that was known is known again
knows_again : (known : ℕ → Option ℤ) (c : ℕ) (value : ℤ) → known c ≡ Some value → KnowsNow known c value known
knows_again known c value is k =
    ⊎_elim
    (λ (same : k ≡ c). ap known same ∙ (is ∙ sym (if_here k c value (known k) same)))
    (λ (other : k ≢ c). sym (if_else k c value (known k) other))
    (cases_eq k c)

-- a cell that is taken in hand while no other one is: what was known of others still is
knows_written : (hand : CellInHand) (known : ℕ → Option ℤ) (c : ℕ) (value : ℤ) → IsFreeFor hand c → KnowsNow (known_with hand known) c value (known_with (Written c value) known)
knows_written Nothing known c value free k = refl
knows_written (Known cell held) known c value same k =
    ⊎_elim
    (λ (here : k ≡ c). if_here k c value (known k) here ∙ sym (if_here k c value (some_if k cell held (known k)) here))
    (λ (other : k ≢ c). if_else k c value (known k) other ∙ (sym (if_else k cell held (known k) (λ here. other (here ∙ same))) ∙ sym (if_else k c value (some_if k cell held (known k)) other)))
    (cases_eq k c)
knows_written (Written cell held) known c value same k =
    ⊎_elim
    (λ (here : k ≡ c). if_here k c value (known k) here ∙ sym (if_here k c value (some_if k cell held (known k)) here))
    (λ (other : k ≢ c). if_else k c value (known k) other ∙ (sym (if_else k cell held (known k) (λ here. other (here ∙ same))) ∙ sym (if_else k c value (some_if k cell held (known k)) other)))
    (cases_eq k c)

-- Stands.

pub alone_itself : (stand : TreeStand) → TouchesAlone stand stand
alone_itself stand = record { seat = refl; own = λ own. own; view = refl; same = (refl, refl) }

pub alone_then : (a b c : TreeStand) → TouchesAlone a b → TouchesAlone b c → TouchesAlone a c
alone_then a b c one two =
    let latest : latest_task (tasks_out b.me.1) ≡ latest_task (tasks_out a.me.1) = ap (λ (me : Seat). latest_task me.1) one.seat in
    record {
      seat = two.seat ∙ ap (λ (me : Seat). (record me.0 { segment = c.me.0.floor.segment }, me.1)) one.seat;
      own = λ own s is. two.own (λ t here. one.own own t here ∙ sym latest) s is ∙ latest;
      view = two.view ∙ ap (λ (v : TreeView). record v { floor = c.me.0.floor }) one.view;
      same = (two.same.0 ∙ one.same.0, two.same.1 ∙ one.same.1);
    }

module _ (lim : Bounds) (old new : TreeStand) (touch : Touch) (after_it : HasTouched lim old new touch) where
  segment_now : new.me.0.floor.segment ≡ Some (record { task = latest_task (tasks_out old.me.1); touches = touch ∷ touches_of old.me.0.floor.segment })
  segment_now = ap (λ (me : Seat). me.0.segment) after_it.floor.seat

  pub touches_alone : TouchesAlone old new
  touches_alone = record {
    seat = after_it.floor.seat ∙ ap (λ (o : Option OpenSegment). (record old.me.0.floor { segment = o }, tasks_out old.me.1)) (sym segment_now);
    own = λ own s is. sym (ap (λ (o : OpenSegment). o.task) (some_one (sym segment_now ∙ is)));
    view = after_it.stays.view;
    same = after_it.floor.same;
  }

  accesses_now : stand_accesses new ≡ access_by touch ∷ stand_accesses old
  accesses_now = ap (λ (o : Option OpenSegment). accesses_of (touches_of o)) segment_now

-- the same may be read and written, and that again
same_then : (p : Program) (a b c : SegView) → MaySame (seg_ways p) a b → MaySame (seg_ways p) b c → MaySame (seg_ways p) a c
same_then p a b c one two = record {
  read = λ k. (λ may. (two.read k).0 ((one.read k).0 may), λ may. (one.read k).1 ((two.read k).1 may));
  write = λ k. (λ may. (two.write k).0 ((one.write k).0 may), λ may. (one.write k).1 ((two.write k).1 may));
}

same_stand : (p : Program) (a b : SegView) → a.stand ≡ b.stand → MaySame (seg_ways p) a b
same_stand p a b same = record {
  read = λ k. (λ may. subst (λ (s : TreeStand). MayReadCell p s k) same may, λ may. subst (λ (s : TreeStand). MayReadCell p s k) (sym same) may);
  write = λ k. (λ may. subst (λ (s : TreeStand). MayWriteCell p s k) same may, λ may. subst (λ (s : TreeStand). MayWriteCell p s k) (sym same) may);
}

-- What it stands for.

-- of two writes of a cell the later one counts
set_twice : (cells : List ℤ) (c : ℕ) (one two : ℤ) → slice_set (slice_set cells c one) c two ≡ slice_set cells c two
set_twice [] c one two = refl
set_twice (x ∷ cells) zero one two = refl
set_twice (x ∷ cells) (suc c) one two = ap (λ (l : List ℤ). x ∷ l) (set_twice cells c one two)

write_counts : (hand : CellInHand) (c : ℕ) (value : ℤ) → IsFreeFor hand c → (cells : List ℤ) → slice_set (with_hand hand cells) c value ≡ slice_set cells c value
write_counts Nothing c value free cells = refl
write_counts (Known cell held) c value same cells = refl
write_counts (Written cell held) c value same cells = ap (λ (k : ℕ). slice_set (slice_set cells k held) c value) same ∙ set_twice cells c held value

-- the cell in hand has its value after the touches and what is in hand
in_hand_there : (p : Program) (stand : TreeStand) (hand : CellInHand) (c : ℕ) (value : ℤ) → HandFits p stand hand → value_in_hand hand c ≡ Some value
    → (cells : List ℤ) → length cells ≡ cell_count p → Agrees cells (stand_accesses stand) → cell_at (with_hand hand (after cells (stand_accesses stand))) c ≡ value
in_hand_there p stand Nothing c value fits is cells size agrees = absurd (none_some is)
in_hand_there p stand (Known cell held) c value fits is cells size agrees =
    let left = after cells (stand_accesses stand) in
    ⊎_elim
    (λ (same : c ≡ cell).
    let room : cell < length cells = subst (λ (n : ℕ). cell < n) (sym size) fits.0 in
    ap (cell_at left) same ∙ (last_is cells (touches_of stand.me.0.floor.segment) cell held room agrees fits.1 ∙ some_one (sym (if_here c cell held None same) ∙ is)))
    (λ (other : c ≢ cell). absurd (none_some (sym (if_else c cell held None other) ∙ is)))
    (cases_eq c cell)
in_hand_there p stand (Written cell held) c value fits is cells size agrees =
    let left = after cells (stand_accesses stand) in
    ⊎_elim
    (λ (same : c ≡ cell).
    let room : cell < length left = subst (λ (n : ℕ). cell < n) (sym (after_length cells (stand_accesses stand) ∙ size)) fits.below in
    ap (cell_at (slice_set left cell held)) same ∙ (set_here left cell held room ∙ some_one (sym (if_here c cell held None same) ∙ is)))
    (λ (other : c ≢ cell). absurd (none_some (sym (if_else c cell held None other) ∙ is)))
    (cases_eq c cell)

-- The cell in hand is read again.
module _ (p : Program) (stand : TreeStand) (hand : CellInHand) (fits : HandFits p stand hand) (c : ℕ) (value : ℤ) (is : value_in_hand hand c ≡ Some value) where
  abbrev seg : SegView
  seg = record { stand = stand; hand = hand }

  known_here : seg_knows seg c ≡ Some value
  known_here = known_in_hand hand (stand_knows stand) c value is

  pub read_again : HasRead (seg_ways p) (record { stand = stand; hand = hand }) c value (record { stand = stand; hand = hand })
  read_again = record {
    answer = λ v known. some_one (sym known_here ∙ known);
    known = knows_again (seg_knows seg) c value known_here;
    same = same_stand p seg seg refl;
    rule = record {
      shows = λ accesses shows. record {
        agree = λ cells size agrees. (shows.agree cells size agrees, ap (λ (l : List ℤ). cell_at l c) (shows.same cells size agrees) ∙ in_hand_there p stand hand c value fits is cells size agrees);
        same = shows.same;
      };
      alone = alone_itself stand;
    };
  }

-- A cell is written while no other one is in hand.
module _ (p : Program) (old mid : SegView) (goes : GoesOver p old mid) (c : ℕ) (value : ℤ) (free : IsFreeFor mid.hand c) where
  abbrev written : SegView
  written = record { stand = mid.stand; hand = Written c value }

  pub write_here : HasWritten (seg_ways p) old c value (record { stand = mid.stand; hand = Written c value })
  write_here = record {
    known = λ k. knows_written mid.hand (stand_knows mid.stand) c value free k ∙ ap (λ (o : Option ℤ). some_if k c value o) (goes.known k);
    same = same_then p old mid written goes.same (same_stand p mid written refl);
    rule = record {
      shows = λ accesses shows.
          let now = goes.shows accesses shows in
          record {
            agree = now.agree;
            same = λ cells size agrees. ap (λ (l : List ℤ). slice_set l c value) (now.same cells size agrees) ∙ write_counts mid.hand c value free (after cells (stand_accesses mid.stand));
          };
      alone = goes.alone;
    };
  }

-- The cell in hand is put down.

pub put_nothing : (p : Program) (stand : TreeStand) (hand : CellInHand) → with_hand hand ≡ with_hand Nothing → ((k : ℕ) → known_with hand (stand_knows stand) k ≡ stand_knows stand k)
    → GoesOver p (record { stand = stand; hand = hand }) (record { stand = stand; hand = Nothing })
put_nothing p stand hand same known = record {
  known = λ k. sym (known k);
  same = same_stand p (record { stand = stand; hand = hand }) (record { stand = stand; hand = Nothing }) refl;
  shows = λ accesses shows. record {
    agree = shows.agree;
    same = λ cells size agrees. shows.same cells size agrees ∙ ap (λ (f : List ℤ → List ℤ). f (after cells (stand_accesses stand))) same;
  };
  alone = alone_itself stand;
}

known_as_stand : (known : ℕ → Option ℤ) (cell : ℕ) (value : ℤ) → known cell ≡ Some value → (k : ℕ) → some_if k cell value (known k) ≡ known k
known_as_stand known cell value is k =
    ⊎_elim
    (λ (same : k ≡ cell). if_here k cell value (known k) same ∙ (sym is ∙ sym (ap known same)))
    (λ (other : k ≢ cell). if_else k cell value (known k) other)
    (cases_eq k cell)

-- a value that the floor has is forgotten
pub put_known : (p : Program) (stand : TreeStand) (cell : ℕ) (value : ℤ) → HandFits p stand (Known cell value) → GoesOver p (record { stand = stand; hand = Known cell value }) (record { stand = stand; hand = Nothing })
put_known p stand cell value fits = put_nothing p stand (Known cell value) refl (known_as_stand (stand_knows stand) cell value fits.1)

-- a value that the floor does not have is stored
pub put_written : (p : Program) (lim : Bounds) (old new : TreeStand) (cell : ℕ) (value : ℤ) → MayWriteCell p old cell → HasTouched lim old new (Write cell value)
    → GoesOver p (record { stand = old; hand = Written cell value }) (record { stand = new; hand = Nothing })
put_written p lim old new cell value may touched = record {
  known = touching.knows_written lim old new cell value touched;
  same = record { read = (touching.may_same p lim old new (Write cell value) touched (Writes cell may.value) may.may).read; write = (touching.may_same p lim old new (Write cell value) touched (Writes cell may.value) may.may).write };
  shows = λ accesses shows. record {
    agree = λ cells size agrees. shows.agree cells size (subst (Agrees cells) (accesses_now lim old new (Write cell value) touched) agrees);
    same = λ cells size agrees.
        shows.same cells size (subst (Agrees cells) (accesses_now lim old new (Write cell value) touched) agrees) ∙ sym (ap (after cells) (accesses_now lim old new (Write cell value) touched));
  };
  alone = touches_alone lim old new (Write cell value) touched;
}

-- Another cell is read while none is in hand.
module _ (p : Program) (lim : Bounds) (old : SegView) (mid new : TreeStand) (goes : GoesOver p old (record { stand = mid; hand = Nothing })) (c : ℕ) (value : ℤ)
    (may : MayReadCell p mid c) (last : IsLastTouch (floor_seat mid.me) c value) (touched : HasTouched lim mid new (Read c value)) where
  abbrev taken : SegView
  taken = record { stand = new; hand = Known c value }

  abbrev bare : SegView
  bare = record { stand = mid; hand = Nothing }

  stand_now : (k : ℕ) → stand_knows new k ≡ some_if k c value (stand_knows mid k)
  stand_now = touching.knows_read lim mid new c value touched

  now : (k : ℕ) → seg_knows taken k ≡ some_if k c value (seg_knows old k)
  now k =
      ⊎_elim
      (λ (same : k ≡ c). if_here k c value (stand_knows new k) same ∙ sym (if_here k c value (seg_knows old k) same))
      (λ (other : k ≢ c). if_else k c value (stand_knows new k) other ∙ (stand_now k ∙ ap (λ (o : Option ℤ). some_if k c value o) (goes.known k)))
      (cases_eq k c)

  still : MaySame (seg_ways p) bare taken
  still = record { read = (touching.may_same p lim mid new (Read c value) touched (Reads c may.value) may.may).read; write = (touching.may_same p lim mid new (Read c value) touched (Reads c may.value) may.may).write }

  pub read_new : HasRead (seg_ways p) old c value (record { stand = new; hand = Known c value })
  read_new = record {
    answer = λ v known. last v (goes.known c ∙ known);
    known = now;
    same = same_then p old bare taken goes.same still;
    rule = record {
      shows = λ accesses shows.
          let before = goes.shows accesses shows in
          let list = accesses_now lim mid new (Read c value) touched in
          record {
            agree = λ cells size agrees.
                let both : Agrees cells (Reads c value ∷ stand_accesses mid) = subst (Agrees cells) list agrees in
                (before.agree cells size both.0, ap (λ (l : List ℤ). cell_at l c) (before.same cells size both.0) ∙ both.1);
            same = λ cells size agrees.
                let both : Agrees cells (Reads c value ∷ stand_accesses mid) = subst (Agrees cells) list agrees in
                before.same cells size both.0 ∙ sym (ap (after cells) list);
          };
      alone = alone_then old.stand mid new goes.alone (touches_alone lim mid new (Read c value) touched);
    };
  }

  -- and its value is the one that the stand knows
  pub taken_fits : HandFits p new (Known c value)
  taken_fits = (may.below, stand_now c ∙ if_here c c value (stand_knows mid c) refl)

-- what is true of a segment to which nothing happens
pub goes_nowhere : (p : Program) (seg : SegView) → GoesOver p seg seg
goes_nowhere p seg = record { known = λ k. refl; same = same_stand p seg seg refl; shows = λ accesses shows. shows; alone = alone_itself seg.stand }

-- whoever has the cell in hand has no other one
pub free_if_known : (hand : CellInHand) (c : ℕ) (value : ℤ) → value_in_hand hand c ≡ Some value → IsFreeFor hand c
free_if_known Nothing c value is = tt
free_if_known (Known cell held) c value is =
    ⊎_elim (λ (same : c ≡ cell). sym same) (λ (other : c ≢ cell). absurd (none_some (sym (if_else c cell held None other) ∙ is))) (cases_eq c cell)
free_if_known (Written cell held) c value is =
    ⊎_elim (λ (same : c ≡ cell). sym same) (λ (other : c ≢ cell). absurd (none_some (sym (if_else c cell held None other) ∙ is))) (cases_eq c cell)
