-- The frame that a segment leaves.
use Rattle.std.proofs.Common.{◌≡◌, ℕ, ℤ, Bool, true, false, List, Option, None, Some, inl, inr, refl, sym, ap, ◌∙◌, subst, arith}
use Rattle.std.specs.Prelude.{slice_get}
use Rattle.std.proofs.lemmas.Option.{slice_get_within}
use Rattle.twe_base.specs.Limits.{Bounds}
use Rattle.twe_program.specs.Numbering.{Declared}
use Rattle.twe_program.specs.Program.{Program}
use Rattle.seg_meaning.specs.declared.frame.Frame.{Frame}
use Rattle.seg_meaning.specs.declared.frame.Next.{Next}
use Rattle.seg_meaning.specs.declared.frame.Next.TheVariants.{Go, Get, Join, Closing, Ended}
use Rattle.seg_meaning.specs.declared.stop.Stop.{Stop}
use Rattle.seg_meaning.specs.declared.stop.Stop.TheVariants as stops
use Rattle.seg_meaning.specs.Giving.{given, given_by}
use Rattle.seg_meaning.specs.Segment.{Stopped, segment}
use Rattle.machine_state.specs.segment_laws.Keeps.{SegmentKeeps, NextAfter, IsClosing}
use Rattle.machine_state.specs.segment_laws.Ready.{AwaitsMade, IsDeclaredAs, futures_at}
use Rattle.machine_state.proofs.segment_laws.BeingReady.{ready_given, ready_gets, ready_joins}
use Rattle.machine_state.proofs.segment_laws.SegmentKept.{segment_keeps}
use Rattle.machine_state.specs.declared.state.TaskRow.{TaskRow}
use Rattle.machine_state.specs.Moves.{parent_of}
use Rattle.machine_state.proofs.standing.Joining.{ChildrenAre}
use Rattle.machine_state.proofs.standing.Later.{AllStand}
use Rattle.machine_state.proofs.links.LinksAgree.{given_out}
use Rattle.machine_state.proofs.lists.Members.{IsIn, EachOnce, without_once}
use Rattle.machine_state.proofs.standing.Standing.{IsMadeAfter, StandsFor, FrameStands, RowStands}

-- What the taking of a value leaves.

pub record GivenKeeps (frame after : Frame) : Type 0 where
  pub task : after.task ≡ frame.task
  pub decl : after.decl ≡ frame.decl
  pub fuel : after.fuel ≡ frame.fuel
  pub futures : after.futures ≡ frame.futures
  pub prints : after.prints ≡ frame.prints

pub given_keeps : (next : Next) (frame : Frame) (value : ℤ) → GivenKeeps frame (given_by next frame value)
given_keeps Go frame value = record { task = refl; decl = refl; fuel = refl; futures = refl; prints = refl }
given_keeps (Get on into) frame value = record { task = refl; decl = refl; fuel = refl; futures = refl; prints = refl }
given_keeps (Join on into) frame value = record { task = refl; decl = refl; fuel = refl; futures = refl; prints = refl }
given_keeps (Closing on) frame value = record { task = refl; decl = refl; fuel = refl; futures = refl; prints = refl }
given_keeps Ended frame value = record { task = refl; decl = refl; fuel = refl; futures = refl; prints = refl }

given_once : (next : Next) (frame : Frame) (value : ℤ) → EachOnce frame.out.items → EachOnce (given_by next frame value).out.items
given_once Go frame value once = once
given_once (Get on into) frame value once = once
given_once (Join on into) frame value once = without_once frame.out.items on once
given_once (Closing on) frame value once = without_once frame.out.items on once
given_once Ended frame value once = once

-- What comes next after a segment.

pub closing_after : (stop : Stop) (frame : Frame) (on : ℕ) → NextAfter stop frame → frame.next ≡ Closing on → IsClosing frame on
closing_after (stops.Make child args effects spawned future place) frame on h is = absurd (cc (h, is))
closing_after (stops.Waits other) frame on h is = absurd (cc (h.1, is))
closing_after (stops.Joins other) frame on h is =
    elim h [
      | inl join ↦ absurd (cc (join.1, is))
      | inr closing ↦ let same : other ≡ on = cc (closing.next, is) in subst (IsClosing frame) same closing
    ]
closing_after (stops.Done value) frame on h is = absurd (cc (h.0, is))
closing_after (stops.Fault kind place) frame on h is = absurd (cc (h.0, is))

ended_after : (stop : Stop) (frame : Frame) → NextAfter stop frame → frame.next ≡ Ended → frame.body ≡ None
ended_after (stops.Make child args effects spawned future place) frame h is = absurd (cc (h, is))
ended_after (stops.Waits other) frame h is = absurd (cc (h.1, is))
ended_after (stops.Joins other) frame h is = elim h [ inl join ↦ absurd (cc (join.1, is)) | inr closing ↦ absurd (cc (closing.next, is)) ]
ended_after (stops.Done value) frame h is = h.1
ended_after (stops.Fault kind place) frame h is = h.1

declared_as : (o : Option Declared) (declared : Declared) (spawned : Bool) → o ≡ Some declared → IsDeclaredAs o spawned → declared.spawned ≡ spawned
declared_as None declared spawned is h = absurd h
declared_as (Some other) declared spawned is h = let same : other ≡ declared = cc in ap (λ (d : Declared). d.spawned) (sym same) ∙ h

module _ (p : Program) (lim : Bounds) (rows : List TaskRow) (all : AllStand p lim rows) (t : ℕ) (row : TaskRow) (stands : RowStands p lim rows t row)
    (children : ChildrenAre rows t row.frame.out.items) (value : ℤ) (cells : List ℤ) where
  abbrev before : Frame
  before = given row.frame value

  abbrev after : Stopped
  after = segment p before cells

  keeps : SegmentKeeps before cells after
  keeps = segment_keeps p before cells

  of_given : GivenKeeps row.frame before
  of_given = given_keeps row.frame.next row.frame value

  same_futures : after.frame.futures ≡ row.frame.futures
  same_futures = keeps.futures ∙ of_given.futures

  same_decl : after.frame.decl ≡ row.frame.decl
  same_decl = keeps.decl ∙ of_given.decl

  future_before : (f u : ℕ) → slice_get after.frame.futures f ≡ Some (Some u) → slice_get row.frame.futures f ≡ Some (Some u)
  future_before f u is = subst (λ (l : List (Option ℕ)). slice_get l f ≡ Some (Some u)) same_futures is

  -- what is waited for is a task that a future stands for
  awaited_made : (spawned : Bool) (on : ℕ) → AwaitsMade p before spawned on → IsMadeAfter rows t (parent_of t spawned) on
  awaited_made spawned on awaits =
      let stands_for = stands.frame.futures awaits.future on (subst (λ (l : List (Option ℕ)). slice_get l awaits.future ≡ Some (Some on)) of_given.futures awaits.stands) in
      let kinds : IsDeclaredAs (slice_get (futures_at p row.frame.decl) awaits.future) spawned
      = subst (λ (n : ℕ). IsDeclaredAs (slice_get (futures_at p n) awaits.future) spawned) of_given.decl awaits.declared in
      let kind : stands_for.declared.spawned ≡ spawned = declared_as (slice_get (futures_at p row.frame.decl) awaits.future) stands_for.declared spawned stands_for.found kinds in
      record {
        row = stands_for.made.row;
        there = stands_for.made.there;
        above = stands_for.made.above;
        below = stands_for.made.below;
        parent_is = stands_for.made.parent_is ∙ ap (parent_of t) kind;
      }

  -- an unjoined child was made after the task
  child_made : (on : ℕ) → IsIn on row.frame.out.items → IsMadeAfter rows t (Some t) on
  child_made on h =
      let child = (children on).0 h in record {
        row = child.row;
        there = child.there;
        above = (all on child.row child.there).parent t child.parent;
        below = slice_get_within rows on child.row child.there;
        parent_is = child.parent;
      }

  closing_child : (on : ℕ) → IsClosing after.frame on → IsMadeAfter rows t (Some t) on
  closing_child on closing =
      let there : IsIn on after.frame.out.items = subst (IsIn on) (sym closing.out) (inl refl) in
      child_made on (given_out row.frame.next row.frame value on (subst (IsIn on) keeps.out there))

  is_closing : (on : ℕ) → after.frame.next ≡ Closing on → IsClosing after.frame on
  is_closing on is = closing_after after.stop after.frame on keeps.next is

  pub segment_stands : FrameStands p lim rows t after.frame
  segment_stands = record {
    number = keeps.task ∙ (of_given.task ∙ stands.frame.number);
    fuel = let same : before.fuel ≡ row.frame.fuel = of_given.fuel in omega (arith, keeps.fuel, same, stands.frame.fuel);
    futures = λ f u is. subst (λ (n : ℕ). StandsFor p rows t n f u) (sym same_decl) (stands.frame.futures f u (future_before f u is));
    apart = λ f g u is other. stands.frame.apart f g u (future_before f u is) (future_before g u other);
    once = subst EachOnce (sym keeps.out) (given_once row.frame.next row.frame value stands.frame.once);
    getting = λ on into is. awaited_made false on (ready_gets p before cells (ready_given p row.frame value stands.ready) on into is);
    joining = λ on into is. awaited_made true on (ready_joins p before cells (ready_given p row.frame value stands.ready) on into is);
    closing = is_closing;
    awaited_child = λ on is. closing_child on (is_closing on is);
    ended = λ is. ended_after after.stop after.frame keeps.next is;
  }
