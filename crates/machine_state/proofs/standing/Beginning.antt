-- The row of a new task, and the frame of the task that has made it.
use Rattle.std.proofs.Common.{◌≡◌, ◌≢◌, ◌⊎◌, ◌<◌, ℕ, zero, suc, ℤ, Bool, true, false, List, [], ◌∷◌, ◌++◌, length, replicate, Option, None, Some, inl, inr, refl, sym, ◌∙◌, subst, arith}
use Rattle.std.specs.Prelude.{slice_get, slice_set}
use Rattle.std.specs.Option.{ForSome}
use Rattle.twe_base.specs.Limits.{Bounds}
use Rattle.twe_program.specs.Fitting.{TakesArguments}
use Rattle.twe_program.specs.Program.{Program}
use Rattle.twe_program.specs.WellFormed.{IsWellFormed}
use Rattle.seg_meaning.specs.declared.frame.Frame.{Frame}
use Rattle.seg_meaning.specs.declared.frame.Next.TheVariants.{Go}
use Rattle.seg_meaning.specs.Entry.{effects_at, entry_frame, future_count_of}
use Rattle.machine_state.proofs.segment_laws.BeingReady.{entry_ready, ready_same}
use Rattle.machine_state.specs.declared.state.TaskRow.{TaskRow}
use Rattle.machine_state.specs.declared.state.TaskStatus.TheVariants.{Made, Done}
use Rattle.machine_state.specs.Moves.{new_row, status_at_start, out_with, making_frame}
use Rattle.machine_state.proofs.standing.Later.{later_put, stands_later}
use Rattle.machine_state.proofs.lists.Members.{IsIn, EachOnce, put_once}
use Rattle.machine_state.proofs.lists.Places.{set_cases}
use Rattle.machine_state.proofs.standing.Standing.{StandsFor, FrameStands, IsOver, RowStands}

no_future : (n f u : ℕ) → slice_get (replicate {A = Option ℕ} n None) f ≡ Some (Some u) → ⊥
no_future zero f u e = cc
no_future (suc n) zero u e = cc
no_future (suc n) (suc f) u e = no_future n f u e

-- a new task has not begun
not_over_at : (parent : Option ℕ) → ¬ IsOver (status_at_start parent)
not_over_at None over = over
not_over_at (Some q) over = over

not_done_at : (parent : Option ℕ) → status_at_start parent ≢ Done
not_done_at None is = cc
not_done_at (Some q) is = cc

module _ (p : Program) (lim : Bounds) (rows : List TaskRow) (number : ℕ) where
  entry_stands : (task : ℕ) (args : List ℤ) → FrameStands p lim rows number (record (entry_frame p task args) { task = number; fuel = lim.fuel })
  entry_stands task args = record {
    number = refl;
    fuel = omega arith;
    futures = λ f u is. absurd (no_future (future_count_of (slice_get p.tasks task)) f u is);
    apart = λ f g u is other. absurd (no_future (future_count_of (slice_get p.tasks task)) f u is);
    once = tt;
    getting = λ on into is. absurd (cc (is));
    joining = λ on into is. absurd (cc (is));
    closing = λ on is. absurd (cc (is));
    awaited_child = λ on is. absurd (cc (is));
    ended = λ is. absurd (cc (is));
  }

  made_as : (task : ℕ) (args : List ℤ) (parent : Option ℕ) → status_at_start parent ≡ Made
      → new_row lim number parent (entry_frame p task args) args (effects_at p task args) ≡ new_row lim number None (entry_frame p task args) args (effects_at p task args)
  made_as task args None is = refl
  made_as task args (Some q) is = absurd (cc (is))

  -- the row of a new task of this number
  pub new_stands : IsWellFormed p → (task : ℕ) (args : List ℤ) (parent : Option ℕ) → TakesArguments (slice_get p.tasks task) (length args) → ForSome parent (λ q. q < number)
      → RowStands p lim rows number (new_row lim number parent (entry_frame p task args) args (effects_at p task args))
  new_stands well task args parent takes below = record {
    frame = entry_stands task args;
    ready = ready_same p (entry_frame p task args) (record (entry_frame p task args) { task = number; fuel = lim.fuel }) refl refl refl (entry_ready p well task args);
    decl = refl;
    out = refl;
    prints = refl;
    count = takes;
    effects = refl;
    parent = below;
    made = made_as task args parent;
    over = λ over. absurd (not_over_at parent over);
    ended = λ is. absurd (cc (is));
    done = λ is. refl;
    joined = λ is. absurd (cc (is));
  }

out_with_once : (spawned : Bool) (number : ℕ) (out : List ℕ) → EachOnce out → ¬ IsIn number out → EachOnce (out_with spawned number out)
out_with_once true number out once fresh = put_once out number once fresh
out_with_once false number out once fresh = once

-- The frame of the task t that has made the task whose row is put after the others.
module _ (p : Program) (lim : Bounds) (rows : List TaskRow) (t : ℕ) (frame : Frame) (stands : FrameStands p lim rows t frame) (go : frame.next ≡ Go)
    (new : TaskRow) (future : ℕ) (spawned : Bool) (made : StandsFor p (rows ++ new ∷ []) t frame.decl future (length rows)) where
  set_future : (f u : ℕ) → slice_get (slice_set frame.futures future (Some (length rows))) f ≡ Some (Some u) → ((f ≡ future) × (u ≡ length rows)) ⊎ (slice_get frame.futures f ≡ Some (Some u))
  set_future f u is =
      elim (set_cases frame.futures future f (Some (length rows)) (Some u) is) [
        | inl own ↦ let same : u ≡ length rows = cc (own.1) in inl (own.0, same)
        | inr other ↦ inr other.1
      ]

  future_below : (f u : ℕ) → slice_get frame.futures f ≡ Some (Some u) → u < length rows
  future_below f u is = (stands.futures f u is).made.below

  stands_for : (f u : ℕ) → slice_get (slice_set frame.futures future (Some (length rows))) f ≡ Some (Some u) → StandsFor p (rows ++ new ∷ []) t frame.decl f u
  stands_for f u is =
      elim (set_future f u is) [
        | inl own ↦
            subst (λ (n : ℕ). StandsFor p (rows ++ new ∷ []) t frame.decl n u) (sym own.0)
            (subst (λ (n : ℕ). StandsFor p (rows ++ new ∷ []) t frame.decl future n) (sym own.1) made)
        | inr old ↦ stands_later p rows (rows ++ new ∷ []) t frame.decl f u (later_put rows new) (stands.futures f u old)
      ]

  futures_apart : (f g u : ℕ) → slice_get (slice_set frame.futures future (Some (length rows))) f ≡ Some (Some u)
      → slice_get (slice_set frame.futures future (Some (length rows))) g ≡ Some (Some u) → f ≡ g
  futures_apart f g u is other =
      elim (set_future f u is) [
        | inl own ↦ elim (set_future g u other) [
          | inl too ↦ own.0 ∙ sym too.0
          | inr old ↦ let last : u ≡ length rows = own.1 in absurd (omega (arith, last, future_below g u old))
        ]
        | inr old ↦ elim (set_future g u other) [
          | inl own ↦ let last : u ≡ length rows = own.1 in absurd (omega (arith, last, future_below f u old))
          | inr too ↦ stands.apart f g u old too
        ]
      ]

  pub maker_stands : ¬ IsIn (length rows) frame.out.items → FrameStands p lim (rows ++ new ∷ []) t (making_frame future spawned (length rows) frame)
  maker_stands fresh = record {
    number = stands.number;
    fuel = stands.fuel;
    futures = stands_for;
    apart = futures_apart;
    once = out_with_once spawned (length rows) frame.out.items stands.once fresh;
    getting = λ on into is. absurd (cc (go, is));
    joining = λ on into is. absurd (cc (go, is));
    closing = λ on is. absurd (cc (go, is));
    awaited_child = λ on is. absurd (cc (go, is));
    ended = λ is. absurd (cc (go, is));
  }
