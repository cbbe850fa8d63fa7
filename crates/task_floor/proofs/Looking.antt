-- What a stand knows after it has looked at the phase of a task.
use Rattle.std.proofs.Common.{◌≡◌, ◌≢◌, ◌⊎◌, ◌==◌, ℕ, Option, Bool, true, false, List, [], ◌∷◌, if◌then◌else◌, refl, sym, ap, subst, ◌∙◌, inl, inr}
use Rattle.twe_base.specs.Limits.{Bounds}
use Rattle.floor_laws.specs.declared.rule.view.Phase.{Phase}
use Rattle.floor_laws.specs.declared.rule.view.Phase.TheVariants as phases
use Rattle.floor_laws.specs.table.Layout.{phase_of_word}
use Rattle.floor_laws.specs.table.Tells.{FoundDone, FoundPhase}
use Rattle.task_floor.proofs.steps.InHand.{found_more, more_same}
use Rattle.floor_laws.specs.admission.admission_core.States.{IsAmong, Record}
use Rattle.floor_laws.specs.rule.nodes.Trees.{WaitFact}
use Rattle.floor_laws.specs.table.Added.{HasGrown}
use Rattle.floor_laws.proofs.table.Added.{grown_by, grown_same}
use Rattle.floor_laws.specs.declared.table.nodes.view.Look.TheVariants.{AtPhase, AtTurn}
use Rattle.floor_laws.specs.declared.table.nodes.view.TreeView.{TreeView}
use Rattle.floor_laws.specs.table.nodes.Looks.{looked_seat}
use Rattle.floor_laws.specs.table.nodes.Follows.{FollowedPhase, Learns, led_on}
use Rattle.floor_laws.specs.table.nodes.FloorSeats.{floor_seat}
use Rattle.floor_laws.specs.table.nodes.Seats.{TreeSeat}
use Rattle.task_floor.specs.Resuming.{KnowsMoreBeside}
use Rattle.task_floor.specs.Turns.{FoundBusy}

-- For the floor's seat it is what loading a phase is on a table without nodes.

learns_floor : (phase : Phase) (a b : TreeSeat) (t : ℕ) → Learns phase a t b
    → ((phase ≡ phases.Done) × FoundDone (floor_seat a) (floor_seat b) t) ⊎ ((phase ≢ phases.Done) × (floor_seat b ≡ floor_seat a))
learns_floor phases.Absent a b t same = inr (λ is. cc (is), ap floor_seat same)
learns_floor phases.Made a b t same = inr (λ is. cc (is), ap floor_seat same)
learns_floor phases.Running a b t same = inr (λ is. cc (is), ap floor_seat same)
learns_floor (phases.Waits on) a b t is = inr (λ same. cc (same), ap floor_seat is)
learns_floor phases.Done a b t (value, is) = inl (refl, record { value = value; seat = ap floor_seat is })
learns_floor phases.Faulted a b t same = inr (λ is. cc (is), ap floor_seat same)

pub found_floor : (lim : Bounds) (a b : TreeSeat) (t found : ℕ) → FollowedPhase lim a t found b → FoundPhase lim (floor_seat a) t found (floor_seat b)
found_floor lim a b t found is = (is.0, is.1, is.2, learns_floor (phase_of_word found) (looked_seat a (AtPhase t found)) b t is.3)

-- Of waits it may know more, and of the nodes nothing else changes.

kept_led : (u t : ℕ) (facts : List WaitFact) (fact : WaitFact) → IsAmong fact facts → IsAmong fact (led_on u t facts)
kept_led u t [] fact none = none
kept_led u t (f ∷ facts) fact among = chosen (f.awaited == u) (kept_led u t facts fact) among
  where
    chosen : (b : Bool) → (IsAmong fact facts → IsAmong fact (led_on u t facts)) → (fact ≡ f) ⊎ IsAmong fact facts
        → IsAmong fact (if b then record { waiter = f.waiter; awaited = t } ∷ f ∷ led_on u t facts else f ∷ led_on u t facts)
    chosen true kept (inl here) = inr (inl here)
    chosen true kept (inr later) = inr (inr (kept later))
    chosen false kept (inl here) = inl here
    chosen false kept (inr later) = inr (kept later)

pub record HasLooked (a b : TreeSeat) : Type 0 where
  pub waits : (fact : WaitFact) → IsAmong fact a.0.waits → IsAmong fact b.0.waits
  pub looks : HasGrown a.0.looks b.0.looks
  pub view : b.0 ≡ record a.0 { floor = b.0.floor; waits = b.0.waits; looks = b.0.looks }
  pub out : b.1 ≡ a.1

looked_same : (a b : TreeSeat) → b ≡ a → HasLooked a b
looked_same a b same = subst (HasLooked a) (sym same) (record { waits = λ fact among. among; looks = grown_same a.0.looks; view = refl; out = refl })

learns_looked : (phase : Phase) (a b : TreeSeat) (t : ℕ) → Learns phase a t b → HasLooked a b
learns_looked phases.Absent a b t same = looked_same a b same
learns_looked phases.Made a b t same = looked_same a b same
learns_looked phases.Running a b t same = looked_same a b same
learns_looked (phases.Waits on) a b t is = subst (HasLooked a) (sym is) (record { waits = λ fact among. inr (kept_led t on a.0.waits fact among); looks = grown_same a.0.looks; view = refl; out = refl })
learns_looked phases.Done a b t (value, is) = subst (HasLooked a) (sym is) (record { waits = λ fact among. among; looks = grown_same a.0.looks; view = refl; out = refl })
learns_looked phases.Faulted a b t same = looked_same a b same

-- what was looked at is the latest look
learns_looks : (phase : Phase) (a b : TreeSeat) (t : ℕ) → Learns phase a t b → b.0.looks ≡ a.0.looks
learns_looks phases.Absent a b t same = ap (λ (m : TreeSeat). m.0.looks) same
learns_looks phases.Made a b t same = ap (λ (m : TreeSeat). m.0.looks) same
learns_looks phases.Running a b t same = ap (λ (m : TreeSeat). m.0.looks) same
learns_looks (phases.Waits on) a b t same = ap (λ (m : TreeSeat). m.0.looks) same
learns_looks phases.Done a b t (value, same) = ap (λ (m : TreeSeat). m.0.looks) same
learns_looks phases.Faulted a b t same = ap (λ (m : TreeSeat). m.0.looks) same

pub latest_look : (lim : Bounds) (a b : TreeSeat) (t found : ℕ) → FollowedPhase lim a t found b → b.0.looks ≡ AtPhase t found ∷ a.0.looks
latest_look lim a b t found is = learns_looks (phase_of_word found) (looked_seat a (AtPhase t found)) b t is.3

pub has_looked : (lim : Bounds) (a b : TreeSeat) (t found : ℕ) → FollowedPhase lim a t found b → HasLooked a b
has_looked lim a b t found is =
    let one = learns_looked (phase_of_word found) (looked_seat a (AtPhase t found)) b t is.3 in
    record { waits = one.waits; looks = grown_by (AtPhase t found) a.0.looks b.0.looks (latest_look lim a b t found is); view = one.view; out = one.out }

-- the view, once what the two calls may change is known
pub clear_same : (a b : TreeSeat) → HasLooked a b → b.0.clear ≡ a.0.clear
clear_same a b looked = ap (λ (v : TreeView). v.clear) looked.view

pub view_with_clear : (a b : TreeSeat) → HasLooked a b → b.0 ≡ record a.0 { floor = b.0.floor; waits = b.0.waits; clear = b.0.clear; looks = b.0.looks }
view_with_clear a b looked =
    looked.view ∙ ap (λ (l : List Record). record a.0 { floor = b.0.floor; waits = b.0.waits; clear = l; looks = b.0.looks }) (sym (clear_same a b looked))

pub looked_more : (lim : Bounds) (a b : TreeSeat) (u t found : ℕ) → FollowedPhase lim a u found b → KnowsMoreBeside a b t
looked_more lim a b u t found is =
    let looked = has_looked lim a b u found is in
    record {
      floor = found_more lim (floor_seat a) (floor_seat b) u found (found_floor lim a b u found is);
      waits = looked.waits;
      looks = looked.looks;
      clear = inl (clear_same a b looked);
      view = view_with_clear a b looked;
      out = looked.out;
    }

-- whoever found a turn busy knows that it looked
pub busy_more : (a b : TreeSeat) (t : ℕ) (holder : Option ℕ) → FoundBusy a b t holder → KnowsMoreBeside a b t
busy_more a b t holder busy =
    subst (λ (m : TreeSeat). KnowsMoreBeside a m t) (sym busy.seat)
    (record {
      floor = more_same (floor_seat a);
      waits = λ fact among. among;
      looks = grown_by (AtTurn t busy.found) a.0.looks (AtTurn t busy.found ∷ a.0.looks) refl;
      clear = inl refl;
      view = refl;
      out = refl;
    })
