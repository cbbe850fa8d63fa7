-- A segment that is carried out over a stand may make its accesses.
use Rattle.std.proofs.Common.{◌≡◌, ◌<◌, ℕ, suc, ℤ, pos, List, [], ◌∷◌, length, replicate, Contains, refl, sym, subst, ◌∙◌, inl, inr, arith}
use Rattle.std.proofs.lemmas.List.{length-replicate}
use Rattle.twe_program.specs.Program.{Program, cell_count}
use Rattle.twe_program.specs.WellFormed.{IsWellFormed}
use Rattle.seg_meaning.specs.declared.frame.Frame.{Frame}
use Rattle.seg_meaning.specs.Access.{Access, Reads, Writes, Prints, MayAll}
use Rattle.seg_meaning.specs.Plain.{list_ways}
use Rattle.seg_meaning.specs.Segment.{MayCarryOut, segment}
use Rattle.seg_meaning.proofs.Accesses.{may_carry_out}
use Rattle.floor_laws.specs.declared.rule.view.HeldTurn.{HeldTurn}
use Rattle.floor_laws.specs.admission.admission_core.States.{IsAmong}
use Rattle.floor_laws.proofs.rule.Puts.{none_some}
use Rattle.task_floor.specs.steps.Segments.{MayRunSegment, StandValue}
use Rattle.task_floor.specs.steps.Stands.{MayAccess}
use Rattle.task_floor.proofs.steps.Touching.{stand_ways}

among_contains : (xs : List Access) (x : Access) → IsAmong x xs → Contains xs x
among_contains [] x none = absurd none
among_contains (y ∷ ys) x (inl same) = (0, omega arith, sym same)
among_contains (y ∷ ys) x (inr later) = let found = among_contains ys x later in (suc found.0, omega (arith, found.1), found.2)

module _ (p : Program) (stand : StandValue) (t : ℕ) (turn : HeldTurn) (ready : Frame) (may : MayRunSegment stand.me t turn ready) (cells : List ℤ) where
  may_make : (x : Access) → Contains (segment p ready cells).accesses x → MayAccess p stand.me x
  may_make x made = record {
    task = t;
    latest = may.latest;
    may = record {
      turn = turn;
      has = may.has;
      ready = ready;
      may = may.may;
      made = record { cells = cells; made = x; makes = made; same = refl };
      own = λ s is. absurd (none_some (sym may.closed ∙ is));
    };
  }

  -- the accesses that a plain list of enough cells allows
  may_each : (bound : List ℤ) → length bound ≡ cell_count p → (some : List Access) → ((x : Access) → IsAmong x some → Contains (segment p ready cells).accesses x) → MayAll list_ways bound some
      → MayAll (stand_ways p) stand some
  may_each bound size [] made within = tt
  may_each bound size (Reads cell value ∷ earlier) made within =
      (record { below = subst (λ (n : ℕ). cell < n) size within.0; value = value; may = may_make (Reads cell value) (made (Reads cell value) (inl refl)) }, may_each bound size earlier (λ x among. made x (inr among)) within.1)
  may_each bound size (Writes cell value ∷ earlier) made within =
      (record { below = subst (λ (n : ℕ). cell < n) size within.0; value = value; may = may_make (Writes cell value) (made (Writes cell value) (inl refl)) }, may_each bound size earlier (λ x among. made x (inr among)) within.1)
  may_each bound size (Prints value ∷ earlier) made within = may_each bound size earlier (λ x among. made x (inr among)) within

pub may_carry : (p : Program) → IsWellFormed p → (stand : StandValue) (t : ℕ) (turn : HeldTurn) (ready : Frame) → MayRunSegment stand.me t turn ready → MayCarryOut p (stand_ways p) ready stand
may_carry p well stand t turn ready may cells =
    let bound : List ℤ = replicate (cell_count p) (pos 0) in
    let size : length bound ≡ cell_count p = length-replicate (cell_count p) (pos 0) in
    let all = (segment p ready cells).accesses in
    may_each p stand t turn ready may cells bound size all (among_contains all) (may_carry_out p well bound size ready cells)
