-- The rules on effects move with places.
use Rattle.std.proofs.Common.{◌≡◌, ℕ, Bool, true, false, map, inl, inr, sym, ap, ◌∙◌, subst}
use Rattle.twe_base.specs.declared.place.Place.{Place}
use Rattle.effect_sets.specs.declared.effects.Effect.{Effect}
use Rattle.effect_sets.specs.declared.effects.Summary.{Summary}
use Rattle.twe_program.specs.declared.program.Decl.{Decl}
use Rattle.twe_program.specs.Program.{Program}
use Rattle.effect_check.specs.declared.act.Act.{Act}
use Rattle.effect_check.specs.declared.act.ActKind.{ActKind}
use Rattle.effect_check.specs.declared.act.ActKind.TheVariants as kinds
use Rattle.effect_check.specs.declared.rule.ERule.{ERule}
use Rattle.effect_check.specs.Acts.{acts_in_all}
use Rattle.effect_check.specs.Covered.{Does, CoveredAt}
use Rattle.effect_check.specs.FailsEffect.{TaskFails, MethodFails, FailsEffect, access, called, spawned, joined, spawned_again, made_later, waited, not_deterministic, access_outside, called_outside}
use Rattle.twe_base.proofs.Members.{IsIn, contains-in, in-contains}
use Rattle.moved_places.specs.MovedProgram.{moved_decl, moved_program}
use Rattle.moved_places.proofs.Lists.{in-map, map-in}
use Rattle.moved_places.proofs.MovedActs.{moved_kind, moved_act}
use Rattle.moved_places.proofs.Acts.{of-statements}
use Rattle.moved_places.proofs.ControlPaths.{may-to, may-from, surely-to, surely-from}

module _ (to : Place → Place) where
  -- which act it is with its places moved
  touch-is : (kind : ActKind) (effect : Effect) (place : Place) → moved_kind to kind ≡ kinds.Touch effect place
      → (at : Place) × (kind ≡ kinds.Touch effect at) × (place ≡ to at)
  touch-is (kinds.Touch other at) effect place e =
      let same : other ≡ effect = cc in
      let moved : place ≡ to at = cc in
      (at, ap (λ (x : Effect). kinds.Touch x at) same, moved)
  touch-is (kinds.Call effects at) effect place e = absurd (cc)
  touch-is (kinds.Make future is_spawn deterministic effects future_place at) effect place e = absurd (cc)
  touch-is (kinds.Wait future join at) effect place e = absurd (cc)

  call-is : (kind : ActKind) (effects : Summary) (place : Place) → moved_kind to kind ≡ kinds.Call effects place
      → (at : Place) × (kind ≡ kinds.Call effects at) × (place ≡ to at)
  call-is (kinds.Touch other at) effects place e = absurd (cc)
  call-is (kinds.Call other at) effects place e =
      let same : other ≡ effects = cc in
      let moved : place ≡ to at = cc in
      (at, ap (λ (x : Summary). kinds.Call x at) same, moved)
  call-is (kinds.Make future is_spawn deterministic other future_place at) effects place e = absurd (cc)
  call-is (kinds.Wait future join at) effects place e = absurd (cc)

  make-is : (kind : ActKind) (future : ℕ) (is_spawn deterministic : Bool) (effects : Summary) (future_place place : Place)
      → moved_kind to kind ≡ kinds.Make future is_spawn deterministic effects future_place place
      → (future_at at : Place) × (kind ≡ kinds.Make future is_spawn deterministic effects future_at at) × (future_place ≡ to future_at) × (place ≡ to at)
  make-is (kinds.Touch other at) future is_spawn deterministic effects future_place place e = absurd (cc)
  make-is (kinds.Call other at) future is_spawn deterministic effects future_place place e = absurd (cc)
  make-is (kinds.Make f s d es future_at at) future is_spawn deterministic effects future_place place e =
      let same_future : f ≡ future = cc in
      let same_spawn : s ≡ is_spawn = cc in
      let same_deterministic : d ≡ deterministic = cc in
      let same_effects : es ≡ effects = cc in
      let moved_future : future_place ≡ to future_at = cc in
      let moved : place ≡ to at = cc in (
        future_at,
        at,
        ap (λ (x : ℕ). kinds.Make x s d es future_at at) same_future ∙ ap (λ (x : Bool). kinds.Make future x d es future_at at) same_spawn
            ∙ ap (λ (x : Bool). kinds.Make future is_spawn x es future_at at) same_deterministic ∙ ap (λ (x : Summary). kinds.Make future is_spawn deterministic x future_at at) same_effects,
        moved_future,
        moved,
      )
  make-is (kinds.Wait f join at) future is_spawn deterministic effects future_place place e = absurd (cc)

  wait-is : (kind : ActKind) (future : ℕ) (join : Bool) (place : Place) → moved_kind to kind ≡ kinds.Wait future join place
      → (at : Place) × (kind ≡ kinds.Wait future join at) × (place ≡ to at)
  wait-is (kinds.Touch other at) future join place e = absurd (cc)
  wait-is (kinds.Call other at) future join place e = absurd (cc)
  wait-is (kinds.Make f s d es future_at at) future join place e = absurd (cc)
  wait-is (kinds.Wait f j at) future join place e =
      let same_future : f ≡ future = cc in
      let same_join : j ≡ join = cc in
      let moved : place ≡ to at = cc in
      (at, ap (λ (x : ℕ). kinds.Wait x j at) same_future ∙ ap (λ (x : Bool). kinds.Wait future x at) same_join, moved)

  module _ (p : Program) (decl : Decl) where
    does-to : (point : ℕ) (kind : ActKind) → Does p decl point kind → Does (moved_program to p) (moved_decl to decl) point (moved_kind to kind)
    does-to point kind does =
        let act : Act = record { point = point; kind = kind } in
        in-contains (acts_in_all (moved_program to p) (moved_decl to decl).body.block) (moved_act to act)
        (subst (IsIn (moved_act to act)) (sym (of-statements to p decl.body.block))
        (in-map (moved_act to) (acts_in_all p decl.body.block) act (contains-in (acts_in_all p decl.body.block) act does)))

    does-from : (point : ℕ) (kind : ActKind) → Does (moved_program to p) (moved_decl to decl) point kind → (was : ActKind) × Does p decl point was × (moved_kind to was ≡ kind)
    does-from point kind does =
        let act : Act = record { point = point; kind = kind } in
        let found = map-in (moved_act to) (acts_in_all p decl.body.block) act
        (subst (IsIn act) (of-statements to p decl.body.block) (contains-in (acts_in_all (moved_program to p) (moved_decl to decl).body.block) act does)) in
        let same : point ≡ found.0.point = ap (λ (a : Act). a.point) found.2 in
        (found.0.kind, subst (λ (n : ℕ). Does p decl n found.0.kind) (sym same) (in-contains (acts_in_all p decl.body.block) found.0 found.1), sym (ap (λ (a : Act). a.kind) found.2))

    touch-from : (point : ℕ) (effect : Effect) (place : Place) → Does (moved_program to p) (moved_decl to decl) point (kinds.Touch effect place)
        → (at : Place) × Does p decl point (kinds.Touch effect at) × (place ≡ to at)
    touch-from point effect place does =
        let found = does-from point (kinds.Touch effect place) does in
        let is = touch-is found.0 effect place found.2 in
        (is.0, subst (Does p decl point) is.1 found.1, is.2)

    call-from : (point : ℕ) (effects : Summary) (place : Place) → Does (moved_program to p) (moved_decl to decl) point (kinds.Call effects place)
        → (at : Place) × Does p decl point (kinds.Call effects at) × (place ≡ to at)
    call-from point effects place does =
        let found = does-from point (kinds.Call effects place) does in
        let is = call-is found.0 effects place found.2 in
        (is.0, subst (Does p decl point) is.1 found.1, is.2)

    make-from : (point future : ℕ) (is_spawn deterministic : Bool) (effects : Summary) (future_place place : Place)
        → Does (moved_program to p) (moved_decl to decl) point (kinds.Make future is_spawn deterministic effects future_place place)
        → (future_at at : Place) × Does p decl point (kinds.Make future is_spawn deterministic effects future_at at) × (future_place ≡ to future_at) × (place ≡ to at)
    make-from point future is_spawn deterministic effects future_place place does =
        let found = does-from point (kinds.Make future is_spawn deterministic effects future_place place) does in
        let is = make-is found.0 future is_spawn deterministic effects future_place place found.2 in
        (is.0, is.1, subst (Does p decl point) is.2 found.1, is.3, is.4)

    wait-from : (point future : ℕ) (join : Bool) (place : Place) → Does (moved_program to p) (moved_decl to decl) point (kinds.Wait future join place)
        → (at : Place) × Does p decl point (kinds.Wait future join at) × (place ≡ to at)
    wait-from point future join place does =
        let found = does-from point (kinds.Wait future join place) does in
        let is = wait-is found.0 future join place found.2 in
        (is.0, subst (Does p decl point) is.1 found.1, is.2)

    covered-to : (point : ℕ) (effect : Effect) → CoveredAt p decl point effect → CoveredAt (moved_program to p) (moved_decl to decl) point effect
    covered-to point effect covered = record {
      declared = covered.declared;
      free = λ at future deterministic effects future_place place does may other among.
          let made = make-from at future true deterministic effects future_place place does in
          covered.free at future deterministic effects made.0 made.1 made.2 (may-from to decl.body point future may) other among;
    }

    covered-from : (point : ℕ) (effect : Effect) → CoveredAt (moved_program to p) (moved_decl to decl) point effect → CoveredAt p decl point effect
    covered-from point effect covered = record {
      declared = covered.declared;
      free = λ at future deterministic effects future_place place does may other among.
          covered.free at future deterministic effects (to future_place) (to place) (does-to at (kinds.Make future true deterministic effects future_place place) does)
          (may-to to decl.body point future may) other among;
    }

    task-to : (rule : ERule) (place : Place) → TaskFails p decl rule place → TaskFails (moved_program to p) (moved_decl to decl) rule (to place)
    task-to rule place (access point effect at does uncovered) =
        access point effect (to at) (does-to point (kinds.Touch effect at) does) (λ covered. uncovered (covered-from point effect covered))
    task-to rule place (called point effects effect at does among uncovered) =
        called point effects effect (to at) (does-to point (kinds.Call effects at) does) among (λ covered. uncovered (covered-from point effect covered))
    task-to rule place (spawned point future deterministic effects effect future_place at does among uncovered) =
        spawned point future deterministic effects effect (to future_place) (to at) (does-to point (kinds.Make future true deterministic effects future_place at) does) among
        (λ covered. uncovered (covered-from point effect covered))
    task-to rule place (joined point future at does out) =
        joined point future (to at) (does-to point (kinds.Wait future true at) does) (λ surely. out (surely-from to decl.body point future surely))
    task-to rule place (spawned_again point future deterministic effects at named does out) =
        spawned_again point future deterministic effects (to at) (to named) (does-to point (kinds.Make future true deterministic effects at named) does) (may-to to decl.body point future out)
    task-to rule place (made_later point future deterministic effects future_place at does is) =
        made_later point future deterministic effects (to future_place) (to at) (does-to point (kinds.Make future false deterministic effects future_place at) does) is
    task-to rule place (waited point future at does is) = waited point future (to at) (does-to point (kinds.Wait future false at) does) is
    task-to rule place (not_deterministic point future effects future_place at does is) =
        not_deterministic point future effects (to future_place) (to at) (does-to point (kinds.Make future true false effects future_place at) does) is

    task-from : (rule : ERule) (place : Place) → TaskFails (moved_program to p) (moved_decl to decl) rule place
        → (at : Place) × TaskFails p decl rule at × (place ≡ to at)
    task-from rule place (access point effect at does uncovered) =
        let was = touch-from point effect at does in
        (was.0, access point effect was.0 was.1 (λ covered. uncovered (covered-to point effect covered)), was.2)
    task-from rule place (called point effects effect at does among uncovered) =
        let was = call-from point effects at does in
        (was.0, called point effects effect was.0 was.1 among (λ covered. uncovered (covered-to point effect covered)), was.2)
    task-from rule place (spawned point future deterministic effects effect future_place at does among uncovered) =
        let was = make-from point future true deterministic effects future_place at does in
        (was.1, spawned point future deterministic effects effect was.0 was.1 was.2 among (λ covered. uncovered (covered-to point effect covered)), was.4)
    task-from rule place (joined point future at does out) =
        let was = wait-from point future true at does in
        (was.0, joined point future was.0 was.1 (λ surely. out (surely-to to decl.body point future surely)), was.2)
    task-from rule place (spawned_again point future deterministic effects at named does out) =
        let was = make-from point future true deterministic effects at named does in
        (was.0, spawned_again point future deterministic effects was.0 was.1 was.2 (may-from to decl.body point future out), was.3)
    task-from rule place (made_later point future deterministic effects future_place at does is) =
        let was = make-from point future false deterministic effects future_place at does in
        (was.1, made_later point future deterministic effects was.0 was.1 was.2 is, was.4)
    task-from rule place (waited point future at does is) =
        let was = wait-from point future false at does in
        (was.0, waited point future was.0 was.1 is, was.2)
    task-from rule place (not_deterministic point future effects future_place at does is) =
        let was = make-from point future true false effects future_place at does in
        (was.1, not_deterministic point future effects was.0 was.1 was.2 is, was.4)

    method-to : (rule : ERule) (place : Place) → MethodFails p decl rule place → MethodFails (moved_program to p) (moved_decl to decl) rule (to place)
    method-to rule place (access_outside point effect at does outside) = access_outside point effect (to at) (does-to point (kinds.Touch effect at) does) outside
    method-to rule place (called_outside point effects effect at does among outside) =
        called_outside point effects effect (to at) (does-to point (kinds.Call effects at) does) among outside

    method-from : (rule : ERule) (place : Place) → MethodFails (moved_program to p) (moved_decl to decl) rule place
        → (at : Place) × MethodFails p decl rule at × (place ≡ to at)
    method-from rule place (access_outside point effect at does outside) =
        let was = touch-from point effect at does in (was.0, access_outside point effect was.0 was.1 outside, was.2)
    method-from rule place (called_outside point effects effect at does among outside) =
        let was = call-from point effects at does in (was.0, called_outside point effects effect was.0 was.1 among outside, was.2)

  -- a program whose places are moved fails what the program fails
  fails-to : (p : Program) (rule : ERule) (place : Place) → FailsEffect p rule place → FailsEffect (moved_program to p) rule (to place)
  fails-to p rule place (inl (task, there, fails)) =
      inl (moved_decl to task, in-contains _ _ (in-map (moved_decl to) p.tasks task (contains-in p.tasks task there)), task-to p task rule place fails)
  fails-to p rule place (inr (method, there, fails)) =
      inr (moved_decl to method, in-contains _ _ (in-map (moved_decl to) p.methods method (contains-in p.methods method there)), method-to p method rule place fails)

  fails-from : (p : Program) (rule : ERule) (place : Place) → FailsEffect (moved_program to p) rule place
      → (at : Place) × FailsEffect p rule at × (place ≡ to at)
  fails-from p rule place (inl (task, there, fails)) =
      let was = map-in (moved_decl to) p.tasks task (contains-in (map (moved_decl to) p.tasks) task there) in
      let found = task-from p was.0 rule place (subst (λ (d : Decl). TaskFails (moved_program to p) d rule place) was.2 fails) in
      (found.0, inl (was.0, in-contains p.tasks was.0 was.1, found.1), found.2)
  fails-from p rule place (inr (method, there, fails)) =
      let was = map-in (moved_decl to) p.methods method (contains-in (map (moved_decl to) p.methods) method there) in
      let found = method-from p was.0 rule place (subst (λ (d : Decl). MethodFails (moved_program to p) d rule place) was.2 fails) in
      (found.0, inr (was.0, in-contains p.methods was.0 was.1, found.1), found.2)

-- of two programs that become equal when their places are moved, one fails a rule where the other does
pub fails-alike : (from to : Place → Place) (p q : Program) → moved_program from p ≡ moved_program to q → (rule : ERule) (place : Place) → FailsEffect p rule place
    → (its : Place) × FailsEffect q rule its × (from place ≡ to its)
fails-alike from to p q same rule place fails =
    fails-from to q rule (from place) (subst (λ (r : Program). FailsEffect r rule (from place)) same (fails-to from p rule place fails))
