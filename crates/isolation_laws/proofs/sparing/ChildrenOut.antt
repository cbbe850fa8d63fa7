-- The rest of a running task's body is fine for each child that is out: the rules on effects say so at each point, and
-- the child's future is out on every quiet path from there.
use Rattle.std.proofs.Common.{◌≡◌, ℕ, true, IsTrue, List, [], Contains, Option, Some, inl, sym, ap, ◌∙◌, subst}
use Rattle.std.specs.Prelude.{slice_get}
use Rattle.effect_sets.specs.declared.effects.Effect.{Effect}
use Rattle.effect_sets.specs.declared.effects.Summary.{Summary}
use Rattle.twe_program.specs.declared.program.Decl.{Decl}
use Rattle.twe_program.specs.Program.{Program}
use Rattle.twe_program.specs.WellFormed.{IsWellFormed, scope_of}
use Rattle.twe_program.specs.Statement.{Statement, Statements, statement}
use Rattle.cover_flow.specs.ControlPath.{Path, point_of}
use Rattle.cover_flow.specs.Out.{MayBeOut, out_after}
use Rattle.seg_meaning.specs.Giving.{given}
use Rattle.seg_meaning.specs.Meaning.{body_of}
use Rattle.effect_check.specs.declared.act.Act.{Act}
use Rattle.effect_check.specs.declared.act.ActKind.{ActKind}
use Rattle.effect_check.specs.declared.act.ActKind.TheVariants as kinds
use Rattle.effect_check.specs.declared.rule.ERule.TheVariants.{E1, E2}
use Rattle.effect_check.specs.Acts.{acts_in, acts_in_all, filled_summary, is_deterministic, make}
use Rattle.effect_check.specs.Covered.{CoveredAt}
use Rattle.effect_check.specs.FailsEffect.{access, called}
use Rattle.effect_check.specs.Standing.{elements_of}
use Rattle.effect_check.proofs.Members.{IsIn, all-in, in-contains, in-left}
use Rattle.isolation_laws.specs.soundness.KeepsEffects.{KeepsEffects}
use Rattle.isolation_laws.proofs.soundness.Sound.{got-in, task_sound}
use Rattle.machine_state.specs.segment_laws.Passes.{Quietly}
use Rattle.isolation_laws.proofs.sparing.Calls.{all_from_in}
use Rattle.isolation_laws.proofs.paths.FineRests.{ActSpares, AllSpare, Fine, fit_far}
use Rattle.isolation_laws.proofs.frames.Frames.{ChildOut}
use Rattle.isolation_laws.proofs.paths.MakesInBodies.{reached_acts}
use Rattle.isolation_laws.proofs.paths.FuturesOut.{Reached, out-quiet, reached_more, reached_out}
use Rattle.isolation_laws.proofs.paths.OwnActs.{own_acts, own_at, own_in}
use Rattle.isolation_laws.proofs.effects.Sparing.{EffectSpares, written_spares}
use Rattle.isolation_laws.proofs.paths.Spawns.{all_stand_as}

-- a child whose future is out after a path of the body
module _ (p : Program) (wf : IsWellFormed p) (keeps : KeepsEffects p) (decl : Decl) (number : ℕ) (found : slice_get p.tasks number ≡ Some decl)
    (futures : List (Option ℕ)) (path : Path) (u : ℕ) (effects : Summary) (c : ChildOut p number futures path u effects) where
  is_task : Contains p.tasks decl
  is_task = in-contains p.tasks decl (got-in p.tasks number decl found)

  child_act : IsIn (make p c.point c.future c.task c.given true c.future_place c.place) (acts_in_all p decl.body.block)
  child_act = subst (λ (o : Option Decl). IsIn (make p c.point c.future c.task c.given true c.future_place c.place) (acts_in_all p (body_of o))) found c.act

  -- an effect that is covered at a point where the future may be out spares the child
  covered_spares : (point : ℕ) (effect : Effect) → MayBeOut decl.body point c.future → ¬ (¬ CoveredAt p decl point effect) → EffectSpares effects.effects effect
  covered_spares point effect may covered =
      subst (λ (s : Summary). EffectSpares s.effects effect) (sym c.same)
      (written_spares (slice_get p.tasks c.task) (elements_of c.given) c.values (all_stand_as c.given c.values c.may_have) effect
      (λ b here interferes.
      covered
      (λ is.
      is.free c.point c.future (is_deterministic (slice_get p.tasks c.task)) (filled_summary (slice_get p.tasks c.task) (elements_of c.given)) c.future_place c.place
      (in-contains _ _ child_act) may b (in-contains _ _ here) interferes)))

  act_spares : (point : ℕ) (kind : ActKind) → IsIn (record { point = point; kind = kind }) (acts_in_all p decl.body.block) → MayBeOut decl.body point c.future
      → ActSpares effects.effects kind
  act_spares point (kinds.Touch effect place) here may =
      covered_spares point effect may (λ not. keeps E1 place (inl (decl, is_task, access point effect place (in-contains _ _ here) not)))
  act_spares point (kinds.Call given place) here may =
      λ e there. covered_spares point e may (λ not. keeps E2 place (inl (decl, is_task, called point given e place (in-contains _ _ here) (in-contains _ _ there) not)))
  act_spares point (kinds.Make future spawned deterministic given future_place place) here may = tt
  act_spares point (kinds.Wait future join place) here may = tt

  -- each statement that a quiet path reaches spares it itself
  own_spares : (from : Statements) → Reached decl.body.block from path → (first : Statement) (others : Statements) (later : Path)
      → Quietly from path (statement first others) later → AllSpare effects.effects (own_acts p first)
  own_spares from reached first others later q =
      let there = reached_more decl.body.block from (statement first others) path later q.steps reached q.far in
      let out : IsTrue (out_after c.future later) = ap (out_after c.future) q.same ∙ (out-quiet c.future q.passed path q.quiet ∙ c.out) in
      let may = reached_out decl.body first others later c.future there out in
      all_from_in (λ (act : Act). ActSpares effects.effects act.kind) (own_acts p first)
      (λ act here.
      let inside = reached_acts p decl.body.block (statement first others) later act there (in-left act (acts_in p first) (acts_in_all p others) (own_in p first act here)) in
      let at : act.point ≡ point_of first = all-in (λ (x : Act). x.point ≡ point_of first) (own_acts p first) (own_at p first) act here in
      act_spares act.point act.kind inside (subst (λ (n : ℕ). MayBeOut decl.body n c.future) (sym at) may))

  pub left_fine : (from : Statements) → Reached decl.body.block from path → Fine p (scope_of p decl) effects.effects from
  left_fine from reached = record {
    path = path;
    fits = fit_far (scope_of p decl) reached.steps decl.body.block [] from path reached.far (task_sound p wf keeps number decl found).fits.body;
    own = own_spares from reached;
  }
