-- Stretches of steps: one step, one stretch after another, and what they allow.
use Rattle.std.proofs.Common.{◌≡◌, ℕ, ℤ, List, Option, None, Some, refl, sym, subst, arith}
use Rattle.twe_program.specs.Program.{Program}
use Rattle.seg_meaning.specs.declared.active.ActiveCall.{ActiveCall}
use Rattle.seg_exec.specs.declared.steps.request.Request.TheVariants.{End}
use Rattle.seg_exec.specs.declared.steps.request.Ending.{Ending}
use Rattle.seg_meaning.specs.Access.{Ways}
use Rattle.seg_exec.specs.inner.steps.Continuations.{Config, Continuation}
use Rattle.seg_exec.specs.inner.steps.Reached.{Advances, MayStep, Served, Standing}
use Rattle.seg_exec.specs.inner.steps.Steps.{Step, on, step_of}
use Rattle.seg_exec.specs.inner.strides.Strides.{Carries, Ends, Goes, MayGo, Nears, stand}
use Rattle.seg_exec.proofs.steps.Falling.{advance_falls}
use Rattle.seg_exec.proofs.steps.Reaching.{finishes, may_step, reaches_on}

module _ {C : Type 0} (p : Program) (ways : Ways C) where
  pub one_step : (old new : Standing C) → Advances p ways old None new → Goes p ways old new
  one_step old new h =
      let falls = advance_falls p ways old new h in
      record { on = λ start r. reaches_on p ways start old new r h; fuel = falls.0; less = falls.1 }

  -- a step that asks for nothing
  pub silent : (old : Standing C) (config : Config) → step_of p old.config ≡ on config → Goes p ways old (record old { config = config })
  silent old config is =
      one_step old (record old { config = config })
      (subst (λ (step : Step). Served ways step.0 (record old { config = step.1 }) None (record old { config = config })) (sym is) (refl, refl))

  pub last_step : (old new : Standing C) (ending : Ending) → Advances p ways old (Some ending) new → Ends p ways old ending new
  last_step old new ending h start r = finishes p ways start old new ending r h

  -- a step that is the end
  pub ended : (old : Standing C) (ending : Ending) (config : Config) → step_of p old.config ≡ (End ending, config) → Ends p ways old ending (record old { config = config })
  ended old ending config is =
      last_step old (record old { config = config }) ending
      (subst (λ (step : Step). Served ways step.0 (record old { config = step.1 }) (Some ending) (record old { config = config })) (sym is) (refl, refl))

  pub then_goes : (a b c : Standing C) → Goes p ways a b → Goes p ways b c → Goes p ways a c
  then_goes a b c first second = record {
    on = λ start r. second.on start (first.on start r);
    fuel = omega (arith, first.fuel, second.fuel);
    less = λ e.
        let same : b.config.fuel ≡ a.config.fuel = omega (arith, first.fuel, second.fuel, e) in
        let again : c.config.fuel ≡ b.config.fuel = omega (arith, same, e) in
        omega (arith, first.less same, second.less again);
  }

  -- some steps or none
  pub nears_none : (a : Standing C) → Nears p ways a a
  nears_none a = record { on = λ start r. r; fuel = omega arith; less = λ e. omega arith }

  pub nears_more : (a b c : Standing C) → Nears p ways a b → Goes p ways b c → Nears p ways a c
  nears_more a b c first second = record {
    on = λ start r. second.on start (first.on start r);
    fuel = omega (arith, first.fuel, second.fuel);
    less = λ e.
        let same : b.config.fuel ≡ a.config.fuel = omega (arith, first.fuel, second.fuel, e) in
        let again : c.config.fuel ≡ b.config.fuel = omega (arith, same, e) in
        omega (arith, first.less same, second.less again);
  }

  pub nears_on : (a b c : Standing C) → Nears p ways a b → Nears p ways b c → Nears p ways a c
  nears_on a b c first second = record {
    on = λ start r. second.on start (first.on start r);
    fuel = omega (arith, first.fuel, second.fuel);
    less = λ e.
        let same : b.config.fuel ≡ a.config.fuel = omega (arith, first.fuel, second.fuel, e) in
        let again : c.config.fuel ≡ b.config.fuel = omega (arith, same, e) in
        omega (arith, first.less same, second.less again);
  }

  pub near_goes : (a b c : Standing C) → Nears p ways a b → Goes p ways b c → Goes p ways a c
  near_goes a b c first second = record {
    on = λ start r. second.on start (first.on start r);
    fuel = omega (arith, first.fuel, second.fuel);
    less = λ e.
        let same : b.config.fuel ≡ a.config.fuel = omega (arith, first.fuel, second.fuel, e) in
        let again : c.config.fuel ≡ b.config.fuel = omega (arith, same, e) in
        omega (arith, first.less same, second.less again);
  }

  pub near_carries : (a b c : Standing C) (ending : Option Ending) → Nears p ways a b → Carries p ways b ending c → Carries p ways a ending c
  near_carries a b c None first second = near_goes a b c first second
  near_carries a b c (Some ending) first second = λ start r. second start (first.on start r)

  pub may_near : (a b : Standing C) → MayGo p ways a → Nears p ways a b → MayGo p ways b
  may_near a b may near = record { start = may.start; may = may.may; came = near.on may.start may.came }

  pub then_ends : (a b c : Standing C) (ending : Ending) → Goes p ways a b → Ends p ways b ending c → Ends p ways a ending c
  then_ends a b c ending first second start r = second start (first.on start r)

  pub then_carries : (a b c : Standing C) (ending : Option Ending) → Goes p ways a b → Carries p ways b ending c → Carries p ways a ending c
  then_carries a b c None first second = then_goes a b c first second
  then_carries a b c (Some ending) first second = then_ends a b c ending first second

  pub may_then : (a b : Standing C) → MayGo p ways a → Goes p ways a b → MayGo p ways b
  may_then a b may goes = record { start = may.start; may = may.may; came = goes.on may.start may.came }

  pub may_now : (a : Standing C) → MayGo p ways a → MayStep p ways a
  may_now a may = may_step p ways may.start a may.may may.came

  -- what is left to be done at the end plays no part
  pub ends_alike : (old : Standing C) (ending : Ending) (work work' : List Continuation) (operands operands' vars : List ℤ) (fuel : ℕ) (calls : List ActiveCall) (cells : C) (prints : List ℤ)
      → Ends p ways old ending (stand work operands vars fuel calls cells prints) → Ends p ways old ending (stand work' operands' vars fuel calls cells prints)
  ends_alike old ending work work' operands operands' vars fuel calls cells prints h start r =
      let f = h start r in
      record { accesses = f.accesses; follows = f.follows; prints = f.prints; ends = f.ends }
