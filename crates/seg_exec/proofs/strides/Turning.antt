-- The turns of a loop, by the steps that make them.
use Rattle.std.proofs.Common.{◌≡◌, ℕ, ℤ, ◌-◌, Bool, true, false, Ok, List, ◌∷◌, drop, ap, ◌∙◌, subst, arith}
use Rattle.std.specs.Prelude.{nat_eq}
use Rattle.twe_base.specs.declared.place.Place.{Place}
use Rattle.seg_meaning.specs.declared.fault.FaultCause.TheVariants.{Fuel}
use Rattle.twe_program.specs.Program.{Program}
use Rattle.twe_program.specs.Expression.{Expression}
use Rattle.twe_program.specs.Statement.{Statement, Statements, statements_of}
use Rattle.seg_exec.specs.declared.steps.request.Request.TheVariants.{End}
use Rattle.seg_exec.specs.declared.steps.request.Ending.{Ending}
use Rattle.seg_exec.specs.declared.strides.carry.CarriedOut.TheVariants.{Done, Faulted}
use Rattle.seg_exec.specs.declared.strides.value.Fault.{Fault}
use Rattle.seg_meaning.specs.Access.{Ways}
use Rattle.seg_meaning.specs.Arithmetic.{is_true}
use Rattle.seg_exec.specs.inner.steps.Continuations.{Config, Evaluate, Execute, Rest, Turn, to_do, with_operand}
use Rattle.seg_exec.specs.inner.steps.Reached.{Standing}
use Rattle.seg_exec.specs.inner.steps.Steps.{faulted, on, turned_by, unit_or}
use Rattle.seg_exec.specs.inner.strides.Carrying.{CarriesOut, ComesBefore, MayCarry}
use Rattle.seg_exec.specs.inner.strides.Strides.{Ends, EvaluatesTo, Goes, MayGo, Nears, doing, fault_ending}
use Rattle.seg_exec.specs.inner.strides.Turning.{IsLoop, looping}
use Rattle.seg_exec.proofs.strides.Carrying.{may_carry}
use Rattle.seg_exec.proofs.strides.GoingOn.{rest_at}
use Rattle.seg_exec.proofs.strides.Performing.{goes_value, placed}
use Rattle.seg_exec.proofs.strides.Strides.{ended, ends_alike, may_then, silent, then_ends, then_goes}

-- some steps, and then some steps or none
pub goes_near : {C : Type 0} (p : Program) (ways : Ways C) (a b c : Standing C) → Goes p ways a b → Nears p ways b c → Goes p ways a c
goes_near p ways a b c first second = record {
  on = λ start r. second.on start (first.on start r);
  fuel = omega (arith, first.fuel, second.fuel);
  less = λ e.
      let same : b.config.fuel ≡ a.config.fuel = omega (arith, first.fuel, second.fuel, e) in
      let again : c.config.fuel ≡ b.config.fuel = omega (arith, same, e) in
      omega (arith, first.less same, second.less again);
}

module _ {C : Type 0} (p : Program) (ways : Ways C) (condition : Expression) (again : Statement) (body : Statements) (place : Place) where
  -- the condition has a value
  module _ (vars : List ℤ) (config : Config) (old mid : C) (prints : List ℤ) (value : ℤ) (same : vars ≡ config.vars) (has : EvaluatesTo p ways condition vars old (Ok value) mid) where
    abbrev valued : Standing C
    valued = placed (with_operand value (to_do (Turn again body place) config)) mid prints

    to_value : Goes p ways (looping condition again body place (placed config old prints)) valued
    to_value = goes_value p ways condition vars (to_do (Turn again body place) config) old mid prints value same has

    pub loop_over : is_true value ≡ false → Goes p ways (looping condition again body place (placed config old prints)) (placed config mid prints)
    loop_over fails =
        then_goes p ways _ _ _ to_value (silent p ways valued config (ap (λ (b : Bool). turned_by b again body place config) fails))

    -- the frames of a turn
    abbrev pub turning : Config
    turning = to_do (Execute again) (record config { fuel = config.fuel - 1 })

    turned : (none : Bool) → is_true value ≡ true → nat_eq config.fuel 0 ≡ none
        → turned_by (is_true value) again body place config ≡ unit_or none place config (λ c1. on (to_do (Rest 0 0 body) (to_do (Execute again) c1)))
    turned none holds is =
        ap (λ (b : Bool). turned_by b again body place config) holds
        ∙ ap (λ (b : Bool). unit_or b place config (λ c1. on (to_do (Rest 0 0 body) (to_do (Execute again) c1)))) is

    pub no_fuel : (ending : Ending) → is_true value ≡ true → nat_eq config.fuel 0 ≡ true → faulted Fuel place config ≡ (End ending, config)
        → Ends p ways (looping condition again body place (placed config old prints)) ending (placed config mid prints)
    no_fuel ending holds none is = then_ends p ways _ _ _ _ to_value (ended p ways valued ending config (turned true holds none ∙ is))

    turn_begins : is_true value ≡ true → nat_eq config.fuel 0 ≡ false
        → Goes p ways (looping condition again body place (placed config old prints)) (doing (Rest 0 0 body) (placed turning mid prints))
    turn_begins holds some = then_goes p ways _ _ _ to_value (silent p ways valued (to_do (Rest 0 0 body) turning) (turned false holds some))

    -- the statements of the body are carried out
    module _ (holds : is_true value ≡ true) (some : nat_eq config.fuel 0 ≡ false) (stmts : List Statement) (is : body ≡ statements_of (drop 0 stmts)) where
      to_body : Goes p ways (looping condition again body place (placed config old prints)) (rest_at 0 0 stmts (placed turning mid prints))
      to_body =
          subst (λ (b : Statements). Goes p ways (looping condition again body place (placed config old prints)) (doing (Rest 0 0 b) (placed turning mid prints))) is
          (turn_begins holds some)

      pub body_may : MayGo p ways (looping condition again body place (placed config old prints)) → MayCarry p ways 0 stmts config.vars mid
      body_may may = may_carry p ways 0 stmts 0 turning mid prints (may_then p ways _ _ may to_body)

      module _ (vars' : List ℤ) (new : C) where
        -- after the turn
        abbrev pub after_turn : Config
        after_turn = record config { fuel = config.fuel - 1; vars = vars' }

        pub body_done : IsLoop again condition body place → CarriesOut p ways 0 stmts config.vars mid Done vars' new
            → Goes p ways (looping condition again body place (placed config old prints)) (looping condition again body place (placed after_turn new prints))
        body_done loops h =
            then_goes p ways _ _ _ to_body
            (then_goes p ways _ _ _ (h 0 (Execute again ∷ config.work) config.operands (config.fuel - 1) config.calls prints)
            (silent p ways (doing (Execute again) (placed after_turn new prints)) (to_do (Evaluate condition) (to_do (Turn again body place) after_turn)) (loops after_turn)))

        pub body_faulted : (fault : Fault) → CarriesOut p ways 0 stmts config.vars mid (Faulted fault) vars' new
            → Ends p ways (looping condition again body place (placed config old prints)) (fault_ending fault) (placed after_turn new prints)
        body_faulted fault h =
            ends_alike p ways _ (fault_ending fault) (Execute again ∷ config.work) config.work config.operands config.operands vars' (config.fuel - 1) config.calls new prints
            (then_ends p ways _ _ _ _ to_body (h 0 (Execute again ∷ config.work) config.operands (config.fuel - 1) config.calls prints))

        pub body_left : (next : ℕ) → ComesBefore p ways 0 stmts config.vars mid next vars' new
            → Goes p ways (looping condition again body place (placed config old prints)) (rest_at 0 next stmts (placed (to_do (Execute again) after_turn) new prints))
        body_left next h = goes_near p ways _ _ _ to_body (h 0 (Execute again ∷ config.work) config.operands (config.fuel - 1) config.calls prints)
