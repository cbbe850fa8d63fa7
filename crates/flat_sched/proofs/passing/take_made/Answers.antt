use Rattle.std.proofs.Common.{◌≡◌, inl, inr, ℕ, true, subst, arith}
use Rattle.std.proofs.lemmas.Bool.{cases_eq}
use Rattle.machine_state.specs.declared.state.TaskStatus.TheVariants.{Made}
use Rattle.machine_state.specs.Rows.{HasStatus}
use Rattle.flat_sched.proofs.passing.take_made.Goals as goal

-- no task is below the lowest one
pub returns-then-is_made-clause-lower : goal.returns-then-is_made-clause-lower
returns-then-is_made-clause-lower c = λ u made h.
    let least = c.in-Some.ensures.some u (c.taking.invariant.kept u made h) in
    elim (cases_eq u c.in-Some.t) [ inl is ↦ inl is | inr ne ↦ inr (omega (arith, least, ne)) ]

pub returns-then-is_made-clause-kept : goal.returns-then-is_made-clause-kept
returns-then-is_made-clause-kept c = λ u made h.
    elim (cases_eq u c.in-Some.t) [ inl is ↦ inl is | inr ne ↦ inr (c.in-Some.ensures.kept u ne (c.taking.invariant.kept u made h)) ]

-- a task that was taken out and was not made is none of those
pub taking-preserved : goal.taking-preserved
taking-preserved c = record {
  kept = λ u made h.
      c.in-Some.ensures.kept u
      (λ is. let yes : c.is_made.result ≡ true = c.is_made.ensures.1 (subst (λ (n : ℕ). HasStatus c.args.st.now n Made) is made) in absurd (cc (yes, c.if-is_made.false)))
      (c.taking.invariant.kept u made h);
  back = λ u h. c.taking.invariant.back u (c.in-Some.ensures.back u h);
}

pub returns-clause-none : goal.returns-clause-none
returns-clause-none c = λ u made h. c.in_default.ensures.none u (c.taking.invariant.kept u made h)
