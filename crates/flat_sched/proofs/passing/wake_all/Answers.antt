use Rattle.std.proofs.Common.{inl, inr, ℕ, sym, subst}
use Rattle.std.proofs.lemmas.Bool.{cases_eq}
use Rattle.flat_sched.specs.inner.Lists.{IsReady}
use Rattle.flat_sched.proofs.passing.wake_all.Goals as goal

pub waking-preserved : goal.waking-preserved
waking-preserved c = record {
  woken = λ t h. elim (c.waking.invariant.woken t h) [
    | inl look ↦ inl (c.in_ok-add.ensures.kept t look)
    | inr there ↦ elim (cases_eq t c.in-Some.t) [
      | inl is ↦ inl (subst (λ (n : ℕ). IsReady c.add.new.self n) (sym is) c.in_ok-add.ensures.added)
      | inr ne ↦ inr (c.in-Some.ensures.kept t ne there)
    ]
  ];
  kept = λ t h. c.in_ok-add.ensures.kept t (c.waking.invariant.kept t h);
}

pub returns-clause-woken : goal.returns-clause-woken
returns-clause-woken c = λ t h. elim (c.waking.invariant.woken t h) [ inl look ↦ look | inr there ↦ absurd (c.in_default.ensures.none t there) ]
