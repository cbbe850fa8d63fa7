use Rattle.std.proofs.Common.{◌≡◌, inl, inr, List, ℕ, true, sym, subst}
use Rattle.std.specs.List.{Contains}
use Rattle.flat_sched.specs.inner.Lists.{IsListed}
use Rattle.flat_sched.proofs.noting.free_held.Goals as goal

-- the list of the task is taken out, each task on it is to be looked at, and the group is passed on
pub returns : goal.returns
returns c =
    let passed = c.in_ok-pass_on.ensures in
    record {
      ready = λ x h. passed.ready x (c.in_ok-wake.ensures.kept x h);
      held = λ u x apart h. elim apart [
        | inl other ↦ subst (λ (lists : List (List ℕ)). IsListed lists u x) (sym passed.held) (c.take-held.ensures.kept u x other h)
        | inr enabled ↦ let yes : c.is_enabled.result ≡ true = c.is_enabled.ensures.1 enabled in absurd (cc (yes, c.if-is_enabled.false))
      ];
      freed = λ x over h. passed.ready x (c.in_ok-wake.ensures.woken x (subst (λ (l : List ℕ). Contains l x) (sym c.as_slice.ensures) (c.take-held.ensures.taken x h)));
      members = λ u x apart h. elim apart [
        | inl other ↦ passed.members u x other h
        | inr enabled ↦ let yes : c.is_enabled.result ≡ true = c.is_enabled.ensures.1 enabled in absurd (cc (yes, c.if-is_enabled.false))
      ];
      passed = λ are x over h made. passed.passed are x h made;
      groups = passed.groups;
      waiters = passed.waiters;
      enabled = passed.enabled;
    }
