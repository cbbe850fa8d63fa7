use Rattle.std.proofs.Common.{◌≢◌, ◌-◌, inl, inr, ℕ, List, refl, sym, subst, arith}
use Rattle.std.proofs.lemmas.Bool.{cases_eq}
use Rattle.std.proofs.lemmas.List.Sorted.{Contains-permutation, IsPermutation-sym}
use Rattle.flat_sched.specs.inner.Lists.{IsReady}
use Rattle.flat_sched.proofs.Listing.{contains_more, contains_rest}
use Rattle.flat_sched.proofs.ready.Ready.add.Goals as goal

pub returns-clause-added : goal.returns-clause-added
returns-clause-added c =
    (4294967295 - c.args.t, Contains-permutation _ _ _ c.in_ok-push.ensures.permutation (0, omega arith, refl), omega (arith, c.ranges.t.fits))

pub returns-clause-kept : goal.returns-clause-kept
returns-clause-kept c = λ u h.
    let was = subst (λ (ready : List ℕ). IsReady ready u) (sym c.self.view_is) h in
    (was.0, Contains-permutation _ _ _ c.in_ok-push.ensures.permutation (contains_more _ _ _ was.1), was.2)

pub returns-clause-back : goal.returns-clause-back
returns-clause-back c = λ u h.
    elim (cases_eq u c.args.t) [
      | inl is ↦ inr is
      | inr ne ↦
          let apart : 4294967295 - c.args.t ≢ h.0 = λ e. ne (let sum = h.2 in omega (arith, sum, e, c.ranges.t.fits)) in
          let was = contains_rest _ _ _ apart (Contains-permutation _ _ _ (IsPermutation-sym _ _ c.in_ok-push.ensures.permutation) h.1) in
          inl (subst (λ (ready : List ℕ). IsReady ready u) c.self.view_is (h.0, was, h.2))
    ]
