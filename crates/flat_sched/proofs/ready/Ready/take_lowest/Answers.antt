use Rattle.std.proofs.Common.{◌≢◌, ◌≤◌, ◌-◌, ℕ, List, rules, refl, sym, subst, arith}
use Rattle.std.proofs.lemmas.List.Sorted.{Contains-permutation, IsPermutation-sym}
use Rattle.flat_sched.specs.inner.Lists.{IsReady}
use Rattle.flat_sched.proofs.Listing.{contains_more, contains_rest}
use Rattle.flat_sched.proofs.ready.Ready.take_lowest.Goals as goal

pub returns-clause-kept : goal.returns-clause-kept
returns-clause-kept c = λ u ne h.
    let was = subst (λ (ready : List ℕ). IsReady ready u) (sym c.self.view_is) h in
    let apart : c.in_ok-top.top ≢ was.0 = λ e. ne (let sum = was.2 in omega arith) in
    (was.0, contains_rest _ _ _ apart (Contains-permutation _ _ _ c.in_ok-top.ensures.permutation was.1), was.2)

pub returns-clause-there : goal.returns-clause-there
returns-clause-there c =
    let fits : c.in_ok-top.top ≤ 4294967295 = search rules in
    let was = Contains-permutation _ _ _ (IsPermutation-sym _ _ c.in_ok-top.ensures.permutation) (0, omega arith, refl) in
    subst (λ (ready : List ℕ). IsReady ready (4294967295 - c.in_ok-top.top)) c.self.view_is (c.in_ok-top.top, was, omega (arith, fits))

pub returns-clause-back : goal.returns-clause-back
returns-clause-back c = λ u h.
    let was = Contains-permutation _ _ _ (IsPermutation-sym _ _ c.in_ok-top.ensures.permutation) (contains_more _ _ _ h.1) in
    subst (λ (ready : List ℕ). IsReady ready u) c.self.view_is (h.0, was, h.2)
