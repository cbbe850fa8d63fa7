use Rattle.std.proofs.Common.{inl, inr, ℕ, Option, sym, subst}
use Rattle.std.specs.Prelude.{IfSome}
use Rattle.std.proofs.lemmas.Bool.{cases_eq}
use Rattle.flat_sched.specs.declared.groups.Group.{Group}
use Rattle.flat_sched.specs.inner.Groups.{HasGroup, HasOnly, IsMember}
use Rattle.flat_sched.specs.inner.Lists.{IsReady}
use Rattle.flat_sched.proofs.Alike.{groups_back, groups_put}
use Rattle.flat_sched.proofs.groups.join.Goals as goal

-- the group has the tasks that it had, and the other groups stay
pub returns-clause-kept : goal.returns-clause-kept
returns-clause-kept c = λ u x h.
    let s = c.args.s in
    let old = c.args.groups.now in
    elim (cases_eq u s) [
      | inl is ↦
          let only = subst (λ (o : Option Group). IfSome o (HasOnly old s)) c.in-Some.is c.in_ok-group.ensures.some in
          let same = only h.0 (subst (λ (n : ℕ). HasGroup old n h.0) is h.1) in
          let there = c.in_ok-joined.ensures.kept x (subst (λ (g : Group). IsReady g.members x) same h.2) in
          subst (λ (n : ℕ). IsMember c.put.new.groups n x) (sym is) (c.enter.new.group, c.in_ok-put.ensures.there, there)
      | inr ne ↦ (h.0, c.in_ok-put.ensures.kept u h.0 ne (c.in_ok-group.ensures.kept u h.0 ne h.1), h.2)
    ]

pub returns-clause-groups : goal.returns-clause-groups
returns-clause-groups c =
    let st = c.args.st.now in
    let mid = c.group_for.new.groups in
    groups_put st mid c.put.new.groups c.args.s c.enter.new.group (groups_back st c.args.groups.now mid c.requires.groups c.in_ok-group.ensures.back)
    c.in_ok-joined.ensures.alike c.in_ok-put.ensures.there c.in_ok-put.ensures.back
