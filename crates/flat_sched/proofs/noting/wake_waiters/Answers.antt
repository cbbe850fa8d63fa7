use Rattle.std.proofs.Common.{◌≡◌, ◌∙◌, inl, inr, List, ℕ, true, rules, refl, sym, ap, subst}
use Rattle.std.specs.List.{Contains}
use Rattle.wait_graph.specs.declared.tasks.Link.{Link}
use Rattle.flat_sched.proofs.noting.wake_waiters.Goals as goal

-- the list of the task is taken out, and each task on it is to be looked at
pub returns : goal.returns
returns c =
    let yes : c.link.result.done ≡ true = search rules in
    let done = sym (ap (λ (l : Link). l.done) c.link.ensures) ∙ yes in
    record {
      ready = c.in_ok-wake.ensures.kept;
      waiters = λ u x apart h. elim apart [
        | inl other ↦ c.take-waiters.ensures.kept u x other h
        | inr undone ↦ absurd (undone done)
      ];
      woken = λ x is h. c.in_ok-wake.ensures.woken x (subst (λ (l : List ℕ). Contains l x) (sym c.as_slice.ensures) (c.take-waiters.ensures.taken x h));
      held = refl;
      groups = refl;
      enabled = refl;
    }
