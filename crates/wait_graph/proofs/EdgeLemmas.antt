-- The edge by which the walk leaves a task that isn't done.
use Rattle.std.proofs.Common.{◌≡◌, ℕ, Bool, true, false, cond, List, Option, Some, None, refl, sym, ap, ◌∙◌, subst, ◌⊎◌, inl, inr, ⊎_elim}
use Rattle.wait_graph.specs.declared.tasks.Link.{Link}
use Rattle.wait_graph.specs.declared.stuck.Edge.{Edge}
use Rattle.wait_graph.specs.Link.{link_of, IsOrdered}
use Rattle.wait_graph.specs.Waiting.{awaited, undone_task, WaitsFor, WaitsForNobody}
use Rattle.wait_graph.specs.StuckCycle.{IsUndone, AllAreHeldUp, IsTrueEdge, holder_of, edge_from, edge_to, next_of}

-- s waits for the task that the function gives, or for nobody
Awaits : List Link → ℕ → Type 0
Awaits links s = ((u : ℕ) × (awaited links s ≡ Some u) × WaitsFor links s u) ⊎ ((awaited links s ≡ None) × WaitsForNobody links s)

awaits_at : (links : List Link) (s u : ℕ) → (link_of links s).waits ≡ Some u → (b : Bool) → (link_of links u).done ≡ b → Awaits links s
unfolding Awaits
awaits_at links s u e false d =
    inl (u, ap (undone_task links) e ∙ ap (λ b. cond b None (Some u)) d, record { waits = e; undone = d })
awaits_at links s u e true d =
    inr (
      ap (undone_task links) e ∙ ap (λ b. cond b None (Some u)) d,
      λ v w. let p = w.waits in let q = w.undone in let same : v ≡ u = cc in let r = ap (λ x. (link_of links x).done) same in cc,
    )

awaits_from : (links : List Link) (s : ℕ) (on : Option ℕ) → (link_of links s).waits ≡ on → Awaits links s
unfolding Awaits
awaits_from links s None e = inr (ap (undone_task links) e, λ u w. let p = w.waits in cc)
awaits_from links s (Some u) e = awaits_at links s u e (link_of links u).done refl

pub awaited-cases : (links : List Link) (s : ℕ) → ((u : ℕ) × (awaited links s ≡ Some u) × WaitsFor links s u) ⊎ ((awaited links s ≡ None) × WaitsForNobody links s)
unfolding Awaits
awaited-cases links s = awaits_from links s (link_of links s).waits refl

-- an edge begins at the task that the walk leaves
from-edge_to : (t : ℕ) (on holder : Option ℕ) → (edge_to t on holder).from ≡ t
from-edge_to t None holder = refl
from-edge_to t (Some u) holder = refl

pub from-edge_from : (links : List Link) (held : List (Option ℕ)) (t : ℕ) → (edge_from links held t).from ≡ t
from-edge_from links held t = from-edge_to t (awaited links t) (holder_of held t)

-- the walk goes to a task that isn't done, by a true edge
pub record GoesOn (links : List Link) (held : List (Option ℕ)) (t : ℕ) : Type 0 where
  pub onward : IsUndone links (next_of links held t)
  pub true_edge : IsTrueEdge links held (edge_from links held t)

pub GoesOn-undone : (links : List Link) (held : List (Option ℕ)) (t : ℕ) → IsOrdered links → AllAreHeldUp links held → IsUndone links t → GoesOn links held t
GoesOn-undone links held t ordered alone undone =
    ⊎_elim
    (λ found.
    let edge : edge_from links held t ≡ record { from = t; held = false; to = found.0 } = ap (λ on. edge_to t on (holder_of held t)) found.1 in
    record {
      onward = subst (λ (u : ℕ). IsUndone links u) (sym (ap (λ e. e.to) edge)) (record { there = (ordered.waits_up t found.0 found.2.waits).1; undone = found.2.undone });
      true_edge = subst (λ (e : Edge). IsTrueEdge links held e) (sym edge) found.2;
    })
    (λ nobody.
    ⊎_elim (λ wait. absurd (nobody.1 wait.0 wait.1))
    (λ holder.
    let edge : edge_from links held t ≡ record { from = t; held = true; to = holder.0 } =
    ap (λ on. edge_to t on (holder_of held t)) nobody.0 ∙ ap (λ h. edge_to t None h) holder.1 in
    record {
      onward = subst (λ (u : ℕ). IsUndone links u) (sym (ap (λ e. e.to) edge)) holder.2;
      true_edge = subst (λ (e : Edge). IsTrueEdge links held e) (sym edge) (nobody.1, holder.1);
    })
    (alone t undone))
    (awaited-cases links t)
