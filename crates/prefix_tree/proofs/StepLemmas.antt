-- Steps that are the same for the map are one.
use Rattle.std.proofs.Common.{◌≡◌, ℕ, ℤ, true, refl, ap, ◌∙◌}
use Rattle.std.specs.Bool.{Decides}
use Rattle.std.proofs.lemmas.Bool.Decides.{Decides-and, Decides-eqb, Decides-int_eq, Decides-like}
use Rattle.prefix_tree.specs.contracts.part.PartPartialEq.TheImpl as part_equality
use Rattle.prefix_tree.specs.declared.step.Step.{Step}
use Rattle.prefix_tree.specs.declared.part.Part.{Part}
use Rattle.prefix_tree.specs.declared.part.Part.TheVariants.{Name, Index}
use Rattle.prefix_tree.specs.inner.Same.{step_eq}

part_decides : (a b : Part) → Decides ((part_equality.ghosts).eq a b) (a ≡ b)
part_decides (Name n) (Name m) = Decides-like _ (λ same. ap (λ (x : ℕ). Name x) same) (λ same. cc (same)) (Decides-eqb n m)
part_decides (Name n) (Index j) = (λ yes. absurd (cc (yes)), λ same. absurd (cc (same)))
part_decides (Index i) (Name m) = (λ yes. absurd (cc (yes)), λ same. absurd (cc (same)))
part_decides (Index i) (Index j) = Decides-like _ (λ same. ap (λ (x : ℤ). Index x) same) (λ same. cc (same)) (Decides-int_eq i j)

-- a step is its node and its part
pub step_is : (s t : Step) → s.from ≡ t.from → s.part ≡ t.part → s ≡ t
step_is s t from part =
    let make : ℕ → Part → Step = λ f p. record { from = f; part = p } in
    ap (λ f. make f s.part) from ∙ ap (make t.from) part

step_decides : (s t : Step) → Decides (step_eq s t) (s ≡ t)
step_decides s t =
    Decides-like _
    (λ both. step_is s t both.0 both.1)
    (λ same. (ap (λ (u : Step). u.from) same, ap (λ (u : Step). u.part) same))
    (Decides-and _ _ (Decides-eqb s.from t.from) (part_decides s.part t.part))

pub step_from_eq : (s t : Step) → step_eq s t ≡ true → s ≡ t
step_from_eq s t = (step_decides s t).0

pub step_itself : (s : Step) → step_eq s s ≡ true
step_itself s = (step_decides s s).1 refl
