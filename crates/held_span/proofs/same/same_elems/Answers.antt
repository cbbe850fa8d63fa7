use Rattle.std.proofs.Common.{◌≡◌, ℕ, ℤ, refl, ap}
use Rattle.std.specs.Bool.{Decides}
use Rattle.std.proofs.lemmas.Bool.Decides.{Decides-eqb, Decides-int_eq, Decides-like}
use Rattle.std.proofs.lemmas.Slice.Eq.{slice_eq-Decides}
use Rattle.region_paths.specs.contracts.elements.ElemPartialEq.TheImpl as elem_eq
use Rattle.region_paths.specs.declared.elements.Elem.{Elem}
use Rattle.region_paths.specs.declared.elements.Elem.TheVariants.{AnyIndex, Index, Name, Var}
use Rattle.held_span.proofs.same.same_elems.Goals as goal

-- two elements are the same if they are of one kind and have the same number
elem_decides : (a b : Elem) → Decides ((elem_eq.ghosts).eq a b) (a ≡ b)
elem_decides (Name x) (Name y) = Decides-like _ (λ same. ap (λ (n : ℕ). Name n) same) (λ same. cc (same)) (Decides-eqb x y)
elem_decides (Index x) (Index y) = Decides-like _ (λ same. ap (λ (n : ℤ). Index n) same) (λ same. cc (same)) (Decides-int_eq x y)
elem_decides (Var x) (Var y) = Decides-like _ (λ same. ap (λ (n : ℕ). Var n) same) (λ same. cc (same)) (Decides-eqb x y)
elem_decides AnyIndex AnyIndex = (λ yes. refl, λ same. refl)
elem_decides a b = (λ yes. absurd (cc (yes)), λ same. absurd (cc (same)))

pub returns : goal.returns
returns c = (slice_eq-Decides elem_decides _ _ _ c.eq.ensures).0
