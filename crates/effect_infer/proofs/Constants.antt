-- Needs that are the same in each caller.
use Rattle.std.proofs.Common.{◌≡◌, ℕ, true, not, List, [], ◌∷◌, length, map, inl, inr, refl, ap, subst, arith}
use Rattle.std.specs.Prelude.{◌||◌}
use Rattle.std.specs.List.{list_all}
use Rattle.std.proofs.lemmas.Bool.{false≢true, and_parts, and_from}
use Rattle.region_paths.specs.declared.elements.Elem.{Elem}
use Rattle.region_paths.specs.declared.elements.Elem.TheVariants.{Name, Index, Var, AnyIndex}
use Rattle.region_paths.specs.Inside.{within, starts_within, inside}
use Rattle.region_paths.specs.Filled.{fill_elem}
use Rattle.effect_infer.specs.declared.needs.need.Need.{Need}
use Rattle.effect_infer.specs.needs.Needs.{Widens, settled, settled_elem, filled_need}
use Rattle.effect_infer.specs.Crowded.{is_constant, is_constant_need}
use Rattle.effect_infer.proofs.needs.Within.{within-cases}
use Rattle.effect_infer.proofs.needs.Inside.{plain, each-from}

same-elems : (params : ℕ) (args xs : List Elem) → list_all is_constant xs ≡ true → map (settled_elem params) (map (fill_elem args) xs) ≡ xs
same-elems params args [] h = refl
same-elems params args (Name n ∷ xs) h = ap (λ (ys : List Elem). Name n ∷ ys) (same-elems params args xs h)
same-elems params args (Index i ∷ xs) h = ap (λ (ys : List Elem). Index i ∷ ys) (same-elems params args xs h)
same-elems params args (Var k ∷ xs) h = absurd (false≢true h)
same-elems params args (AnyIndex ∷ xs) h = ap (λ (ys : List Elem). AnyIndex ∷ ys) (same-elems params args xs h)

-- the caller needs it as it is
pub same-need : (params : ℕ) (args : List Elem) (need : Need) → is_constant_need need ≡ true → settled params (filled_need args need) ≡ need
same-need params args need h = ap (λ (es : List Elem). record { write = need.write; elems = es }) (same-elems params args need.elems h)

constant-wider : (x w : Elem) → is_constant x ≡ true → within x w ≡ true → is_constant w ≡ true
constant-wider x w h p = elim (within-cases x w p) [
  | inl e ↦ subst (λ z. is_constant z ≡ true) e h
  | inr any ↦ ap is_constant any.0
]

constants-wider : (xs ws : List Elem) → length xs ≡ length ws → list_all is_constant xs ≡ true → starts_within xs ws ≡ true → list_all is_constant ws ≡ true
constants-wider xs [] e h p = refl
constants-wider [] (w ∷ ws) e h p = absurd (false≢true p)
constants-wider (x ∷ xs) (w ∷ ws) e h p =
    let here = and_parts (is_constant x) (list_all is_constant xs) h in
    let parts = and_parts (within x w) (starts_within xs ws) p in
    and_from (is_constant w) (list_all is_constant ws) (constant-wider x w here.0 parts.0) (constants-wider xs ws (omega (arith, e)) here.1 parts.1)

-- what covers it is the same in each caller, too
pub wider-constant : (wide need : Need) → is_constant_need need ≡ true → Widens wide need → is_constant_need wide ≡ true
wider-constant wide need h p =
    let each = each-from need.elems wide.elems (and_parts (inside (plain need.elems) (plain wide.elems)) (not need.write || wide.write) p).0 in
    constants-wider need.elems wide.elems each.long h each.front
