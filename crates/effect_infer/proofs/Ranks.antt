-- A need that covers another has a higher rank, unless the two are equal.
use Rattle.std.proofs.Common.{◌≡◌, ◌⊎◌, ◌<◌, ◌≤◌, ℕ, ◌+◌, Bool, true, false, not, List, [], ◌∷◌, length, if◌then◌else◌, inl, inr, refl, sym, ap, ◌∙◌, subst, arith}
use Rattle.std.specs.Prelude.{◌&&◌, ◌||◌}
use Rattle.std.proofs.lemmas.Bool.{false≢true, and_parts}
use Rattle.region_paths.specs.declared.elements.Elem.{Elem}
use Rattle.region_paths.specs.declared.elements.Elem.TheVariants.{Name, Index, Var, AnyIndex}
use Rattle.region_paths.specs.Inside.{within, starts_within, inside}
use Rattle.effect_sets.specs.Covers.{effect_covers}
use Rattle.effect_infer.specs.declared.needs.need.Need.{Need}
use Rattle.effect_infer.specs.needs.Needs.{Widens, effect_of}
use Rattle.effect_infer.proofs.needs.Within.{is_index, within-cases}
use Rattle.effect_infer.proofs.needs.Inside.{plain, each-from}
use Rattle.effect_infer.specs.Kept.{is_any, any_indexes, method_rank}

-- the count of one element
abbrev one : Elem → ℕ
one e = if is_any e then 1 else 0

-- at most as many, and equal if as many
pub record AtMost (m n : ℕ) (Same : Type 0) : Type 0 where
  pub below : m ≤ n
  pub same : m ≡ n → Same

any-most : (x : Elem) → is_index x ≡ true → AtMost (one x) 1 (x ≡ AnyIndex)
any-most (Name n) h = absurd (false≢true h)
any-most (Index i) h = record { below = omega arith; same = λ e. absurd (omega (arith, e)) }
any-most (Var k) h = record { below = omega arith; same = λ e. absurd (omega (arith, e)) }
any-most AnyIndex h = record { below = omega arith; same = λ e. refl }

one-most : (x y : Elem) → within x y ≡ true → AtMost (one x) (one y) (x ≡ y)
one-most x y h = elim (within-cases x y h) [
  | inl e ↦ record { below = let same = ap one e in omega (arith, same); same = λ k. e }
  | inr wide ↦
      let most = any-most x wide.1 in
      let is : 1 ≡ one y = ap one (sym wide.0) in
      record { below = omega (arith, most.below, is); same = λ k. most.same (k ∙ sym is) ∙ sym wide.0 }
]

any-fewer : (xs ys : List Elem) → length xs ≡ length ys → starts_within xs ys ≡ true → AtMost (any_indexes xs) (any_indexes ys) (xs ≡ ys)
any-fewer [] [] e h = record { below = omega arith; same = λ k. refl }
any-fewer [] (y ∷ ys) e h = absurd (omega (arith, e))
any-fewer (x ∷ xs) [] e h = absurd (omega (arith, e))
any-fewer (x ∷ xs) (y ∷ ys) e h =
    let parts = and_parts (within x y) (starts_within xs ys) h in
    let here = one-most x y parts.0 in
    let later = any-fewer xs ys (omega (arith, e)) parts.1 in
    record {
      below = omega (arith, here.below, later.below);
      same = λ k.
          ap (λ (z : Elem). z ∷ xs) (here.same (omega (arith, k, here.below, later.below)))
          ∙ ap (λ (zs : List Elem). y ∷ zs) (later.same (omega (arith, k, here.below, later.below)));
    }

abbrev one_write : Bool → ℕ
one_write b = if b then 1 else 0

write-most : (a b : Bool) → (not a || b) ≡ true → AtMost (one_write a) (one_write b) (a ≡ b)
write-most true true h = record { below = omega arith; same = λ e. refl }
write-most true false h = absurd (false≢true h)
write-most false true h = record { below = omega arith; same = λ e. absurd (omega (arith, e)) }
write-most false false h = record { below = omega arith; same = λ e. refl }

pub rank-most : (wide need : Need) → Widens wide need → AtMost (method_rank need) (method_rank wide) (wide ≡ need)
rank-most wide need h =
    let parts = and_parts (inside (plain need.elems) (plain wide.elems)) (not need.write || wide.write) h in
    let each = each-from need.elems wide.elems parts.0 in
    let elems = any-fewer need.elems wide.elems each.long each.front in
    let write = write-most need.write wide.write parts.1 in
    record {
      below = omega (arith, elems.below, write.below);
      same = λ k.
          ap (λ (es : List Elem). record { write = wide.write; elems = es }) (sym (elems.same (omega (arith, k, elems.below, write.below))))
          ∙ ap (λ (b : Bool). record { write = b; elems = need.elems }) (sym (write.same (omega (arith, k, elems.below, write.below))));
    }

-- two needs that cover one another are equal
pub widens-same : (a b : Need) → Widens a b → Widens b a → a ≡ b
widens-same a b h k =
    let first = rank-most a b h in
    let second = rank-most b a k in
    first.same (omega (arith, first.below, second.below))
