use Rattle.std.proofs.Common.{◌≡◌, ◌≢◌, Bool, true, false, ◌&&◌, List, [], ◌∷◌, length, zip, refl, ap, ◌∙◌, arith, ne_eqb}
use Rattle.std.specs.List.{list_all}
use Rattle.region_paths.specs.declared.elements.Elem.{Elem}
use Rattle.floor_laws.specs.table.nodes.Without.{same_elem, same_elems}
use Rattle.floor_laws.proofs.table.nodes.same_effect.same_elems.Goals as goal

as_long : (xs ys : List Elem) → length xs ≡ length ys → list_all (λ pair. same_elem pair.0 pair.1) (zip xs ys) ≡ same_elems xs ys
as_long [] [] same = refl
as_long [] (y ∷ ys) same = absurd (omega (arith, same))
as_long (x ∷ xs) [] same = absurd (omega (arith, same))
as_long (x ∷ xs) (y ∷ ys) same = ap (λ (b : Bool). same_elem x y && b) (as_long xs ys (omega (arith, same)))

neither : (b : Bool) → false ≡ (b && false)
neither true = refl
neither false = refl

other_length : (xs ys : List Elem) → length xs ≢ length ys → false ≡ same_elems xs ys
other_length [] [] other = absurd (other refl)
other_length [] (y ∷ ys) other = refl
other_length (x ∷ xs) [] other = refl
other_length (x ∷ xs) (y ∷ ys) other = neither (same_elem x y) ∙ ap (λ (b : Bool). same_elem x y && b) (other_length xs ys (λ same. other (omega (arith, same))))

pub returns-then-a-b : goal.returns-then-a-b
returns-then-a-b c = let is = c.if-a-b.true in c.all_same.ensures ∙ as_long c.args.a.now c.args.b.now (omega (arith, is))

pub returns-else-a-b : goal.returns-else-a-b
returns-else-a-b c =
    let is = c.if-a-b.false in
    let other : length c.args.a.now ≢ length c.args.b.now = λ same. absurd (omega (arith, is, same)) in
    ne_eqb (length c.args.a.now) (length c.args.b.now) other ∙ other_length c.args.a.now c.args.b.now other
