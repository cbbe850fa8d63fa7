-- Filling the variables of a path, and what a path is under a valuation.
use Rattle.std.proofs.Common.{◌≡◌, ℕ, ◌<◌, true, false, IsTrue, List, [], ◌∷◌, map, length, get_or, refl, ap, ap₂, zero, suc, arith, ltb-true}
use Rattle.std.proofs.lemmas.Bool.{false≢true, and_parts, and_from}
use Rattle.region_paths.specs.declared.elements.Elem.{Elem}
use Rattle.region_paths.specs.declared.elements.Elem.TheVariants.{Name, Index, Var, AnyIndex}
use Rattle.region_paths.specs.Written.{WrittenPath}
use Rattle.region_paths.specs.Filled.{Valuation, under, fill_elem, fill, filled, no_var, vars_below, has_args}
use Rattle.region_paths.proofs.ElementLaws.{is_var}
use Rattle.region_paths.proofs.Lists.{no_var-parts, no_var-cons, map-elem_under}

-- an argument that is there is no variable where none of them is
is_var-argument : (args : List Elem) (k : ℕ) (d : Elem) → k < length args → no_var args ≡ true → is_var (get_or args k d) ≡ false
is_var-argument [] k d below plain = absurd (omega arith)
is_var-argument (a ∷ args) zero d below plain = (no_var-parts a args plain).0
is_var-argument (a ∷ args) (suc k) d below plain = is_var-argument args k d (omega arith) (no_var-parts a args plain).1

pub no_var-fill : (args es : List Elem) → vars_below (length args) es ≡ true → no_var args ≡ true → no_var (map (fill_elem args) es) ≡ true
no_var-fill args [] below plain = refl
no_var-fill args (Name n ∷ es) below plain = no_var-fill args es below plain
no_var-fill args (Index i ∷ es) below plain = no_var-fill args es below plain
no_var-fill args (AnyIndex ∷ es) below plain = no_var-fill args es below plain
no_var-fill args (Var k ∷ es) below plain =
    let parts = and_parts _ _ below in
    let there : k < length args = ltb-true _ _ parts.0 in
    no_var-cons _ _ (is_var-argument args k (Var k) there plain) (no_var-fill args es parts.1 plain)

-- a path whose variables all have arguments without variables is filled by them
pub filled-fill : (args : List Elem) (p : WrittenPath) → IsTrue (has_args args p) → IsTrue (no_var args) → IsTrue (filled (fill args p))
filled-fill args p below plain =
    let parts = and_parts _ _ below in
    and_from _ _ (no_var-fill args p.elems parts.0 plain) (no_var-fill args p.tail parts.1 plain)

-- a filled path is the same under every valuation
pub under-filled : (v : Valuation) (p : WrittenPath) → IsTrue (filled p) → under v p ≡ p
under-filled v p h =
    let parts = and_parts _ _ h in
    let made : List Elem → List Elem → WrittenPath = λ elems tail. record { elems = elems; star = p.star; tail = tail } in
    ap₂ made (map-elem_under v p.elems parts.0) (map-elem_under v p.tail parts.1)

-- nothing changes where there is no variable
pub map-fill_elem-no_var : (args es : List Elem) → no_var es ≡ true → map (fill_elem args) es ≡ es
map-fill_elem-no_var args [] h = refl
map-fill_elem-no_var args (Name n ∷ es) h = ap (λ (ys : List Elem). Name n ∷ ys) (map-fill_elem-no_var args es h)
map-fill_elem-no_var args (Index i ∷ es) h = ap (λ (ys : List Elem). Index i ∷ ys) (map-fill_elem-no_var args es h)
map-fill_elem-no_var args (Var k ∷ es) h = absurd (false≢true h)
map-fill_elem-no_var args (AnyIndex ∷ es) h = ap (λ (ys : List Elem). AnyIndex ∷ ys) (map-fill_elem-no_var args es h)

-- a filled path stays as it is
pub fill-filled : (args : List Elem) (p : WrittenPath) → IsTrue (filled p) → fill args p ≡ p
fill-filled args p h =
    let parts = and_parts _ _ h in
    let made : List Elem → List Elem → WrittenPath = λ elems tail. record { elems = elems; star = p.star; tail = tail } in
    ap₂ made (map-fill_elem-no_var args p.elems parts.0) (map-fill_elem-no_var args p.tail parts.1)
