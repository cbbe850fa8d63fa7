-- Needs so different that whatever covers two of them covers a third.
use Rattle.std.specs.Prelude.{◌==◌, Bool, true, false, not, ◌&&◌, ◌||◌, List, [], ◌∷◌, length, zip}
use Rattle.std.specs.Ordering.{int_eq}
use Rattle.std.specs.List.{list_all, list_any}
use Rattle.region_paths.specs.declared.elements.Elem.{Elem}
use Rattle.region_paths.specs.declared.elements.Elem.TheVariants.{Name, Index, Var, AnyIndex}
use Rattle.region_paths.specs.Inside.{within}
use Rattle.effect_infer.specs.declared.needs.need.Need.{Need}

-- an index of any kind
abbrev pub is_no_name : Elem → Bool
is_no_name (Name n) = false
is_no_name (Index i) = true
is_no_name (Var k) = true
is_no_name AnyIndex = true

-- no element is wide enough for both: they are not equal, and one of them is a name
abbrev pub never_meet : Elem → Elem → Bool
never_meet a b = not (is_no_name a && is_no_name b) && not (within a b)

-- two different literals, for which only any index is wide enough
abbrev pub are_different : Elem → Elem → Bool
are_different (Index i) (Index j) = not (int_eq i j)
are_different _ _ = false

-- an element that is wide enough for the first two is wide enough for the third
abbrev pub leads_to : Elem → Elem → Elem → Bool
leads_to a b c = within c a || (within c b || (are_different a b && within c AnyIndex))

-- no path without a star includes both
abbrev pub elems_never_meet : List Elem → List Elem → Bool
elems_never_meet xs ys = not (length xs == length ys) || list_any (λ pair. never_meet pair.0 pair.1) (zip xs ys)

-- a path without a star that includes the first two includes the third
abbrev pub elems_lead : List Elem → List Elem → List Elem → Bool
elems_lead xs ys zs =
    (length xs == length zs)
    && ((length ys == length zs) && list_all (λ three. leads_to three.0.0 three.0.1 three.1) (zip (zip xs ys) zs))

-- a need that covers the first two covers the third
abbrev pub need_leads : Need → Need → Need → Bool
need_leads a b c =
    elems_never_meet a.elems b.elems
    || (elems_lead a.elems b.elems c.elems && (not c.write || (a.write || b.write)))

-- each two of the needs are such that what covers both covers this one
abbrev pub are_spread_out : List Need → Need → Bool
are_spread_out [] need = true
are_spread_out (a ∷ others) need = list_all (λ b. need_leads a b need) others && are_spread_out others need
