-- The order in which needed effects are written: those that only read before those that write, and then by their paths.
use Rattle.std.specs.Prelude.{ℕ, suc, nat_lt, int_lt, Bool, true, false, not, ◌&&◌, ◌||◌, List, [], ◌∷◌, insert, if◌then◌else◌}
use Rattle.region_paths.specs.declared.elements.Elem.{Elem}
use Rattle.region_paths.specs.declared.elements.Elem.TheVariants.{Name, Index, Var, AnyIndex}
use Rattle.region_paths.specs.Written.{WrittenPath}
use Rattle.effect_sets.specs.declared.effects.Effect.{Effect}

-- names come first, then literals, then parameters, then any index
abbrev pub elem_rank : Elem → ℕ
elem_rank (Name n) = 0
elem_rank (Index i) = 1
elem_rank (Var k) = 2
elem_rank AnyIndex = 3

-- two names, two literals and two parameters go by their numbers
abbrev pub elem_precedes : Elem → Elem → Bool
elem_precedes (Name n) (Name m) = nat_lt n m
elem_precedes (Index i) (Index j) = int_lt i j
elem_precedes (Var k) (Var l) = nat_lt k l
elem_precedes a b = nat_lt (elem_rank a) (elem_rank b)

-- lists go by their first elements that differ; a list that another begins with comes first
abbrev pub elems_precede : List Elem → List Elem → Bool
elems_precede xs [] = false
elems_precede [] (y ∷ ys) = true
elems_precede (x ∷ xs) (y ∷ ys) = elem_precedes x y || (not (elem_precedes y x) && elems_precede xs ys)

-- paths go by their elements; of two with the same ones, that without a star comes first, and then the elements after it decide
abbrev pub path_precedes : WrittenPath → WrittenPath → Bool
path_precedes p q =
    elems_precede p.elems q.elems
    || (not (elems_precede q.elems p.elems)
    && ((q.star && not p.star) || (not (p.star && not q.star) && elems_precede p.tail q.tail)))

-- an effect that only reads comes before one that writes; else their paths decide
abbrev pub effect_precedes : Effect → Effect → Bool
effect_precedes d e = (e.write && not d.write) || (not (d.write && not e.write) && path_precedes d.path e.path)

-- how many effects stand before the first that the effect precedes
abbrev pub place_among : List Effect → Effect → ℕ
place_among [] effect = 0
place_among (first ∷ effects) effect = if effect_precedes effect first then 0 else suc (place_among effects effect)

-- the first effects, with each of the others in its place
abbrev pub with_each_placed : List Effect → List Effect → List Effect
with_each_placed placed [] = placed
with_each_placed placed (effect ∷ effects) =
    with_each_placed (insert placed (place_among placed effect) effect) effects

-- the effects in their order
abbrev pub in_effect_order : List Effect → List Effect
in_effect_order effects = with_each_placed [] effects
