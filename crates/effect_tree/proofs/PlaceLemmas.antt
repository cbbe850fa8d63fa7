-- The laws on places.
use Rattle.std.proofs.Common.{◌≡◌, List, IsTrue, ◌⊎◌, inl, inr, ⊎_elim}
use Rattle.region_paths.specs.declared.elements.Elem.{Elem}
use Rattle.region_paths.specs.Written.{WrittenPath}
use Rattle.region_paths.specs.Filled.{solid_prefix}
use Rattle.region_paths.specs.Inside.{inside}
use Rattle.region_paths.specs.Sets.{SetsMeet}
use Rattle.prefix_tree.specs.Prefix.{IsPrefix}
use Rattle.effect_tree.specs.Place.{IsPlace, IsSolid}
use Rattle.prefix_tree.proofs.PrefixLemmas.{IsPrefix-trans, IsPrefix-antisym}
use Rattle.effect_tree.proofs.SolidLemmas.{solid_prefixes_meet, solid_prefix_meets_solid, solid_prefix_inside}

-- what is placed by a shorter solid prefix is placed above
placed_above : (nodes : List (List Elem)) (p q : WrittenPath) (a b : List Elem) → IsPlace nodes p a → IsPlace nodes q b → IsPrefix (solid_prefix q) (solid_prefix p) → IsPrefix b a
placed_above nodes p q a b at_a at_b h = at_a.deepest b at_b.node (IsPrefix-trans b _ _ at_b.above h)

pub place-one : (nodes : List (List Elem)) (p : WrittenPath) (a b : List Elem) → IsPlace nodes p a → IsPlace nodes p b → a ≡ b
place-one nodes p a b at_a at_b =
    IsPrefix-antisym a b (at_b.deepest a at_a.node at_a.above) (at_a.deepest b at_b.node at_b.above)

pub place-meeting : (nodes : List (List Elem)) (p q : WrittenPath) (a b : List Elem) → IsPlace nodes p a → IsPlace nodes q b → SetsMeet p q → IsPrefix a b ⊎ IsPrefix b a
place-meeting nodes p q a b at_a at_b meet =
    ⊎_elim
    (λ h. inl (placed_above nodes q p b a at_b at_a h))
    (λ h. inr (placed_above nodes p q a b at_a at_b h))
    (solid_prefixes_meet p q meet.0 meet.1 meet.2)

pub place-solid : (nodes : List (List Elem)) (p q : WrittenPath) (a b : List Elem) → IsSolid p → IsPlace nodes p a → IsPlace nodes q b → SetsMeet p q → IsPrefix b a
place-solid nodes p q a b solid at_a at_b meet =
    placed_above nodes p q a b at_a at_b (solid_prefix_meets_solid p q meet.0 solid meet.1 meet.2)

pub place-inside : (nodes : List (List Elem)) (p q : WrittenPath) (a b : List Elem) → IsPlace nodes p a → IsPlace nodes q b → IsTrue (inside p q) → IsPrefix b a
place-inside nodes p q a b at_a at_b h = placed_above nodes p q a b at_a at_b (solid_prefix_inside p q h)
