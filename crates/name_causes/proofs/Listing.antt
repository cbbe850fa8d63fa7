-- The needs of several things are those of one after another.
use Rattle.std.proofs.Common.{◌≡◌, ℕ, ◌<◌, ◌+◌, length, get_or, drop, List, [], ◌∷◌, ◌++◌, Option, None, Some, append_assoc, append-nil, refl, sym, ap, ◌∙◌}
use Rattle.std.proofs.lemmas.List.{drop_more}
use Rattle.std.specs.List.{flat_map}
use Rattle.twe_ast.specs.declared.item.ReturnType.{ReturnType}
use Rattle.name_check.specs.declared.names.GlobalName.{GlobalName}
use Rattle.name_check.specs.declared.scope.LocalName.{LocalName}
use Rattle.name_check.specs.Asks.{Ask}
use Rattle.name_check.specs.Sites.{Site, sites_at}
use Rattle.name_causes.specs.declared.need.PlacedNeed.{PlacedNeed}
use Rattle.name_causes.specs.Needs.{need_at_site, need_of_ask, needs_at_sites, needs_of_asks}

pub needs_of_asks-append : (globals : List GlobalName) (locals : List LocalName) (returns : ReturnType) (xs ys : List Ask)
    → needs_of_asks globals locals returns (xs ++ ys) ≡ needs_of_asks globals locals returns xs ++ needs_of_asks globals locals returns ys
needs_of_asks-append globals locals returns [] ys = refl
needs_of_asks-append globals locals returns (x ∷ xs) ys =
    ap (λ zs. need_of_ask globals locals returns x ∷ zs) (needs_of_asks-append globals locals returns xs ys)

pub needs_at_sites-append : (globals : List GlobalName) (xs ys : List Site)
    → needs_at_sites globals (xs ++ ys) ≡ needs_at_sites globals xs ++ needs_at_sites globals ys
needs_at_sites-append globals [] ys = refl
needs_at_sites-append globals (x ∷ xs) ys = ap (λ zs. need_at_site globals x ∷ zs) (needs_at_sites-append globals xs ys)

pub needs_at-here : (globals : List GlobalName) (locals : List LocalName) (returns : ReturnType) (asks : List Ask)
    → needs_at_sites globals (sites_at locals returns asks) ≡ needs_of_asks globals locals returns asks
needs_at-here globals locals returns [] = refl
needs_at-here globals locals returns (x ∷ xs) = ap (λ zs. need_of_ask globals locals returns x ∷ zs) (needs_at-here globals locals returns xs)

-- behind other needs
pub needs_of_asks-then : (globals : List GlobalName) (locals : List LocalName) (returns : ReturnType) (before : List PlacedNeed) (xs ys : List Ask)
    → before ++ needs_of_asks globals locals returns (xs ++ ys)
    ≡ (before ++ needs_of_asks globals locals returns xs) ++ needs_of_asks globals locals returns ys
needs_of_asks-then globals locals returns before xs ys =
    ap (λ zs. before ++ zs) (needs_of_asks-append globals locals returns xs ys)
    ∙ sym (append_assoc before (needs_of_asks globals locals returns xs) (needs_of_asks globals locals returns ys))

pub needs_at_sites-then : (globals : List GlobalName) (before : List PlacedNeed) (xs ys : List Site)
    → before ++ needs_at_sites globals (xs ++ ys) ≡ (before ++ needs_at_sites globals xs) ++ needs_at_sites globals ys
needs_at_sites-then globals before xs ys =
    ap (λ zs. before ++ zs) (needs_at_sites-append globals xs ys) ∙ sym (append_assoc before (needs_at_sites globals xs) (needs_at_sites globals ys))

-- behind other needs and one more
pub needs_of_asks-behind : (globals : List GlobalName) (locals : List LocalName) (returns : ReturnType) (before : List PlacedNeed) (need : PlacedNeed) (xs : List Ask)
    → before ++ need ∷ needs_of_asks globals locals returns xs ≡ (before ++ need ∷ []) ++ needs_of_asks globals locals returns xs
needs_of_asks-behind globals locals returns before need xs = sym (append_assoc before (need ∷ []) (needs_of_asks globals locals returns xs))

pub ruleset listed = (needs_of_asks-then, needs_of_asks-behind, needs_at_sites-then, needs_at-here, append-nil)

-- the needs of what comes first are added
pub one_more : (globals : List GlobalName) (locals : List LocalName) (returns : ReturnType) (before now all : List PlacedNeed) (xs ys : List Ask)
    → now ≡ before ++ needs_of_asks globals locals returns xs → before ++ needs_of_asks globals locals returns (xs ++ ys) ≡ all
    → now ++ needs_of_asks globals locals returns ys ≡ all
one_more globals locals returns before now all xs ys is so_far =
    ap (λ zs. zs ++ needs_of_asks globals locals returns ys) is ∙ (sym (needs_of_asks-then globals locals returns before xs ys) ∙ so_far)

-- two needs are added, and then those of several things
pub two_more : (globals : List GlobalName) (locals : List LocalName) (returns : ReturnType) (before one two all : List PlacedNeed) (first second : PlacedNeed) (xs : List Ask)
    → one ≡ before ++ first ∷ [] → two ≡ one ++ second ∷ [] → all ≡ two ++ needs_of_asks globals locals returns xs
    → all ≡ before ++ first ∷ (second ∷ needs_of_asks globals locals returns xs)
two_more globals locals returns before one two all first second xs e1 e2 e3 =
    e3 ∙ (ap (λ zs. zs ++ needs_of_asks globals locals returns xs) (e2 ∙ ap (λ zs. zs ++ second ∷ []) e1)
    ∙ (append_assoc (before ++ first ∷ []) (second ∷ []) (needs_of_asks globals locals returns xs)
    ∙ append_assoc before (first ∷ []) (second ∷ needs_of_asks globals locals returns xs)))

-- what each thing of a list needs, one thing on
module _ {X : Type 0} (items : List X) (i : ℕ) (item : X) (below : i < length items) (is : get_or items i item ≡ item) (before now all : List PlacedNeed) where
  next_item : drop i items ≡ item ∷ drop (i + 1) items
  next_item = drop_more items i item below ∙ ap (λ x. x ∷ drop (i + 1) items) is

  pub each_more : (f : X → List PlacedNeed) → now ≡ before ++ f item → before ++ flat_map f (drop i items) ≡ all → now ++ flat_map f (drop (i + 1) items) ≡ all
  each_more f added so_far =
      ap (λ zs. zs ++ flat_map f (drop (i + 1) items)) added
      ∙ (append_assoc before (f item) (flat_map f (drop (i + 1) items)) ∙ (ap (λ xs. before ++ flat_map f xs) (sym next_item) ∙ so_far))

  pub each_asked : (f : X → List Ask) (globals : List GlobalName) (locals : List LocalName) (returns : ReturnType) → now ≡ before ++ needs_of_asks globals locals returns (f item)
      → before ++ needs_of_asks globals locals returns (flat_map f (drop i items)) ≡ all → now ++ needs_of_asks globals locals returns (flat_map f (drop (i + 1) items)) ≡ all
  each_asked f globals locals returns added so_far =
      one_more globals locals returns before now all (f item) (flat_map f (drop (i + 1) items)) added
      (ap (λ xs. before ++ needs_of_asks globals locals returns (flat_map f xs)) (sym next_item) ∙ so_far)
