-- The first failure of one list after another, and of one thing that is asked for after another.
use Rattle.std.proofs.Common.{◌≡◌, ℕ, ◌+◌, ◌<◌, List, [], ◌∷◌, ◌++◌, length, get_or, drop, Option, None, Some, Bool, true, false, ◌&&◌, refl, sym, ap, ◌∙◌}
use Rattle.std.specs.List.{flat_map}
use Rattle.std.proofs.lemmas.List.{drop_more}
use Rattle.twe_ast.specs.Expression.{Expression}
use Rattle.twe_ast.specs.declared.stmt.LocalType.{LocalType}
use Rattle.name_check.specs.declared.names.GlobalName.{GlobalName}
use Rattle.name_check.specs.declared.scope.LocalName.{LocalName}
use Rattle.name_check.specs.FailsName.{NameFailure}
use Rattle.name_check.specs.Types.{type_of}
use Rattle.name_check.specs.Asks.{Ask, need, place_of}
use Rattle.twe_base.proofs.Firsts as firsts_of
use Rattle.name_check.specs.FailsName.{name_rule_number}
use Rattle.name_check.specs.inner.First.{first_from}
use Rattle.name_check.specs.inner.Failures.{first_of_asks, failures_here, failures_of_need}

pub first_from-append : (first : Option NameFailure) (xs ys : List NameFailure) → first_from first (xs ++ ys) ≡ first_from (first_from first xs) ys
first_from-append first xs ys = firsts_of.first_from-append name_rule_number first xs ys

module _ (globals : List GlobalName) (locals : List LocalName) where
  pub first_of_asks-append : (first : Option NameFailure) (xs ys : List Ask)
      → first_of_asks globals locals first (xs ++ ys) ≡ first_of_asks globals locals (first_of_asks globals locals first xs) ys
  first_of_asks-append first [] ys = refl
  first_of_asks-append first (x ∷ xs) ys = first_of_asks-append (first_from first (failures_here globals locals x)) xs ys

  pub first_of_need : (first : Option NameFailure) (type : Option LocalType) (value : Expression)
      → first_of_asks globals locals first (need type value) ≡ first_from first (failures_of_need type (type_of globals locals value) (place_of value))
  first_of_need first None value = refl
  first_of_need first (Some type) value = refl

pub ruleset firsts = (first_from-append, first_of_asks-append, first_of_need)

pub both_first : (a b c : Bool) → (a && (b && c)) ≡ ((a && b) && c)
both_first true b c = refl
both_first false b c = refl

pub first_of_four : (first : Option NameFailure) (a b c d : List NameFailure)
    → first_from first (a ++ (b ++ (c ++ d))) ≡ first_from (first_from (first_from (first_from first a) b) c) d
first_of_four first a b c d =
    first_from-append first a (b ++ (c ++ d))
    ∙ (first_from-append (first_from first a) b (c ++ d) ∙ first_from-append (first_from (first_from first a) b) c d)

-- what each thing of a list asks for, one thing on
pub each_reported : {X : Type 0} (f : X → List Ask) (globals : List GlobalName) (locals : List LocalName) (items : List X) (i : ℕ) (item : X) → i < length items → get_or items i item ≡ item
    → (first now all : Option NameFailure) → now ≡ first_of_asks globals locals first (f item)
    → first_of_asks globals locals first (flat_map f (drop i items)) ≡ all → first_of_asks globals locals now (flat_map f (drop (i + 1) items)) ≡ all
each_reported f globals locals items i item below is first now all reported so_far =
    let next = drop_more items i item below ∙ ap (λ x. x ∷ drop (i + 1) items) is in
    ap (λ o. first_of_asks globals locals o (flat_map f (drop (i + 1) items))) reported
    ∙ (sym (first_of_asks-append globals locals first (f item) (flat_map f (drop (i + 1) items)))
    ∙ (ap (λ xs. first_of_asks globals locals first (flat_map f xs)) (sym next) ∙ so_far))
