-- What interferes with an effect is in its way.
use Rattle.std.proofs.Common.{◌≡◌, ◌≢◌, inl, inr, Bool, false, List, [], ◌∷◌, sym, ◌∙◌, subst}
use Rattle.std.specs.Prelude.{take_while}
use Rattle.std.specs.List.{list_all}
use Rattle.std.proofs.lemmas.Bool.{cases_Bool, false≢true}
use Rattle.region_paths.specs.declared.elements.Elem.{Elem}
use Rattle.region_paths.specs.Filled.{is_solid, solid_prefix}
use Rattle.region_paths.specs.Sets.{SetsMeet}
use Rattle.region_paths.specs.Written.{WrittenPath}
use Rattle.effect_tree.proofs.SolidLemmas.{solid_prefix_meets_solid, solid_prefixes_meet, take_while-other, take_while-solid}
use Rattle.twe_machine.specs.Books.{IsInWay}

-- a list whose elements are not all solid is longer than its solid front
front_shorter : (es : List Elem) → list_all is_solid es ≡ false → take_while is_solid es ≢ es
front_shorter [] not_all is = absurd (false≢true (sym not_all))
front_shorter (e ∷ es) not_all is =
    elim (cases_Bool (is_solid e)) [
      | inl solid ↦
          let rest : list_all is_solid es ≡ false = cc (solid, not_all) in
          front_shorter es rest (let whole = sym (take_while-solid e es solid) ∙ is in cc (whole))
      | inr other ↦ let none = sym (take_while-other e es other) ∙ is in cc (none)
    ]

-- what meets a path is in its way
pub meeting_in_way : (p q : WrittenPath) → SetsMeet p q → IsInWay (solid_prefix p) q.elems q.star
meeting_in_way p q meet =
    elim (cases_Bool q.star) [
      | inl star ↦
          elim (solid_prefixes_meet p q meet.0 meet.1 meet.2) [ inl above ↦ inl above | inr below ↦ inr (inl star, below) ]
      | inr plain ↦
          elim (cases_Bool (list_all is_solid q.elems)) [
            | inl solid ↦ inl (solid_prefix_meets_solid q p meet.0 (record { unstarred = plain; elems = solid }) meet.2 meet.1)
            | inr other ↦
                elim (solid_prefixes_meet p q meet.0 meet.1 meet.2) [
                  | inl above ↦ inl above
                  | inr below ↦ inr (inr (front_shorter q.elems other), below)
                ]
          ]
    ]

-- the same, of the elements and the star of the path
pub way_by : (p q : WrittenPath) (elems : List Elem) (star : Bool) → elems ≡ q.elems → star ≡ q.star → SetsMeet p q → IsInWay (solid_prefix p) elems star
way_by p q elems star elems_is star_is meet =
    subst (λ (xs : List Elem). IsInWay (solid_prefix p) xs star) (sym elems_is)
    (subst (λ (b : Bool). IsInWay (solid_prefix p) q.elems b) (sym star_is) (meeting_in_way p q meet))
