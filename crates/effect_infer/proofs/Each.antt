-- The summaries of the methods whose needs are few enough.
use Rattle.std.proofs.Common.{◌≡◌, ◌≤◌, ℕ, zero, suc, Bool, true, false, List, [], ◌∷◌, map, length, Option, None, Some, refl, sym, ap, ◌∙◌, subst, arith}
use Rattle.std.specs.Prelude.{nat_lt, slice_get, if◌then◌else◌}
use Rattle.std.proofs.lemmas.Bool.{ltb-true, ltb-false}
use Rattle.std.proofs.lemmas.List.{length-map}
use Rattle.effect_sets.specs.declared.effects.Summary.{Summary}
use Rattle.twe_base.specs.Language.{max_effects}
use Rattle.twe_program.specs.Program.{Program}
use Rattle.effect_infer.specs.declared.needs.need.Need.{Need}
use Rattle.effect_infer.specs.Rows.{row}
use Rattle.effect_infer.specs.Table.{AreFew, IsWidestTable, few_summary_of}
use Rattle.effect_infer.specs.Inferred.{summary_of, IsLeastIfFew, AreEachLeast}
use Rattle.effect_infer.proofs.Results.{is-least}

-- an element of the summaries
each-at : (table : List (List Need)) (m : ℕ) (its : Option Summary) → slice_get (map few_summary_of table) m ≡ Some its → its ≡ few_summary_of (row table m)
each-at [] m its e = absurd (cc)
each-at (needs ∷ table) zero its e = cc
each-at (needs ∷ table) (suc m) its e = each-at table m its e

module _ (p : Program) (table : List (List Need)) (wide : IsWidestTable p table) where
  if-few : (m : ℕ) (many : Bool) → nat_lt max_effects (length (row table m)) ≡ many → IsLeastIfFew p m (if many then None else Some (summary_of (row table m)))
  if-few m true is = (row table m, wide.once m, ltb-true max_effects (length (row table m)) is, wide.only m)
  if-few m false is = is-least p table wide m (ltb-false max_effects (length (row table m)) is)

  pub each-least : AreEachLeast p (map few_summary_of table)
  each-least = record {
    one_each = length-map table few_summary_of ∙ wide.long;
    least = λ m its e. subst (IsLeastIfFew p m) (sym (each-at table m its e)) (if-few m (nat_lt max_effects (length (row table m))) refl);
  }

-- needs that make a summary are few, and it is theirs
one-few : (needs : List Need) (summary : Summary) (many : Bool) → (if many then None else Some (summary_of needs)) ≡ Some summary → (many ≡ false) × (summary ≡ summary_of needs)
one-few needs summary true e = absurd (cc)
one-few needs summary false e = let same : summary ≡ summary_of needs = cc in (refl, same)

few-row : (needs : List Need) (table : List (List Need)) → length needs ≤ max_effects → AreFew table → AreFew (needs ∷ table)
few-row needs table few all zero = few
few-row needs table few all (suc m) = all m

-- if each method has a summary, no method has too many needs, and these are the summaries of all
all-few : (table : List (List Need)) (all : List Summary) → map few_summary_of table ≡ map Some all → AreFew table × (all ≡ map summary_of table)
all-few [] [] e = (λ m. omega arith, refl)
all-few [] (summary ∷ all) e = absurd (cc)
all-few (needs ∷ table) [] e = absurd (cc)
all-few (needs ∷ table) (summary ∷ all) e =
    let head : few_summary_of needs ≡ Some summary = cc in
    let tail : map few_summary_of table ≡ map Some all = cc in
    let first = one-few needs summary (nat_lt max_effects (length needs)) head in
    let others = all-few table all tail in
    (few-row needs table (ltb-false max_effects (length needs) first.0) others.0, λ i. first.1 i ∷ others.1 i)

-- what holds of the summaries that the table makes, if no method has too many needs
pub made-each : (P : List Summary → Type 0) (table : List (List Need)) (each : List (Option Summary)) (all : List Summary) → each ≡ map few_summary_of table → each ≡ map Some all
    → (AreFew table → P (map summary_of table)) → P all
made-each P table each all is full holds = let few = all-few table all (sym is ∙ full) in subst P (sym few.1) (holds few.0)
