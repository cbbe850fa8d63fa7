-- The same needs, each once, make the same lines, in whatever order they stand.
use Rattle.std.proofs.Common.{◌≡◌, ◌≤◌, ◌⊎◌, ℕ, Bool, List, [], ◌∷◌, ◌++◌, length, map, inl, inr, refl, sym, ap, ◌∙◌, subst, length-append, arith}
use Rattle.std.specs.Prelude.{Contains}
use Rattle.region_paths.specs.declared.elements.Elem.{Elem}
use Rattle.effect_sets.specs.declared.effects.Summary.{Summary}
use Rattle.twe_program.specs.Program.{Program}
use Rattle.effect_infer.specs.declared.needs.need.Need.{Need}
use Rattle.effect_infer.specs.needs.Needs.{effect_of}
use Rattle.effect_infer.specs.Kept.{AreDistinct}
use Rattle.effect_infer.specs.Inferred.{HasTooMany, IsLeast}
use Rattle.twe_base.proofs.Members.{IsIn, contains-in, in-cases, in-contains, in-left, in-right}
use Rattle.moved_places.proofs.Lists.{in-map, map-in}
use Rattle.summary_texts.specs.Order.{Ascend, summary_paths_of}
use Rattle.summary_texts.proofs.Ascending.{needs-ascend, one-list}
use Rattle.summary_texts.proofs.Inserting.{Has, in-paths, paths-from}

-- a clause of needs that are there once
pub clause-ascends : (write : Bool) (needs : List Need) → AreDistinct needs → Ascend (summary_paths_of write (map effect_of needs))
clause-ascends write needs distinct = needs-ascend write needs [] distinct (λ need there is none. none) tt

-- a path of a clause is one of a need
module _ (needs others : List Need) (more : (need : Need) → IsIn need needs → IsIn need others) where
  has-also : (write : Bool) (path : List Elem) → Has write (map effect_of needs) path → Has write (map effect_of others) path
  has-also write path has =
      let need = map-in effect_of needs has.0 has.1 in
      (has.0, subst (λ effect. IsIn effect (map effect_of others)) (sym need.2) (in-map effect_of others need.0 (more need.0 need.1)), has.2, has.3)

  pub paths-also : (write : Bool) (path : List Elem) → IsIn path (summary_paths_of write (map effect_of needs)) → IsIn path (summary_paths_of write (map effect_of others))
  paths-also write path there = elim (paths-from write [] (map effect_of needs) path there) [
    | inl none ↦ absurd none
    | inr has ↦
        let also = has-also write path has in
        subst (λ (its : List Elem). IsIn its (summary_paths_of write (map effect_of others))) also.3 (in-paths write [] (map effect_of others) also.0 also.2 also.1)
  ]

pub one-clause : (write : Bool) (needs others : List Need) → AreDistinct needs → AreDistinct others → ((need : Need) → IsIn need needs → IsIn need others) → ((need : Need) → IsIn need others → IsIn need needs)
    → summary_paths_of write (map effect_of needs) ≡ summary_paths_of write (map effect_of others)
one-clause write needs others one other forth back =
    one-list (summary_paths_of write (map effect_of needs)) (summary_paths_of write (map effect_of others)) (clause-ascends write needs one) (clause-ascends write others other)
    (paths-also needs others forth write) (paths-also others needs back write)

-- a list with this element
pub record SplitAt {X : Type 0} (x : X) (xs : List X) : Type 0 where
  pub before : List X
  pub after : List X
  pub list : xs ≡ before ++ x ∷ after

split-at : {X : Type 0} (x : X) (xs : List X) → IsIn x xs → SplitAt x xs
split-at x [] there = absurd there
split-at x (y ∷ ys) (inl same) = record { before = []; after = ys; list = ap (λ z. z ∷ ys) (sym same) }
split-at x (y ∷ ys) (inr later) = let rest = split-at x ys later in record { before = y ∷ rest.before; after = rest.after; list = ap (λ zs. y ∷ zs) rest.list }

-- needs that are there once, and all in another list, are no more than that list has
pub no-more : (needs others : List Need) → AreDistinct needs → ((need : Need) → IsIn need needs → IsIn need others) → length needs ≤ length others
no-more [] others distinct all = omega arith
no-more (need ∷ needs) others distinct all =
    let at = split-at need others (all need (inl refl)) in
    let rest = no-more needs (at.before ++ at.after) distinct.1 (λ its there. without at its there (in-cases its at.before (need ∷ at.after) (subst (IsIn its) at.list (all its (inr there))))) in
    omega (arith, rest, ap length at.list, length-append at.before (need ∷ at.after), length-append at.before at.after)
  where
    without : (at : SplitAt need others) (its : Need) → IsIn its needs → IsIn its at.before ⊎ IsIn its (need ∷ at.after) → IsIn its (at.before ++ at.after)
    without at its there (inl front) = in-left its at.before at.after front
    without at its there (inr (inl same)) = absurd (distinct.0 (subst (Contains needs) same (in-contains needs its there)))
    without at its there (inr (inr back)) = in-right its at.before at.after back

-- two least summaries of one method have the same paths
pub same-clause : (p : Program) (m : ℕ) (one other : Summary) (write : Bool) → IsLeast p m one → IsLeast p m other → summary_paths_of write one.effects ≡ summary_paths_of write other.effects
same-clause p m one other write least also =
    ap (λ (s : Summary). summary_paths_of write s.effects) least.3
    ∙ one-clause write least.0 also.0 least.1.once also.1.once
    (λ need there. contains-in also.0 need ((also.1.exact need).1 ((least.1.exact need).0 (in-contains least.0 need there))))
    (λ need there. contains-in least.0 need ((least.1.exact need).1 ((also.1.exact need).0 (in-contains also.0 need there))))
    ∙ sym (ap (λ (s : Summary). summary_paths_of write s.effects) also.3)

pub summary-ascends : (p : Program) (m : ℕ) (summary : Summary) (write : Bool) → IsLeast p m summary → Ascend (summary_paths_of write summary.effects)
summary-ascends p m summary write least = subst (λ (s : Summary). Ascend (summary_paths_of write s.effects)) (sym least.3) (clause-ascends write least.0 least.1.once)

-- a method has a least summary or too many effects, not both
pub not-least : (p : Program) (m : ℕ) (summary : Summary) → HasTooMany p m → IsLeast p m summary → ⊥
not-least p m summary many least =
    let fewer = no-more many.0 least.0 many.1 (λ need there. contains-in least.0 need ((least.1.exact need).1 (many.3 need (in-contains many.0 need there)))) in
    omega (arith, fewer, many.2, least.2)
