-- A line has the effects of its summary.
use Rattle.std.proofs.Common.{◌≡◌, ℕ, suc, Bool, true, false, List, [], ◌∷◌, map, Some, inl, inr, refl, sym, ◌∙◌, subst}
use Rattle.std.specs.Prelude.{slice_get}
use Rattle.std.specs.List.{AllZip}
use Rattle.region_paths.specs.declared.elements.Elem.{Elem}
use Rattle.effect_sets.specs.declared.effects.Effect.{Effect}
use Rattle.effect_sets.specs.declared.effects.Summary.{Summary}
use Rattle.twe_program.specs.Program.{Program}
use Rattle.effect_infer.specs.needs.Needs.{effect_of}
use Rattle.effect_infer.specs.Inferred.{IsLeast, AreLeast}
use Rattle.twe_base.proofs.Members.{IsIn, contains-in, in-contains, in-cases, in-left, in-right}
use Rattle.moved_places.proofs.Lists.{in-map, map-in}
use Rattle.summary_texts.specs.paste_laws.Pasted.{HaveSameEffects}
use Rattle.summary_texts.specs.Order.{summary_paths_of}
use Rattle.summary_texts.specs.Pasting.{effect_on, in_line}
use Rattle.summary_texts.proofs.Inserting.{paths-from, in-paths}

-- an effect whose path has no star
abbrev IsPlain : Effect → Type 0
IsPlain effect = effect ≡ effect_on effect.write effect.path.elems

on-same : (effect : Effect) (write : Bool) (path : List Elem) → IsPlain effect → effect.write ≡ write → effect.path.elems ≡ path → effect ≡ effect_on write path
on-same effect write path plain e f = plain ∙ (λ i. effect_on (e i) (f i))

module _ (summary : Summary) (plain : (effect : Effect) → IsIn effect summary.effects → IsPlain effect) where
  part-from : (write : Bool) (effect : Effect) → IsIn effect (map (effect_on write) (summary_paths_of write summary.effects)) → IsIn effect summary.effects
  part-from write effect h =
      let path = map-in (effect_on write) (summary_paths_of write summary.effects) effect h in
      elim (paths-from write [] summary.effects path.0 path.1) [
        | inl none ↦ absurd none
        | inr its ↦ subst (λ (x : Effect). IsIn x summary.effects) (on-same its.0 write path.0 (plain its.0 its.1) its.2 its.3 ∙ sym path.2) its.1
      ]

  from-line : (effect : Effect) → IsIn effect (in_line summary).effects → IsIn effect summary.effects
  from-line effect h =
      elim (in-cases effect (map (effect_on false) (summary_paths_of false summary.effects)) (map (effect_on true) (summary_paths_of true summary.effects)) h) [
        | inl read ↦ part-from false effect read
        | inr written ↦ part-from true effect written
      ]

  part-of : (write : Bool) (effect : Effect) → effect.write ≡ write → IsIn effect summary.effects → IsIn effect (map (effect_on write) (summary_paths_of write summary.effects))
  part-of write effect is h =
      let path = in-paths write [] summary.effects effect is h in
      subst (λ (x : Effect). IsIn x (map (effect_on write) (summary_paths_of write summary.effects))) (sym (on-same effect write effect.path.elems (plain effect h) is refl))
      (in-map (effect_on write) (summary_paths_of write summary.effects) effect.path.elems path)

  to-line-by : (b : Bool) (effect : Effect) → effect.write ≡ b → IsIn effect summary.effects → IsIn effect (in_line summary).effects
  to-line-by false effect is h = in-left effect (map (effect_on false) (summary_paths_of false summary.effects)) (map (effect_on true) (summary_paths_of true summary.effects)) (part-of false effect is h)
  to-line-by true effect is h = in-right effect (map (effect_on false) (summary_paths_of false summary.effects)) (map (effect_on true) (summary_paths_of true summary.effects)) (part-of true effect is h)

  line-same : HaveSameEffects (in_line summary) summary
  line-same effect = (
    λ there. in-contains summary.effects effect (from-line effect (contains-in (in_line summary).effects effect there)),
    λ there. in-contains (in_line summary).effects effect (to-line-by effect.write effect refl (contains-in summary.effects effect there)),
  )

least-plain : (p : Program) (m : ℕ) (summary : Summary) → IsLeast p m summary → (effect : Effect) → IsIn effect summary.effects → IsPlain effect
least-plain p m summary least effect there =
    let found = map-in effect_of least.0 effect (subst (λ (s : Summary). IsIn effect s.effects) least.3 there) in
    subst IsPlain (sym found.2) refl

all-lines : (summaries : List Summary) → ((m : ℕ) (summary : Summary) → slice_get summaries m ≡ Some summary → HaveSameEffects (in_line summary) summary)
    → AllZip HaveSameEffects (map in_line summaries) summaries
all-lines [] h = tt
all-lines (summary ∷ summaries) h = (h 0 summary refl, all-lines summaries (λ m its e. h (suc m) its e))

-- the lines of least summaries have their effects
pub lines-same : (p : Program) (summaries : List Summary) → AreLeast p summaries → AllZip HaveSameEffects (map in_line summaries) summaries
lines-same p summaries least = all-lines summaries (λ m summary e. line-same summary (least-plain p m summary (least.least m summary e)))
