-- What methods need, and so their least summaries, depends neither on places nor on what methods declare.
use Rattle.std.proofs.Common.{◌≡◌, ℕ, zero, suc, List, [], ◌∷◌, map, length, Some, refl, sym, ap, ◌∙◌, subst}
use Rattle.std.specs.Prelude.{slice_get}
use Rattle.std.specs.List.{Contains}
use Rattle.std.proofs.lemmas.List.{length-map}
use Rattle.effect_sets.specs.declared.effects.Summary.{Summary}
use Rattle.twe_program.specs.declared.program.Body.{Body}
use Rattle.twe_program.specs.declared.program.CellDecl.{CellDecl}
use Rattle.twe_program.specs.declared.program.Decl.{Decl}
use Rattle.twe_program.specs.Program.{Program}
use Rattle.effect_infer.specs.declared.needs.need.Need.{Need}
use Rattle.effect_infer.specs.declared.needs.need.BodyStep.{BodyStep}
use Rattle.effect_infer.specs.declared.needs.need.BodyStep.TheVariants.{Touch, Call}
use Rattle.effect_infer.specs.needs.Steps.{steps_in_all}
use Rattle.effect_infer.specs.needs.Needs.{IsNeed, own, called, IsWidest, HasStep, settled, filled_need}
use Rattle.effect_infer.specs.needs.Choices.{with_each, with_summaries}
use Rattle.effect_infer.specs.Inferred.{AreWidest, HasTooMany, IsLeast}
use Rattle.summary_texts.specs.paste_laws.places.Places.{bare_program, placeless_cell, placeless_decl, SameButPlaces}
use Rattle.summary_texts.proofs.SameSteps.{of-statements}

-- a declaration with the same parameters, whose body has the same steps
pub record HasSameSteps (cells theirs : List CellDecl) (decl its : Decl) : Type 0 where
  pub params : its.params ≡ decl.params
  pub steps : steps_in_all theirs its.body.block ≡ steps_in_all cells decl.body.block

-- each method of the first program has one of the second at its place
abbrev pub HaveSameSteps : Program → Program → Type 0
HaveSameSteps p q = (m : ℕ) (decl : Decl) → slice_get p.methods m ≡ Some decl
    → (its : Decl) × (slice_get q.methods m ≡ Some its) × HasSameSteps p.cells q.cells decl its

module _ (p q : Program) (same : HaveSameSteps p q) where
  has-step : (m : ℕ) (decl : Decl) (step : BodyStep) → HasStep p m decl step → (its : Decl) × (its.params ≡ decl.params) × HasStep q m its step
  has-step m decl step has =
      let its = same m decl has.0 in
      (its.0, its.2.params, (its.1, subst (λ (steps : List BodyStep). Contains steps step) (sym its.2.steps) has.1))

  need-moved : (m : ℕ) (need : Need) → IsNeed p m need → IsNeed q m need
  need-moved m need (own n decl inner has) =
      let its = has-step n decl (Touch inner) has in
      subst (λ (params : ℕ). IsNeed q n (settled params inner)) its.1 (own n its.0 inner its.2)
  need-moved m need (called n decl callee args inner has needed) =
      let its = has-step n decl (Call callee args) has in
      subst (λ (params : ℕ). IsNeed q n (settled params (filled_need args inner))) its.1 (called n its.0 callee args inner its.2 (need-moved callee inner needed))

-- an element of a list that is mapped
mapped-to : {X Y : Type 0} (f : X → Y) (xs : List X) (m : ℕ) (x : X) → slice_get xs m ≡ Some x → slice_get (map f xs) m ≡ Some (f x)
mapped-to f [] m x e = absurd (cc)
mapped-to f (y ∷ xs) zero x e = cc
mapped-to f (y ∷ xs) (suc m) x e = mapped-to f xs m x e

mapped-from : {X Y : Type 0} (f : X → Y) (xs : List X) (m : ℕ) (y : Y) → slice_get (map f xs) m ≡ Some y → (x : X) × (slice_get xs m ≡ Some x) × (y ≡ f x)
mapped-from f [] m y e = absurd (cc)
mapped-from f (x ∷ xs) zero y e = (x, refl, cc)
mapped-from f (x ∷ xs) (suc m) y e = mapped-from f xs m y e

-- a declaration that has another summary
abbrev SameBody : Decl → Decl → Type 0
SameBody decl its = (its.params ≡ decl.params) × (its.body ≡ decl.body)

other-to : (summaries : List Summary) (decls : List Decl) (m : ℕ) (decl : Decl) → slice_get decls m ≡ Some decl → (its : Decl) × (slice_get (with_each summaries decls) m ≡ Some its) × SameBody decl its
other-to [] [] m decl e = absurd (cc)
other-to [] (first ∷ decls) m decl e = (decl, e, (refl, refl))
other-to (summary ∷ summaries) [] m decl e = absurd (cc)
other-to (summary ∷ summaries) (first ∷ decls) zero decl e =
    let is : first ≡ decl = cc in
    (record first { summary = summary }, refl, (ap (λ (d : Decl). d.params) is, ap (λ (d : Decl). d.body) is))
other-to (summary ∷ summaries) (first ∷ decls) (suc m) decl e = other-to summaries decls m decl e

other-from : (summaries : List Summary) (decls : List Decl) (m : ℕ) (its : Decl) → slice_get (with_each summaries decls) m ≡ Some its → (decl : Decl) × (slice_get decls m ≡ Some decl) × SameBody its decl
other-from [] [] m its e = absurd (cc)
other-from [] (first ∷ decls) m its e = (its, e, (refl, refl))
other-from (summary ∷ summaries) [] m its e = absurd (cc)
other-from (summary ∷ summaries) (first ∷ decls) zero its e =
    let is : record first { summary = summary } ≡ its = cc in
    (first, refl, (ap (λ (d : Decl). d.params) is, ap (λ (d : Decl). d.body) is))
other-from (summary ∷ summaries) (first ∷ decls) (suc m) its e = other-from summaries decls m its e

with-body : (cells : List CellDecl) (decl its : Decl) → SameBody decl its → HasSameSteps cells cells decl its
with-body cells decl its same = record { params = same.0; steps = ap (λ (body : Body). steps_in_all cells body.block) same.1 }

module _ (p : Program) where
  to-bare : HaveSameSteps p (bare_program p)
  to-bare m decl e = (placeless_decl decl, mapped-to placeless_decl p.methods m decl e, record { params = refl; steps = of-statements p.cells decl.body.block })

  from-bare : HaveSameSteps (bare_program p) p
  from-bare m its e =
      let found = mapped-from placeless_decl p.methods m its e in (
        found.0,
        found.1,
        record {
          params = ap (λ (d : Decl). d.params) (sym found.2);
          steps = sym (of-statements p.cells found.0.body.block) ∙ ap (λ (d : Decl). steps_in_all (map placeless_cell p.cells) d.body.block) (sym found.2);
        },
      )

  to-other : (summaries : List Summary) → HaveSameSteps p (with_summaries summaries p)
  to-other summaries m decl e = let its = other-to summaries p.methods m decl e in (its.0, its.1, with-body p.cells decl its.0 its.2)

  from-other : (summaries : List Summary) → HaveSameSteps (with_summaries summaries p) p
  from-other summaries m its e = let found = other-from summaries p.methods m its e in (found.0, found.1, with-body p.cells its found.0 found.2)

-- a program with other summaries and other places has the same needs
module _ (p q : Program) (summaries : List Summary) (alike : SameButPlaces q (with_summaries summaries p)) where
  abbrev other : Program
  other = with_summaries summaries p

  needs-to : (m : ℕ) (need : Need) → IsNeed p m need → IsNeed q m need
  needs-to m need needed =
      need-moved (bare_program q) q (from-bare q) m need
      (subst (λ (r : Program). IsNeed r m need) (sym alike) (need-moved other (bare_program other) (to-bare other) m need (need-moved p other (to-other p summaries) m need needed)))

  needs-from : (m : ℕ) (need : Need) → IsNeed q m need → IsNeed p m need
  needs-from m need needed =
      need-moved other p (from-other p summaries) m need
      (need-moved (bare_program other) other (from-bare other) m need (subst (λ (r : Program). IsNeed r m need) alike (need-moved q (bare_program q) (to-bare q) m need needed)))

  widest-to : (m : ℕ) (need : Need) → IsWidest p m need → IsWidest q m need
  widest-to m need is = record { needed = needs-to m need is.needed; widest = λ wide needed h. is.widest wide (needs-from m wide needed) h }

  widest-from : (m : ℕ) (need : Need) → IsWidest q m need → IsWidest p m need
  widest-from m need is = record { needed = needs-from m need is.needed; widest = λ wide needed h. is.widest wide (needs-to m wide needed) h }

  pub least-from : (m : ℕ) (summary : Summary) → IsLeast q m summary → IsLeast p m summary
  least-from m summary is =
      let wide : AreWidest p m is.0 = record { exact = λ need. (λ there. widest-from m need ((is.1.exact need).0 there), λ widest. (is.1.exact need).1 (widest-to m need widest)); once = is.1.once } in
      (is.0, wide, is.2, is.3)

  pub many-from : (m : ℕ) → HasTooMany q m → HasTooMany p m
  many-from m is = (is.0, is.1, is.2, λ need there. widest-from m need (is.3 need there))

  with-length : (its : List Summary) (decls : List Decl) → length (with_each its decls) ≡ length decls
  with-length [] [] = refl
  with-length [] (decl ∷ decls) = refl
  with-length (summary ∷ its) [] = refl
  with-length (summary ∷ its) (decl ∷ decls) = ap suc (with-length its decls)

  pub as-many : length q.methods ≡ length p.methods
  as-many =
      sym (length-map q.methods placeless_decl) ∙ ap (λ (r : Program). length r.methods) alike
      ∙ length-map (with_each summaries p.methods) placeless_decl ∙ with-length summaries p.methods

  pub same-regions : q.regions ≡ p.regions
  same-regions = ap (λ (r : Program). r.regions) alike
