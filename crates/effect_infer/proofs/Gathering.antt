-- What is gathered from all methods is what their bodies read, write and call.
use Rattle.std.proofs.Common.{◌≡◌, ◌⊎◌, ◌<◌, ℕ, zero, suc, ◌+◌, List, [], ◌∷◌, ◌++◌, length, drop, Some, inl, inr, refl, sym, ap, ◌∙◌, subst, arith}
use Rattle.std.specs.Prelude.{slice_get}
use Rattle.std.specs.List.{Contains}
use Rattle.twe_program.specs.declared.program.CellDecl.{CellDecl}
use Rattle.twe_program.specs.declared.program.Decl.{Decl}
use Rattle.twe_program.specs.Program.{Program}
use Rattle.region_paths.specs.declared.elements.Elem.{Elem}
use Rattle.effect_infer.specs.declared.needs.need.Need.{Need}
use Rattle.effect_infer.specs.declared.needs.need.BodyStep.{BodyStep}
use Rattle.effect_infer.specs.declared.needs.need.BodyStep.TheVariants.{Touch, Call}
use Rattle.effect_infer.specs.needs.Steps.{steps_in_all}
use Rattle.effect_infer.specs.needs.Needs.{HasStep, settled}
use Rattle.twe_base.proofs.Members.{IsIn, in-left, in-right, in-cases, contains-in, in-contains}
use Rattle.effect_infer.specs.declared.found.FoundNeed.{FoundNeed}
use Rattle.effect_infer.specs.declared.found.CallSite.{CallSite}
use Rattle.effect_infer.specs.Gathered.{starts_of, calls_of, in_all, starts_in, calls_in}

-- what all methods give is what one of them gives
module _ {X : Type 0} (g : ℕ → Decl → List X) where
  all-in : (number : ℕ) (decls : List Decl) (x : X) → IsIn x (in_all g number decls) → (k : ℕ) × (decl : Decl) × (slice_get decls k ≡ Some decl) × IsIn x (g (number + k) decl)
  all-in number [] x h = absurd h
  all-in number (d ∷ decls) x h = elim (in-cases x (g number d) (in_all g (suc number) decls) h) [
    | inl here ↦ (0, d, refl, let same : number ≡ number + 0 = omega arith in subst (λ n. IsIn x (g n d)) same here)
    | inr later ↦
        let found = all-in (suc number) decls x later in
        let same : suc number + found.0 ≡ number + suc found.0 = omega arith in
        (suc found.0, found.1, found.2, subst (λ n. IsIn x (g n found.1)) same found.3)
  ]

  in-all : (number : ℕ) (decls : List Decl) (x : X) (k : ℕ) (decl : Decl) → slice_get decls k ≡ Some decl → IsIn x (g (number + k) decl) → IsIn x (in_all g number decls)
  in-all number [] x k decl e h = absurd (cc)
  in-all number (d ∷ decls) x zero decl e h =
      let same : number + 0 ≡ number = omega arith in
      let is : decl ≡ d = cc in
      in-left x (g number d) (in_all g (suc number) decls) (subst (λ c. IsIn x (g number c)) is (subst (λ n. IsIn x (g n decl)) same h))
  in-all number (d ∷ decls) x (suc k) decl e h =
      let same : number + suc k ≡ suc number + k = omega arith in
      in-right x (g number d) (in_all g (suc number) decls) (in-all (suc number) decls x k decl e (subst (λ n. IsIn x (g n decl)) same h))

-- what one method gives
start-in : (m params : ℕ) (steps : List BodyStep) (f : FoundNeed) → IsIn f (starts_of m params steps) → (need : Need) × IsIn (Touch need) steps × (f ≡ record { method = m; need = settled params need })
start-in m params [] f h = absurd h
start-in m params (Touch need ∷ steps) f (inl e) = (need, inl refl, e)
start-in m params (Touch need ∷ steps) f (inr h) = let found = start-in m params steps f h in (found.0, inr found.1, found.2)
start-in m params (Call callee args ∷ steps) f h = let found = start-in m params steps f h in (found.0, inr found.1, found.2)

in-start : (m params : ℕ) (steps : List BodyStep) (need : Need) → IsIn (Touch need) steps → IsIn (record { method = m; need = settled params need }) (starts_of m params steps)
in-start m params [] need h = absurd h
in-start m params (Touch other ∷ steps) need (inl e) = inl (let same : need ≡ other = cc in ap (λ (n : Need). record { method = m; need = settled params n }) same)
in-start m params (Touch other ∷ steps) need (inr h) = inr (in-start m params steps need h)
in-start m params (Call callee args ∷ steps) need (inl e) = absurd (cc)
in-start m params (Call callee args ∷ steps) need (inr h) = in-start m params steps need h

call-in : (m params : ℕ) (steps : List BodyStep) (c : CallSite) → IsIn c (calls_of m params steps)
    → (callee : ℕ) × (args : List Elem) × IsIn (Call callee args) steps × (c ≡ record { callee = callee; caller = m; params = params; args = args })
call-in m params [] c h = absurd h
call-in m params (Touch need ∷ steps) c h = let found = call-in m params steps c h in (found.0, found.1, inr found.2, found.3)
call-in m params (Call callee args ∷ steps) c (inl e) = (callee, args, inl refl, e)
call-in m params (Call callee args ∷ steps) c (inr h) = let found = call-in m params steps c h in (found.0, found.1, inr found.2, found.3)

in-call : (m params : ℕ) (steps : List BodyStep) (callee : ℕ) (args : List Elem) → IsIn (Call callee args) steps
    → IsIn (record { callee = callee; caller = m; params = params; args = args }) (calls_of m params steps)
in-call m params [] callee args h = absurd h
in-call m params (Touch need ∷ steps) callee args (inl e) = absurd (cc)
in-call m params (Touch need ∷ steps) callee args (inr h) = in-call m params steps callee args h
in-call m params (Call other others ∷ steps) callee args (inl e) =
    let first : callee ≡ other = cc in
    let second : args ≡ others = cc in
    inl (ap (λ (n : ℕ). record { callee = n; caller = m; params = params; args = args }) first
    ∙ ap (λ (es : List Elem). record { callee = other; caller = m; params = params; args = es }) second)
in-call m params (Call other others ∷ steps) callee args (inr h) = inr (in-call m params steps callee args h)

module _ (p : Program) where
  pub starts-are : (f : FoundNeed) → Contains (in_all (starts_in p.cells) 0 p.methods) f → (decl : Decl) × (need : Need) × HasStep p f.method decl (Touch need) × (f.need ≡ settled decl.params need)
  starts-are f h =
      let one = all-in (starts_in p.cells) 0 p.methods f (contains-in _ _ h) in
      let steps = steps_in_all p.cells one.1.body.block in
      let is = start-in (0 + one.0) one.1.params steps f one.3 in
      let same : f.method ≡ one.0 = ap (λ (g : FoundNeed). g.method) is.2 ∙ zero-plus one.0 in
      (one.1, is.0, (subst (λ m. slice_get p.methods m ≡ Some one.1) (sym same) one.2, in-contains _ _ is.1), ap (λ (g : FoundNeed). g.need) is.2) where
        zero-plus : (n : ℕ) → 0 + n ≡ n
        zero-plus n = omega arith

  pub start-is : (m : ℕ) (decl : Decl) (need : Need) → HasStep p m decl (Touch need) → Contains (in_all (starts_in p.cells) 0 p.methods) (record { method = m; need = settled decl.params need })
  start-is m decl need has =
      let same : m ≡ 0 + m = omega arith in
      let there = in-start m decl.params (steps_in_all p.cells decl.body.block) need (contains-in _ _ has.1) in
      in-contains _ _ (in-all (starts_in p.cells) 0 p.methods _ m decl has.0
      (subst (λ n. IsIn (record { method = m; need = settled decl.params need }) (starts_in p.cells n decl)) same there))

  pub calls-are : (c : CallSite) → Contains (in_all (calls_in p.cells) 0 p.methods) c → (decl : Decl) × HasStep p c.caller decl (Call c.callee c.args) × (c.params ≡ decl.params)
  calls-are c h =
      let one = all-in (calls_in p.cells) 0 p.methods c (contains-in _ _ h) in
      let steps = steps_in_all p.cells one.1.body.block in
      let is = call-in (0 + one.0) one.1.params steps c one.3 in
      let same : c.caller ≡ one.0 = ap (λ (d : CallSite). d.caller) is.3 ∙ zero-plus one.0 in
      let callee : is.0 ≡ c.callee = sym (ap (λ (d : CallSite). d.callee) is.3) in
      let args : is.1 ≡ c.args = sym (ap (λ (d : CallSite). d.args) is.3) in
      let step : IsIn (Call c.callee c.args) steps = subst (λ n. IsIn (Call n c.args) steps) callee (subst (λ es. IsIn (Call is.0 es) steps) args is.2) in
      (one.1, (subst (λ m. slice_get p.methods m ≡ Some one.1) (sym same) one.2, in-contains _ _ step), ap (λ (d : CallSite). d.params) is.3) where
        zero-plus : (n : ℕ) → 0 + n ≡ n
        zero-plus n = omega arith

  pub call-is : (m : ℕ) (decl : Decl) (callee : ℕ) (args : List Elem) → HasStep p m decl (Call callee args)
      → Contains (in_all (calls_in p.cells) 0 p.methods) (record { callee = callee; caller = m; params = decl.params; args = args })
  call-is m decl callee args has =
      let same : m ≡ 0 + m = omega arith in
      let there = in-call m decl.params (steps_in_all p.cells decl.body.block) callee args (contains-in _ _ has.1) in
      in-contains _ _ (in-all (calls_in p.cells) 0 p.methods _ m decl has.0
      (subst (λ n. IsIn (record { callee = callee; caller = m; params = decl.params; args = args }) (calls_in p.cells n decl)) same there))
