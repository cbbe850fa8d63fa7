-- What bodies read, write and call, gathered from their steps.
use Rattle.std.specs.Prelude.{ℕ, suc, List, [], ◌∷◌, ◌++◌}
use Rattle.twe_program.specs.declared.program.CellDecl.{CellDecl}
use Rattle.twe_program.specs.declared.program.Decl.{Decl}
use Rattle.effect_infer.specs.declared.needs.need.Need.{Need}
use Rattle.effect_infer.specs.declared.needs.need.BodyStep.{BodyStep}
use Rattle.effect_infer.specs.declared.needs.need.BodyStep.TheVariants.{Touch, Call}
use Rattle.effect_infer.specs.needs.Steps.{steps_in_all}
use Rattle.effect_infer.specs.needs.Needs.{settled, filled_need}
use Rattle.effect_infer.specs.declared.found.FoundNeed.{FoundNeed}
use Rattle.effect_infer.specs.declared.found.CallSite.{CallSite}

-- the reads and writes among the steps of a method
abbrev pub starts_of : ℕ → ℕ → List BodyStep → List FoundNeed
starts_of method params [] = []
starts_of method params (Touch need ∷ steps) = record {
  method = method;
  need = settled params need;
} ∷ starts_of method params steps
starts_of method params (Call callee args ∷ steps) = starts_of method params steps

-- the calls among them
abbrev pub calls_of : ℕ → ℕ → List BodyStep → List CallSite
calls_of method params [] = []
calls_of method params (Touch need ∷ steps) = calls_of method params steps
calls_of method params (Call callee args ∷ steps) = record {
  callee = callee;
  caller = method;
  params = params;
  args = args;
} ∷ calls_of method params steps

-- what each method gives, one after the other; the methods are numbered from here on
abbrev pub in_all : {X : Type 0} → (ℕ → Decl → List X) → ℕ → List Decl → List X
in_all g number [] = []
in_all g number (decl ∷ decls) = g number decl ++ in_all g (suc number) decls

-- the reads and writes of one method
abbrev pub starts_in : List CellDecl → ℕ → Decl → List FoundNeed
starts_in cells number decl = starts_of number decl.params (steps_in_all cells decl.body.block)

-- the calls in one method
abbrev pub calls_in : List CellDecl → ℕ → Decl → List CallSite
calls_in cells number decl = calls_of number decl.params (steps_in_all cells decl.body.block)

-- what the caller needs because the called method needs this
abbrev pub handed : CallSite → Need → FoundNeed
handed call need = record { method = call.caller; need = settled call.params (filled_need call.args need) }
