-- What the body of a declaration needs, act by act: what it reads and writes, what the methods need that it calls, and what the
-- tasks declare that it spawns.
use Rattle.std.specs.Prelude.{ℕ, true, false, List, [], ◌∷◌, map, Option, None, Some, slice_get}
use Rattle.std.specs.List.{flat_map}
use Rattle.region_paths.specs.declared.elements.Elem.{Elem}
use Rattle.region_paths.specs.Written.{WrittenPath}
use Rattle.effect_sets.specs.declared.effects.Effect.{Effect}
use Rattle.effect_sets.specs.declared.effects.Summary.{Summary}
use Rattle.effect_sets.specs.Filled.{fill_effect}
use Rattle.twe_program.specs.declared.program.Decl.{Decl}
use Rattle.twe_program.specs.Program.{Program}
use Rattle.effect_check.specs.declared.act.Act.{Act}
use Rattle.effect_check.specs.declared.act.ActKind.{ActKind}
use Rattle.effect_check.specs.declared.act.ActKind.TheVariants as acts
use Rattle.effect_check.specs.Acts.{acts_in_all}
use Rattle.effect_infer.specs.declared.needs.need.BodyStep.{BodyStep}
use Rattle.effect_infer.specs.declared.needs.need.BodyStep.TheVariants.{Touch, Call}
use Rattle.effect_infer.specs.needs.Needs.{effect_of, settled_elem}
use Rattle.effect_infer.specs.needs.Steps.{steps_in_all}

-- the path as a declaration says it that has so many parameters: a variable that is none of them becomes any index
abbrev pub said_path : ℕ → WrittenPath → WrittenPath
said_path params path = record {
  elems = map (settled_elem params) path.elems;
  star = path.star;
  tail = map (settled_elem params) path.tail;
}

-- the effect as the declaration says it
abbrev pub said_effect : ℕ → Effect → Effect
said_effect params effect = record { write = effect.write; path = said_path params effect.path }

-- what a call needs of the method, if this is its summary
abbrev pub called_needs : Option Summary → List Elem → List Effect
called_needs None args = []
called_needs (Some summary) args = map (fill_effect args) summary.effects

-- what a step of a body needs, if the methods have these summaries
abbrev pub step_needs : List Summary → BodyStep → List Effect
step_needs summaries (Touch need) = effect_of need ∷ []
step_needs summaries (Call method args) = called_needs (slice_get summaries method) args

-- the same, as a declaration says it that has so many parameters
abbrev pub said_needs : List Summary → ℕ → BodyStep → List Effect
said_needs summaries params step = map (said_effect params) (step_needs summaries step)

-- What the body of the declaration reads and writes, and what the methods need that it calls, in the order of the text. Each
-- method needs this summary.
abbrev pub body_needs : Program → List Summary → Decl → List Effect
body_needs p summaries decl = flat_map (said_needs summaries decl.params) (steps_in_all p.cells decl.body.block)

-- What a spawn needs: the effects that the spawned task declares. A task that is made by `executeLater` needs nothing of its
-- maker.
abbrev pub spawn_needs : ActKind → List Effect
spawn_needs (acts.Touch effect place) = []
spawn_needs (acts.Call effects place) = []
spawn_needs (acts.Make future true deterministic effects future_place place) = effects.effects
spawn_needs (acts.Make future false deterministic effects future_place place) = []
spawn_needs (acts.Wait future join place) = []

-- the same, as a declaration says it that has so many parameters
abbrev pub said_spawn : ℕ → Act → List Effect
said_spawn params act = map (said_effect params) (spawn_needs act.kind)

-- what the tasks declare that the body of the declaration spawns, in the order of the text
abbrev pub child_needs : Program → Decl → List Effect
child_needs p decl = flat_map (said_spawn decl.params) (acts_in_all p decl.body.block)
