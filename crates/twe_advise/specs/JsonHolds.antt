-- The pairs of declared effects that held most as JSON. Names are identifiers, so nothing in an effect has to be escaped.
use Rattle.std.specs.Prelude.{◌++◌, ℕ, suc, List, [], ◌∷◌, codes, slice_get}
use Rattle.twe_ast.specs.declared.item.Item.{Item}
use Rattle.twe_program.specs.Program.{Program}
use Rattle.held_span.specs.declared.pair.DeclaredEffect.{DeclaredEffect}
use Rattle.held_span.specs.declared.pair.EffectPair.{EffectPair}
use Rattle.held_span.specs.declared.pair.HeldPair.{HeldPair}
use Rattle.run_texts.specs.TaskLabels.{decl_name}
use Rattle.twe_advise.specs.Holds.{declared_effect}
use Rattle.twe_advise.specs.Json.{comma_before}
use Rattle.twe_advise.specs.JsonChains.{json_place_found}
use Rattle.twe_advise.specs.Texts.{word_number}

-- `{"effect":"writes D:[i]","name":"inc","line":3,"column":6}`
abbrev pub json_effect : Program → List Item → DeclaredEffect → List ℕ
json_effect p items its =
    codes "{\"effect\":\""
    ++ (declared_effect p items its
    ++ (codes "\",\"name\":\""
    ++ (decl_name (slice_get p.tasks its.decl) ++ (codes "\"" ++ (json_place_found (slice_get p.tasks its.decl) ++ codes "}")))))

-- `,"holder":{..},"held":{..}`
unfoldable pub json_sides : Program → List Item → EffectPair → List ℕ
json_sides p items pair =
    codes ",\"holder\":" ++ (json_effect p items pair.holder ++ (codes ",\"held\":" ++ json_effect p items pair.held))

-- `{"time":12,"admissions":3,"holder":{..},"held":{..}}`
abbrev pub json_pair : Program → List Item → HeldPair → List ℕ
json_pair p items held =
    word_number (codes "{\"time\":") held.time
    ++ (word_number (codes ",\"admissions\":") held.admissions ++ (json_sides p items held.pair ++ codes "}"))

-- the object of the pair with this number, which comes after a comma unless it is the first
abbrev pub json_next_pair : Program → List Item → ℕ → HeldPair → List ℕ
json_next_pair p items number pair = comma_before number ++ json_pair p items pair

-- the objects of these pairs, the first of which has this number
abbrev pub json_pairs : Program → List Item → ℕ → List HeldPair → List ℕ
json_pairs p items number [] = []
json_pairs p items number (pair ∷ pairs) = json_next_pair p items number pair ++ json_pairs p items (suc number) pairs
