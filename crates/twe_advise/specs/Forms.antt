-- The text of what a run could gain, in each form.
use Rattle.std.specs.Prelude.{◌++◌, ℕ, List}
use Rattle.twe_ast.specs.declared.item.Item.{Item}
use Rattle.twe_program.specs.Program.{Program}
use Rattle.machine_state.specs.declared.state.TaskRow.{TaskRow}
use Rattle.held_span.specs.declared.pair.HeldPair.{HeldPair}
use Rattle.span_profile.specs.declared.totals.TaskWork.{TaskWork}
use Rattle.span_profile.specs.declared.reasons.ChainStep.{ChainStep}
use Rattle.held_span.specs.declared.hold.Hold.{Hold}
use Rattle.twe_advise.specs.Chains.{chain_text}
use Rattle.twe_advise.specs.Holds.{holds_text}
use Rattle.twe_advise.specs.Json.{json_text}
use Rattle.twe_advise.specs.JsonChains.{json_steps}
use Rattle.twe_advise.specs.JsonHolds.{json_pairs}
use Rattle.twe_advise.specs.Texts.{tables_text}
use Rattle.twe_advise.specs.declared.paces.PacedTime.{PacedTime}
use Rattle.twe_advise.specs.declared.words.Form.{Form}
use Rattle.twe_advise.specs.declared.words.Form.TheVariants.{Tables, Json}

-- What is written of a run with this work, this span and this held span, with these holds, in which these pairs held most,
-- whose paced timetables and whose tasks took this, which has made these tasks, whose entries begin at these times at the
-- earliest, and the entries of whose heaviest chain follow one another so. The text of the program has these declarations.
abbrev pub advice_text : Form → Program → List Item → ℕ → ℕ → ℕ → List Hold → List HeldPair → List PacedTime
    → List TaskWork → List TaskRow → List ℕ → List ChainStep → List ℕ
advice_text Tables p items work span held holds pairs paces works tasks starts steps =
    (tables_text p.tasks work span held holds paces works tasks ++ holds_text p items pairs) ++ chain_text p tasks starts steps
advice_text Json p items work span held holds pairs paces works tasks starts steps =
    json_text p.tasks work span held holds paces works tasks (json_pairs p items 0 pairs) (json_steps p tasks starts 0 steps)
