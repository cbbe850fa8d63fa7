use Rattle.std.proofs.Common.{◌++◌, ℕ, List, ap, ◌∙◌}
use Rattle.std.specs.Prelude.{codes}
use Rattle.std.proofs.lemmas.Result.{on_ok_weaker}
use Rattle.run_texts.specs.CellTexts.{cell_text}
use Rattle.twe_advise.specs.JsonChains.{json_wrote}
use Rattle.twe_advise.proofs.Pieces.{four_right}
use Rattle.twe_advise.proofs.json_chains.push_json_wrote.Goals as goal

pub returns : goal.returns
returns c =
    on_ok_weaker c.push_all-3.result
    (λ last.
    four_right c.args.text.now (codes "\"writes\"") (codes ",\"path\":\"") (cell_text c.args.p.now c.args.cell) (json_wrote c.args.wrote) c.push_all.new.self c.push_all-2.new.self c.push_cell_path.new.text c.push_all-3.new.self
    c.in_ok-push_all.ensures.ok c.in_ok-push_all-2.ensures.ok c.in_ok-push_cell_path.ensures
    (last ∙ ap (λ (l : List ℕ). c.push_cell_path.new.text ++ l) c.json_wrote.ensures))
    c.push_all-3.ensures.ok
