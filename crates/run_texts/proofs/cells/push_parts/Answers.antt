use Rattle.std.proofs.Common.{◌++◌, ℕ, List, ap, ◌∙◌}
use Rattle.std.specs.List.{flat_map}
use Rattle.std.proofs.lemmas.List.{take_all}
use Rattle.isolation_laws.specs.soundness.CellPaths.{concrete}
use Rattle.run_texts.specs.CellTexts.{next_part}
use Rattle.run_texts.proofs.WithinTexts.{parts_mapped}
use Rattle.run_texts.proofs.cells.push_parts.Goals as goal

pub returns : goal.returns
returns c =
    let regions = c.args.regions.now in
    let elems = c.args.elems.now in
    c.loop-elem.invariant
    ∙ ap (λ (l : List ℕ). c.args.text.now ++ l)
    (ap (flat_map (λ elem. next_part regions (concrete elem))) (take_all c.loop-elem.elem-index elems c.loop-elem-test.false) ∙ parts_mapped regions elems)
