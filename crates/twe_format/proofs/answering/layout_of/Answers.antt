use Rattle.ast_printer.specs.ParsesAgain.{IsTextOf}
use Rattle.layout_laws.proofs.KeptTree.{kept_tree}
use Rattle.twe_format.proofs.answering.layout_of.Goals as goal

-- the layout has the tree of the text
pub returns-in-Ok : goal.returns-in-Ok
returns-in-Ok c =
    let tree = c.args.tree.now in
    let its : IsTextOf c.args.text.now tree = record { tokens = c.requires.tokens; cut = c.requires.cut; writes = c.requires.writes; accepted = c.requires.keeps } in
    record { parsed = c.requires; laid_out = c.in-Ok.ensures.laid_out; again = kept_tree c.args.text.now c.in-Ok.laid tree c.in-Ok.ensures.laid_out its }
