use Rattle.std.proofs.Common.{refl}
use Rattle.std.proofs.lemmas.List.{take_rest}
use Rattle.twe_lexer.proofs.Beginnings.{block_begins}
use Rattle.twe_lexer.proofs.extent.block_comment.Goals as goal

-- the comment ends after the first `*/`
pub returns : goal.returns
returns c =
    let found = rw (take_rest c.args.text.now 2) at c.in_ok-at.ensures.first in
    block_begins c.args.text.now _ c.in_ok-at.at c.requires found.0 found.1 found.2 refl
