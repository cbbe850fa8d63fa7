use Rattle.std.proofs.Common.{subst}
use Rattle.twe_parser.specs.Fails.{Refuses}
use Rattle.twe_parser.specs.declared.fail.ParseFail.{ParseFail}
use Rattle.twe_frontend.proofs.read.read_tree.Goals as goal

-- the parser's refusal
pub returns-in-Err-Syntax-clause-refused : goal.returns-in-Err-Syntax-clause-refused
returns-in-Err-Syntax-clause-refused c =
    subst (λ (fail : ParseFail). Refuses fail c.args.text.now) c.in-Err-Syntax.field-0-is c.in-Err-Syntax.ensures.refused
