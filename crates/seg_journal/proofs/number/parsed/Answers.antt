use Rattle.std.proofs.Common.{ap, ◌∙◌}
use Rattle.std.proofs.lemmas.Fmt.{parse-decimal}
use Rattle.std.specs.Result.{result_ok}
use Rattle.seg_journal.proofs.number.parsed.Goals as goal

pub returns : goal.returns
returns c n small e =
    c.ok.ensures.value ∙ ap result_ok (parse-decimal 64 n c.args.text.now c.parse.result small small e c.parse.ensures.value.0)
