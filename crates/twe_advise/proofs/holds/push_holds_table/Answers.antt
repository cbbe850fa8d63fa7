use Rattle.std.proofs.Common.{◌∙◌, ◌++◌, ap, arith, List, ℕ}
use Rattle.std.specs.Prelude.{codes}
use Rattle.std.specs.List.{flat_map}
use Rattle.std.proofs.lemmas.Result.{on_ok_weaker}
use Rattle.twe_advise.specs.Holds.{pair_row}
use Rattle.twe_advise.proofs.PairRows.{some_holds}
use Rattle.twe_advise.proofs.Pieces.{two_pieces}
use Rattle.twe_advise.proofs.holds.push_holds_table.Goals as goal

pub returns-in_ok-push_all-in-len1-up : goal.returns-in_ok-push_all-in-len1-up
returns-in_ok-push_all-in-len1-up c =
    let text = c.args.text.now in
    on_ok_weaker c.push_pair_rows.result
    (λ pushed.
    two_pieces text (codes "\n        held  admissions  effects that held most\n") (flat_map (pair_row c.args.p.now c.args.items.now) c.args.pairs.now)
    c.push_all.new.self c.push_pair_rows.new.text c.in_ok-push_all-in-len1-up.ensures.ok pushed
    ∙ ap (λ (l : List ℕ). text ++ l) (some_holds c.args.p.now c.args.items.now c.args.pairs.now (omega arith)))
    c.push_pair_rows.ensures
