use Rattle.std.proofs.Common.{sym, ◌∙◌}
use Rattle.seg_journal.proofs.Splits.{position-none, position-parts, position-only}
use Rattle.seg_journal.proofs.number.split_at_first.Goals as goal

pub returns-in_err-at-clause-only : goal.returns-in_err-at-clause-only
returns-in_err-at-clause-only c front rest avoids e =
    absurd (position-none _ front rest _ avoids e (sym c.first_place.ensures ∙ c.in_err-at.was))

pub returns-clause-found : goal.returns-clause-found
returns-clause-found c =
    rw (c.parts_at.ensures.front, c.parts_at.ensures.rest) (position-parts _ _ _ (sym c.first_place.ensures ∙ c.in_ok-at.was))

pub returns-clause-only : goal.returns-clause-only
returns-clause-only c front rest avoids e =
    let parts = position-only _ front rest _ _ avoids e (sym c.first_place.ensures ∙ c.in_ok-at.was) in
    (c.parts_at.ensures.front ∙ parts.before, c.parts_at.ensures.rest ∙ parts.after)
