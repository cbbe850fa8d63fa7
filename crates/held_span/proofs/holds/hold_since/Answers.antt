use Rattle.std.proofs.Common.{◌∙◌, refl, arith}
use Rattle.held_span.proofs.Told.{is_hold, no_time, time_is}
use Rattle.held_span.proofs.holds.hold_since.Goals as goal

pub returns-then-begins-made : goal.returns-then-begins-made
returns-then-begins-made c = λ rows stages told there by before.
    let times = c.args.times.now in
    let begins = c.time_at-begins.ensures ∙ time_is times.starts c.args.number in
    let made = c.time_at-made.ensures ∙ time_is times.ends c.args.maker in
    let early = c.if-begins-made.true in
    no_time rows stages c.args.journal.now c.args.notes.now times told c.args.number c.args.entry there c.args.maker by (omega (arith, begins, made, early))

pub returns : goal.returns
returns c = λ rows stages told there by before.
    let times = c.args.times.now in
    let begins = c.time_at-begins.ensures ∙ time_is times.starts c.args.number in
    let made = c.time_at-made.ensures ∙ time_is times.ends c.args.maker in (
      refl,
      is_hold rows stages c.args.journal.now c.args.notes.now times told c.args.number c.args.entry there c.args.maker c.args.freed_by c.time_at-begins.result c.time_at-made.result
          c.holder_of-holder.result by before begins made c.if-begins-made.false c.holder_of-holder.ensures,
    )
