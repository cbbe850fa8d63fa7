-- Those that are still enabled stay, and the new ones were entered.
use Rattle.twe_machine.proofs.listing.Listed.{is_listing, was_decided}
use Rattle.twe_machine.proofs.enabled_tasks.EnabledTasks.note.Goals as goal

pub add_admitted-requires : goal.add_admitted-requires
add_admitted-requires c = c.drop_over.ensures.decided (was_decided c.args.st.now c.args.mv c.args.before c.args.self.now c.requires)

pub returns : goal.returns
returns c =
    let st = c.args.st.now in
    is_listing st c.args.mv c.args.before c.args.self.now c.requires c.add_if_enabled.new.self
    (λ s e has h. c.in_ok-add_if_enabled.ensures.kept s e has (c.in_ok-add_admitted.ensures.kept s e has (c.drop_over.ensures.kept s e has h)))
    (λ kind row e here enabled has.
    c.in_ok-add_if_enabled.ensures.kept c.args.mv.task e (row, here, enabled) (c.in_ok-add_admitted.ensures.added kind row e here enabled has))
    c.in_ok-add_if_enabled.ensures.added c.in_ok-add_if_enabled.ensures.decided
