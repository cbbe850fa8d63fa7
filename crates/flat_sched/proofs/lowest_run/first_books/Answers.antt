use Rattle.flat_sched.proofs.FirstBooks.{first_keeps}
use Rattle.flat_sched.proofs.lowest_run.first_books.Goals as goal

pub returns : goal.returns
returns c = λ p lim. first_keeps p lim _ c.in_ok-add.ensures.added c.in_ok-books.ensures.groups (c.in_ok-books.ensures.enabled p lim)
