use Rattle.std.proofs.Common.{◌≡◌, ◌+◌, ℕ, subst, arith}
use Rattle.machine_state.specs.Runs.{counted}
use Rattle.span_profile.specs.Strands.{strands}
use Rattle.twe_draw.proofs.picture.InTime.{one_bar_each}
use Rattle.twe_draw.specs.Marks.{marked, marks_of}
use Rattle.twe_draw.proofs.OneMark.{one_mark, only_marked}
use Rattle.twe_draw.proofs.laws.each_shown_entry_has_one_mark.Goals as goal

-- the others write nothing
pub returns-clause-bars : goal.returns-clause-bars
returns-clause-bars c = λ p tasks bars rows axis. only_marked p tasks bars rows axis bars

-- each has one bar, since their numbers differ
pub returns-clause-one : goal.returns-clause-one
returns-clause-one c = λ p lim moves work span held chain bars tasks holds picture rows number row bar there has.
    let same : 0 + number ≡ number = omega arith in
    subst (λ (n : ℕ). marks_of n (marked rows bars) ≡ 1) same
    (one_mark rows 0 number row (strands p lim (counted picture.drawn.journal)) bars bar
    (one_bar_each p lim moves work span held chain bars tasks holds picture) there has)
