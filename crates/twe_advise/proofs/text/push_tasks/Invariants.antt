use Rattle.std.proofs.Common.{◌≡◌, ◌++◌, take}
use Rattle.twe_advise.specs.Texts.{task_rows}
use Rattle.twe_advise.proofs.text.push_tasks.Given as goal

-- the rows up to here were written
abbrev pub invariant-loop-number : goal.invariant-loop-number
invariant-loop-number l = l.text ≡ l.fn.text ++ task_rows l.works l.rows l.holds 0 (take l.number l.decls)
