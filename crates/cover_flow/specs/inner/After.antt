-- The transfer functions: the dataflow fact of one future after a statement, from that before it.
use Rattle.std.specs.Prelude.{ℕ, true, false, ◌||◌, if◌then◌else◌}
use Rattle.twe_program.specs.Statement.{Statement, Block, If, While, Return, Statements, no_more, statement, Arms, arm, otherwise, no_else}
use Rattle.cover_flow.specs.declared.facts.Fact.{Fact}
use Rattle.cover_flow.specs.Out.{puts_out, takes_in}

-- no path comes here, so the future is neither out nor not out on one
abbrev pub nowhere : Fact
nowhere = record { out = false; not_out = false }

-- at the start of a body no future is out
abbrev pub at_start : Fact
at_start = record { out = false; not_out = true }

-- where two ways meet: what is so on some path of either
abbrev pub joined : Fact → Fact → Fact
joined a b = record { out = a.out || b.out; not_out = a.not_out || b.not_out }

-- after a spawn into the future: it is out on each path
abbrev pub put_out : Fact → Fact
put_out a = record { out = a.out || a.not_out; not_out = false }

-- after a join of the future: it is out on no path
abbrev pub taken_in : Fact → Fact
taken_in a = record { out = false; not_out = a.out || a.not_out }

-- after a statement that has no others inside it
abbrev pub after_simple : ℕ → Statement → Fact → Fact
after_simple f s seen = if puts_out f s then put_out seen else (if takes_in f s then taken_in seen else seen)

-- After a statement, from before it. No path goes on after a `return`, and after a loop comes what was before it or
-- what one turn makes of that.
abbrev mutual
  pub after : ℕ → Statement → Fact → Fact
  after f (Block point body) seen = after_all f body seen
  after f (If point arms) seen = after_one f arms seen
  after f (While point condition body place) seen = joined seen (after_all f body seen)
  after f (Return point value) seen = nowhere
  after f s seen = after_simple f s seen

  pub after_all : ℕ → Statements → Fact → Fact
  after_all f no_more seen = seen
  after_all f (statement first others) seen = after_all f others (after f first seen)

  pub after_one : ℕ → Arms → Fact → Fact
  after_one f (arm condition body others) seen = joined (after_all f body seen) (after_one f others seen)
  after_one f (otherwise body) seen = after_all f body seen
  after_one f no_else seen = seen
