use Rattle.std.specs.Prelude.{[]}
use Rattle.draft_tests.proofs.last_read.watch_text.Given as goal

-- the core is one of this program, and begins with no entry
abbrev pub ghosts-watch : goal.ghosts-watch
ghosts-watch a = record { prog = a.p.now; lim = a.lim; earlier = [] }
