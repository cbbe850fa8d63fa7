-- What a round is about if it is about nothing.
use Rattle.std.specs.Prelude.{[]}
use Rattle.twe_program.specs.Program.{Program}

-- a program with nothing in it
abbrev pub no_program : Program
no_program = record { regions = []; cells = []; methods = []; tasks = []; main = 0 }
