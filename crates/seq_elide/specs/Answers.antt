-- What the call returns for each end of a sequential execution.
use Rattle.std.specs.Prelude.{◌≡◌, ◌-◌, ℤ, length}
use Rattle.seq_elide.specs.declared.execution.Elided.{Elided}
use Rattle.seq_elide.specs.declared.fail.ElideFail.{ElideFail}
use Rattle.seq_elide.specs.declared.fail.ElideFail.TheVariants.{Fault, NotForkJoin, OutOfMemory}
use Rattle.determinism_laws.specs.declared.elision.progress.Progress.{Progress}
use Rattle.determinism_laws.specs.elision.Elision.{Ending, ends, fails, strays, goes_on}

-- the result of an execution that has ended with this value; the first task was not made by it
abbrev pub elided_with : ℤ → Progress → Elided
elided_with value s = record { value = value; cells = s.cells; prints = s.prints; makes = length s.values - 1 }

-- the execution has ended with a value, and this is its result
abbrev pub EndsWith : Ending → Elided → Type 0
EndsWith (ends value s) result = result ≡ elided_with value s
EndsWith (fails kind place) result = ⊥
EndsWith strays result = ⊥
EndsWith goes_on result = ⊥

-- the execution has not ended with a value, and this is why; want of memory needs no reason
abbrev pub FailsWith : Ending → ElideFail → Type 0
FailsWith ending (Fault kind place) = ending ≡ fails kind place
FailsWith ending NotForkJoin = ending ≡ strays
FailsWith ending (OutOfMemory memory) = Unit {0}
