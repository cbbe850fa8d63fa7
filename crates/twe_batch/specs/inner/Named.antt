-- What words ask for, word after word.
use Rattle.std.specs.Prelude.{ℕ, List, [], ◌∷◌, Option, None, Some, codes, bytes_eq, if◌then◌else◌}
use Rattle.par_check.specs.declared.job.Job.{Job}
use Rattle.par_check.specs.declared.job.Job.TheVariants.{Check, Run}

-- what a word asks for, if it asks for something
abbrev pub job_named : List ℕ → Option Job
job_named word = if bytes_eq word (codes "check") then Some Check else (if bytes_eq word (codes "run") then Some Run else None)

-- what the words ask for: only one word can ask for something
abbrev pub job_in : List (List ℕ) → Option Job
job_in [] = None
job_in (word ∷ []) = job_named word
job_in (word ∷ next ∷ others) = None
