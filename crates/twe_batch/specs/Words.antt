-- What the words ask for.
use Rattle.std.specs.Prelude.{◌≡◌, ℕ, List, [], ◌∷◌, ◌++◌, Option, None, Some, codes}
use Rattle.par_check.specs.declared.job.Job.{Job}
use Rattle.par_check.specs.declared.job.Job.TheVariants.{Check, Run}

-- the one word that asks for this
abbrev pub word_for : Job → List ℕ
word_for Check = codes "check"
word_for Run = codes "run"

-- the words are exactly the one that asks for this; or they ask for nothing
abbrev pub IsBatchMeaning : List (List ℕ) → Option Job → Type 0
IsBatchMeaning words (Some job) = words ≡ word_for job ∷ []
IsBatchMeaning words None = (job : Job) → ¬ (words ≡ word_for job ∷ [])

-- the usage line of `twe_batch`
abbrev pub batch_usage_text : List ℕ
batch_usage_text = codes "usage: twe_batch check | run" ++ 10 ∷ []
