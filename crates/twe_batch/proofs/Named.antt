-- What words ask for is what they mean.
use Rattle.std.proofs.Common.{◌≡◌, ℕ, Bool, true, false, List, [], ◌∷◌, Option, None, Some, inl, inr, refl, sym, ap, ◌∙◌, subst}
use Rattle.std.specs.Prelude.{codes, bytes_eq}
use Rattle.std.proofs.lemmas.Bool.{cases_Bool, false≢true}
use Rattle.std.proofs.lemmas.Slice.Eq.{bytes_eq-Decides}
use Rattle.par_check.specs.declared.job.Job.{Job}
use Rattle.par_check.specs.declared.job.Job.TheVariants.{Check, Run}
use Rattle.twe_batch.specs.Words.{IsBatchMeaning, word_for}
use Rattle.twe_batch.specs.inner.Named.{job_in, job_named}

first_of : (word other : List ℕ) → word ∷ [] ≡ other ∷ [] → word ≡ other
first_of word other e = cc

other_word : (word : List ℕ) → bytes_eq word (codes "check") ≡ false → bytes_eq word (codes "run") ≡ false → (job : Job) → word ∷ [] ≡ word_for job ∷ [] → ⊥
other_word word not_check not_run Check e = false≢true (sym not_check ∙ (bytes_eq-Decides word (codes "check")).1 (first_of word (codes "check") e))
other_word word not_check not_run Run e = false≢true (sym not_run ∙ (bytes_eq-Decides word (codes "run")).1 (first_of word (codes "run") e))

pub named_means : (word : List ℕ) → IsBatchMeaning (word ∷ []) (job_named word)
named_means word = elim (cases_Bool (bytes_eq word (codes "check"))) [
  | inl check ↦ rw check (ap (λ (w : List ℕ). w ∷ []) ((bytes_eq-Decides word (codes "check")).0 check))
  | inr not_check ↦ elim (cases_Bool (bytes_eq word (codes "run"))) [
    | inl run ↦ rw (not_check, run) (ap (λ (w : List ℕ). w ∷ []) ((bytes_eq-Decides word (codes "run")).0 run))
    | inr not_run ↦ rw (not_check, not_run) (other_word word not_check not_run)
  ]
]

pub in_means : (words : List (List ℕ)) → IsBatchMeaning words (job_in words)
in_means [] = λ job e. cc
in_means (word ∷ []) = named_means word
in_means (word ∷ next ∷ others) = λ job e. cc
