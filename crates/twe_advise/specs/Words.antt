-- What the words ask for.
use Rattle.std.specs.Prelude.{ℕ, List, [], ◌∷◌, Option, None, Some, codes, bytes_eq, if◌then◌else◌}
use Rattle.command_line.specs.Numbers.{number_between}
use Rattle.twe_advise.specs.declared.words.AdviceWords.{AdviceWords}
use Rattle.twe_advise.specs.declared.words.Form.{Form}
use Rattle.twe_advise.specs.declared.words.Form.TheVariants.{Tables, Json}

-- a number of workers that was read asks for its row
abbrev pub asked_row : Form → Option ℕ → Option AdviceWords
asked_row form None = None
asked_row form (Some workers) = Some (record { form = form; workers = Some workers })

-- the words after the form: none, or `--workers` and a number from 1 to 64
abbrev pub asked_workers : Form → List (List ℕ) → Option AdviceWords
asked_workers form [] = Some (record { form = form; workers = None })
asked_workers form (name ∷ []) = None
asked_workers form (name ∷ value ∷ []) =
    if bytes_eq name (codes "--workers") then asked_row form (number_between 1 64 value) else None
asked_workers form (name ∷ value ∷ next ∷ others) = None

-- what the words ask for: `--json` first for JSON, and else tables
abbrev pub asked_advice : List (List ℕ) → Option AdviceWords
asked_advice [] = asked_workers Tables []
asked_advice (word ∷ others) =
    if bytes_eq word (codes "--json") then asked_workers Json others else asked_workers Tables (word ∷ others)

-- the usage line of `twe_advise`
abbrev pub advise_usage_text : List ℕ
advise_usage_text = codes "usage: twe_advise [--json] [--workers K]\n"
