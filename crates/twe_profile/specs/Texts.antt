-- The texts that are written. Each line ends with byte 10.
use Rattle.std.specs.Prelude.{ℕ, List, [], ◌∷◌, ◌++◌, codes, decimal}
use Rattle.std.specs.List.{flat_map}

-- the text as a line
abbrev pub profile_line : List ℕ → List ℕ
profile_line text = text ++ 10 ∷ []

-- the usage line of `twe_profile`
abbrev pub profile_usage_text : List ℕ
profile_usage_text = profile_line (codes "usage: twe_profile")

-- the numbers of entries, each after `, `
abbrev pub more_entries : List ℕ → List ℕ
more_entries entries = flat_map (λ entry. codes ", " ++ decimal entry) entries

-- the numbers of entries after a blank, with `, ` between them
abbrev pub entries_text : List ℕ → List ℕ
entries_text [] = []
entries_text (entry ∷ entries) = (codes " " ++ decimal entry) ++ more_entries entries

-- a word and a number
abbrev pub number_line : List ℕ → ℕ → List ℕ
number_line word number = profile_line (word ++ decimal number)

-- `work 8`, `span 6`, `chain 0, 1, 2, 5`
abbrev pub profile_text : ℕ → ℕ → List ℕ → List ℕ
profile_text work span chain =
    (number_line (codes "work ") work ++ number_line (codes "span ") span)
    ++ profile_line (codes "chain" ++ entries_text chain)
