-- What the words ask for, and the lines that are written.
use Rattle.std.specs.Prelude.{ℕ, List, Option, codes}
use Rattle.twe_report.specs.Causes.{by_word}
use Rattle.twe_format.specs.declared.words.FormatRequest.{FormatRequest}
use Rattle.twe_format.specs.declared.words.FormatRequest.TheVariants.{Write, Check}

-- what the words ask for: none for the text in its layout, and `--check` alone for the lines that differ
abbrev pub format_request : List (List ℕ) → Option FormatRequest
format_request words = by_word Write (codes "--check") Check words

-- the usage line of `twe_format`
abbrev pub format_usage_text : List ℕ
format_usage_text = codes "usage: twe_format [--check]\n"

-- a text would be too long in its layout
abbrev pub long_layout_text : List ℕ
long_layout_text = codes "too long in its layout\n"
