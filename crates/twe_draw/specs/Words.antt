-- What the words ask for.
use Rattle.std.specs.Prelude.{ℕ, List, [], ◌∷◌, Option, None, Some, codes, bytes_eq, if◌then◌else◌}
use Rattle.twe_draw.specs.declared.words.AxisKind.TheVariants.{Time, Order}
use Rattle.twe_draw.specs.declared.words.Drawing.{Drawing}
use Rattle.twe_draw.specs.declared.words.Drawing.TheVariants.{Picture, Trace}

-- what one word asks for: `order` for a column for each entry, `trace` for the events of a trace, and another for nothing
abbrev pub drawing_named : List ℕ → Option Drawing
drawing_named word =
    if bytes_eq word (codes "order") then Some (Picture Order)
    else if bytes_eq word (codes "trace") then Some Trace
    else None

-- what the words ask for: none for a picture by time, and one word for what it asks for
abbrev pub asked_drawing : List (List ℕ) → Option Drawing
asked_drawing [] = Some (Picture Time)
asked_drawing (word ∷ []) = drawing_named word
asked_drawing (word ∷ next ∷ others) = None

-- the usage line of `twe_draw`
abbrev pub draw_usage_text : List ℕ
draw_usage_text = codes "usage: twe_draw [order | trace]\n"
