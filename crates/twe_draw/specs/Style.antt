-- What is the same in each picture: its colours, the tip of its arrows, and the hatching of what was held.
use Rattle.std.specs.Prelude.{◌++◌, ℕ, List, codes}

-- the background, the words and the boxes
abbrev pub page_style : List ℕ
page_style = codes "svg{background:#fff;font:12px sans-serif}text{fill:#222}rect{stroke:#fff;stroke-width:.5}\n"

-- the colours of entries
abbrev pub entry_style : List ℕ
entry_style = codes ".admission{fill:#999}.segment{fill:#56b4e9}.deterministic{fill:#009e73}.waits{fill:#ddd}\n"

-- the lines and the arrows
abbrev pub line_style : List ℕ
line_style = codes ".row{stroke:#bbb}.makes,.gives{fill:none;stroke:#777;marker-end:url(#tip)}.gives{stroke-dasharray:4 2}\n"

-- the heaviest chain
abbrev pub chain_style : List ℕ
chain_style = codes ".chain{fill:none;stroke:#d55e00;stroke-width:3;pointer-events:none}\n"

-- what was held: hatched, with a border
abbrev pub held_style : List ℕ
held_style = codes ".held{fill:url(#hatch);stroke:#cc79a7;stroke-width:1}.stripe{stroke:#cc79a7;stroke-width:2}\n"

-- what differs in the dark: the background, the words and the boxes
abbrev pub dark_page_style : List ℕ
dark_page_style = codes "@media (prefers-color-scheme:dark){svg{background:#111}text{fill:#ddd}rect{stroke:#111}\n"

-- what differs in the dark: the rest
abbrev pub dark_entry_style : List ℕ
dark_entry_style = codes ".waits{fill:#333}.row{stroke:#444}.chain{stroke:#e69f00}}"

-- the tip of an arrow: its size
abbrev pub tip_opening : List ℕ
tip_opening = codes "<defs><marker id='tip' viewBox='0 0 8 8' refX='8' refY='4' markerWidth='6' markerHeight='6' orient='auto'>\n"

-- the tip of an arrow: its shape
abbrev pub tip_shape : List ℕ
tip_shape = codes "<path fill='#777' d='M0 0L8 4L0 8z'/></marker></defs>\n"

-- the hatching: its size
abbrev pub hatch_opening : List ℕ
hatch_opening = codes "<defs><pattern id='hatch' width='6' height='6' patternUnits='userSpaceOnUse'>\n"

-- the hatching: its stripes
abbrev pub hatch_stripes : List ℕ
hatch_stripes = codes "<path class='stripe' d='M-1 7L7 -1M-1 1L1 -1M5 7L7 5'/></pattern></defs>\n"

-- the colours, which differ for the colour-blind too
abbrev pub light_style : List ℕ
light_style = page_style ++ (entry_style ++ (line_style ++ (chain_style ++ held_style)))

-- what differs in the dark
abbrev pub dark_style : List ℕ
dark_style = dark_page_style ++ dark_entry_style

-- the tip of an arrow
abbrev pub arrow_tip : List ℕ
arrow_tip = tip_opening ++ tip_shape

-- the hatching
abbrev pub hatching : List ℕ
hatching = hatch_opening ++ hatch_stripes

-- the whole style
abbrev pub style_words : List ℕ
style_words = light_style ++ dark_style

-- what is the same in each picture
unfoldable pub setting : List ℕ
setting = codes "<style>" ++ (style_words ++ (codes "</style>\n" ++ (arrow_tip ++ hatching)))
