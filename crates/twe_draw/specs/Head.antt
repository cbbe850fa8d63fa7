-- What stands above the rows of a picture.
use Rattle.std.specs.Prelude.{◌+◌, ◌-◌, ◌/◌, ◌%◌, ◌++◌, ℕ, List, [], codes, decimal, if◌then◌else◌, nat_lt}
use Rattle.span_profile.specs.Advice.{parallelism_of}
use Rattle.twe_draw.specs.picture.Shapes.{plain_box, title_element, words_at}
use Rattle.twe_draw.specs.declared.words.AxisKind.{AxisKind}
use Rattle.twe_draw.specs.declared.words.AxisKind.TheVariants.{Time, Order}
use Rattle.twe_draw.specs.Numbers.{with_number}
use Rattle.twe_draw.specs.Scale.{picture_height}
use Rattle.twe_draw.specs.Style.{setting}

-- hundredths, as `1.33`
abbrev pub hundredths : ℕ → List ℕ
hundredths number = decimal (number / 100) ++ (with_number (codes ".") (number / 10 % 10) ++ decimal (number % 10))

-- the parallelism of a run, after these words
abbrev pub parallelism_after : List ℕ → ℕ → ℕ → List ℕ
parallelism_after words work span = words ++ hundredths (parallelism_of work span)

-- `work 8, span 6, held span 8`
abbrev pub total_words : ℕ → ℕ → ℕ → List ℕ
total_words work span held =
    with_number (codes "work ") work ++ (with_number (codes ", span ") span ++ with_number (codes ", held span ") held)

-- `, parallelism 1.33`
abbrev pub parallelism_words : ℕ → ℕ → List ℕ
parallelism_words work span = parallelism_after (codes ", parallelism ") work span

-- `work 8, span 6, held span 8, parallelism 1.33`
abbrev pub run_words : ℕ → ℕ → ℕ → List ℕ
run_words work span held = total_words work span held ++ parallelism_words work span

-- the beginning of the tag of the whole picture
unfoldable pub opening_words : List ℕ
opening_words = codes "<svg xmlns='http://www.w3.org/2000/svg' width='1260'"

-- the tag of a whole picture of so many rows
abbrev pub opening : ℕ → List ℕ
opening rows = opening_words ++ (with_number (codes " height='") (picture_height rows) ++ codes "'>\n")

-- the title, and the same words in the picture
abbrev pub titles : List ℕ → List ℕ
titles words = title_element words ++ (codes "\n" ++ words_at 6 22 words)

-- what the axis means
abbrev pub axis_words : AxisKind → List ℕ
axis_words Time =
    codes "Time is virtual: an entry takes as long as it weighs, and begins when all that leads to it has ended,"
    ++ codes " for an admission also what freed it. The axis ends at the held span."
axis_words Order = codes "Each entry of the journal has a column, in their order."

-- the words below the title
abbrev pub axis : AxisKind → List ℕ
axis kind = words_at 6 40 (axis_words kind)

-- a colour and what it means
abbrev pub colour : List ℕ → ℕ → List ℕ → List ℕ
colour class left words = plain_box class left 52 14 ++ words_at (left + 20) 64 words

-- the colours of entries
abbrev pub entry_colours : List ℕ
entry_colours =
    colour (codes "admission") 6 (codes "admission")
    ++ (colour (codes "segment") 126 (codes "segment") ++ colour (codes "waits") 486 (codes "waits"))

-- the colour of admissions that were held
abbrev pub held_colour : List ℕ
held_colour = colour (codes "held") 556 (codes "held")

-- the colours of deterministic tasks
abbrev pub deterministic_colour : List ℕ
deterministic_colour = colour (codes "deterministic") 226 (codes "segment of a deterministic task")

-- the colour of the heaviest chain
abbrev pub chain_colour : List ℕ
chain_colour = colour (codes "chain") 626 (codes "heaviest chain")

-- what the arrows mean
abbrev pub arrow_words : List ℕ
arrow_words = words_at 766 64 (codes "arrow: makes a task; dashed: gives a value")

-- what the colours and the arrows mean
unfoldable pub legend : List ℕ
legend = entry_colours ++ (deterministic_colour ++ (held_colour ++ (chain_colour ++ arrow_words)))

-- how many tasks have no row
abbrev pub rows_left_out_words : ℕ → List ℕ
rows_left_out_words number = with_number (codes "tasks that are left out: ") number

-- the same in the picture, if some of the tasks have no row
abbrev pub rows_left_out : ℕ → ℕ → List ℕ
rows_left_out tasks rows = if nat_lt rows tasks then words_at 246 84 (rows_left_out_words (tasks - rows)) else []

-- the tag of the whole picture and its title
abbrev pub head_top : ℕ → List ℕ → List ℕ
head_top rows words = opening rows ++ titles words

-- what the axis, the colours and the arrows mean, and how many tasks have no row
abbrev pub head_key : AxisKind → ℕ → ℕ → List ℕ
head_key kind tasks rows = axis kind ++ (legend ++ rows_left_out tasks rows)

-- what stands above the rows, if so many tasks have so many rows
unfoldable pub picture_head : AxisKind → ℕ → ℕ → ℕ → ℕ → ℕ → List ℕ
picture_head kind tasks rows work span held =
    head_top rows (run_words work span held) ++ (setting ++ head_key kind tasks rows)
