-- A picture is one element whose tags nest.
use Rattle.std.proofs.Common.{◌≡◌, ◌++◌, ◌+◌, ◌-◌, ℕ, Bool, true, false, List, [], ◌∷◌, length, refl, sym, ap, ◌∙◌, append_assoc}
use Rattle.std.specs.Prelude.{◌&&◌, codes, decimal, nat_lt}
use Rattle.std.specs.List.{list_all}
use Rattle.twe_program.specs.Program.{Program}
use Rattle.machine_state.specs.declared.state.TaskRow.{TaskRow}
use Rattle.held_span.specs.declared.hold.Hold.{Hold}
use Rattle.twe_draw.specs.declared.picture.bars.EntryBar.{EntryBar}
use Rattle.twe_draw.specs.picture.Choice.{how_many}
use Rattle.twe_draw.specs.picture.Rows.{rows_from}
use Rattle.twe_draw.specs.picture.Elements.{Attribute, element, empty_element, valued}
use Rattle.twe_draw.specs.picture.Markup.{IsDocument, IsMarkup, IsText, is_text_byte, is_value_byte}
use Rattle.twe_draw.specs.picture.Shapes.{plain_box, title_element, words_at}
use Rattle.twe_draw.proofs.picture.Nest.{plain_box_nests, title_nests, words_nest}
use Rattle.twe_draw.proofs.picture.Values.{number_is_value}
use Rattle.twe_draw.specs.declared.words.AxisKind.{AxisKind}
use Rattle.twe_draw.specs.Head.{arrow_words, axis, axis_words, chain_colour, colour, deterministic_colour, entry_colours, head_key, held_colour, legend, opening_words, picture_head, rows_left_out, rows_left_out_words, run_words, titles}
use Rattle.twe_draw.specs.Pages.{picture_shapes, picture_text}
use Rattle.twe_draw.specs.Scale.{axis_of, picture_height}
use Rattle.twe_draw.specs.Style.{arrow_tip, hatching, setting, style_words}
use Rattle.twe_draw.proofs.Nests.{either_nests, nothing_nests, shapes_nest}

first_of : (a b : Bool) → (a && b) ≡ true → a ≡ true
first_of true b both = refl
first_of false b both = both

second_of : (a b : Bool) → (a && b) ≡ true → b ≡ true
second_of true b both = both
second_of false b both = absurd (cc both)

plain_is_text : (bytes : List ℕ) → list_all is_text_byte bytes ≡ true → IsText bytes
plain_is_text [] plain = IsText.nothing
plain_is_text (byte ∷ bytes) plain =
    IsText.byte byte bytes (first_of (is_text_byte byte) (list_all is_text_byte bytes) plain)
    (plain_is_text bytes (second_of (is_text_byte byte) (list_all is_text_byte bytes) plain))

line_nests : IsMarkup (codes "\n")
line_nests = IsMarkup.text (codes "\n") (IsText.byte 10 [] refl IsText.nothing)

titles_nest : (words : List ℕ) → IsMarkup (titles words)
titles_nest words =
    IsMarkup.both (title_element words) (codes "\n" ++ words_at 6 22 words) (title_nests words)
    (IsMarkup.both (codes "\n") (words_at 6 22 words) line_nests (words_nest words 6 22))

style_nests : IsMarkup (element (codes "style") [] style_words)
style_nests =
    IsMarkup.around (codes "style") [] style_words refl refl (IsMarkup.text style_words (plain_is_text style_words refl))

abbrev tip_attributes : List Attribute
tip_attributes =
    valued (codes "id") (codes "tip") ∷ valued (codes "viewBox") (codes "0 0 8 8") ∷ valued (codes "refX") (codes "8")
    ∷ valued (codes "refY") (codes "4") ∷ valued (codes "markerWidth") (codes "6") ∷ valued (codes "markerHeight") (codes "6")
    ∷ valued (codes "orient") (codes "auto") ∷ []

abbrev tip_path : List Attribute
tip_path = valued (codes "fill") (codes "#777") ∷ valued (codes "d") (codes "M0 0L8 4L0 8z") ∷ []

abbrev tip_inside : List ℕ
tip_inside = codes "\n" ++ empty_element (codes "path") tip_path

tip_nests : IsMarkup arrow_tip
tip_nests =
    IsMarkup.both (element (codes "defs") [] (element (codes "marker") tip_attributes tip_inside)) (codes "\n")
    (IsMarkup.around (codes "defs") [] (element (codes "marker") tip_attributes tip_inside) refl refl
    (IsMarkup.around (codes "marker") tip_attributes tip_inside refl refl
    (IsMarkup.both (codes "\n") (empty_element (codes "path") tip_path) line_nests
    (IsMarkup.empty (codes "path") tip_path refl refl))))
    line_nests

abbrev hatch_attributes : List Attribute
hatch_attributes =
    valued (codes "id") (codes "hatch") ∷ valued (codes "width") (codes "6") ∷ valued (codes "height") (codes "6")
    ∷ valued (codes "patternUnits") (codes "userSpaceOnUse") ∷ []

abbrev stripes : List Attribute
stripes = valued (codes "class") (codes "stripe") ∷ valued (codes "d") (codes "M-1 7L7 -1M-1 1L1 -1M5 7L7 5") ∷ []

abbrev hatch_inside : List ℕ
hatch_inside = codes "\n" ++ empty_element (codes "path") stripes

hatch_nests : IsMarkup hatching
hatch_nests =
    IsMarkup.both (element (codes "defs") [] (element (codes "pattern") hatch_attributes hatch_inside)) (codes "\n")
    (IsMarkup.around (codes "defs") [] (element (codes "pattern") hatch_attributes hatch_inside) refl refl
    (IsMarkup.around (codes "pattern") hatch_attributes hatch_inside refl refl
    (IsMarkup.both (codes "\n") (empty_element (codes "path") stripes) line_nests
    (IsMarkup.empty (codes "path") stripes refl refl))))
    line_nests

setting_nests : IsMarkup setting
unfolding setting
setting_nests =
    IsMarkup.both (element (codes "style") [] style_words ++ codes "\n") (arrow_tip ++ hatching)
    (IsMarkup.both (element (codes "style") [] style_words) (codes "\n") style_nests line_nests)
    (IsMarkup.both arrow_tip hatching tip_nests hatch_nests)

colour_nests : (class : List ℕ) (left : ℕ) (words : List ℕ) → list_all is_value_byte class ≡ true
    → IsMarkup (colour class left words)
colour_nests class left words plain =
    IsMarkup.both (plain_box class left 52 14) (words_at (left + 20) 64 words) (plain_box_nests class left 52 14 plain)
    (words_nest words (left + 20) 64)

entry_colours_nest : IsMarkup entry_colours
entry_colours_nest =
    IsMarkup.both (colour (codes "admission") 6 (codes "admission"))
    (colour (codes "segment") 126 (codes "segment") ++ colour (codes "waits") 486 (codes "waits"))
    (colour_nests (codes "admission") 6 (codes "admission") refl)
    (IsMarkup.both (colour (codes "segment") 126 (codes "segment")) (colour (codes "waits") 486 (codes "waits"))
    (colour_nests (codes "segment") 126 (codes "segment") refl) (colour_nests (codes "waits") 486 (codes "waits") refl))

legend_nests : IsMarkup legend
unfolding legend
legend_nests =
    IsMarkup.both entry_colours (deterministic_colour ++ (held_colour ++ (chain_colour ++ arrow_words))) entry_colours_nest
    (IsMarkup.both deterministic_colour (held_colour ++ (chain_colour ++ arrow_words))
    (colour_nests (codes "deterministic") 226 (codes "segment of a deterministic task") refl)
    (IsMarkup.both held_colour (chain_colour ++ arrow_words) (colour_nests (codes "held") 556 (codes "held") refl)
    (IsMarkup.both chain_colour arrow_words (colour_nests (codes "chain") 626 (codes "heaviest chain") refl)
    (words_nest (codes "arrow: makes a task; dashed: gives a value") 766 64))))

left_out_nests : (tasks rows : ℕ) → IsMarkup (rows_left_out tasks rows)
left_out_nests tasks rows =
    either_nests (nat_lt rows tasks) (words_at 246 84 (rows_left_out_words (tasks - rows))) []
    (words_nest (rows_left_out_words (tasks - rows)) 246 84) nothing_nests

key_nests : (kind : AxisKind) (tasks rows : ℕ) → IsMarkup (head_key kind tasks rows)
key_nests kind tasks rows =
    IsMarkup.both (axis kind) (legend ++ rows_left_out tasks rows) (words_nest (axis_words kind) 6 40)
    (IsMarkup.both legend (rows_left_out tasks rows) legend_nests (left_out_nests tasks rows))

-- lists one after another, however they are put together
regrouped : (o t s k x : List ℕ) → ((o ++ t) ++ (s ++ k)) ++ x ≡ o ++ (t ++ (s ++ (k ++ x)))
regrouped o t s k x = simp append_assoc

at_the_end : (t s k x e n : List ℕ) → ((t ++ (s ++ (k ++ x))) ++ e) ++ n ≡ t ++ (s ++ (k ++ (x ++ (e ++ n))))
at_the_end t s k x e n = simp append_assoc

-- what stands after the height of a picture
abbrev after_height : List ℕ → List ℕ → List ℕ → List ℕ → List ℕ
after_height t s k x = codes ">" ++ ((codes "\n" ++ (t ++ (s ++ (k ++ x)))) ++ codes "</svg>")

from_the_height : (h t s k x : List ℕ)
    → (h ++ codes "'>\n") ++ (t ++ (s ++ (k ++ (x ++ codes "</svg>\n"))))
    ≡ ((h ++ codes "'") ++ after_height t s k x) ++ codes "\n"
from_the_height h t s k x =
    append_assoc h (codes "'>\n") (t ++ (s ++ (k ++ (x ++ codes "</svg>\n"))))
    ∙ sym (append_assoc (h ++ codes "'") (after_height t s k x) (codes "\n")
    ∙ (append_assoc h (codes "'") (after_height t s k x ++ codes "\n")
    ∙ ap (λ (l : List ℕ). h ++ (codes "'>\n" ++ l)) (at_the_end t s k x (codes "</svg>") (codes "\n"))))

-- the attributes of a picture of this height
abbrev size : List ℕ → List Attribute
size h =
    valued (codes "xmlns") (codes "http://www.w3.org/2000/svg") ∷ valued (codes "width") (codes "1260")
    ∷ valued (codes "height") h ∷ []

whole : (h t s k x : List ℕ)
    → (((opening_words ++ ((codes " height='" ++ h) ++ codes "'>\n")) ++ t) ++ (s ++ k)) ++ (x ++ codes "</svg>\n")
    ≡ element (codes "svg") (size h) (codes "\n" ++ (t ++ (s ++ (k ++ x)))) ++ codes "\n"
unfolding opening_words
whole h t s k x =
    regrouped (opening_words ++ ((codes " height='" ++ h) ++ codes "'>\n")) t s k (x ++ codes "</svg>\n")
    ∙ ap (λ (l : List ℕ). codes "<svg xmlns='http://www.w3.org/2000/svg' width='1260' height='" ++ l)
    (from_the_height h t s k x)

pub picture_is_document : (kind : AxisKind) (p : Program) (shown : List Bool) (work span held : ℕ) (chain : List ℕ)
    (bars : List EntryBar) (tasks : List TaskRow) (holds : List Hold)
    → IsDocument (codes "svg") (picture_text kind p shown work span held chain bars tasks holds)
unfolding picture_head
picture_is_document kind p shown work span held chain bars tasks holds =
    let height : List ℕ = decimal (picture_height (how_many shown)) in
    let title : List ℕ = titles (run_words work span held) in
    let key : List ℕ = head_key kind (length tasks) (how_many shown) in
    let shapes : List ℕ = picture_shapes p (axis_of kind held bars) (rows_from 0 shown) chain bars tasks holds in
    record {
      attributes = size height;
      inside = codes "\n" ++ (title ++ (setting ++ (key ++ shapes)));
      text_is = whole height title setting key shapes;
      name_is = refl;
      attributes_are = λ i. number_is_value (picture_height (how_many shown)) i && true;
      nests =
          IsMarkup.both (codes "\n") (title ++ (setting ++ (key ++ shapes))) line_nests
          (IsMarkup.both title (setting ++ (key ++ shapes)) (titles_nest (run_words work span held))
          (IsMarkup.both setting (key ++ shapes) setting_nests
          (IsMarkup.both key shapes (key_nests kind (length tasks) (how_many shown))
          (shapes_nest p (axis_of kind held bars) (rows_from 0 shown) chain bars tasks holds))));
    }
