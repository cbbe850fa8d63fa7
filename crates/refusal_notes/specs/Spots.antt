-- The tokens of a text, each with where it begins.
use Rattle.std.specs.Prelude.{◌≡◌, ◌+◌, ◌-◌, ℕ, Bool, false, ◌&&◌, nat_lt, Option, None, Some, List, [], ◌∷◌, ◌++◌, ◌==◌, length, min, slice_get, codes, bytes_eq, if◌then◌else◌}
use Rattle.twe_base.specs.Language.{max_open_brackets}
use Rattle.twe_lexer.specs.Front.{StopsAt}
use Rattle.twe_lexer.specs.Lexeme.{IsUnclosedComment}
use Rattle.twe_lexer.specs.Places.{is_gap, place_after}
use Rattle.twe_lexer.specs.Tokens.{AreFirstLexemes}
use Rattle.refusal_notes.specs.declared.spots.CutText.{CutText}
use Rattle.refusal_notes.specs.declared.spots.Mark.{Mark}
use Rattle.refusal_notes.specs.declared.spots.Span.{Span}
use Rattle.refusal_notes.specs.declared.spots.Spot.{Spot}

-- where the byte after this beginning of a text stands
abbrev pub mark_after : List ℕ → Mark
mark_after before = record { offset = length before; place = place_after before }

-- those of the lexemes that are tokens, in a text that begins with `before`
abbrev pub spots_from : List ℕ → List (List ℕ) → List Spot
spots_from before [] = []
spots_from before (first ∷ others) =
    if is_gap first then spots_from (before ++ first) others
    else (record { start = mark_after before; bytes = first } ∷ spots_from (before ++ first) others)

-- Where no further lexeme is cut off: at the end, at one with a byte that is not allowed, and at a comment without an end.
pub data EndsCut : List ℕ → Type 0 where
  at_end : EndsCut []
  not_allowed : {rest : List ℕ} (at : ℕ) → StopsAt at rest → EndsCut rest
  unclosed : {rest : List ℕ} → IsUnclosedComment rest → EndsCut rest

-- these are the tokens of the text, up to where no further lexeme is cut off
pub record AreSpots (text : List ℕ) (spots : List Spot) : Type 0 where
  pub lexemes : List (List ℕ)
  pub rest : List ℕ
  pub cut : AreFirstLexemes lexemes text rest
  pub ends : EndsCut rest
  pub same : spots ≡ spots_from [] lexemes

-- the text with its tokens
pub record IsCut (text : List ℕ) (cut : CutText) : Type 0 where
  pub bytes : cut.bytes ≡ text
  pub spots : AreSpots text cut.spots

-- the tokens that do not begin before `from`
abbrev pub spots_behind : ℕ → List Spot → List Spot
spots_behind from [] = []
spots_behind from (spot ∷ spots) = if nat_lt spot.start.offset from then spots_behind from spots else spot ∷ spots

-- where the first of these tokens begins that has these bytes, if one has
abbrev pub next_word : List ℕ → List Spot → Option Mark
next_word word [] = None
next_word word (spot ∷ spots) = if bytes_eq spot.bytes word then Some spot.start else next_word word spots

-- the token has these bytes
abbrev pub has_bytes : List ℕ → Option Spot → Bool
has_bytes word None = false
has_bytes word (Some spot) = bytes_eq spot.bytes word

-- the token of this number has these bytes
abbrev pub token_is : List Spot → ℕ → List ℕ → Bool
token_is spots number word = has_bytes word (slice_get spots number)

-- the tokens begin with `f.join();`
abbrev pub begin_with_join : List ℕ → List Spot → Bool
begin_with_join name spots =
    token_is spots 0 name && (token_is spots 1 (codes ".") && (token_is spots 2 (codes "join") && (token_is spots 3 (codes "(")
    && (token_is spots 4 (codes ")") && token_is spots 5 (codes ";")))))

-- how many bytes come before the token
abbrev pub offset_of : Option Spot → ℕ
offset_of None = 0
offset_of (Some spot) = spot.start.offset

-- how many braces are open after a token; no tree has more than the most brackets
abbrev pub depth_past : ℕ → List ℕ → ℕ
depth_past depth bytes =
    if bytes_eq bytes (codes "{") then min depth (max_open_brackets - 1) + 1
    else if bytes_eq bytes (codes "}") then depth - 1 else depth

-- The first `f.join();` that does not begin before `from`, and comes before the end of the body in which `from` lies. So many braces are
-- open before the first of these tokens.
abbrev pub next_join : List ℕ → ℕ → ℕ → List Spot → Option Span
next_join name from depth [] = None
next_join name from depth (spot ∷ spots) =
    if nat_lt spot.start.offset from then next_join name from (depth_past depth spot.bytes) spots
    else if depth_past depth spot.bytes == 0 then None
    else if begin_with_join name (spot ∷ spots)
    then Some (record { start = spot.start; last = offset_of (slice_get (spot ∷ spots) 5) })
    else next_join name from (depth_past depth spot.bytes) spots
