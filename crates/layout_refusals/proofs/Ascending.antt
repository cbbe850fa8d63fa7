-- The places of the tokens of a text ascend, up to its end.
use Rattle.std.proofs.Common.{◌≡◌, ℕ, ◌⊎◌, Bool, true, false, if◌then◌else◌, List, [], ◌∷◌, ◌++◌, map, append-nil, append_assoc, inl, inr, refl, sym, ap, ◌∙◌, subst}
use Rattle.twe_base.specs.declared.place.Place.{Place}
use Rattle.twe_base.specs.Order.{IsEarlier}
use Rattle.twe_base.proofs.Members.{IsIn}
use Rattle.twe_base.proofs.Order.{earlier_trans}
use Rattle.twe_lexer.specs.declared.token.Token.{Token}
use Rattle.twe_lexer.specs.Kinds.{kind_of}
use Rattle.twe_lexer.specs.Lexeme.{IsLexeme}
use Rattle.twe_lexer.specs.Places.{place_after, is_gap}
use Rattle.twe_lexer.specs.Tokens.{AreFirstLexemes, tokens_from, BeginsWith}
use Rattle.twe_parser.proofs.Cuts.{no_lexeme, precedes}
use Rattle.layout_refusals.specs.SamePlace.{places_of}
use Rattle.layout_refusals.proofs.Beside.{Ascends}

-- the places ascend, and none is earlier than this one
abbrev AscendsFrom : Place → List Place → Type 0
AscendsFrom start places = ((place : Place) → IsIn place places → (start ≡ place) ⊎ IsEarlier start place) × Ascends places

-- a lexeme has a byte
later : (at first : List ℕ) → IsLexeme first → IsEarlier (place_after at) (place_after (at ++ first))
later at [] lexeme = absurd (no_lexeme lexeme)
later at (code ∷ front) lexeme = precedes at code front

-- later than a place that comes after the start is later than the start
after : (start next place : Place) → IsEarlier start next → (next ≡ place) ⊎ IsEarlier next place → IsEarlier start place
after start next place before (inl same) = subst (IsEarlier start) same before
after start next place before (inr more) = earlier_trans start next place before more

with_first : (gap : Bool) (start next : Place) (token : Token) (tokens : List Token) (end : List Place) → token.place ≡ start → IsEarlier start next
    → AscendsFrom next (map (λ (t : Token). t.place) tokens ++ end)
    → AscendsFrom start (map (λ (t : Token). t.place) (if gap then tokens else (token ∷ tokens)) ++ end)
with_first true start next token tokens end is before found = (λ place h. inr (after start next place before (found.0 place h)), found.1)
with_first false start next token tokens end is before found = (
  λ place h. elim h [
    | inl same ↦ inl (sym is ∙ sym same)
    | inr more ↦ inr (after start next place before (found.0 place more))
  ],
  (λ place h. subst (λ (p : Place). IsEarlier p place) (sym is) (after start next place before (found.0 place h)), found.1),
)

from : (at : List ℕ) (lexemes : List (List ℕ)) (text : List ℕ) → AreFirstLexemes lexemes text []
    → AscendsFrom (place_after at) (map (λ (t : Token). t.place) (tokens_from at lexemes) ++ place_after (at ++ text) ∷ [])
from at [] text cut =
    let same : at ++ text ≡ at = ap (λ (t : List ℕ). at ++ t) cut ∙ append-nil at in (
      λ place h. elim h [
        | inl is ↦ inl (sym (is ∙ ap place_after same))
        | inr none ↦ absurd none
      ],
      (λ place h. absurd h, tt),
    )
from at (first ∷ lexemes) text (rest, found, cut) =
    let whole : (at ++ first) ++ rest ≡ at ++ text = append_assoc at first rest ∙ ap (λ (t : List ℕ). at ++ t) (sym found.split) in
    let token : Token = record { kind = kind_of first; place = place_after at } in
    with_first (is_gap first) (place_after at) (place_after (at ++ first)) token (tokens_from (at ++ first) lexemes) (place_after (at ++ text) ∷ []) refl
    (later at first found.lexeme)
    (subst (λ (t : List ℕ). AscendsFrom (place_after (at ++ first)) (map (λ (t : Token). t.place) (tokens_from (at ++ first) lexemes) ++ place_after t ∷ [])) whole
    (from (at ++ first) lexemes rest cut))

pub places_ascend : (text : List ℕ) (tokens : List Token) → BeginsWith text tokens [] → Ascends (places_of tokens text)
places_ascend text tokens begins =
    subst (λ (all : List Token). Ascends (places_of all text)) (sym begins.same) ((from [] begins.lexemes text begins.cut).1)
