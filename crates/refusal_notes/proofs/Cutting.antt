-- A text that is cut into tokens.
use Rattle.std.proofs.Common.{◌≡◌, ℕ, ◌+◌, ◌≤◌, List, [], ◌∷◌, ◌++◌, length, take, drop, not, refl, sym, ap, ◌∙◌, append_assoc, arith}
use Rattle.std.specs.Prelude.{count_by}
use Rattle.std.specs.List.{suffix_len}
use Rattle.std.proofs.lemmas.List.{append-nil, length-append, take-append-drop}
use Rattle.std.proofs.lemmas.List.Sums.{count_by-le-length, suffix_len-le-length}
use Rattle.twe_lexer.specs.declared.lexeme.Lexeme.{Lexeme}
use Rattle.twe_lexer.specs.Front.{Opens}
use Rattle.twe_lexer.specs.Lexeme.{is_line_end}
use Rattle.twe_parser.proofs.Cuts.{cut_append}
use Rattle.refusal_notes.specs.declared.spots.Mark.{Mark}
use Rattle.refusal_notes.specs.declared.spots.Spot.{Spot}
use Rattle.refusal_notes.specs.Spots.{AreSpots, EndsCut, mark_after, spots_from}
use Rattle.refusal_notes.specs.inner.Cutting.{HasSpots}

-- nothing is cut off yet
pub none_cut : (text : List ℕ) (start : Mark) → start ≡ mark_after [] → HasSpots text [] start text
none_cut text start at = record { lexemes = []; before = []; cut = refl; whole = refl; at = at; sofar = λ more. refl }

-- the offset can be counted, and so can line and column
pub offset_fits : (text : List ℕ) (spots : List Spot) (start : Mark) (rest : List ℕ) → HasSpots text spots start rest
    → start.offset + length rest ≡ length text
offset_fits text spots start rest has =
    ap (λ (mark : Mark). mark.offset + length rest) has.at ∙ sym (length-append has.before rest) ∙ ap length (sym has.whole)

pub line_fits : (text : List ℕ) (spots : List Spot) (start : Mark) (rest : List ℕ) → HasSpots text spots start rest
    → start.place.line ≤ 1 + start.offset
line_fits text spots start rest has =
    let line_is : start.place.line ≡ 1 + count_by is_line_end has.before = ap (λ (mark : Mark). mark.place.line) has.at in
    let offset_is : start.offset ≡ length has.before = ap (λ (mark : Mark). mark.offset) has.at in
    let bounded = count_by-le-length is_line_end has.before in
    omega arith

pub column_fits : (text : List ℕ) (spots : List Spot) (start : Mark) (rest : List ℕ) → HasSpots text spots start rest
    → start.place.col ≤ 1 + start.offset
column_fits text spots start rest has =
    let col_is : start.place.col ≡ 1 + suffix_len (λ code. not (is_line_end code)) has.before = ap (λ (mark : Mark). mark.place.col) has.at in
    let offset_is : start.offset ≡ length has.before = ap (λ (mark : Mark). mark.offset) has.at in
    let bounded = suffix_len-le-length (λ code. not (is_line_end code)) has.before in
    omega arith

-- one more lexeme is cut off
pub more_cut : (text : List ℕ) (spots news : List Spot) (start next : Mark) (rest bytes : List ℕ) (lexeme : Lexeme)
    → HasSpots text spots start rest → Opens lexeme rest → bytes ≡ take lexeme.len rest
    → ((before : List ℕ) (more : List (List ℕ)) → start ≡ mark_after before
    → spots ++ spots_from before (bytes ∷ more) ≡ news ++ spots_from (before ++ bytes) more)
    → ((before : List ℕ) → start ≡ mark_after before → next ≡ mark_after (before ++ bytes))
    → HasSpots text news next (drop lexeme.len rest)
more_cut text spots news start next rest bytes lexeme has opens is adds moves =
    let later = drop lexeme.len rest in
    let split : rest ≡ bytes ++ later = sym (take-append-drop lexeme.len rest) ∙ ap (λ (front : List ℕ). front ++ later) (sym is) in
    record {
      lexemes = has.lexemes ++ bytes ∷ [];
      before = has.before ++ bytes;
      cut = cut_append has.lexemes (bytes ∷ []) text rest later has.cut (later, rw is opens.first, refl);
      whole = has.whole ∙ ap (λ (t : List ℕ). has.before ++ t) split ∙ sym (append_assoc has.before bytes later);
      at = moves has.before has.at;
      sofar = λ more. ap (spots_from []) (append_assoc has.lexemes (bytes ∷ []) more) ∙ has.sofar (bytes ∷ more) ∙ adds has.before more has.at;
    }

-- no further lexeme is cut off
pub whole_cut : (text : List ℕ) (spots : List Spot) (start : Mark) (rest : List ℕ) → HasSpots text spots start rest → EndsCut rest
    → AreSpots text spots
whole_cut text spots start rest has ends = record {
  lexemes = has.lexemes;
  rest = rest;
  cut = has.cut;
  ends = ends;
  same = sym (append-nil spots) ∙ sym (has.sofar []) ∙ ap (spots_from []) (append-nil has.lexemes);
}
