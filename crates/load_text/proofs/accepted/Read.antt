-- The text keeps the rules of the text, and its tree is the tree of the text.
use Rattle.std.proofs.Common.{◌≡◌, ℕ, ◌+◌, ◌*◌, ◌%◌, ◌<◌, ◌≤◌, zero, suc, true, List, [], refl, sym, ap, ◌∙◌, subst, lit<, arith}
use Rattle.std.specs.Prelude.{codes}
use Rattle.twe_ast.specs.declared.item.Ast.{Ast}
use Rattle.twe_lexer.specs.declared.fixed.Fixed.TheVariants as fixed
use Rattle.twe_lexer.specs.declared.token.Token.{Token}
use Rattle.twe_lexer.specs.declared.token.TokenKind.{TokenKind}
use Rattle.twe_lexer.specs.declared.token.TokenKind.TheVariants as kinds
use Rattle.twe_lexer.specs.Places.{place_after}
use Rattle.twe_lexer.specs.Tokens.{tokens_from, BeginsWith}
use Rattle.twe_parser.specs.declared.limits.Sofar.{Sofar}
use Rattle.twe_parser.specs.Limits.{limits_at_start, sofar_after}
use Rattle.twe_parser.specs.Writes.{Writes}
use Rattle.twe_frontend.specs.Accepted.{IsTreeOf}
use Rattle.ast_printer.proofs.Alone.{ReadAlone}
use Rattle.ast_printer.proofs.Supply.{kinds_in}
use Rattle.ast_printer.proofs.Passing.{AllPass}
use Rattle.ast_printer.proofs.Accepted.{is_accepted}
use Rattle.load_text.specs.Text.{load_text_of}
use Rattle.load_text.proofs.accepted.Pieces.{pieces_text, pieces_kinds, pieces_lexemes, well_joined, Named}
use Rattle.load_text.proofs.accepted.Lexemes.{pieces_cut, kinds_again, pieces_allowed, pieces_closed, shallow, pieces_pass}
use Rattle.load_text.proofs.accepted.Numbered.{cell_alone, child_alone, parent_alone, future_alone, known_alone}
use Rattle.load_text.proofs.accepted.Lines.{starts_from, pieces_from, all_pieces, whole_text}
use Rattle.load_text.proofs.accepted.Trees.{Places, load_tree, tokens_with}
use Rattle.load_text.proofs.accepted.Derivation.{writes_tree, place_in, tokens_placed}

-- the names and the literals of the text
named_starts : (i count : ℕ) → i + count ≤ 2000 → Named (starts_from i count)
named_starts i zero few = tt
named_starts i (suc count) few = (future_alone i (omega arith), (parent_alone i (omega arith), named_starts (suc i) count (omega arith)))

R_alone : ReadAlone (kinds.Name (codes "R"))
R_alone = known_alone (codes "R") refl

S_alone : ReadAlone (kinds.Name (codes "S"))
S_alone = known_alone (codes "S") refl

s_alone : ReadAlone (kinds.Name (codes "s"))
s_alone = known_alone (codes "s") refl

f_alone : ReadAlone (kinds.Name (codes "f"))
f_alone = known_alone (codes "f") refl

named_from : (i count n : ℕ) → i + count ≤ 2000 → n ≤ 2000 → Named (pieces_from i count n)
named_from i zero n few most = (known_alone (codes "main") refl, named_starts 0 n (omega arith))
named_from i (suc count) n few most =
    let small : i < 10000 = omega arith in
    let value : (7 * i) % 1000 < 10000 = omega arith in
    let c = cell_alone i small in
    let u = child_alone i small in (
      c,
      (
        R_alone,
        (
          small,
          (
            value,
            (
              u,
              (
                R_alone,
                (
                  small,
                  (
                    c,
                    (
                      c,
                      (
                        lit< tt,
                        (
                          small,
                          (
                            parent_alone i small,
                            (
                              R_alone,
                              (
                                small,
                                (
                                  S_alone,
                                  (
                                    f_alone,
                                    (
                                      u,
                                      (
                                        f_alone,
                                        (
                                          s_alone,
                                          (
                                            s_alone,
                                            (
                                              c,
                                              named_from (suc i) count n (omega arith) most,
                                            ),
                                          ),
                                        ),
                                      ),
                                    ),
                                  ),
                                ),
                              ),
                            ),
                          ),
                        ),
                      ),
                    ),
                  ),
                ),
              ),
            ),
          ),
        ),
      ),
    )

all_named : (n : ℕ) → n ≤ 2000 → Named (all_pieces n)
all_named n most = (R_alone, (S_alone, (s_alone, (S_alone, named_from 0 n n (omega arith) most))))

-- each piece ends where the next one begins
joined_starts : (i count : ℕ) → well_joined (starts_from i count) ≡ true
joined_starts i zero = refl
joined_starts i (suc count) = joined_starts (suc i) count

joined_from : (i count n : ℕ) → well_joined (pieces_from i count n) ≡ true
joined_from i zero n = joined_starts 0 n
joined_from i (suc count) n = joined_from (suc i) count n

all_joined : (n : ℕ) → well_joined (all_pieces n) ≡ true
all_joined n = joined_from 0 n n

-- brackets and operators are few
abbrev in_main : Sofar
in_main = sofar_after limits_at_start (kinds.Fixed fixed.OpenBrace)

shallow_starts : (i count : ℕ) → shallow in_main (pieces_kinds (starts_from i count)) ≡ true
shallow_starts i zero = refl
shallow_starts i (suc count) = shallow_starts (suc i) count

shallow_from : (i count n : ℕ) → shallow limits_at_start (pieces_kinds (pieces_from i count n)) ≡ true
shallow_from i zero n = shallow_starts 0 n
shallow_from i (suc count) n = shallow_from (suc i) count n

all_shallow : (n : ℕ) → shallow limits_at_start (pieces_kinds (all_pieces n)) ≡ true
all_shallow n = shallow_from 0 n n

-- the tokens of the text
abbrev pub load_tokens : ℕ → List Token
load_tokens n = tokens_from [] (pieces_lexemes (all_pieces n))

-- the places of its tokens
abbrev pub load_places : ℕ → Places
load_places n = place_in (load_tokens n)

abbrev pub read_tree : ℕ → Ast
read_tree n = load_tree (load_places n) (place_after (load_text_of n)) n

module _ (n : ℕ) (most : n ≤ 2000) where
  kinds_are : kinds_in (load_tokens n) ≡ pieces_kinds (all_pieces n)
  kinds_are = kinds_again [] (all_pieces n) (all_named n most)

  writes : Writes (read_tree n) (load_tokens n)
  writes =
      subst (λ (tokens : List Token). Writes (read_tree n) tokens)
      (ap (tokens_with (load_places n)) (sym kinds_are) ∙ tokens_placed (load_tokens n))
      (writes_tree (load_places n) (place_after (load_text_of n)) n)

  cut : BeginsWith (pieces_text (all_pieces n)) (load_tokens n) []
  cut = record { lexemes = pieces_lexemes (all_pieces n); cut = pieces_cut (all_pieces n) (all_named n most) (all_joined n); same = refl }

  pass : AllPass limits_at_start (kinds_in (load_tokens n))
  pass =
      subst (λ (kinds : List TokenKind). AllPass limits_at_start kinds) (sym kinds_are)
      (pieces_pass (all_pieces n) limits_at_start (all_named n most) (all_shallow n))

  of_pieces : IsTreeOf (pieces_text (all_pieces n)) (load_tree (load_places n) (place_after (pieces_text (all_pieces n))) n)
  unfolding cut
  of_pieces = record {
    tokens = load_tokens n;
    cut = cut;
    writes = writes;
    end = refl;
    keeps = is_accepted (pieces_text (all_pieces n)) (read_tree n) (load_tokens n) cut writes pass
        (pieces_allowed (all_pieces n) (all_named n most)) (pieces_closed (all_pieces n) (all_named n most));
  }

  pub is_tree_of : IsTreeOf (load_text_of n) (read_tree n)
  is_tree_of = subst (λ (text : List ℕ). IsTreeOf text (load_tree (load_places n) (place_after text) n)) (whole_text n) of_pieces
