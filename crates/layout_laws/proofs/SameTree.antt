-- Tokens of the same kinds are those of the same tree, but for places.
use Rattle.std.proofs.Common.{◌≡◌, ◌-◌, ◌+◌, List, [], ◌∷◌, ◌++◌, length, get_or, map, refl, sym, ap, ◌∙◌, subst, append_assoc, arith}
use Rattle.std.proofs.lemmas.List.{length-append}
use Rattle.twe_base.specs.declared.place.Place.{Place}
use Rattle.twe_ast.specs.declared.item.Ast.{Ast}
use Rattle.twe_lexer.specs.declared.token.Token.{Token}
use Rattle.twe_lexer.specs.declared.token.TokenKind.{TokenKind}
use Rattle.twe_lexer.specs.declared.token.TokenKind.TheVariants.{Stray}
use Rattle.twe_parser.specs.Writes.{Writes}
use Rattle.ast_printer.specs.BareExpression.{nowhere}
use Rattle.ast_printer.specs.BareItem.{EqualButForPlaces}
use Rattle.layout_laws.proofs.MovedExpressions.{moved}
use Rattle.layout_laws.proofs.MovedItems.{move_items}

abbrev pub kinds_of : List Token → List TokenKind
kinds_of tokens = map (λ token. token.kind) tokens

-- the place of the token of these that has as many after it as the first of the tokens has
abbrev place_in : List Token → List Token → Place
place_in all tokens = (get_or all (length all - length tokens) (record { kind = Stray; place = nowhere })).place

middle : (front : List Token) (token : Token) (more : List Token) (none : Token) → get_or (front ++ token ∷ more) (length front) none ≡ token
middle [] token more none = refl
middle (first ∷ front) token more none = middle front token more none

same_length : (one other : List Token) → kinds_of one ≡ kinds_of other → length one ≡ length other
same_length [] [] same = refl
same_length [] (second ∷ other) same = cc
same_length (first ∷ one) [] same = cc
same_length (first ∷ one) (second ∷ other) same = let rest : kinds_of one ≡ kinds_of other = cc in let more = same_length one other rest in omega arith

-- tokens of these kinds, each at the place that it has among all
are_moved : (all front one other : List Token) → all ≡ front ++ other → kinds_of one ≡ kinds_of other → moved (place_in all) one ≡ other
are_moved all front [] [] is same = refl
are_moved all front [] (second ∷ other) is same = cc
are_moved all front (first ∷ one) [] is same = cc
are_moved all front (first ∷ one) (second ∷ other) is same =
    let kind : first.kind ≡ second.kind = cc in
    let kinds : kinds_of one ≡ kinds_of other = cc in
    let long : length (first ∷ one) ≡ length (second ∷ other) = same_length (first ∷ one) (second ∷ other) same in
    let whole : length all ≡ length front + length (second ∷ other) = ap length is ∙ length-append front (second ∷ other) in
    let count : length all - length (first ∷ one) ≡ length front = omega arith in
    let none : Token = record { kind = Stray; place = nowhere } in
    let found : get_or all (length all - length (first ∷ one)) none ≡ second =
    ap (get_or all (length all - length (first ∷ one))) refl ∙ (λ i. get_or (is i) (count i) none) ∙ middle front second other none in
    let rest : moved (place_in all) one ≡ other = are_moved all (front ++ second ∷ []) one other (is ∙ sym (append_assoc front (second ∷ []) other)) kinds in
    λ i. record { kind = kind i; place = (found i).place } ∷ rest i

pub same_tree : (tokens others : List Token) (tree : Ast) → kinds_of tokens ≡ kinds_of others → Writes tree tokens
    → (other : Ast) × Writes other others × EqualButForPlaces tree other
same_tree tokens others tree same writes =
    let found = move_items (place_in others) writes in
    let is : moved (place_in others) tokens ≡ others = are_moved others [] tokens others refl same in (
      record { items = found.0; end = tree.end },
      subst (λ (all : List Token). Writes (record { items = found.0; end = tree.end }) all) is found.1,
      found.2,
    )
