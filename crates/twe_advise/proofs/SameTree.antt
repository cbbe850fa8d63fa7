-- A text has one list of tokens, and one tree.
use Rattle.std.proofs.Common.{◌≡◌, ℕ, ◌⊎◌, inl, inr, List, [], ◌∷◌, ◌++◌, refl, sym, ap, ◌∙◌, subst}
use Rattle.std.proofs.lemmas.List.{append-nil}
use Rattle.twe_base.specs.declared.place.Place.{Place}
use Rattle.twe_ast.specs.declared.item.Ast.{Ast}
use Rattle.twe_ast.specs.declared.item.Item.{Item}
use Rattle.twe_lexer.specs.declared.token.Token.{Token}
use Rattle.twe_lexer.specs.Lexeme.{IsLexeme}
use Rattle.twe_lexer.specs.Tokens.{AreFirstLexemes, tokens_from, BeginsWith}
use Rattle.twe_parser.specs.Writes.{Writes}
use Rattle.twe_parser.proofs.Cuts.{no_lexeme, compare_cuts}
use Rattle.twe_parser.proofs.Located.{empty_front}
use Rattle.twe_frontend.specs.Accepted.{IsTreeOf}

-- nothing more can be cut from nothing
none_more : (more : List (List ℕ)) (rest : List ℕ) → AreFirstLexemes more [] rest → ◌≡◌ {A = List (List ℕ)} more []
none_more [] rest cut = refl
none_more (first ∷ others) rest (later, found, cut) = absurd (no_lexeme (subst IsLexeme (empty_front first later (sym found.split)) found.lexeme))

same_tokens : (text : List ℕ) (one other : List Token) → BeginsWith text one [] → BeginsWith text other [] → one ≡ other
same_tokens text one other front whole = by_cut (compare_cuts front.lexemes whole.lexemes text [] [] front.cut whole.cut)
  where
    by_cut : ((more : List (List ℕ)) × (whole.lexemes ≡ front.lexemes ++ more) × AreFirstLexemes more [] []) ⊎ ((more : List (List ℕ)) × (front.lexemes ≡ whole.lexemes ++ more) × AreFirstLexemes more [] []) → one ≡ other
    by_cut (inl (more, is, cut)) = front.same ∙ ap (tokens_from []) (sym (is ∙ ap (λ m. front.lexemes ++ m) (none_more more [] cut) ∙ append-nil front.lexemes)) ∙ sym whole.same
    by_cut (inr (more, is, cut)) = front.same ∙ ap (tokens_from []) (is ∙ ap (λ m. whole.lexemes ++ m) (none_more more [] cut) ∙ append-nil whole.lexemes) ∙ sym whole.same

-- the tokens of a program are those of one tree only
abbrev pub OneTree : Type 0
OneTree = (tokens : List Token) (tree other : Ast) → Writes tree tokens → Writes other tokens → tree.items ≡ other.items

same_parts : (items others : List Item) (end other : Place) → items ≡ others → end ≡ other → ◌≡◌ {A = Ast} (record { items = items; end = end }) (record { items = others; end = other })
same_parts items others end other same place = ap (λ (i : List Item). record { items = i; end = end }) same ∙ ap (λ (e : Place). record { items = others; end = e }) place

pub same_tree : OneTree → (text : List ℕ) (tree other : Ast) → IsTreeOf text tree → IsTreeOf text other → tree ≡ other
same_tree one text tree other parsed again =
    let tokens : parsed.tokens ≡ again.tokens = same_tokens text parsed.tokens again.tokens parsed.cut again.cut in
    same_parts tree.items other.items tree.end other.end
    (one again.tokens tree other (subst (λ (t : List Token). Writes tree t) tokens parsed.writes) again.writes)
    (parsed.end ∙ sym again.end)
