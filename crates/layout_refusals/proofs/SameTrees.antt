-- Trees of tokens of the same kinds are equal when the places of the one are moved to those of the other.
use Rattle.std.proofs.Common.{◌≡◌, ℕ, List, [], ◌∷◌, map, length, inl, inr, refl, sym, ap, ◌∙◌, subst, arith}
use Rattle.twe_base.specs.declared.place.Place.{Place}
use Rattle.twe_base.proofs.Members.{IsIn}
use Rattle.twe_ast.specs.declared.item.Ast.{Ast}
use Rattle.twe_lexer.specs.declared.token.Token.{Token}
use Rattle.twe_lexer.specs.declared.token.TokenKind.{TokenKind}
use Rattle.twe_lexer.specs.Places.{place_after}
use Rattle.twe_parser.specs.Writes.{Writes}
use Rattle.layout_laws.proofs.OneCut.{same_tokens}
use Rattle.twe_frontend.specs.Accepted.{IsTreeOf}
use Rattle.moved_places.specs.MovedTree.{moved_item, moved_tree}
use Rattle.layout_refusals.specs.SamePlace.{places_of}
use Rattle.layout_refusals.proofs.Beside.{Beside}
use Rattle.layout_refusals.proofs.MovedTokens.{moved_token}
use Rattle.layout_refusals.proofs.MovedTrees.{move_items}

abbrev pub kinds_of : List Token → List TokenKind
kinds_of tokens = map (λ token. token.kind) tokens

-- the tokens of a program are those of one tree only
abbrev pub OneTree : Type 0
OneTree = (tokens : List Token) (tree other : Ast) → Writes tree tokens → Writes other tokens → tree.items ≡ other.items

-- the places of tokens of the same kinds stand side by side, and so do the ends
pub same_long : (tokens others : List Token) (text other : List ℕ) → kinds_of tokens ≡ kinds_of others
    → length (places_of tokens text) ≡ length (places_of others other)
same_long [] [] text other same = refl
same_long [] (second ∷ others) text other same = cc
same_long (first ∷ tokens) [] text other same = cc
same_long (first ∷ tokens) (second ∷ others) text other same =
    let rest : kinds_of tokens ≡ kinds_of others = cc in
    let more = same_long tokens others text other rest in omega arith

pub ends_beside : (tokens others : List Token) (text other : List ℕ) → kinds_of tokens ≡ kinds_of others
    → Beside (places_of tokens text) (places_of others other) (place_after text) (place_after other)
ends_beside [] [] text other same = inl (refl, refl)
ends_beside [] (second ∷ others) text other same = cc
ends_beside (first ∷ tokens) [] text other same = cc
ends_beside (first ∷ tokens) (second ∷ others) text other same = let rest : kinds_of tokens ≡ kinds_of others = cc in inr (ends_beside tokens others text other rest)

pub end_in : (tokens : List Token) (text : List ℕ) → IsIn (place_after text) (places_of tokens text)
end_in [] text = inl refl
end_in (token ∷ tokens) text = inr (end_in tokens text)

-- a place that stays
abbrev pub stays : Place → Place
stays place = place

-- tokens of the same kinds are equal when each is moved to the place beside it
moved_alike : (to : Place → Place) (tokens others : List Token) (text other : List ℕ) → kinds_of tokens ≡ kinds_of others
    → ((place its : Place) → Beside (places_of tokens text) (places_of others other) place its → to its ≡ place) → map (moved_token stays) tokens ≡ map (moved_token to) others
moved_alike to [] [] text other same beside = refl
moved_alike to [] (second ∷ others) text other same beside = cc
moved_alike to (first ∷ tokens) [] text other same beside = cc
moved_alike to (first ∷ tokens) (second ∷ others) text other same beside =
    let kind : first.kind ≡ second.kind = cc in
    let rest : kinds_of tokens ≡ kinds_of others = cc in
    let place : to second.place ≡ first.place = beside first.place second.place (inl (refl, refl)) in
    let more = moved_alike to tokens others text other rest (λ here its h. beside here its (inr h)) in
    λ i. record { kind = kind i; place = sym place i } ∷ more i

module _ (one : OneTree) (to : Place → Place) (text other : List ℕ) (tokens others : List Token) (tree its : Ast) where
  pub same_moved : Writes tree tokens → Writes its others → tree.end ≡ place_after text → its.end ≡ place_after other → kinds_of tokens ≡ kinds_of others
      → ((place its : Place) → Beside (places_of tokens text) (places_of others other) place its → to its ≡ place) → moved_tree stays tree ≡ moved_tree to its
  same_moved writes also end its_end same beside =
      let items : map (moved_item stays) tree.items ≡ map (moved_item to) its.items =
      one (map (moved_token to) others) (moved_tree stays tree) (moved_tree to its)
      (subst (λ (all : List Token). Writes (moved_tree stays tree) all) (moved_alike to tokens others text other same beside) (move_items stays writes))
      (move_items to also) in
      let ends : tree.end ≡ to its.end = end ∙ sym (beside (place_after text) (place_after other) (ends_beside tokens others text other same)) ∙ ap to (sym its_end) in
      λ i. record { items = items i; end = ends i }

-- a text has one tree
pub one_parsed : OneTree → (text : List ℕ) (tree other : Ast) → IsTreeOf text tree → IsTreeOf text other → tree ≡ other
one_parsed one text tree other parsed again =
    let tokens : parsed.tokens ≡ again.tokens = same_tokens text parsed.tokens again.tokens parsed.cut again.cut in
    let items : tree.items ≡ other.items = one again.tokens tree other (subst (Writes tree) tokens parsed.writes) again.writes in
    let ends : tree.end ≡ other.end = parsed.end ∙ sym again.end in
    λ i. record { items = items i; end = ends i }
