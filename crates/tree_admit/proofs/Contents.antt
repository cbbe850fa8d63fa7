-- What is known of the contents of nodes after one of them changed.
use Rattle.std.proofs.Common.{◌≡◌, ◌≢◌, ◌⊎◌, ◌++◌, ℕ, Bool, true, false, List, [], ◌∷◌, Option, None, Some, if◌then◌else◌, refl, sym, ap, ◌∙◌, inl, inr}
use Rattle.std.specs.Prelude.{◌==◌}
use Rattle.std.proofs.lemmas.Bool.Decides.{Decides-eqb}
use Rattle.floor_laws.specs.admission.admission_core.States.{IsAmong, Record}
use Rattle.floor_laws.specs.declared.table.nodes.view.ContentChange.{ContentChange}
use Rattle.floor_laws.specs.table.Added.{HasGrown, IsAdded}
use Rattle.floor_laws.specs.table.nodes.TreeOf.{content_in}

choose_true : (b : Bool) (x y : Option (List Record)) → b ≡ true → (if b then x else y) ≡ x
choose_true true x y h = refl
choose_true false x y h = absurd (let no = h in cc)

choose_false : (b : Bool) (x y : Option (List Record)) → b ≢ true → (if b then x else y) ≡ y
choose_false true x y h = absurd (h refl)
choose_false false x y h = refl

pub content_here : (n : ℕ) (content : Option (List Record)) (kept : List ContentChange) → content_in (record { node = n; content = content } ∷ kept) n ≡ content
content_here n content kept = choose_true (n == n) content (content_in kept n) ((Decides-eqb n n).1 refl)

pub content_else : (m n : ℕ) (content : Option (List Record)) (kept : List ContentChange) → m ≢ n → content_in (record { node = n; content = content } ∷ kept) m ≡ content_in kept m
content_else m n content kept other = choose_false (m == n) content (content_in kept m) (λ same. other ((Decides-eqb m n).0 same))

-- who has the content of a node and did not have it before got it since then
among_added : (before : List ContentChange) (n : ℕ) (content : List Record) → content_in before n ≡ None → (l : List ContentChange) → content_in (l ++ before) n ≡ Some content
    → IsAmong (record { node = n; content = Some content }) l
among_added before n content none [] has = absurd (let no = sym none ∙ has in cc)
among_added before n content none (change ∷ l) has = by (among_added before n content none l) (n == change.node) refl has
  where
    by : (content_in (l ++ before) n ≡ Some content → IsAmong (record { node = n; content = Some content }) l) → (b : Bool) → (n == change.node) ≡ b
        → (if b then change.content else content_in (l ++ before) n) ≡ Some content → (record { node = n; content = Some content } ≡ change) ⊎ IsAmong (record { node = n; content = Some content }) l
    by rest true same has = inl (let one : n ≡ change.node = (Decides-eqb n change.node).0 same in λ k. record { node = one k; content = sym has k })
    by rest false same has = inr (rest has)

pub content_added : (before after : List ContentChange) (n : ℕ) (content : List Record) → HasGrown before after → content_in before n ≡ None → content_in after n ≡ Some content
    → IsAdded (record { node = n; content = Some content }) before after
content_added before after n content (added, is) none has =
    (added, is, among_added before n content none added (ap (λ (l : List ContentChange). content_in l n) (sym is) ∙ has))
