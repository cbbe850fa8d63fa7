-- The rows of declarations, with one more.
use Rattle.std.proofs.Common.{◌≡◌, ◌<◌, ◌+◌, ◌++◌, ℕ, suc, List, [], ◌∷◌, length, take, get_or, sym, ap, ◌∙◌, append_assoc, arith}
use Rattle.std.proofs.lemmas.List.{append-nil, length-take-le, take_more}
use Rattle.twe_program.specs.declared.program.Decl.{Decl}
use Rattle.twe_advise.specs.Texts.{rows_by}

rows_push : (row : ℕ → Decl → List ℕ) (number : ℕ) (decls : List Decl) (decl : Decl) → rows_by row number (decls ++ decl ∷ []) ≡ rows_by row number decls ++ row (number + length decls) decl
rows_push row number [] decl =
    let same : number ≡ number + 0 = omega arith in
    append-nil (row number decl) ∙ ap (λ (n : ℕ). row n decl) same
rows_push row number (first ∷ decls) decl =
    let same : suc number + length decls ≡ number + suc (length decls) = omega arith in
    ap (λ (l : List ℕ). row number first ++ l)
    (rows_push row (suc number) decls decl ∙ ap (λ (n : ℕ). rows_by row (suc number) decls ++ row n decl) same)
    ∙ sym (append_assoc (row number first) (rows_by row (suc number) decls) (row (number + suc (length decls)) decl))

-- the row of one declaration more was written
pub rows_more : (row : ℕ → Decl → List ℕ) (decls : List Decl) (i : ℕ) (decl : Decl) (begun text new : List ℕ) → i < length decls → decl ≡ get_or decls i decl
    → text ≡ begun ++ rows_by row 0 (take i decls) → new ≡ text ++ row i decl → new ≡ begun ++ rows_by row 0 (take (i + 1) decls)
rows_more row decls i decl begun text new below is so_far pushed =
    let taken = length-take-le i decls (omega (arith, below)) in
    let number : 0 + length (take i decls) ≡ i = omega (arith, taken) in
    let rows : rows_by row 0 (take (i + 1) decls) ≡ rows_by row 0 (take i decls) ++ row i (get_or decls i decl) =
    ap (rows_by row 0) (take_more decls i decl below)
    ∙ (rows_push row 0 (take i decls) (get_or decls i decl)
    ∙ ap (λ (n : ℕ). rows_by row 0 (take i decls) ++ row n (get_or decls i decl)) number) in
    pushed
    ∙ (ap (λ (l : List ℕ). l ++ row i decl) so_far
    ∙ (append_assoc begun (rows_by row 0 (take i decls)) (row i decl)
    ∙ ap (λ (l : List ℕ). begun ++ l) (ap (λ (d : Decl). rows_by row 0 (take i decls) ++ row i d) is ∙ sym rows)))
