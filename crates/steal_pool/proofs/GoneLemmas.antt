-- What a pass took, of all that left a deck.
use Rattle.std.proofs.Common.{◌≡◌, ◌≢◌, ℕ, Bool, true, false, cond, eqb, List, [], ◌∷◌, ◌++◌, refl, sym, ap, ◌∙◌}
use Rattle.std.proofs.lemmas.Bool.{eq-eqb, ne_eqb, cond-true, cond-false}
use Rattle.std.proofs.lemmas.List.{map-append}
use Rattle.steal_pool.specs.Stands.{Departure, numbers_of, taken_by}

cond-append : (b : Bool) (x : ℕ) (xs ys : List ℕ) → cond b (x ∷ xs) xs ++ ys ≡ cond b (x ∷ xs ++ ys) (xs ++ ys)
cond-append true x xs ys = refl
cond-append false x xs ys = refl

pub taken_by-append : (pass : ℕ) (gone more : List Departure) → taken_by pass (gone ++ more) ≡ taken_by pass gone ++ taken_by pass more
taken_by-append pass [] more = refl
taken_by-append pass (d ∷ gone) more =
    ap (λ xs. cond (eqb d.0 pass) (d.1 ∷ xs) xs) (taken_by-append pass gone more) ∙ sym (cond-append (eqb d.0 pass) d.1 (taken_by pass gone) (taken_by pass more))

-- what this pass takes last comes last in its list
pub taken_here : (pass number : ℕ) (gone : List Departure) → taken_by pass (gone ++ (pass, number) ∷ []) ≡ taken_by pass gone ++ number ∷ []
taken_here pass number gone =
    taken_by-append pass gone ((pass, number) ∷ []) ∙ ap (λ xs. taken_by pass gone ++ xs) (cond-true (eqb pass pass) (number ∷ []) [] (eq-eqb pass pass refl))

append-nothing : (xs : List ℕ) → xs ++ [] ≡ xs
append-nothing [] = refl
append-nothing (x ∷ xs) = ap (λ ys. x ∷ ys) (append-nothing xs)

-- and in no other list
pub taken_else : (pass by number : ℕ) (gone : List Departure) → pass ≢ by → taken_by pass (gone ++ (by, number) ∷ []) ≡ taken_by pass gone
taken_else pass by number gone other =
    taken_by-append pass gone ((by, number) ∷ [])
    ∙ (ap (λ xs. taken_by pass gone ++ xs) (cond-false (eqb by pass) (number ∷ []) [] (ne_eqb by pass (λ e. other (sym e))))
    ∙ append-nothing (taken_by pass gone))

pub numbers_of-append : (gone more : List Departure) → numbers_of (gone ++ more) ≡ numbers_of gone ++ numbers_of more
numbers_of-append gone more = map-append (λ (d : Departure). d.1) gone more
