-- The first place in a list at which a test passes.
use Rattle.std.proofs.Common.{◌≡◌, ℕ, suc, ◌+◌, ◌≤◌, Bool, true, false, not, ◌||◌, cond, ltb, List, [], ◌∷◌, ◌++◌, length, get_or, Option, None, Some, is_some, IsSome, unwrap_or, arith, refl, ap, sym, ◌∙◌}
use Rattle.std.specs.List.{position, position_or_len, list_any, Contains}
use Rattle.std.specs.Str.{bytes_eq}
use Rattle.std.specs.Cmp.Lexicographic.{bytes_decides, nat_list_eq_equiv}
use Rattle.std.proofs.lemmas.Map.Views.{Contains-from_any, list_any-from_Contains}
use Rattle.std.proofs.lemmas.List.{length_push}
use Rattle.std.proofs.lemmas.List.Folds.{position_or_len_push}
use Rattle.std.proofs.lemmas.List.Quantifiers.{position-Some}
use Rattle.std.proofs.lemmas.List.Sums.{prefix_len-le-length}
use Rattle.std.proofs.lemmas.Bool.Decides.{nat_tests}
use Rattle.name_check.specs.cell_limits.inner.Parts.{number_of}

position_or_len-le : {X : Type 0} (p : X → Bool) (xs : List X) → position_or_len p xs ≤ length xs
position_or_len-le p xs = prefix_len-le-length _ xs

none_at : (n m : ℕ) → n ≤ m → ◌≡◌ {A = Option ℕ} (cond (ltb n m) (Some n) None) None → n ≡ m
none_at n m le none = grind (arith, nat_tests)

-- an element that fails at the end changes nothing
pub position_push_other : {X : Type 0} (p : X → Bool) (xs : List X) (y : X) → p y ≡ false → position p (xs ++ y ∷ []) ≡ position p xs
position_push_other p xs y fails =
    let le = position_or_len-le p xs in
    let at = position_or_len_push p xs y in
    let long = length_push xs y in
    rw (at, long, fails) (grind (arith, nat_tests))

-- an element that passes at the end is the first if no other passes
pub position_push_first : {X : Type 0} (p : X → Bool) (xs : List X) (y : X) → p y ≡ true → position p xs ≡ None → position p (xs ++ y ∷ []) ≡ Some (length xs)
position_push_first p xs y passes none =
    let at = position_or_len_push p xs y in
    let long = length_push xs y in
    let all = none_at (position_or_len p xs) (length xs) (position_or_len-le p xs) none in
    rw (at, long, passes, all) (grind (arith, nat_tests))

first_is_some : (b : Bool) (k n : ℕ) (any : Bool) → is_some {T = ℕ} (cond (ltb k n) (Some k) None) ≡ any → is_some {T = ℕ} (cond (ltb (cond (not b) (1 + k) 0) (suc n)) (Some (cond (not b) (1 + k) 0)) None) ≡ (b || any)
first_is_some true k n any at = grind (arith, nat_tests)
first_is_some false k n any at = grind (arith, nat_tests)

-- there is a first place if and only if some element passes
is_some_position : {X : Type 0} (p : X → Bool) (xs : List X) → is_some (position p xs) ≡ list_any p xs
is_some_position p [] = refl
is_some_position p (x ∷ xs) = first_is_some (p x) (position_or_len p xs) (length xs) (list_any p xs) (is_some_position p xs)

-- the places of names

-- a name that has a place stands in the list
pub Contains-from_position : (name : List ℕ) (names : List (List ℕ)) → IsSome (position (bytes_eq name) names) → Contains names name
Contains-from_position name names at =
    Contains-from_any (λ x y same. (bytes_decides x y).0 same) name names (sym (is_some_position (bytes_eq name) names) ∙ at)

-- a name of the list has a place
position-of_name : (name : List ℕ) (names : List (List ℕ)) → Contains names name → IsSome (position (bytes_eq name) names)
position-of_name name names there = is_some_position (bytes_eq name) names ∙ list_any-from_Contains nat_list_eq_equiv name names there

number_is : (o : Option ℕ) → IsSome o → o ≡ Some (unwrap_or o 0)
number_is None h = cc
number_is (Some n) h = refl

-- a name of the list stands at its number
at_number : (name : List ℕ) (names : List (List ℕ)) → Contains names name → name ≡ get_or names (number_of names name) []
at_number name names there =
    let found = position-Some (bytes_eq name) names (number_of names name) [] (number_is _ (position-of_name name names there)) in
    (bytes_decides name _).0 found.1

-- two names of the list with one number are one
pub number_of-once : (names : List (List ℕ)) (one other : List ℕ) → Contains names one → Contains names other → number_of names one ≡ number_of names other → one ≡ other
number_of-once names one other there here same =
    at_number one names there ∙ ap (λ n. get_or names n []) same ∙ sym (at_number other names here)
