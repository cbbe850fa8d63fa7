-- Lists whose elements are equal but for something.
use Rattle.std.proofs.Common.{◌≡◌, ℕ, ◌+◌, Bool, not, ◌||◌, List, [], ◌∷◌, ◌++◌, map, length, take, drop, cond, fold, inl, inr, refl, sym, ap, ◌∙◌, subst}
use Rattle.std.specs.Prelude.{count_by, take_while}
use Rattle.std.specs.List.{prefix_len}
use Rattle.std.specs.List.{Contains, flat_map, list_any}
use Rattle.std.proofs.lemmas.List.{map-append, length-map, drop-map, take-map}
use Rattle.twe_base.proofs.Members.{IsIn, contains-in, in-contains}

pub in-map : {X Y : Type 0} (f : X → Y) (xs : List X) (x : X) → IsIn x xs → IsIn (f x) (map f xs)
in-map f [] x h = absurd h
in-map f (y ∷ ys) x (inl e) = inl (ap f e)
in-map f (y ∷ ys) x (inr h) = inr (in-map f ys x h)

pub map-in : {X Y : Type 0} (f : X → Y) (xs : List X) (y : Y) → IsIn y (map f xs) → (x : X) × IsIn x xs × (y ≡ f x)
map-in f [] y h = absurd h
map-in f (x ∷ xs) y (inl e) = (x, inl refl, e)
map-in f (x ∷ xs) y (inr h) = let found = map-in f xs y h in (found.0, inr found.1, found.2)

module _ {X Y : Type 0} (f g : X → Y) where
  -- an element of one list has its like in the other
  pub like-in : (xs ys : List X) → map f xs ≡ map g ys → (x : X) → Contains xs x → (y : X) × Contains ys y × (f x ≡ g y)
  like-in xs ys same x there =
      let found = map-in g ys (f x) (subst (IsIn (f x)) same (in-map f xs x (contains-in xs x there))) in
      (found.0, in-contains ys found.0 found.1, found.2)

  -- a list is split where its like is split
  pub record SplitAlike (before : List X) (x : X) (ys : List X) : Type 0 where
    pub its_before : List X
    pub its : X
    pub its_after : List X
    pub list : ys ≡ its_before ++ its ∷ its_after
    pub same_before : map f before ≡ map g its_before
    pub same : f x ≡ g its

  pub split-alike : (before : List X) (x : X) (after ys : List X) → map f (before ++ x ∷ after) ≡ map g ys → SplitAlike before x ys
  split-alike [] x after [] e = absurd (cc)
  split-alike [] x after (y ∷ ys) e =
      let head : f x ≡ g y = cc in
      record { its_before = []; its = y; its_after = ys; list = refl; same_before = refl; same = head }
  split-alike (z ∷ before) x after [] e = absurd (cc)
  split-alike (z ∷ before) x after (y ∷ ys) e =
      let head : f z ≡ g y = cc in
      let tail : map f (before ++ x ∷ after) ≡ map g ys = cc in
      let rest = split-alike before x after ys tail in
      record {
        its_before = y ∷ rest.its_before;
        its = rest.its;
        its_after = rest.its_after;
        list = ap (λ (zs : List X). y ∷ zs) rest.list;
        same_before = λ i. head i ∷ rest.same_before i;
        same = rest.same;
      }

  pub same-length : (xs ys : List X) → map f xs ≡ map g ys → length xs ≡ length ys
  same-length xs ys e = sym (length-map xs f) ∙ ap length e ∙ length-map ys g

  -- with one element more
  pub one-more : (xs ys : List X) (x y : X) → map f xs ≡ map g ys → f x ≡ g y → map f (xs ++ x ∷ []) ≡ map g (ys ++ y ∷ [])
  one-more xs ys x y e h = map-append f xs (x ∷ []) ∙ (λ i. e i ++ h i ∷ []) ∙ sym (map-append g ys (y ∷ []))

-- lists that are none
pub none-alike : {X Y : Type 0} (f : X → Y) (xs : List X) → map f xs ≡ [] → xs ≡ []
none-alike f [] e = refl
none-alike f (x ∷ xs) e = absurd (cc)

-- what a function gives for each element, where that of the bare element is bare
pub moved-flat_map : {X Y : Type 0} (bare : X → X) (bare_result : Y → Y) (f g : X → List Y) → ((x : X) → f (bare x) ≡ map bare_result (g x))
    → (xs : List X) → flat_map f (map bare xs) ≡ map bare_result (flat_map g xs)
moved-flat_map bare bare_result f g each [] = refl
moved-flat_map bare bare_result f g each (x ∷ xs) =
    (λ i. each x i ++ moved-flat_map bare bare_result f g each xs i) ∙ sym (map-append bare_result (g x) (flat_map g xs))

-- the same where the results have no places
pub same-flat_map : {X Y : Type 0} (bare : X → X) (f g : X → List Y) → ((x : X) → f (bare x) ≡ g x) → (xs : List X) → flat_map f (map bare xs) ≡ flat_map g xs
same-flat_map bare f g each [] = refl
same-flat_map bare f g each (x ∷ xs) = λ i. each x i ++ same-flat_map bare f g each xs i

pub same-map : {X Y : Type 0} (bare : X → X) (f g : X → Y) → ((x : X) → f (bare x) ≡ g x) → (xs : List X) → map f (map bare xs) ≡ map g xs
same-map bare f g each [] = refl
same-map bare f g each (x ∷ xs) = λ i. each x i ∷ same-map bare f g each xs i

-- a test that does not depend on what is bared
module _ {X : Type 0} (bare : X → X) (p : X → Bool) (same : (x : X) → p (bare x) ≡ p x) where
  pub same-any : (xs : List X) → list_any p (map bare xs) ≡ list_any p xs
  same-any [] = refl
  same-any (x ∷ xs) = λ i. same x i || same-any xs i

  pub same-prefix : (xs : List X) → prefix_len (λ x. not (p x)) (map bare xs) ≡ prefix_len (λ x. not (p x)) xs
  same-prefix [] = refl
  same-prefix (x ∷ xs) = λ i. cond (not (same x i)) (1 + same-prefix xs i) 0

  pub same-taken : (xs : List X) → take_while (λ x. not (p x)) (map bare xs) ≡ map bare (take_while (λ x. not (p x)) xs)
  same-taken xs = ap (λ n. take n (map bare xs)) (same-prefix xs) ∙ take-map bare (prefix_len (λ x. not (p x)) xs) xs

  pub same-left : (xs : List X)
      → drop (length (take_while (λ x. not (p x)) (map bare xs))) (map bare xs) ≡ map bare (drop (length (take_while (λ x. not (p x)) xs)) xs)
  same-left xs =
      ap (λ (ys : List X). drop (length ys) (map bare xs)) (same-taken xs) ∙ ap (λ n. drop n (map bare xs)) (length-map (take_while (λ x. not (p x)) xs) bare)
      ∙ drop-map bare (length (take_while (λ x. not (p x)) xs)) xs

  count-from : (n : ℕ) (xs : List X) → fold (λ a x. a + cond (p x) 1 0) n (map bare xs) ≡ fold (λ a x. a + cond (p x) 1 0) n xs
  count-from n [] = refl
  count-from n (x ∷ xs) = ap (λ b. fold (λ a x. a + cond (p x) 1 0) (n + cond b 1 0) (map bare xs)) (same x) ∙ count-from (n + cond (p x) 1 0) xs

  pub same-count : (xs : List X) → count_by p (map bare xs) ≡ count_by p xs
  same-count xs = count-from 0 xs
