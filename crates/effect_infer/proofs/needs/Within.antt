-- Elements within elements, one list at a time.
use Rattle.std.proofs.Common.{◌≡◌, ◌⊎◌, ℕ, Bool, true, false, List, [], ◌∷◌, zero, suc, map, if◌then◌else◌, inl, inr, refl, sym, ap, ◌∙◌, subst, arith, eqb-true, eq-eqb, int_eq}
use Rattle.std.specs.Prelude.{nat_lt, slice_index_or, ◌&&◌}
use Rattle.std.proofs.lemmas.Bool.{false≢true, and_parts, and_from}
use Rattle.std.proofs.lemmas.Bool.Decides.{Decides-int_eq}
use Rattle.region_paths.specs.declared.elements.Elem.{Elem}
use Rattle.region_paths.specs.declared.elements.Elem.TheVariants.{Name, Index, Var, AnyIndex}
use Rattle.region_paths.specs.Inside.{within, starts_within, each_within}
use Rattle.region_paths.specs.Filled.{fill_elem, vars_below}
use Rattle.effect_infer.specs.needs.Needs.{settled_elem}

-- an index of any kind
abbrev pub is_index : Elem → Bool
is_index (Name n) = false
is_index (Index i) = true
is_index (Var k) = true
is_index AnyIndex = true

pub within-refl : (x : Elem) → within x x ≡ true
within-refl (Name n) = eq-eqb n n refl
within-refl (Index i) = (Decides-int_eq i i).1 refl
within-refl (Var k) = eq-eqb k k refl
within-refl AnyIndex = refl

-- an element is within its equal, and every kind of index is within any index
pub within-cases : (x y : Elem) → within x y ≡ true → (x ≡ y) ⊎ ((y ≡ AnyIndex) × (is_index x ≡ true))
within-cases (Name n) (Name m) h = inl (ap Name (eqb-true n m h))
within-cases (Name n) (Index j) h = absurd (false≢true h)
within-cases (Name n) (Var j) h = absurd (false≢true h)
within-cases (Name n) AnyIndex h = absurd (false≢true h)
within-cases (Index i) (Name m) h = absurd (false≢true h)
within-cases (Index i) (Index j) h = inl (ap Index ((Decides-int_eq i j).0 h))
within-cases (Index i) (Var j) h = absurd (false≢true h)
within-cases (Index i) AnyIndex h = inr (refl, refl)
within-cases (Var k) (Name m) h = absurd (false≢true h)
within-cases (Var k) (Index j) h = absurd (false≢true h)
within-cases (Var k) (Var l) h = inl (ap Var (eqb-true k l h))
within-cases (Var k) AnyIndex h = inr (refl, refl)
within-cases AnyIndex (Name m) h = absurd (false≢true h)
within-cases AnyIndex (Index j) h = absurd (false≢true h)
within-cases AnyIndex (Var j) h = absurd (false≢true h)
within-cases AnyIndex AnyIndex h = inl refl

pub within-any : (x : Elem) → is_index x ≡ true → within x AnyIndex ≡ true
within-any (Name n) h = absurd (false≢true h)
within-any (Index i) h = refl
within-any (Var k) h = refl
within-any AnyIndex h = refl

pub within-same : (x y : Elem) → x ≡ y → within x y ≡ true
within-same x y e = subst (λ z. within x z ≡ true) e (within-refl x)

-- what is within an index is an index
index-below : (x y : Elem) → within x y ≡ true → is_index y ≡ true → is_index x ≡ true
index-below x y h i = elim (within-cases x y h) [
  | inl e ↦ subst (λ z. is_index z ≡ true) (sym e) i
  | inr any ↦ any.1
]

pub within-trans : (x y z : Elem) → within x y ≡ true → within y z ≡ true → within x z ≡ true
within-trans x y z h k = elim (within-cases y z k) [
  | inl e ↦ subst (λ w. within x w ≡ true) e h
  | inr any ↦ subst (λ w. within x w ≡ true) (sym any.0) (within-any x (index-below x y h any.1))
]

pub starts-trans : (xs ys zs : List Elem) → starts_within xs ys ≡ true → starts_within ys zs ≡ true → starts_within xs zs ≡ true
starts-trans xs ys [] h k = refl
starts-trans xs [] (z ∷ zs) h k = absurd (false≢true k)
starts-trans [] (y ∷ ys) (z ∷ zs) h k = absurd (false≢true h)
starts-trans (x ∷ xs) (y ∷ ys) (z ∷ zs) h k =
    let first = and_parts _ _ h in
    let second = and_parts _ _ k in
    and_from _ _ (within-trans x y z first.0 second.0) (starts-trans xs ys zs first.1 second.1)

pub starts-refl : (xs : List Elem) → starts_within xs xs ≡ true
starts-refl [] = refl
starts-refl (x ∷ xs) = and_from _ _ (within-refl x) (starts-refl xs)

-- a map of elements that keeps what is within what
abbrev pub Keeps : (Elem → Elem) → Type 0
Keeps f = (x y : Elem) → within x y ≡ true → within (f x) (f y) ≡ true

pub starts-map : (f : Elem → Elem) → Keeps f → (xs ys : List Elem) → starts_within xs ys ≡ true → starts_within (map f xs) (map f ys) ≡ true
starts-map f keeps xs [] h = refl
starts-map f keeps [] (y ∷ ys) h = absurd (false≢true h)
starts-map f keeps (x ∷ xs) (y ∷ ys) h =
    let parts = and_parts _ _ h in
    and_from _ _ (keeps x y parts.0) (starts-map f keeps xs ys parts.1)

-- a map that widens each element
pub starts-wider : (f : Elem → Elem) → ((x : Elem) → within x (f x) ≡ true) → (xs : List Elem) → starts_within xs (map f xs) ≡ true
starts-wider f wider [] = refl
starts-wider f wider (x ∷ xs) = and_from _ _ (wider x) (starts-wider f wider xs)

-- both ends of a test
wider_var : (k : ℕ) (b : Bool) → within (Var k) (if b then Var k else AnyIndex) ≡ true
wider_var k true = eq-eqb k k refl
wider_var k false = refl

pub settled-wider : (params : ℕ) (x : Elem) → within x (settled_elem params x) ≡ true
settled-wider params (Name n) = eq-eqb n n refl
settled-wider params (Index i) = (Decides-int_eq i i).1 refl
settled-wider params (Var k) = wider_var k (nat_lt k params)
settled-wider params AnyIndex = refl

index_var : (k : ℕ) (b : Bool) → is_index (if b then Var k else AnyIndex) ≡ true
index_var k true = refl
index_var k false = refl

settled-index : (params : ℕ) (x : Elem) → is_index x ≡ true → is_index (settled_elem params x) ≡ true
settled-index params (Name n) h = h
settled-index params (Index i) h = refl
settled-index params (Var k) h = index_var k (nat_lt k params)
settled-index params AnyIndex h = refl

-- a map that keeps any index, and makes an index of each index, keeps what is within what
pub keeps-within : (f : Elem → Elem) → f AnyIndex ≡ AnyIndex → ((x : Elem) → is_index x ≡ true → is_index (f x) ≡ true) → Keeps f
keeps-within f any index x y h = elim (within-cases x y h) [
  | inl e ↦ within-same (f x) (f y) (ap f e)
  | inr wide ↦ subst (λ z. within (f x) z ≡ true) (sym (ap f wide.0 ∙ any)) (within-any (f x) (index x wide.1))
]

pub settled-keeps : (params : ℕ) → Keeps (settled_elem params)
settled-keeps params = keeps-within (settled_elem params) refl (settled-index params)

-- arguments are indexes
abbrev pub are_indexes : List Elem → Bool
are_indexes [] = true
are_indexes (e ∷ es) = is_index e && are_indexes es

get-index : (args : List Elem) (k : ℕ) (d : Elem) → are_indexes args ≡ true → is_index d ≡ true → is_index (slice_index_or args k d) ≡ true
get-index [] k d h i = i
get-index (e ∷ es) zero d h i = (and_parts (is_index e) (are_indexes es) h).0
get-index (e ∷ es) (suc k) d h i = get-index es k d (and_parts (is_index e) (are_indexes es) h).1 i

fill-index : (args : List Elem) → are_indexes args ≡ true → (x : Elem) → is_index x ≡ true → is_index (fill_elem args x) ≡ true
fill-index args h (Name n) i = i
fill-index args h (Index j) i = refl
fill-index args h (Var k) i = get-index args k (Var k) h refl
fill-index args h AnyIndex i = refl

pub fill-keeps : (args : List Elem) → are_indexes args ≡ true → Keeps (fill_elem args)
fill-keeps args h = keeps-within (fill_elem args) refl (fill-index args h)

-- what speaks of parameters alone stays as it is
settled_var : (k params : ℕ) (b : Bool) → b ≡ true → (if b then Var k else AnyIndex) ≡ Var k
settled_var k params true h = refl
settled_var k params false h = absurd (false≢true h)

pub settled-same : (params : ℕ) (xs : List Elem) → vars_below params xs ≡ true → map (settled_elem params) xs ≡ xs
settled-same params [] h = refl
settled-same params (Name n ∷ xs) h = ap (λ (ys : List Elem). Name n ∷ ys) (settled-same params xs h)
settled-same params (Index i ∷ xs) h = ap (λ (ys : List Elem). Index i ∷ ys) (settled-same params xs h)
settled-same params (Var k ∷ xs) h =
    let parts = and_parts (nat_lt k params) (vars_below params xs) h in
    ap (λ (y : Elem). y ∷ map (settled_elem params) xs) (settled_var k params (nat_lt k params) parts.0)
    ∙ ap (λ (ys : List Elem). Var k ∷ ys) (settled-same params xs parts.1)
settled-same params (AnyIndex ∷ xs) h = ap (λ (ys : List Elem). AnyIndex ∷ ys) (settled-same params xs h)
