-- Lists that get one element more, what stands in them, and tables of which a row gets one.
use Rattle.std.proofs.Common.{◌≡◌, ◌⊎◌, ◌<◌, ◌+◌, inl, inr, ℕ, zero, suc, Bool, true, false, cond, List, [], ◌∷◌, ◌++◌, length, take, get_or, Some, IsTrue, refl, sym, ap, ◌∙◌, subst, arith}
use Rattle.std.specs.Prelude.{slice_get, slice_set}
use Rattle.std.specs.List.{AllZip, Contains, filter}
use Rattle.std.proofs.lemmas.Bool.{false≢true}
use Rattle.std.proofs.lemmas.List.{take_more}
use Rattle.std.proofs.lemmas.List.Elements.{Contains-append_left, Contains-push}
use Rattle.twe_base.proofs.Members.{IsIn, contains-in, in-contains, list_all-in}
use Rattle.region_paths.specs.Filled.{filled}
use Rattle.effect_sets.specs.declared.effects.Effect.{Effect}
use Rattle.effect_sets.specs.Filled.{all_filled}
use Rattle.held_span.specs.Rivals.{AreNumbersOf, EffectList, IsNumberOf}
use Rattle.held_span.specs.Tables.{IsListed, numbers_in, numbers_found}

-- what stands in a list stands in the longer one
pub get-kept : {X : Type 0} (xs : List X) (y : X) (n : ℕ) (x : X) → slice_get xs n ≡ Some x → slice_get (xs ++ y ∷ []) n ≡ Some x
get-kept [] y n x h = absurd (cc (h))
get-kept (z ∷ xs) y zero x h = h
get-kept (z ∷ xs) y (suc n) x h = get-kept xs y n x h

-- and the new element stands last
pub get-last : {X : Type 0} (xs : List X) (y : X) → slice_get (xs ++ y ∷ []) (length xs) ≡ Some y
get-last [] y = refl
get-last (z ∷ xs) y = get-last xs y

pub get-cases : {X : Type 0} (xs : List X) (y : X) (n : ℕ) (x : X) → slice_get (xs ++ y ∷ []) n ≡ Some x → (slice_get xs n ≡ Some x) ⊎ ((n ≡ length xs) × (x ≡ y))
get-cases [] y zero x h = let same : x ≡ y = cc (h) in inr (refl, same)
get-cases [] y (suc n) x h = absurd (cc (h))
get-cases (z ∷ xs) y zero x h = inl h
get-cases (z ∷ xs) y (suc n) x h = elim (get-cases xs y n x h) [ inl old ↦ inl old | inr new ↦ inr (ap suc new.0, new.1) ]

-- something stands at each index
pub found : {X : Type 0} (xs : List X) (n : ℕ) → n < length xs → (x : X) × (slice_get xs n ≡ Some x)
found [] n h = absurd (omega arith)
found (x ∷ xs) zero h = (x, refl)
found (x ∷ xs) (suc n) h = let below : n < length xs = omega arith in found xs n below

-- elements that pass a test
in-cond : {X : Type 0} (b : Bool) (y : X) (rest : List X) (x : X) → ((x ≡ y) × (b ≡ true)) ⊎ IsIn x rest → IsIn x (cond b (y ∷ rest) rest)
in-cond true y rest x (inl h) = inl h.0
in-cond true y rest x (inr i) = inr i
in-cond false y rest x (inl h) = absurd (false≢true h.1)
in-cond false y rest x (inr i) = i

in-filter : {X : Type 0} (p : X → Bool) (xs : List X) (x : X) → IsIn x xs → p x ≡ true → IsIn x (filter p xs)
in-filter p [] x i h = absurd i
in-filter p (y ∷ xs) x (inl e) h = in-cond (p y) y (filter p xs) x (inl (e, ap p (sym e) ∙ h))
in-filter p (y ∷ xs) x (inr i) h = in-cond (p y) y (filter p xs) x (inr (in-filter p xs x i h))

pub filter-has : (p : ℕ → Bool) (xs : List ℕ) (x : ℕ) → Contains xs x → p x ≡ true → Contains (filter p xs) x
filter-has p xs x c h = in-contains (filter p xs) x (in-filter p xs x (contains-in xs x c) h)

-- pairs of elements
pub zip-kept : {A B : Type 0} (P Q : A → B → Type 0) → ((a : A) (b : B) → P a b → Q a b) → (xs : List A) (ys : List B) → AllZip P xs ys → AllZip Q xs ys
zip-kept P Q f [] [] z = tt
zip-kept P Q f [] (y ∷ ys) z = absurd z
zip-kept P Q f (x ∷ xs) [] z = absurd z
zip-kept P Q f (x ∷ xs) (y ∷ ys) z = (f x y z.0, zip-kept P Q f xs ys z.1)

pub zip-push : {A B : Type 0} (P : A → B → Type 0) (xs : List A) (ys : List B) (x : A) (y : B) → AllZip P xs ys → P x y → AllZip P (xs ++ x ∷ []) (ys ++ y ∷ [])
zip-push P [] [] x y z p = (p, tt)
zip-push P [] (b ∷ ys) x y z p = absurd z
zip-push P (a ∷ xs) [] x y z p = absurd z
zip-push P (a ∷ xs) (b ∷ ys) x y z p = (z.0, zip-push P xs ys x y z.1 p)

-- a list whose numbers stay those of its effects while further effects get numbers
pub numbers-kept : (old new : EffectList) → ((n : ℕ) (e : Effect) → IsNumberOf old n e → IsNumberOf new n e) → (numbers : List ℕ) (list : EffectList) → AreNumbersOf old numbers list → AreNumbersOf new numbers list
numbers-kept old new kept numbers list h = zip-kept (IsNumberOf old) (IsNumberOf new) kept numbers list h

pub all-numbers-kept : (old new : EffectList) → ((n : ℕ) (e : Effect) → IsNumberOf old n e → IsNumberOf new n e) → (lists : List (List ℕ)) (others : List EffectList) → AllZip (AreNumbersOf old) lists others → AllZip (AreNumbersOf new) lists others
all-numbers-kept old new kept lists others h = zip-kept (AreNumbersOf old) (AreNumbersOf new) (numbers-kept old new kept) lists others h

pub numbers-more : (old new : EffectList) → ((n : ℕ) (e : Effect) → IsNumberOf old n e → IsNumberOf new n e) → (numbers more : List ℕ) (list : EffectList) (i number : ℕ) (effect : Effect) → i < length list → effect ≡ get_or list i effect → more ≡ numbers ++ number ∷ [] → AreNumbersOf old numbers (take i list) → IsNumberOf new number effect → AreNumbersOf new more (take (i + 1) list)
numbers-more old new kept numbers more list i number effect below is grown h last =
    let long : take (i + 1) list ≡ take i list ++ effect ∷ [] = take_more list i effect below ∙ ap (λ (e : Effect). take i list ++ e ∷ []) (sym is) in
    subst (λ (ns : List ℕ). AreNumbersOf new ns (take (i + 1) list)) (sym grown)
    (subst (λ (es : EffectList). AreNumbersOf new (numbers ++ number ∷ []) es) (sym long)
    (zip-push (IsNumberOf new) numbers (take i list) number effect (numbers-kept old new kept numbers (take i list) h) last))

-- effects of a list without variables have none
pub filled-at : (list : EffectList) (i : ℕ) (effect : Effect) → IsTrue (all_filled list) → i < length list → effect ≡ get_or list i effect → IsTrue (filled effect.path)
filled-at list i effect h below is = list_all-in (λ (e : Effect). filled e.path) list h effect (contains-in list effect (i, below, sym is))

-- a row that gets a number has it, and all rows keep what they have
pub put-here : (lists : List (List ℕ)) (at : ℕ) (list new : List ℕ) → slice_get lists at ≡ Some list → numbers_in (slice_set lists at new) at ≡ new
put-here [] at list new h = absurd (cc (h))
put-here (l ∷ lists) zero list new h = refl
put-here (l ∷ lists) (suc at) list new h = put-here lists at list new h

pub put-has : (lists : List (List ℕ)) (at : ℕ) (list : List ℕ) (number : ℕ) → slice_get lists at ≡ Some list → IsListed (slice_set lists at (list ++ number ∷ [])) at number
put-has lists at list number h = subst (λ (l : List ℕ). Contains l number) (sym (put-here lists at list (list ++ number ∷ []) h)) (Contains-push list number)

pub put-keeps : (lists : List (List ℕ)) (at : ℕ) (list : List ℕ) (number i n : ℕ) → slice_get lists at ≡ Some list → IsListed lists i n → IsListed (slice_set lists at (list ++ number ∷ [])) i n
put-keeps [] at list number i n h c = absurd (cc (h))
put-keeps (l ∷ lists) zero list number zero n h c = let same : l ≡ list = cc (h) in Contains-append_left list (number ∷ []) n (subst (λ (w : List ℕ). Contains w n) same c)
put-keeps (l ∷ lists) zero list number (suc i) n h c = c
put-keeps (l ∷ lists) (suc at) list number zero n h c = c
put-keeps (l ∷ lists) (suc at) list number (suc i) n h c = put-keeps lists at list number i n h c

-- a number that is listed stands in a row that is there
pub listed-row : (lists : List (List ℕ)) (a b : ℕ) → IsListed lists a b → (list : List ℕ) × (slice_get lists a ≡ Some list) × Contains list b
listed-row [] a b h = absurd (omega (arith, h.1))
listed-row (l ∷ lists) zero b h = (l, refl, h)
listed-row (l ∷ lists) (suc a) b h = listed-row lists a b h

pub row-listed : (lists : List (List ℕ)) (a b : ℕ) (list : List ℕ) → slice_get lists a ≡ Some list → Contains list b → IsListed lists a b
row-listed lists a b list is h = subst (λ (l : List ℕ). Contains l b) (sym (ap numbers_found is)) h

take-all : {X : Type 0} (xs : List X) → take (length xs) xs ≡ xs
take-all [] = refl
take-all {X} (x ∷ xs) = ap (λ (ys : List X). x ∷ ys) (take-all xs)

pub numbers-all : (effects : EffectList) (numbers : List ℕ) (list : EffectList) (i : ℕ) → i ≡ length list → AreNumbersOf effects numbers (take i list) → AreNumbersOf effects numbers list
numbers-all effects numbers list i all h =
    subst (λ (es : EffectList). AreNumbersOf effects numbers es) (ap (λ (n : ℕ). take n list) all ∙ take-all list) h
