-- The elements of a path at the positions of a concrete path stand for it exactly where the path does.
use Rattle.std.proofs.Common.{◌≡◌, ℕ, zero, suc, ◌+◌, ◌-◌, ◌≤◌, max, Bool, true, false, IsTrue, List, [], ◌∷◌, ◌++◌, length, map, take, drop, reverse, replicate, refl, sym, ap, ap₂, ◌∙◌, subst, arith, eqb-true, eq-eqb, length-take, length-drop, append-nil}
use Rattle.std.specs.Prelude.{◌&&◌, Option, None, Some}
use Rattle.std.proofs.lemmas.Bool.{false≢true, and_parts, and_from, leb-true, le-leb}
use Rattle.std.proofs.lemmas.List.{length-map, map-append, length-reverse, length-replicate, length-append}
use Rattle.region_paths.specs.declared.elements.Elem.{Elem}
use Rattle.region_paths.specs.Written.{WrittenPath, PathIsWellFormed}
use Rattle.region_paths.specs.Concrete.{ConcreteElem, ConcretePath, InSet, both_ends_stand, each_stands, elem_stands, stands}
use Rattle.region_paths.specs.Filled.{Valuation, elem_under, under}
use Rattle.region_paths.proofs.Standing.{each_stands-length, front_stands}
use Rattle.region_paths.proofs.Ends.{Around, around_from, around_to}
use Rattle.region_paths.proofs.Outside.{around_made}
use Rattle.effect_meeting.specs.inner.Aligned.{all_stand, at_ends, at_length, common_length, has_length, one_stands, one_under}

and-three : (a b c : Bool) → (a && (b && c)) ≡ ((a && b) && c)
and-three true b c = refl
and-three false b c = refl

same-tests : (a b : Bool) → (a ≡ true → b ≡ true) → (b ≡ true → a ≡ true) → a ≡ b
same-tests true b to from = sym (to refl)
same-tests false true to from = from refl
same-tests false false to from = refl

-- a list in two parts stands for a path in two parts
pub all_stand-append : (xs ys : List (Option Elem)) (c : ConcretePath)
    → all_stand (xs ++ ys) c ≡ (all_stand xs (take (length xs) c) && all_stand ys (drop (length xs) c))
all_stand-append [] ys c = refl
all_stand-append (x ∷ xs) ys [] = refl
all_stand-append (x ∷ xs) ys (d ∷ c) =
    ap (λ b. one_stands x d && b) (all_stand-append xs ys c)
    ∙ and-three (one_stands x d) (all_stand xs (take (length xs) c)) (all_stand ys (drop (length xs) c))

-- no elements stand for anything of their number
none-stand : (c : ConcretePath) → all_stand (replicate (length c) None) c ≡ true
none-stand [] = refl
none-stand (d ∷ c) = none-stand c

pub none-stands : (n : ℕ) (c : ConcretePath) → length c ≡ n → all_stand (replicate n None) c ≡ true
none-stands n c long = subst (λ (k : ℕ). all_stand (replicate k None) c ≡ true) long (none-stand c)

pub all_stand-length : (xs : List (Option Elem)) (c : ConcretePath) → all_stand xs c ≡ true → length c ≡ length xs
all_stand-length [] [] h = refl
all_stand-length [] (d ∷ c) h = absurd (false≢true h)
all_stand-length (x ∷ xs) [] h = absurd (false≢true h)
all_stand-length (x ∷ xs) (d ∷ c) h = ap suc (all_stand-length xs c (and_parts _ _ h).1)

pub some-stand : (es : List Elem) (c : ConcretePath) → all_stand (map Some es) c ≡ each_stands es c
some-stand [] [] = refl
some-stand [] (d ∷ c) = refl
some-stand (e ∷ es) [] = refl
some-stand (e ∷ es) (d ∷ c) = ap (λ b. elem_stands e d && b) (some-stand es c)

drop-none : (n : ℕ) → drop {A = ConcreteElem} n [] ≡ []
drop-none zero = refl
drop-none (suc n) = refl

drop-twice : (m n : ℕ) (c : ConcretePath) → drop n (drop m c) ≡ drop (m + n) c
drop-twice zero n c =
    let same : n ≡ zero + n = omega arith in
    ap (λ (k : ℕ). drop k c) same
drop-twice (suc m) n [] = ap (drop n) (drop-none (suc m)) ∙ drop-none n ∙ sym (drop-none (suc m + n))
drop-twice (suc m) n (d ∷ c) =
    let same : suc (m + n) ≡ suc m + n = omega arith in
    drop-twice m n c ∙ ap (λ (k : ℕ). drop k (d ∷ c)) same

-- elements round a star
ends-exact : (es ts : List Elem) (c : ConcretePath) → length es + length ts ≤ length c
    → all_stand (at_ends (length c) es ts) c ≡ both_ends_stand es ts c
ends-exact es ts c room =
    let gap = length c - (length es + length ts) in
    let rest = drop (length es) c in
    let long : length (take gap rest) ≡ gap = omega (arith, length-take gap rest, length-drop (length es) c) in
    let last : drop gap rest ≡ drop (length c - length ts) c =
    let same : length es + gap ≡ length c - length ts = omega arith in
    drop-twice (length es) gap c ∙ ap (λ (k : ℕ). drop k c) same in
    let between : all_stand (replicate gap None ++ map Some ts) rest ≡ each_stands ts (drop (length c - length ts) c) =
    all_stand-append (replicate gap None) (map Some ts) rest
    ∙ ap (λ (k : ℕ). all_stand (replicate gap None) (take k rest) && all_stand (map Some ts) (drop k rest)) (length-replicate gap None)
    ∙ ap (λ b. b && all_stand (map Some ts) (drop gap rest)) (none-stands gap (take gap rest) long)
    ∙ some-stand ts (drop gap rest) ∙ ap (each_stands ts) last in
    all_stand-append (map Some es) (replicate gap None ++ map Some ts) c
    ∙ ap (λ (k : ℕ). all_stand (map Some es) (take k c) && all_stand (replicate gap None ++ map Some ts) (drop k c)) (length-map es Some)
    ∙ ap₂ (λ a b. a && b) (some-stand es (take (length es) c)) between
    ∙ ap (λ b. b && (each_stands es (take (length es) c) && each_stands ts (drop (length c - length ts) c))) (sym (le-leb _ _ room))

-- elements without a star
plain-exact : (es : List Elem) (c : ConcretePath) → length es ≡ length c → all_stand (at_ends (length c) es []) c ≡ each_stands es c
plain-exact es c long =
    let gap : length c - (length es + length {A = Elem} []) ≡ 0 = omega arith in
    ap (λ (k : ℕ). all_stand (map Some es ++ (replicate k None ++ [])) c) gap
    ∙ ap (λ (xs : List (Option Elem)). all_stand xs c) (append-nil (map Some es))
    ∙ some-stand es c

map-some : (v : Valuation) (es : List Elem) → map (one_under v) (map Some es) ≡ map Some (map (elem_under v) es)
map-some v [] = refl
map-some v (e ∷ es) = ap (λ (xs : List (Option Elem)). Some (elem_under v e) ∷ xs) (map-some v es)

map-none : (v : Valuation) (n : ℕ) → map (one_under v) (replicate n None) ≡ replicate n None
map-none v zero = refl
map-none v (suc n) = ap (λ (xs : List (Option Elem)). None ∷ xs) (map-none v n)

-- with values, the elements at the ends are those of the path with values
ends-under : (v : Valuation) (n : ℕ) (es ts : List Elem)
    → map (one_under v) (at_ends n es ts) ≡ at_ends n (map (elem_under v) es) (map (elem_under v) ts)
ends-under v n es ts =
    let gap = n - (length es + length ts) in
    map-append (one_under v) (map Some es) (replicate gap None ++ map Some ts)
    ∙ ap₂ (λ (xs ys : List (Option Elem)). xs ++ ys) (map-some v es)
    (map-append (one_under v) (replicate gap None) (map Some ts)
    ∙ ap₂ (λ (xs ys : List (Option Elem)). xs ++ ys) (map-none v gap) (map-some v ts)
    ∙ ap (λ (k : ℕ). replicate k None ++ map Some (map (elem_under v) ts))
    (ap₂ (λ (a b : ℕ). n - (a + b)) (sym (length-map es (elem_under v))) (sym (length-map ts (elem_under v)))))

aligned-parts : (v : Valuation) (es : List Elem) (star : Bool) (ts : List Elem) (c : ConcretePath)
    → PathIsWellFormed (record { elems = es; star = star; tail = ts })
    → has_length (record { elems = es; star = star; tail = ts }) (length c) ≡ true
    → all_stand (map (one_under v) (at_ends (length c) es ts)) c ≡ stands (under v (record { elems = es; star = star; tail = ts })) c
aligned-parts v es true ts c formed fits =
    let room : length es + length ts ≤ length c = leb-true _ _ fits in
    ap (λ (xs : List (Option Elem)). all_stand xs c) (ends-under v (length c) es ts)
    ∙ ends-exact (map (elem_under v) es) (map (elem_under v) ts) c (omega (arith, length-map es (elem_under v), length-map ts (elem_under v)))
aligned-parts v es false ts c formed fits =
    let long : length es ≡ length c = eqb-true _ _ fits in
    let none : ts ≡ [] = formed false≢true in
    ap (λ (us : List Elem). all_stand (map (one_under v) (at_ends (length c) es us)) c) none
    ∙ ap (λ (xs : List (Option Elem)). all_stand xs c) (ends-under v (length c) es [])
    ∙ plain-exact (map (elem_under v) es) c (length-map es (elem_under v) ∙ long)

-- the elements of a path at the positions of a concrete path stand for it where the path does
pub aligned-stands : (v : Valuation) (p : WrittenPath) (c : ConcretePath) → PathIsWellFormed p → has_length p (length c) ≡ true
    → all_stand (map (one_under v) (at_length (length c) p)) c ≡ stands (under v p) c
aligned-stands v p c = aligned-parts v p.elems p.star p.tail c

length-parts : (v : Valuation) (es : List Elem) (star : Bool) (ts : List Elem) (c : ConcretePath)
    → stands (under v (record { elems = es; star = star; tail = ts })) c ≡ true → has_length (record { elems = es; star = star; tail = ts }) (length c) ≡ true
length-parts v es true ts c h =
    let room : length (map (elem_under v) es) + length (map (elem_under v) ts) ≤ length c = leb-true _ _ (and_parts _ _ h).0 in
    le-leb _ _ (omega (arith, length-map es (elem_under v), length-map ts (elem_under v)))
length-parts v es false ts c h = eq-eqb _ _ (sym (length-map es (elem_under v)) ∙ each_stands-length (map (elem_under v) es) c h)

-- a concrete path of a path has a length that it may have
pub stands-length : (v : Valuation) (p : WrittenPath) (c : ConcretePath) → InSet (under v p) c → IsTrue (has_length p (length c))
stands-length v p c = length-parts v p.elems p.star p.tail c

front-take : (es : List Elem) (c : ConcretePath) (n : ℕ) → front_stands es c ≡ true → length es ≤ n → front_stands es (take n c) ≡ true
front-take [] c n h short = refl
front-take (e ∷ es) [] n h short = absurd (false≢true h)
front-take (e ∷ es) (d ∷ c) zero h short = absurd (omega arith)
front-take (e ∷ es) (d ∷ c) (suc n) h short =
    let parts = and_parts _ _ h in
    and_from _ _ parts.0 (front-take es c n parts.1 (omega arith))

-- a concrete path without what is in the middle
abbrev shortened : ℕ → ℕ → ConcretePath → ConcretePath
shortened m n c = take m c ++ reverse (take n (reverse c))

around-shortened : (es ts : List Elem) (m n : ℕ) (c : ConcretePath) → Around es ts c → length es ≤ m → length ts ≤ n → Around es ts (shortened m n c)
around-shortened es ts m n c a front back =
    around_made es ts (take m c) (take n (reverse c)) (front-take es c m a.front front)
    (front-take (reverse ts) (reverse c) n a.back (omega (arith, length-reverse ts)))

-- a common path of the length that is tried
pub record IsTried (v w : Valuation) (p q : WrittenPath) (c : ConcretePath) : Type 0 where
  pub long : length c ≡ common_length p q
  pub in_first : InSet (under v p) c
  pub in_second : InSet (under w q) c

tried-parts : (v w : Valuation) (es : List Elem) (s : Bool) (ts fs : List Elem) (t : Bool) (us : List Elem) (c : ConcretePath)
    → InSet (under v (record { elems = es; star = s; tail = ts })) c → InSet (under w (record { elems = fs; star = t; tail = us })) c
    → (d : ConcretePath) × IsTried v w (record { elems = es; star = s; tail = ts }) (record { elems = fs; star = t; tail = us }) d
tried-parts v w es false ts fs t us c h k =
    (c, record { long = sym (each_stands-length _ c h) ∙ length-map es (elem_under v); in_first = h; in_second = k })
tried-parts v w es true ts fs false us c h k =
    (c, record { long = sym (each_stands-length _ c k) ∙ length-map fs (elem_under w); in_first = h; in_second = k })
tried-parts v w es true ts fs true us c h k =
    let ves = map (elem_under v) es in
    let vts = map (elem_under v) ts in
    let wfs = map (elem_under w) fs in
    let wus = map (elem_under w) us in
    let m = max (length es) (length fs) in
    let n = max (length ts) (length us) in
    let a = around_from ves vts c h in
    let b = around_from wfs wus c k in
    let first : length ves ≡ length es = length-map es (elem_under v) in
    let first_end : length vts ≡ length ts = length-map ts (elem_under v) in
    let second : length wfs ≡ length fs = length-map fs (elem_under w) in
    let second_end : length wus ≡ length us = length-map us (elem_under w) in
    let long : length (shortened m n c) ≡ m + n =
    omega (arith, a.room, b.room, length-append (take m c) (reverse (take n (reverse c))), length-take m c, length-reverse (take n (reverse c)), length-take n (reverse c), length-reverse c) in (
      shortened m n c,
      record {
        long = long;
        in_first = around_to ves vts (shortened m n c) (around-shortened ves vts m n c a (omega arith) (omega arith));
        in_second = around_to wfs wus (shortened m n c) (around-shortened wfs wus m n c b (omega arith) (omega arith));
      },
    )

-- paths that have a common path have one of that length
pub common-tried : (v w : Valuation) (p q : WrittenPath) (c : ConcretePath) → InSet (under v p) c → InSet (under w q) c
    → (d : ConcretePath) × IsTried v w p q d
common-tried v w p q c = tried-parts v w p.elems p.star p.tail q.elems q.star q.tail c
