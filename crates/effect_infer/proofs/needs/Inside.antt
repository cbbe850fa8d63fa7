-- Needs inside effects: the test is reflexive and transitive, and maps of elements keep it.
use Rattle.std.proofs.Common.{◌≡◌, ◌⊎◌, ℕ, ◌+◌, ◌≤◌, Bool, true, false, not, List, [], ◌∷◌, ◌++◌, map, length, reverse, inl, inr, refl, sym, ap, ◌∙◌, subst, arith, eqb-true, eq-eqb}
use Rattle.std.specs.Prelude.{◌&&◌, ◌||◌, ◌==◌}
use Rattle.std.proofs.lemmas.Grind.{reverse_onto}
use Rattle.std.proofs.lemmas.List.{length-map, length-reverse, reverse-reverse}
use Rattle.std.proofs.lemmas.Bool.{false≢true, and_parts, and_from, leb-true, le-leb, cases_Bool}
use Rattle.region_paths.specs.declared.elements.Elem.{Elem}
use Rattle.region_paths.specs.Written.{WrittenPath}
use Rattle.region_paths.specs.Inside.{within, starts_within, ends_within, each_within, inside, inside_ends}
use Rattle.region_paths.specs.Filled.{fill_elem, fill}
use Rattle.region_paths.proofs.Lists.{map-reverse, starts_within-length}
use Rattle.effect_sets.specs.declared.effects.Effect.{Effect}
use Rattle.effect_sets.specs.Covers.{effect_covers}
use Rattle.effect_infer.specs.declared.needs.need.Need.{Need}
use Rattle.effect_infer.specs.needs.Needs.{effect_of, settled, settled_elem}
use Rattle.effect_infer.proofs.needs.Within.{within-refl, within-trans, starts-trans, starts-refl, Keeps, starts-map, starts-wider, settled-wider}

-- a path without a star
abbrev pub plain : List Elem → WrittenPath
plain xs = record { elems = xs; star = false; tail = [] }

-- each element within its fellow, as a length and a front
pub record Each (xs ys : List Elem) : Type 0 where
  pub long : length xs ≡ length ys
  pub front : starts_within xs ys ≡ true

pub each-from : (xs ys : List Elem) → each_within xs ys ≡ true → Each xs ys
each-from xs ys h =
    let parts = and_parts (length xs == length ys) (starts_within xs ys) h in
    record { long = eqb-true _ _ parts.0; front = parts.1 }

pub each-to : (xs ys : List Elem) → Each xs ys → each_within xs ys ≡ true
each-to xs ys e = and_from (length xs == length ys) (starts_within xs ys) (eq-eqb _ _ e.long) e.front

-- the same counted from the end
starts-push : (xs ys : List Elem) (x y : Elem) → length xs ≡ length ys → starts_within xs ys ≡ true → within x y ≡ true → starts_within (xs ++ x ∷ []) (ys ++ y ∷ []) ≡ true
starts-push [] [] x y e h w = and_from _ _ w refl
starts-push [] (b ∷ ys) x y e h w = absurd (omega (arith, e))
starts-push (a ∷ xs) [] x y e h w = absurd (omega (arith, e))
starts-push (a ∷ xs) (b ∷ ys) x y e h w =
    let parts = and_parts _ _ h in
    and_from _ _ parts.0 (starts-push xs ys x y (omega (arith, e)) parts.1 w)

pub starts-reverse : (xs ys : List Elem) → length xs ≡ length ys → starts_within xs ys ≡ true → starts_within (reverse xs) (reverse ys) ≡ true
starts-reverse [] [] e h = refl
starts-reverse [] (b ∷ ys) e h = absurd (omega (arith, e))
starts-reverse (a ∷ xs) [] e h = absurd (omega (arith, e))
starts-reverse (a ∷ xs) (b ∷ ys) e h =
    let parts = and_parts _ _ h in
    let same : length xs ≡ length ys = omega (arith, e) in
    let long : length (reverse xs) ≡ length (reverse ys) = length-reverse xs ∙ same ∙ sym (length-reverse ys) in
    subst (λ us. starts_within us (reverse (b ∷ ys)) ≡ true) (sym (reverse_onto xs a []))
    (subst (λ us. starts_within (reverse xs ++ a ∷ []) us ≡ true) (sym (reverse_onto ys b []))
    (starts-push (reverse xs) (reverse ys) a b long (starts-reverse xs ys same parts.1) parts.0))

pub each-trans : (xs ys zs : List Elem) → Each xs ys → Each ys zs → Each xs zs
each-trans xs ys zs h k = record { long = h.long ∙ k.long; front = starts-trans xs ys zs h.front k.front }

-- the elements fit around a star
pub record Ends (xs front back : List Elem) : Type 0 where
  pub room : length front + length back ≤ length xs
  pub starts : starts_within xs front ≡ true
  pub ends : starts_within (reverse xs) (reverse back) ≡ true

pub ends-from : (xs front back : List Elem) → inside_ends xs front back ≡ true → Ends xs front back
ends-from xs front back h =
    let parts = and_parts _ _ h in
    let rest = and_parts (starts_within xs front) (ends_within xs back) parts.1 in
    record { room = leb-true _ _ parts.0; starts = rest.0; ends = rest.1 }

pub ends-to : (xs front back : List Elem) → Ends xs front back → inside_ends xs front back ≡ true
ends-to xs front back e = and_from _ _ (le-leb _ _ e.room) (and_from (starts_within xs front) (ends_within xs back) e.starts e.ends)

each-ends : (xs ys front back : List Elem) → Each xs ys → Ends ys front back → Ends xs front back
each-ends xs ys front back h e = record {
  room = omega (arith, h.long, e.room);
  starts = starts-trans xs ys front h.front e.starts;
  ends = starts-trans (reverse xs) (reverse ys) (reverse back) (starts-reverse xs ys h.long h.front) e.ends;
}

wider-ends : (xs front back front' back' : List Elem) → Ends xs front back → starts_within front front' ≡ true → starts_within (reverse back) (reverse back') ≡ true → Ends xs front' back'
wider-ends xs front back front' back' e s t = record {
  room = omega (arith, e.room, starts_within-length front front' s, starts_within-length (reverse back) (reverse back') t, length-reverse back, length-reverse back');
  starts = starts-trans xs front front' e.starts s;
  ends = starts-trans (reverse xs) (reverse back) (reverse back') e.ends t;
}

-- a path without a star inside a second, and that inside a third
inside-trans-by : (xs ys yt zs zt : List Elem) (a b : Bool)
    → inside (plain xs) (record { elems = ys; star = a; tail = yt }) ≡ true
    → inside (record { elems = ys; star = a; tail = yt }) (record { elems = zs; star = b; tail = zt }) ≡ true
    → inside (plain xs) (record { elems = zs; star = b; tail = zt }) ≡ true
inside-trans-by xs ys yt zs zt false false h k = each-to xs zs (each-trans xs ys zs (each-from xs ys h) (each-from ys zs k))
inside-trans-by xs ys yt zs zt false true h k = ends-to xs zs zt (each-ends xs ys zs zt (each-from xs ys h) (ends-from ys zs zt k))
inside-trans-by xs ys yt zs zt true false h k = absurd (false≢true k)
inside-trans-by xs ys yt zs zt true true h k =
    let parts = and_parts (starts_within ys zs) (ends_within yt zt) k in
    ends-to xs zs zt (wider-ends xs ys yt zs zt (ends-from xs ys yt h) parts.0 parts.1)

pub inside-trans : (xs : List Elem) (q r : WrittenPath) → inside (plain xs) q ≡ true → inside q r ≡ true → inside (plain xs) r ≡ true
inside-trans xs q r h k = inside-trans-by xs q.elems q.tail r.elems r.tail q.star r.star h k

-- a map of the elements of both
starts-map-reverse : (f : Elem → Elem) → Keeps f → (xs ys : List Elem) → starts_within (reverse xs) (reverse ys) ≡ true → starts_within (reverse (map f xs)) (reverse (map f ys)) ≡ true
starts-map-reverse f keeps xs ys h =
    subst (λ us. starts_within us (reverse (map f ys)) ≡ true) (sym (map-reverse f xs))
    (subst (λ us. starts_within (map f (reverse xs)) us ≡ true) (sym (map-reverse f ys)) (starts-map f keeps (reverse xs) (reverse ys) h))

inside-map-by : (f : Elem → Elem) → Keeps f → (xs ys yt : List Elem) (a : Bool)
    → inside (plain xs) (record { elems = ys; star = a; tail = yt }) ≡ true
    → inside (plain (map f xs)) (record { elems = map f ys; star = a; tail = map f yt }) ≡ true
inside-map-by f keeps xs ys yt false h =
    let e = each-from xs ys h in
    each-to (map f xs) (map f ys) (record { long = length-map xs f ∙ e.long ∙ sym (length-map ys f); front = starts-map f keeps xs ys e.front })
inside-map-by f keeps xs ys yt true h =
    let e = ends-from xs ys yt h in
    ends-to (map f xs) (map f ys) (map f yt) (record {
      room = omega (arith, e.room, length-map xs f, length-map ys f, length-map yt f);
      starts = starts-map f keeps xs ys e.starts;
      ends = starts-map-reverse f keeps xs yt e.ends;
    })

pub inside-map : (f : Elem → Elem) → Keeps f → (xs : List Elem) (q : WrittenPath) → inside (plain xs) q ≡ true
    → inside (plain (map f xs)) (record { elems = map f q.elems; star = q.star; tail = map f q.tail }) ≡ true
inside-map f keeps xs q h = inside-map-by f keeps xs q.elems q.tail q.star h

-- effects, whose first is a need
pub covers-trans : (need : Need) (d e : Effect) → effect_covers d (effect_of need) ≡ true → effect_covers e d ≡ true → effect_covers e (effect_of need) ≡ true
covers-trans need d e h k =
    let first = and_parts (inside (plain need.elems) d.path) (not need.write || d.write) h in
    let second = and_parts (inside d.path e.path) (not d.write || e.write) k in
    and_from (inside (plain need.elems) e.path) (not need.write || e.write) (inside-trans need.elems d.path e.path first.0 second.0)
    (writes need.write d.write e.write first.1 second.1) where
      writes : (a b c : Bool) → (not a || b) ≡ true → (not b || c) ≡ true → (not a || c) ≡ true
      writes true true c h k = k
      writes true false c h k = absurd (false≢true h)
      writes false b c h k = refl

write-refl : (b : Bool) → (not b || b) ≡ true
write-refl true = refl
write-refl false = refl

pub covers-refl : (need : Need) → effect_covers (effect_of need) (effect_of need) ≡ true
covers-refl need =
    and_from (inside (plain need.elems) (plain need.elems)) (not need.write || need.write)
    (each-to need.elems need.elems (record { long = refl; front = starts-refl need.elems })) (write-refl need.write)

-- a need is within what the method says of it
pub settled-covers : (params : ℕ) (need : Need) → effect_covers (effect_of (settled params need)) (effect_of need) ≡ true
settled-covers params need =
    let xs = need.elems in
    let f = settled_elem params in
    and_from (inside (plain xs) (plain (map f xs))) (not need.write || need.write)
    (each-to xs (map f xs) (record { long = sym (length-map xs f); front = starts-wider f (settled-wider params) xs })) (write-refl need.write)

-- effects whose elements are mapped
abbrev pub mapped : (Elem → Elem) → Effect → Effect
mapped f e = record { write = e.write; path = record { elems = map f e.path.elems; star = e.path.star; tail = map f e.path.tail } }

pub covers-map : (f : Elem → Elem) → Keeps f → (need : Need) (d : Effect) → effect_covers d (effect_of need) ≡ true
    → effect_covers (mapped f d) (effect_of (record { write = need.write; elems = map f need.elems })) ≡ true
covers-map f keeps need d h =
    let parts = and_parts (inside (plain need.elems) d.path) (not need.write || d.write) h in
    and_from (inside (plain (map f need.elems)) (record { elems = map f d.path.elems; star = d.path.star; tail = map f d.path.tail })) (not need.write || d.write)
    (inside-map f keeps need.elems d.path parts.0) parts.1
