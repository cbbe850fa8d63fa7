-- An effect covers itself, and what covers an effect covers all that it covers.
use Rattle.std.proofs.Common.{◌≡◌, Bool, true, false, not, List, reverse, refl}
use Rattle.std.specs.Prelude.{◌||◌}
use Rattle.std.proofs.lemmas.Bool.{false≢true, and_parts, and_from}
use Rattle.region_paths.specs.declared.elements.Elem.{Elem}
use Rattle.region_paths.specs.Written.{WrittenPath}
use Rattle.region_paths.specs.Inside.{starts_within, ends_within, inside}
use Rattle.effect_sets.specs.declared.effects.Effect.{Effect}
use Rattle.effect_sets.specs.Covers.{effect_covers}
use Rattle.effect_infer.proofs.needs.Within.{starts-refl, starts-trans}
use Rattle.effect_infer.proofs.needs.Inside.{each-to, inside-trans}

same-path : (xs xt : List Elem) (a : Bool) → inside (record { elems = xs; star = a; tail = xt }) (record { elems = xs; star = a; tail = xt }) ≡ true
same-path xs xt false = each-to xs xs (record { long = refl; front = starts-refl xs })
same-path xs xt true = and_from (starts_within xs xs) (ends_within xt xt) (starts-refl xs) (starts-refl (reverse xt))

star-trans : (xs xt ys yt zs zt : List Elem) (b c : Bool)
    → inside (record { elems = xs; star = true; tail = xt }) (record { elems = ys; star = b; tail = yt }) ≡ true
    → inside (record { elems = ys; star = b; tail = yt }) (record { elems = zs; star = c; tail = zt }) ≡ true
    → inside (record { elems = xs; star = true; tail = xt }) (record { elems = zs; star = c; tail = zt }) ≡ true
star-trans xs xt ys yt zs zt false c h k = absurd (false≢true h)
star-trans xs xt ys yt zs zt true false h k = absurd (false≢true k)
star-trans xs xt ys yt zs zt true true h k =
    let one = and_parts (starts_within xs ys) (ends_within xt yt) h in
    let two = and_parts (starts_within ys zs) (ends_within yt zt) k in
    and_from (starts_within xs zs) (ends_within xt zt) (starts-trans xs ys zs one.0 two.0)
    (starts-trans (reverse xt) (reverse yt) (reverse zt) one.1 two.1)

path-trans : (xs xt : List Elem) (a : Bool) (q r : WrittenPath) → inside (record { elems = xs; star = a; tail = xt }) q ≡ true → inside q r ≡ true
    → inside (record { elems = xs; star = a; tail = xt }) r ≡ true
path-trans xs xt false q r h k = inside-trans xs q r h k
path-trans xs xt true q r h k = star-trans xs xt q.elems q.tail r.elems r.tail q.star r.star h k

write-same : (b : Bool) → (not b || b) ≡ true
write-same true = refl
write-same false = refl

write-trans : (a b c : Bool) → (not a || b) ≡ true → (not b || c) ≡ true → (not a || c) ≡ true
write-trans true true c h k = k
write-trans true false c h k = absurd (false≢true h)
write-trans false b c h k = refl

pub cover-refl : (e : Effect) → effect_covers e e ≡ true
cover-refl e = and_from (inside e.path e.path) (not e.write || e.write) (same-path e.path.elems e.path.tail e.path.star) (write-same e.write)

pub cover-trans : (d e f : Effect) → effect_covers d e ≡ true → effect_covers e f ≡ true → effect_covers d f ≡ true
cover-trans d e f h k =
    let wide = and_parts (inside e.path d.path) (not e.write || d.write) h in
    let narrow = and_parts (inside f.path e.path) (not f.write || e.write) k in
    and_from (inside f.path d.path) (not f.write || d.write)
    (path-trans f.path.elems f.path.tail f.path.star e.path d.path narrow.0 wide.0)
    (write-trans f.write e.write d.write narrow.1 wide.1)
