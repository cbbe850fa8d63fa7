-- Effects that pass the test are equal, and equal ones pass it.
use Rattle.std.proofs.Common.{◌≡◌, Bool, true, false, ◌&&◌, List, [], ◌∷◌, refl, sym, ap, ◌∙◌}
use Rattle.std.proofs.lemmas.Bool.{and_from, and_parts, false≢true}
use Rattle.twe_base.proofs.Members.{not-true}
use Rattle.region_paths.specs.declared.elements.Elem.{Elem}
use Rattle.region_paths.specs.Written.{WrittenPath}
use Rattle.effect_sets.specs.declared.effects.Effect.{Effect}
use Rattle.summary_comparing.specs.inner.Standing.{same_elem, same_truth}
use Rattle.summary_comparing.proofs.Elements.{same-elem-eq, same-elem-refl}
use Rattle.summary_comparing.specs.inner.SameEffects.{same_effect, same_elems, same_path}

truth-refl : (a : Bool) → same_truth a a ≡ true
truth-refl true = refl
truth-refl false = refl

truth-eq : (a b : Bool) → same_truth a b ≡ true → a ≡ b
truth-eq true b h = sym h
truth-eq false b h = sym (not-true b h)

elems-refl : (xs : List Elem) → same_elems xs xs ≡ true
elems-refl [] = refl
elems-refl (x ∷ xs) = and_from (same_elem x x) (same_elems xs xs) (same-elem-refl x) (elems-refl xs)

pub elems-eq : (xs ys : List Elem) → same_elems xs ys ≡ true → xs ≡ ys
elems-eq [] [] h = refl
elems-eq [] (y ∷ ys) h = absurd (false≢true h)
elems-eq (x ∷ xs) [] h = absurd (false≢true h)
elems-eq (x ∷ xs) (y ∷ ys) h =
    let parts = and_parts (same_elem x y) (same_elems xs ys) h in
    ap (λ (z : Elem). z ∷ xs) (same-elem-eq x y parts.0) ∙ ap (λ (zs : List Elem). y ∷ zs) (elems-eq xs ys parts.1)

path-refl : (p : WrittenPath) → same_path p p ≡ true
path-refl p =
    and_from (same_elems p.elems p.elems) (same_truth p.star p.star && same_elems p.tail p.tail) (elems-refl p.elems)
    (and_from (same_truth p.star p.star) (same_elems p.tail p.tail) (truth-refl p.star) (elems-refl p.tail))

path-eq : (p q : WrittenPath) → same_path p q ≡ true → p ≡ q
path-eq p q h =
    let front = and_parts (same_elems p.elems q.elems) (same_truth p.star q.star && same_elems p.tail q.tail) h in
    let back = and_parts (same_truth p.star q.star) (same_elems p.tail q.tail) front.1 in
    ap (λ (es : List Elem). let r : WrittenPath = record { elems = es; star = p.star; tail = p.tail } in r) (elems-eq p.elems q.elems front.0)
    ∙ (ap (λ (b : Bool). let r : WrittenPath = record { elems = q.elems; star = b; tail = p.tail } in r) (truth-eq p.star q.star back.0)
    ∙ ap (λ (es : List Elem). let r : WrittenPath = record { elems = q.elems; star = q.star; tail = es } in r)
    (elems-eq p.tail q.tail back.1))

pub effect-refl : (e : Effect) → same_effect e e ≡ true
effect-refl e = and_from (same_truth e.write e.write) (same_path e.path e.path) (truth-refl e.write) (path-refl e.path)

pub effect-eq : (d e : Effect) → same_effect d e ≡ true → d ≡ e
effect-eq d e h =
    let parts = and_parts (same_truth d.write e.write) (same_path d.path e.path) h in
    ap (λ (b : Bool). let f : Effect = record { write = b; path = d.path } in f) (truth-eq d.write e.write parts.0)
    ∙ ap (λ (q : WrittenPath). let f : Effect = record { write = e.write; path = q } in f) (path-eq d.path e.path parts.1)
