-- Effects whose paths are apart do not interfere, whether they are filled or not: a path with a variable stands for nothing.
use Rattle.std.proofs.Common.{◌≡◌, ℕ, suc, ◌+◌, ◌-◌, Bool, true, false, ◌&&◌, not, List, [], ◌∷◌, length, map, take, drop, IsTrue, pos, refl, sym, ap, subst}
use Rattle.std.specs.Prelude.{nat_le}
use Rattle.region_paths.specs.declared.elements.Elem.{Elem}
use Rattle.region_paths.specs.declared.elements.Elem.TheVariants.{Name, Index, Var, AnyIndex}
use Rattle.region_paths.specs.Written.{WrittenPath}
use Rattle.region_paths.specs.Concrete.{ConcreteElem, ConcretePath, InSet, both_ends_stand, each_stands, elem_stands}
use Rattle.region_paths.specs.Filled.{Valuation, elem_under, under}
use Rattle.region_paths.specs.Apart.{apart}
use Rattle.region_paths.proofs.Soundness.{apart-apart}
use Rattle.effect_sets.specs.declared.effects.Effect.{Effect}
use Rattle.effect_sets.specs.Interference.{Interferes, one_writes, statically_interferes}

both : (a b : Bool) → IsTrue (a && b) → IsTrue a × IsTrue b
both true true h = (refl, refl)
both true false h = (refl, h)
both false b h = absurd (let no = h in cc)

join : (a b : Bool) → IsTrue a → IsTrue b → IsTrue (a && b)
join true b h k = k
join false b h k = absurd (let no = h in cc)

elem_under_stands : (v : Valuation) (e : Elem) (c : ConcreteElem) → IsTrue (elem_stands e c) → IsTrue (elem_stands (elem_under v e) c)
elem_under_stands v (Name n) c h = h
elem_under_stands v (Index i) c h = h
elem_under_stands v (Var k) c h = absurd (let no = h in cc)
elem_under_stands v AnyIndex c h = h

each_under_stands : (v : Valuation) (es : List Elem) (cs : ConcretePath) → IsTrue (each_stands es cs) → IsTrue (each_stands (map (elem_under v) es) cs)
each_under_stands v [] cs h = h
each_under_stands v (e ∷ es) [] h = h
each_under_stands v (e ∷ es) (c ∷ cs) h =
    let parts = both (elem_stands e c) (each_stands es cs) h in
    join (elem_stands (elem_under v e) c) (each_stands (map (elem_under v) es) cs) (elem_under_stands v e c parts.0) (each_under_stands v es cs parts.1)

same_length : (v : Valuation) (es : List Elem) → length (map (elem_under v) es) ≡ length es
same_length v [] = refl
same_length v (e ∷ es) = ap suc (same_length v es)

ends_under_stand : (v : Valuation) (es fs : List Elem) (c : ConcretePath) → IsTrue (both_ends_stand es fs c) → IsTrue (both_ends_stand (map (elem_under v) es) (map (elem_under v) fs) c)
ends_under_stand v es fs c h =
    let outer = both (nat_le (length es + length fs) (length c)) (each_stands es (take (length es) c) && each_stands fs (drop (length c - length fs) c)) h in
    let inner = both (each_stands es (take (length es) c)) (each_stands fs (drop (length c - length fs) c)) outer.1 in
    let first = each_under_stands v es (take (length es) c) inner.0 in
    let last = each_under_stands v fs (drop (length c - length fs) c) inner.1 in
    let es' = map (elem_under v) es in
    let fs' = map (elem_under v) fs in
    let e_len = sym (same_length v es) in
    let f_len = sym (same_length v fs) in
    join (nat_le (length es' + length fs') (length c)) (each_stands es' (take (length es') c) && each_stands fs' (drop (length c - length fs') c))
    (subst (λ (n : ℕ). IsTrue (nat_le (n + length fs') (length c))) e_len (subst (λ (n : ℕ). IsTrue (nat_le (length es + n) (length c))) f_len outer.0))
    (join (each_stands es' (take (length es') c)) (each_stands fs' (drop (length c - length fs') c))
    (subst (λ (n : ℕ). IsTrue (each_stands es' (take n c))) e_len first)
    (subst (λ (n : ℕ). IsTrue (each_stands fs' (drop (length c - n) c))) f_len last))

in_set_cases : (v : Valuation) (star : Bool) (es fs : List Elem) (c : ConcretePath) → InSet (record { elems = es; star = star; tail = fs }) c
    → InSet (record { elems = map (elem_under v) es; star = star; tail = map (elem_under v) fs }) c
in_set_cases v true es fs c h = ends_under_stand v es fs c h
in_set_cases v false es fs c h = each_under_stands v es c h

-- what a path stands for, it stands for under each valuation
pub in_set_under : (v : Valuation) (p : WrittenPath) (c : ConcretePath) → InSet p c → InSet (under v p) c
in_set_under v p c h = in_set_cases v p.star p.elems p.tail c h

-- a valuation
zeros : Valuation
zeros k = pos 0

apart_do_not_meet : (d e : Effect) (writes are_apart : Bool) → one_writes d e ≡ writes → apart d.path e.path ≡ are_apart → (writes && not are_apart) ≡ false → ¬ Interferes d e
apart_do_not_meet d e false a w is h meets = let no = meets.0 in absurd (cc)
apart_do_not_meet d e true false w is h meets = absurd (let no = h in cc)
apart_do_not_meet d e true true w is h meets =
    let c = meets.1.0 in
    apart-apart d.path e.path is zeros c (in_set_under zeros d.path c meets.1.1) (in_set_under zeros e.path c meets.1.2)

pub apart_effects : (d e : Effect) → statically_interferes d e ≡ false → ¬ Interferes d e
apart_effects d e h = apart_do_not_meet d e (one_writes d e) (apart d.path e.path) refl refl h
