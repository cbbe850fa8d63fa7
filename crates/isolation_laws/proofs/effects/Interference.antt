-- Interference of effects is mutual. An effect that interferes with another interferes with each effect that this other
-- one lies within.
use Rattle.std.proofs.Common.{◌≡◌, Bool, true, false, ◌||◌, List, Any, refl}
use Rattle.std.specs.Prelude.{Contains}
use Rattle.effect_sets.specs.declared.effects.Effect.{Effect}
use Rattle.effect_sets.specs.Covers.{EffectWithin}
use Rattle.effect_sets.specs.Interference.{Interferes, SomeInterfere}
use Rattle.effect_check.proofs.Members.{IsIn, contains-in, in-contains}

-- a member of a list with a property
pub any-in : {X : Type 0} (P : X → Type 0) (xs : List X) → Any P xs → (x : X) × IsIn x xs × P x
any-in P xs found = (found.1, contains-in xs found.1 (found.0, found.2, found.3), found.4)

pub in-any : {X : Type 0} (P : X → Type 0) (xs : List X) (x : X) → IsIn x xs → P x → Any P xs
in-any P xs x here holds = let c = in-contains xs x here in (c.0, x, c.1, c.2, holds)

writes_back : (a b : Bool) → (a || b) ≡ true → (b || a) ≡ true
writes_back true true h = refl
writes_back true false h = refl
writes_back false true h = refl
writes_back false false h = h

writes_more : (a b d : Bool) → (b ≡ true → d ≡ true) → (a || b) ≡ true → (a || d) ≡ true
writes_more true b d more h = refl
writes_more false b d more h = more h

pub mutual_interference : (a b : Effect) → Interferes a b → Interferes b a
mutual_interference a b i = (writes_back a.write b.write i.0, (i.1.0, i.1.2, i.1.1))

pub interferes_more : (a b d : Effect) → Interferes a b → EffectWithin d b → Interferes a d
interferes_more a b d i within = (writes_more a.write b.write d.write within.0 i.0, (i.1.0, i.1.1, within.1 i.1.0 i.1.2))

pub interferes_both : (a b c d : Effect) → Interferes a b → EffectWithin c a → EffectWithin d b → Interferes c d
interferes_both a b c d i first second =
    mutual_interference d c (interferes_more d a c (mutual_interference a d (interferes_more a b d i second)) first)

-- a member of one list and a member of the other interfere
abbrev pub Meet : List Effect → List Effect → Type 0
Meet xs ys = (a : Effect) × IsIn a xs × (b : Effect) × IsIn b ys × Interferes a b

pub some-meet : (xs ys : List Effect) → SomeInterfere xs ys → Meet xs ys
some-meet xs ys some =
    let first = any-in (λ (a : Effect). Any (λ b. Interferes a b) ys) xs some in
    let second = any-in (λ (b : Effect). Interferes first.0 b) ys first.2 in
    (first.0, first.1, second.0, second.1, second.2)

pub meet-some : (xs ys : List Effect) → Meet xs ys → SomeInterfere xs ys
meet-some xs ys m =
    in-any (λ (a : Effect). Any (λ b. Interferes a b) ys) xs m.0 m.1 (in-any (λ (b : Effect). Interferes m.0 b) ys m.2 m.3 m.4)

pub some-mutual : (xs ys : List Effect) → SomeInterfere xs ys → SomeInterfere ys xs
some-mutual xs ys some =
    let m = some-meet xs ys some in
    meet-some ys xs (m.2, m.3, m.0, m.1, mutual_interference m.0 m.2 m.4)

-- each effect of the first list lies within one of the second
abbrev pub AllWithin : List Effect → List Effect → Type 0
AllWithin es ds = (e : Effect) → Contains es e → Any (λ d. EffectWithin d e) ds

pub some-more : (xs es ds : List Effect) → AllWithin es ds → SomeInterfere xs es → SomeInterfere xs ds
some-more xs es ds within some =
    let m = some-meet xs es some in
    let outer = any-in (λ (d : Effect). EffectWithin d m.2) ds (within m.2 (in-contains es m.2 m.3)) in
    meet-some xs ds (m.0, m.1, outer.0, outer.1, interferes_more m.0 m.2 outer.0 m.4 outer.2)

effect_within_more : (a b c : Effect) → EffectWithin b a → EffectWithin c b → EffectWithin c a
effect_within_more a b c first second = (λ w. second.0 (first.0 w), λ path there. second.1 path (first.1 path there))

pub within_itself : (es : List Effect) → AllWithin es es
within_itself es e here = in-any (λ (d : Effect). EffectWithin d e) es e (contains-in es e here) (λ w. w, λ c there. there)

pub within_more : (es ds cs : List Effect) → AllWithin es ds → AllWithin ds cs → AllWithin es cs
within_more es ds cs first second e here =
    let inner = any-in (λ (d : Effect). EffectWithin d e) ds (first e here) in
    let outer = any-in (λ (c : Effect). EffectWithin c inner.0) cs (second inner.0 (in-contains ds inner.0 inner.1)) in
    in-any (λ (c : Effect). EffectWithin c e) cs outer.0 outer.1 (effect_within_more e inner.0 outer.0 inner.2 outer.2)
