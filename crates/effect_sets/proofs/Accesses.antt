-- Cover and interference of effects, by the accesses that they cover.
use Rattle.std.proofs.Common.{◌≡◌, ◌↔◌, Bool, true, false, IsTrue, not, ◌&&◌, ◌||◌, List, All, Any, refl, sym, ap, subst}
use Rattle.std.proofs.lemmas.Bool.{false≢true, and_parts}
use Rattle.region_paths.specs.Apart.{apart}
use Rattle.region_paths.specs.Inside.{inside}
use Rattle.region_paths.specs.Concrete.{ConcretePath, InSet}
use Rattle.region_paths.specs.Filled.{Valuation, filled}
use Rattle.region_paths.proofs.Outside.{filled-inhabited}
use Rattle.region_paths.proofs.Soundness.{inside-within, apart-apart}
use Rattle.effect_sets.specs.declared.effects.Effect.{Effect}
use Rattle.effect_sets.specs.Access.{PathAccess, AccessInterferes, AccessInterferesWithSome, Conflict, CoversAccess, SomeCoversAccess}
use Rattle.effect_sets.specs.Covers.{EffectWithin, effect_covers}
use Rattle.effect_sets.specs.Filled.{effect_under}
use Rattle.effect_sets.specs.Interference.{Interferes, SomeInterfere, one_writes, statically_interferes}
use Rattle.effect_sets.proofs.Sets.{writes_too}

pub within-covers : (d e : Effect) → EffectWithin d e → (a : PathAccess) → CoversAccess e a → CoversAccess d a
within-covers d e within a covered = (λ w. within.0 (covered.0 w), within.1 a.path covered.1)

-- the access that does all that an effect may at one path
abbrev fullest : Effect → ConcretePath → PathAccess
fullest e c = record { write = e.write; path = c }

fullest-covered : (e : Effect) (c : ConcretePath) → InSet e.path c → CoversAccess e (fullest e c)
fullest-covered e c there = (λ w. w, there)

pub covers-within : (d e : Effect) → IsTrue (filled e.path) → ((a : PathAccess) → CoversAccess e a → CoversAccess d a) → EffectWithin d e
covers-within d e plain all =
    let some = filled-inhabited e.path plain in (
      (all (fullest e some.0) (fullest-covered e some.0 some.1)).0,
      λ c there. (all (fullest e c) (fullest-covered e c there)).1,
    )

pub lists-cover : (ds es : List Effect) → All (λ e. Any (λ d. EffectWithin d e) ds) es → (a : PathAccess) → SomeCoversAccess es a → SomeCoversAccess ds a
lists-cover ds es all a covered =
    let Within : Effect → Type 0 = λ e. Any (λ d. EffectWithin d e) ds in
    let found : Within covered.1 = subst Within covered.3 (all covered.0 covered.1 covered.2) in
    (found.0, found.1, found.2, found.3, within-covers found.1 covered.1 found.4 a covered.4)

-- of two pairs of tests that imply each other's, one of the first holds only where one of the second does
or_more : (a b c d : Bool) → (a ≡ true → c ≡ true) → (b ≡ true → d ≡ true) → (a || b) ≡ true → (c || d) ≡ true
or_more true b c d h k s = ap (λ x. x || d) (h refl)
or_more false b true d h k s = refl
or_more false b false d h k s = k s

pub access-conflicts : (a : PathAccess) (e : Effect) → AccessInterferes a e ↔ ((b : PathAccess) × CoversAccess e b × Conflict a b)
access-conflicts a e = (
  λ i. (fullest e a.path, fullest-covered e a.path i.1, (i.0, refl)),
  λ m. (or_more a.write (m.0).write a.write e.write (λ w. w) m.1.0 m.2.0, subst (InSet e.path) (sym m.2.1) m.1.1),
)

pub effects-conflict : (d e : Effect) → Interferes d e ↔ ((a : PathAccess) × (b : PathAccess) × CoversAccess d a × CoversAccess e b × Conflict a b)
effects-conflict d e = (
  λ i. (
    fullest d i.1.0,
    fullest e i.1.0,
    fullest-covered d i.1.0 i.1.1,
    fullest-covered e i.1.0 i.1.2,
    (i.0, refl),
  ),
  λ m. (
    or_more (m.0).write (m.1).write d.write e.write m.2.0 m.3.0 m.4.0,
    ((m.0).path, m.2.1, subst (InSet e.path) (sym m.4.1) m.3.1),
  ),
)

pub covered-apart : (d e : Effect) → (Interferes d e → ⊥) → (a b : PathAccess) → CoversAccess d a → CoversAccess e b → Conflict a b → ⊥
covered-apart d e never a b first second conflict = never ((effects-conflict d e).1 (a, b, first, second, conflict))

pub covered-alone : (d e : Effect) → (Interferes d e → ⊥) → (a : PathAccess) → CoversAccess d a → AccessInterferes a e → ⊥
covered-alone d e never a covered i =
    let met = (access-conflicts a e).0 i in
    covered-apart d e never a met.0 covered met.1 met.2

pub lists-alone : (ds es : List Effect) → (SomeInterfere ds es → ⊥) → (a : PathAccess) → SomeCoversAccess ds a → AccessInterferesWithSome a es → ⊥
lists-alone ds es never a f g =
    covered-alone f.1 g.1 (λ i. never (f.0, f.1, f.2, f.3, (g.0, g.1, g.2, g.3, i))) a f.4 g.4

pub lists-apart : (ds es : List Effect) → (SomeInterfere ds es → ⊥) → (a b : PathAccess) → SomeCoversAccess ds a → SomeCoversAccess es b → Conflict a b → ⊥
lists-apart ds es never a b f g =
    covered-apart f.1 g.1 (λ i. never (f.0, f.1, f.2, f.3, (g.0, g.1, g.2, g.3, i))) a b f.4 g.4

pub covers-under : (d e : Effect) → IsTrue (effect_covers d e) → (v : Valuation) → EffectWithin (effect_under v d) (effect_under v e)
covers-under d e h v =
    let parts = and_parts (inside e.path d.path) _ h in
    (writes_too e.write d.write parts.1, inside-within e.path d.path parts.0 v)

-- where one writes, and the test does not say so, the paths are apart
apart_where : (writes lies : Bool) → ((writes && not lies) ≡ true → ⊥) → writes ≡ true → lies ≡ true
apart_where true true never w = refl
apart_where true false never w = absurd (never refl)
apart_where false lies never w = absurd (false≢true w)

pub apart-under : (d e : Effect) → (IsTrue (statically_interferes d e) → ⊥) → (v : Valuation) → Interferes (effect_under v d) (effect_under v e) → ⊥
apart-under d e never v i =
    apart-apart d.path e.path (apart_where (one_writes d e) (apart d.path e.path) never i.0) v i.1.0 i.1.1 i.1.2
