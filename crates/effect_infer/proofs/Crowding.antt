-- Needs that are spread out leave no room for one more: few effects that cover them cover it.
use Rattle.std.proofs.Common.{◌≡◌, ◌⊎◌, ◌<◌, ◌≤◌, suc, Bool, true, false, not, List, [], ◌∷◌, ◌++◌, length, zip, inl, inr, refl, sym, ap, ◌∙◌, subst, arith, eqb-true, eq-eqb}
use Rattle.std.specs.Prelude.{◌&&◌, ◌||◌, ◌==◌}
use Rattle.std.specs.List.{list_all, list_any}
use Rattle.std.proofs.lemmas.Bool.{false≢true, and_parts, and_from}
use Rattle.std.proofs.lemmas.Bool.Decides.{Decides-int_eq}
use Rattle.std.proofs.lemmas.List.Elements.{All-contains}
use Rattle.twe_base.proofs.Members.{IsIn, in-contains, list_all-in, or-true, true-or, not-true}
use Rattle.region_paths.specs.declared.elements.Elem.{Elem}
use Rattle.region_paths.specs.declared.elements.Elem.TheVariants.{Name, Index, Var, AnyIndex}
use Rattle.region_paths.specs.Inside.{within, starts_within, inside}
use Rattle.effect_sets.specs.Covers.{effect_covers}
use Rattle.effect_infer.specs.declared.needs.need.Need.{Need}
use Rattle.effect_infer.specs.declared.found.FoundNeed.{FoundNeed}
use Rattle.effect_infer.specs.needs.Needs.{Widens, effect_of}
use Rattle.effect_infer.specs.Kept.{method_rank, some_cover}
use Rattle.effect_infer.specs.Spread.{is_no_name, never_meet, are_different, leads_to, elems_never_meet, elems_lead, need_leads, are_spread_out}
use Rattle.effect_infer.specs.Crowded.{is_constant_need, IsCrowded, IsWitness, AreWitnesses}
use Rattle.effect_infer.proofs.needs.Within.{is_index, within-cases, within-same, within-trans}
use Rattle.effect_infer.proofs.needs.Inside.{plain, each-from, each-to, covers-refl}

-- a literal is not different from itself
self-different : (x : Elem) → are_different x x ≡ true → ⊥
self-different (Name n) h = false≢true h
self-different (Index i) h = false≢true (sym (ap not ((Decides-int_eq i i).1 refl)) ∙ h)
self-different (Var k) h = false≢true h
self-different AnyIndex h = false≢true h

-- of two different elements one is not equal to what is wide enough for both, so that this is any index
wide-elem : (a b c w : Elem) → are_different a b ≡ true → within c AnyIndex ≡ true → within a w ≡ true → within b w ≡ true → within c w ≡ true
wide-elem a b c w d k p q = elim (within-cases a w p) [
  | inr any ↦ subst (λ z. within c z ≡ true) (sym any.0) k
  | inl e ↦ elim (within-cases b w q) [
    | inr any ↦ subst (λ z. within c z ≡ true) (sym any.0) k
    | inl f ↦ absurd (self-different b (subst (λ z. are_different z b ≡ true) (e ∙ sym f) d))
  ]
]

leads-elem : (a b c w : Elem) → leads_to a b c ≡ true → within a w ≡ true → within b w ≡ true → within c w ≡ true
leads-elem a b c w h p q = elim (or-true (within c a) (within c b || (are_different a b && within c AnyIndex)) h) [
  | inl first ↦ within-trans c a w first p
  | inr rest ↦ elim (or-true (within c b) (are_different a b && within c AnyIndex) rest) [
    | inl second ↦ within-trans c b w second q
    | inr both ↦
        let parts = and_parts (are_different a b) (within c AnyIndex) both in
        wide-elem a b c w parts.0 parts.1 p q
  ]
]

leads-front : (xs ys zs ws : List Elem) → length xs ≡ length zs → length ys ≡ length zs
    → list_all (λ three. leads_to three.0.0 three.0.1 three.1) (zip (zip xs ys) zs) ≡ true
    → starts_within xs ws ≡ true → starts_within ys ws ≡ true → starts_within zs ws ≡ true
leads-front xs ys zs [] e f h p q = refl
leads-front [] ys zs (w ∷ ws) e f h p q = absurd (false≢true p)
leads-front (x ∷ xs) ys [] (w ∷ ws) e f h p q = absurd (omega (arith, e))
leads-front (x ∷ xs) [] (z ∷ zs) (w ∷ ws) e f h p q = absurd (omega (arith, f))
leads-front (x ∷ xs) (y ∷ ys) (z ∷ zs) (w ∷ ws) e f h p q =
    let here = and_parts (leads_to x y z) (list_all (λ three. leads_to three.0.0 three.0.1 three.1) (zip (zip xs ys) zs)) h in
    let first = and_parts (within x w) (starts_within xs ws) p in
    let second = and_parts (within y w) (starts_within ys ws) q in
    and_from (within z w) (starts_within zs ws) (leads-elem x y z w here.0 first.0 second.0)
    (leads-front xs ys zs ws (omega (arith, e)) (omega (arith, f)) here.1 first.1 second.1)

-- an index of any kind is no name
index-no_name : (x : Elem) → is_index x ≡ true → is_no_name x ≡ true
index-no_name (Name n) h = h
index-no_name (Index i) h = refl
index-no_name (Var k) h = refl
index-no_name AnyIndex h = refl

any-no_name : (x : Elem) → x ≡ AnyIndex → is_no_name x ≡ true
any-no_name x e = ap is_no_name e

-- two that never meet are not within the same
never-elem : (x y w : Elem) → never_meet x y ≡ true → within x w ≡ true → within y w ≡ true → ⊥
never-elem x y w h p q =
    let parts = and_parts (not (is_no_name x && is_no_name y)) (not (within x y)) h in
    let not_both : is_no_name x ≡ true → is_no_name y ≡ true → ⊥ = λ i j. false≢true (sym (not-true (is_no_name x && is_no_name y) parts.0) ∙ and_from (is_no_name x) (is_no_name y) i j) in
    elim (within-cases x w p) [
      | inl e ↦ elim (within-cases y w q) [
        | inl f ↦ false≢true (sym (not-true (within x y) parts.1) ∙ within-same x y (e ∙ sym f))
        | inr any ↦ not_both (any-no_name x (e ∙ any.0)) (index-no_name y any.1)
      ]
      | inr any ↦ elim (within-cases y w q) [
        | inl f ↦ not_both (index-no_name x any.1) (any-no_name y (f ∙ any.0))
        | inr other ↦ not_both (index-no_name x any.1) (index-no_name y other.1)
      ]
    ]

never-front : (xs ys ws : List Elem) → list_any (λ pair. never_meet pair.0 pair.1) (zip xs ys) ≡ true → length xs ≡ length ws
    → starts_within xs ws ≡ true → starts_within ys ws ≡ true → ⊥
never-front [] ys ws h e p q = false≢true h
never-front (x ∷ xs) [] ws h e p q = false≢true h
never-front (x ∷ xs) (y ∷ ys) [] h e p q = absurd (omega (arith, e))
never-front (x ∷ xs) (y ∷ ys) (w ∷ ws) h e p q =
    let first = and_parts (within x w) (starts_within xs ws) p in
    let second = and_parts (within y w) (starts_within ys ws) q in
    elim (or-true (never_meet x y) (list_any (λ pair. never_meet pair.0 pair.1) (zip xs ys)) h) [
      | inl here ↦ never-elem x y w here first.0 second.0
      | inr later ↦ never-front xs ys ws later (omega (arith, e)) first.1 second.1
    ]

write-leads : (a b c w : Bool) → (not c || (a || b)) ≡ true → (not a || w) ≡ true → (not b || w) ≡ true → (not c || w) ≡ true
write-leads a b false w h p q = refl
write-leads true b true w h p q = p
write-leads false true true w h p q = q
write-leads false false true w h p q = absurd (false≢true h)

pub leads-need : (a b c wide : Need) → need_leads a b c ≡ true → Widens wide a → Widens wide b → Widens wide c
leads-need a b c wide h p q =
    let first = and_parts (inside (plain a.elems) (plain wide.elems)) (not a.write || wide.write) p in
    let second = and_parts (inside (plain b.elems) (plain wide.elems)) (not b.write || wide.write) q in
    let one = each-from a.elems wide.elems first.0 in
    let two = each-from b.elems wide.elems second.0 in
    elim (or-true (elems_never_meet a.elems b.elems) (elems_lead a.elems b.elems c.elems && (not c.write || (a.write || b.write))) h) [
      | inl never ↦ absurd (elim (or-true (not (length a.elems == length b.elems)) (list_any (λ pair. never_meet pair.0 pair.1) (zip a.elems b.elems)) never) [
        | inl differ ↦ false≢true (sym (not-true (length a.elems == length b.elems) differ) ∙ eq-eqb _ _ (one.long ∙ sym two.long))
        | inr apart ↦ never-front a.elems b.elems wide.elems apart one.long one.front two.front
      ])
      | inr leads ↦
          let parts = and_parts (elems_lead a.elems b.elems c.elems) (not c.write || (a.write || b.write)) leads in
          let left = and_parts (length a.elems == length c.elems) ((length b.elems == length c.elems) && list_all (λ three. leads_to three.0.0 three.0.1 three.1) (zip (zip a.elems b.elems) c.elems)) parts.0 in
          let right = and_parts (length b.elems == length c.elems) (list_all (λ three. leads_to three.0.0 three.0.1 three.1) (zip (zip a.elems b.elems) c.elems)) left.1 in
          let same = eqb-true (length a.elems) (length c.elems) left.0 in
          let front = leads-front a.elems b.elems c.elems wide.elems same (eqb-true (length b.elems) (length c.elems) right.0) right.1 one.front two.front in
          and_from (inside (plain c.elems) (plain wide.elems)) (not c.write || wide.write)
          (each-to c.elems wide.elems (record { long = sym same ∙ one.long; front = front }))
          (write-leads a.write b.write c.write wide.write parts.1 first.1 second.1)
    ]

-- one of them covers it, or one of the others
here_or_there : (l : Need) (cover : List Need) (b : Need) → some_cover (l ∷ cover) b ≡ true → Widens l b ⊎ (some_cover cover b ≡ true)
here_or_there l cover b h = or-true (effect_covers (effect_of l) (effect_of b)) (some_cover cover b) h

by_here : (l : Need) (cover : List Need) (b : Need) → Widens l b → some_cover (l ∷ cover) b ≡ true
by_here l cover b h = true-or (effect_covers (effect_of l) (effect_of b)) (some_cover cover b) (inl h)

by_there : (l : Need) (cover : List Need) (b : Need) → some_cover cover b ≡ true → some_cover (l ∷ cover) b ≡ true
by_there l cover b h = true-or (effect_covers (effect_of l) (effect_of b)) (some_cover cover b) (inr h)

-- a cover without one of its needs
pub splits-at : (cover : List Need) (a : Need) → some_cover cover a ≡ true
    → (front : List Need) × (l : Need) × (back : List Need) × (cover ≡ front ++ l ∷ back) × Widens l a
splits-at [] a h = absurd (false≢true h)
splits-at (l ∷ cover) a h = elim (here_or_there l cover a h) [
  | inl here ↦ ([], l, cover, refl, here)
  | inr later ↦
      let s = splits-at cover a later in
      (l ∷ s.0, s.1, s.2, ap (λ (xs : List Need). l ∷ xs) s.3, s.4)
]

pub splits-in : (xs : List Need) (x : Need) → IsIn x xs → (front : List Need) × (back : List Need) × (xs ≡ front ++ x ∷ back)
splits-in [] x h = absurd h
splits-in (y ∷ ys) x (inl e) = ([], ys, ap (λ (z : Need). z ∷ ys) (sym e))
splits-in (y ∷ ys) x (inr later) =
    let s = splits-in ys x later in
    (y ∷ s.0, s.1, ap (λ (zs : List Need). y ∷ zs) s.2)

pub left-out : (front : List Need) (l : Need) (back : List Need) (b : Need) → some_cover (front ++ l ∷ back) b ≡ true
    → Widens l b ⊎ (some_cover (front ++ back) b ≡ true)
left-out [] l back b h = here_or_there l back b h
left-out (x ∷ front) l back b h = elim (here_or_there x (front ++ l ∷ back) b h) [
  | inl here ↦ inr (by_here x (front ++ back) b here)
  | inr later ↦ elim (left-out front l back b later) [ inl now ↦ inl now | inr rest ↦ inr (by_there x (front ++ back) b rest) ]
]

pub put-back : (front : List Need) (l : Need) (back : List Need) (b : Need) → some_cover (front ++ back) b ≡ true → some_cover (front ++ l ∷ back) b ≡ true
put-back [] l back b h = by_there l back b h
put-back (x ∷ front) l back b h = elim (here_or_there x (front ++ back) b h) [
  | inl here ↦ by_here x (front ++ l ∷ back) b here
  | inr later ↦ by_there x (front ++ l ∷ back) b (put-back front l back b later)
]

covers-there : (front : List Need) (l : Need) (back : List Need) (b : Need) → Widens l b → some_cover (front ++ l ∷ back) b ≡ true
covers-there [] l back b h = by_here l back b h
covers-there (x ∷ front) l back b h = by_there x (front ++ l ∷ back) b (covers-there front l back b h)

pub length-without : (front : List Need) (l : Need) (back : List Need) → length (front ++ l ∷ back) ≡ suc (length (front ++ back))
length-without [] l back = refl
length-without (x ∷ front) l back = ap suc (length-without front l back)

-- the first holds of one, or the second of all
one-or-all : {X : Type 0} (P Q : X → Type 0) (xs : List X) → ((x : X) → IsIn x xs → P x ⊎ Q x)
    → ((x : X) × IsIn x xs × P x) ⊎ ((x : X) → IsIn x xs → Q x)
one-or-all P Q [] each = inr (λ x h. absurd h)
one-or-all P Q (y ∷ ys) each = elim (each y (inl refl)) [
  | inl p ↦ inl (y, inl refl, p)
  | inr q ↦ elim (one-or-all P Q ys (λ x h. each x (inr h))) [
    | inl found ↦ inl (found.0, inr found.1, found.2)
    | inr all ↦ inr (λ x h. elim h [ inl e ↦ subst Q (sym e) q | inr later ↦ all x later ])
  ]
]

-- fewer effects than needs: one of them covers two, and so the one need more
pub covers-more : (needs : List Need) (n : Need) (cover : List Need) → are_spread_out needs n ≡ true
    → ((w : Need) → IsIn w needs → some_cover cover w ≡ true) → length cover < length needs → some_cover cover n ≡ true
covers-more [] n cover h each short = absurd (omega (arith, short))
covers-more (a ∷ others) n cover h each short =
    let parts = and_parts (list_all (λ b. need_leads a b n) others) (are_spread_out others n) h in
    let s = splits-at cover a (each a (inl refl)) in
    let step : ((b : Need) × IsIn b others × Widens s.1 b) ⊎ ((b : Need) → IsIn b others → some_cover (s.0 ++ s.2) b ≡ true) =
    one-or-all (λ b. Widens s.1 b) (λ b. some_cover (s.0 ++ s.2) b ≡ true) others
    (λ b there. left-out s.0 s.1 s.2 b (subst (λ xs. some_cover xs b ≡ true) s.3 (each b (inr there)))) in
    subst (λ xs. some_cover xs n ≡ true) (sym s.3) (elim step [
      | inl two ↦ covers-there s.0 s.1 s.2 n (leads-need a two.0 n s.1 (list_all-in (λ b. need_leads a b n) others parts.0 two.0 two.1) s.4 two.2)
      | inr rest ↦
          let long = length-without s.0 s.1 s.2 in
          let same : length cover ≡ length (s.0 ++ s.1 ∷ s.2) = ap (λ (xs : List Need). length xs) s.3 in
          put-back s.0 s.1 s.2 n (covers-more others n (s.0 ++ s.2) parts.1 rest (omega (arith, short, long, same)))
    ])

pub crowded-by : (all : List FoundNeed) (found : FoundNeed) (needs : List Need) → is_constant_need found.need ≡ true
    → AreWitnesses all found.method (method_rank found.need) needs → 9 ≤ length needs → are_spread_out needs found.need ≡ true → IsCrowded all found
crowded-by all found needs fixed witnesses enough spread = (
  found.need,
  fixed,
  covers-refl found.need,
  λ cover few covers. covers-more needs found.need cover spread
      (λ w there. let is = All-contains (IsWitness all found.method (method_rank found.need)) needs w witnesses (in-contains needs w there) in covers (record { method = found.method; need = w }) is.0 refl is.1 is.2)
      (omega (arith, few, enough)),
)
