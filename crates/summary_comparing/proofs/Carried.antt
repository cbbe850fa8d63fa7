-- What a need of a called method stands for is what the need stands for that the caller has because of it.
use Rattle.std.proofs.Common.{◌≡◌, ◌<◌, ℕ, Bool, true, false, ◌&&◌, List, [], ◌∷◌, map, length, Option, Some, if◌then◌else◌, inl, inr, refl, sym, ap, ◌∙◌, subst}
use Rattle.std.specs.Prelude.{nat_lt}
use Rattle.std.proofs.lemmas.Bool.{and_from, and_parts, false≢true, ltb-true}
use Rattle.twe_base.proofs.Members.{IsIn}
use Rattle.region_paths.specs.declared.elements.Elem.{Elem}
use Rattle.region_paths.specs.declared.elements.Elem.TheVariants.{Name, Index, Var, AnyIndex}
use Rattle.region_paths.specs.Filled.{fill_elem}
use Rattle.effect_infer.specs.declared.needs.need.Need.{Need}
use Rattle.effect_infer.specs.needs.Needs.{filled_need, settled, settled_elem}
use Rattle.summary_comparing.specs.inner.Standing.{callee_values, is_match, is_value, own_values, same_truth, stand_for, value_of}
use Rattle.summary_comparing.proofs.Elements.{callee-at, kept-is, own-at, same-elem-eq, same-elem-refl, value-settled}

-- each element is one that a method says which has so many parameters
abbrev pub AreSaid : ℕ → List Elem → Type 0
AreSaid n [] = Unit {0}
AreSaid n (e ∷ es) = (settled_elem n e ≡ e) × AreSaid n es

var-twice : (n k : ℕ) (b : Bool) → nat_lt k n ≡ b → settled_elem n (if b then Var k else AnyIndex) ≡ (if b then Var k else AnyIndex)
var-twice n k true is = ap (λ (b : Bool). if b then Var k else AnyIndex) is
var-twice n k false is = refl

settled-twice : (n : ℕ) (e : Elem) → settled_elem n (settled_elem n e) ≡ settled_elem n e
settled-twice n (Name m) = refl
settled-twice n (Index i) = refl
settled-twice n (Var k) = var-twice n k (nat_lt k n) refl
settled-twice n AnyIndex = refl

pub settled-said : (n : ℕ) (es : List Elem) → AreSaid n (map (settled_elem n) es)
settled-said n [] = tt
settled-said n (e ∷ es) = (settled-twice n e, settled-said n es)

-- a variable that is said is a parameter
said-below : (n k : ℕ) (b : Bool) → nat_lt k n ≡ b → (if b then Var k else AnyIndex) ≡ Var k → k < n
said-below n k true is said = ltb-true k n is
said-below n k false is said = absurd (cc)

-- what is said of a need stands for the same
stand-settled : (values : List (Option Elem)) (es ts : List Elem) → stand_for values (map (settled_elem (length values)) es) ts ≡ stand_for values es ts
stand-settled values [] [] = refl
stand-settled values [] (t ∷ ts) = refl
stand-settled values (e ∷ es) [] = refl
stand-settled values (e ∷ es) (t ∷ ts) =
    ap (λ (v : Option Elem). is_value v t && stand_for values (map (settled_elem (length values)) es) ts) (value-settled values e)
    ∙ ap (λ (b : Bool). is_value (value_of values e) t && b) (stand-settled values es ts)

pub match-settled : (values : List (Option Elem)) (n : ℕ) (need target : Need) → length values ≡ n → is_match values (settled n need) target ≡ is_match values need target
match-settled values n need target long =
    subst (λ (i : ℕ). is_match values (settled i need) target ≡ is_match values need target) long
    (ap (λ (b : Bool). same_truth need.write target.write && b) (stand-settled values need.elems target.elems))

module _ (values : List (Option Elem)) (targets args : List Elem) (n : ℕ) where
  one-carried : (e t : Elem) → IsIn t targets → settled_elem n e ≡ e
      → is_value (value_of (callee_values values targets args n) e) t ≡ is_value (value_of values (fill_elem args e)) t
  one-carried (Name m) t there said = refl
  one-carried (Index i) t there said = refl
  one-carried AnyIndex t there said = refl
  one-carried (Var k) t there said =
      let below : k < n = said-below n k (nat_lt k n) refl said in
      ap (λ (v : Option Elem). is_value v t) (callee-at values targets args n k (Some AnyIndex) below)
      ∙ kept-is targets (value_of values (fill_elem args (Var k))) t there

  all-carried : (es ts : List Elem) → ((t : Elem) → IsIn t ts → IsIn t targets) → AreSaid n es
      → stand_for (callee_values values targets args n) es ts ≡ stand_for values (map (fill_elem args) es) ts
  all-carried [] [] among said = refl
  all-carried [] (t ∷ ts) among said = refl
  all-carried (e ∷ es) [] among said = refl
  all-carried (e ∷ es) (t ∷ ts) among said =
      ap (λ (b : Bool). b && stand_for (callee_values values targets args n) es ts) (one-carried e t (among t (inl refl)) said.0)
      ∙ ap (λ (b : Bool). is_value (value_of values (fill_elem args e)) t && b) (all-carried es ts (λ u h. among u (inr h)) said.1)

-- the need of the called method, and that of the caller
pub match-carried : (values : List (Option Elem)) (args : List Elem) (params n : ℕ) (need target : Need) → length values ≡ params → AreSaid n need.elems
    → is_match (callee_values values target.elems args n) need target ≡ is_match values (settled params (filled_need args need)) target
match-carried values args params n need target long said =
    ap (λ (b : Bool). same_truth need.write target.write && b) (all-carried values target.elems args n need.elems target.elems (λ t h. h) said)
    ∙ sym (match-settled values params (filled_need args need) target long)

-- in the method itself a need stands for itself alone
own-value : (n : ℕ) (e : Elem) → settled_elem n e ≡ e → value_of (own_values n) e ≡ Some e
own-value n (Name m) said = refl
own-value n (Index i) said = refl
own-value n AnyIndex said = refl
own-value n (Var k) said = own-at n k (Some AnyIndex) (said-below n k (nat_lt k n) refl said)

own-stand : (n : ℕ) (es ts : List Elem) → AreSaid n es → stand_for (own_values n) es ts ≡ true → es ≡ ts
own-stand n [] [] said h = refl
own-stand n [] (t ∷ ts) said h = absurd (false≢true h)
own-stand n (e ∷ es) [] said h = absurd (false≢true h)
own-stand n (e ∷ es) (t ∷ ts) said h =
    let parts = and_parts (is_value (value_of (own_values n) e) t) (stand_for (own_values n) es ts) h in
    let same = same-elem-eq e t (subst (λ (v : Option Elem). is_value v t ≡ true) (own-value n e said.0) parts.0) in
    ap (λ (x : Elem). x ∷ es) same ∙ ap (λ (xs : List Elem). t ∷ xs) (own-stand n es ts said.1 parts.1)

own-self : (n : ℕ) (es : List Elem) → AreSaid n es → stand_for (own_values n) es es ≡ true
own-self n [] said = refl
own-self n (e ∷ es) said =
    and_from (is_value (value_of (own_values n) e) e) (stand_for (own_values n) es es)
    (subst (λ (v : Option Elem). is_value v e ≡ true) (sym (own-value n e said.0)) (same-elem-refl e)) (own-self n es said.1)

same-write : (a b : Bool) → same_truth a b ≡ true → a ≡ b
same-write true true h = refl
same-write true false h = absurd (false≢true h)
same-write false true h = absurd (false≢true h)
same-write false false h = refl

same-self : (a : Bool) → same_truth a a ≡ true
same-self true = refl
same-self false = refl

pub own-match : (n : ℕ) (need target : Need) → AreSaid n need.elems → is_match (own_values n) need target ≡ true → need ≡ target
own-match n need target said h =
    let parts = and_parts (same_truth need.write target.write) (stand_for (own_values n) need.elems target.elems) h in
    same need.write target.write need.elems target.elems (same-write need.write target.write parts.0) (own-stand n need.elems target.elems said parts.1) where
      same : (a b : Bool) (xs ys : List Elem) → a ≡ b → xs ≡ ys → ◌≡◌ {A = Need} (record { write = a; elems = xs }) (record { write = b; elems = ys })
      same a b xs ys e f =
          ap (λ (w : Bool). let need : Need = record { write = w; elems = xs } in need) e
          ∙ ap (λ (zs : List Elem). let need : Need = record { write = b; elems = zs } in need) f

pub self-match : (n : ℕ) (need : Need) → AreSaid n need.elems → is_match (own_values n) need need ≡ true
self-match n need said =
    and_from (same_truth need.write need.write) (stand_for (own_values n) need.elems need.elems) (same-self need.write) (own-self n need.elems said)
