-- Equal elements and values, and what the parameters of a called method stand for.
use Rattle.std.proofs.Common.{◌≡◌, ◌<◌, ℕ, zero, suc, Bool, true, false, List, [], ◌∷◌, ◌++◌, length, get_or, Option, None, Some, if◌then◌else◌, inl, inr, refl, sym, ap, ◌∙◌, arith, eqb-true, eq-eqb}
use Rattle.std.specs.List.{list_any}
use Rattle.std.proofs.lemmas.Bool.{and_parts, cases_Bool, cases_lt, false≢true, le-ltb, lt-ltb}
use Rattle.std.proofs.lemmas.Bool.Decides.{Decides-int_eq}
use Rattle.std.proofs.lemmas.List.{get_or_append_left, get_or_past, get_or_push, length-append}
use Rattle.twe_base.proofs.Members.{IsIn, in-list_any}
use Rattle.region_paths.specs.declared.elements.Elem.{Elem}
use Rattle.region_paths.specs.declared.elements.Elem.TheVariants.{Name, Index, Var, AnyIndex}
use Rattle.region_paths.specs.Filled.{fill_elem}
use Rattle.effect_infer.specs.needs.Needs.{settled_elem}
use Rattle.summary_comparing.specs.inner.Standing.{callee_values, is_value, kept_value, own_values, same_elem, same_value, same_values, value_of}

pub same-elem-refl : (e : Elem) → same_elem e e ≡ true
same-elem-refl (Name n) = eq-eqb n n refl
same-elem-refl (Index i) = (Decides-int_eq i i).1 refl
same-elem-refl (Var k) = eq-eqb k k refl
same-elem-refl AnyIndex = refl

pub same-elem-eq : (a b : Elem) → same_elem a b ≡ true → a ≡ b
same-elem-eq (Name n) (Name m) h = ap Name (eqb-true n m h)
same-elem-eq (Name n) (Index j) h = absurd (false≢true h)
same-elem-eq (Name n) (Var j) h = absurd (false≢true h)
same-elem-eq (Name n) AnyIndex h = absurd (false≢true h)
same-elem-eq (Index i) (Name m) h = absurd (false≢true h)
same-elem-eq (Index i) (Index j) h = ap Index ((Decides-int_eq i j).0 h)
same-elem-eq (Index i) (Var j) h = absurd (false≢true h)
same-elem-eq (Index i) AnyIndex h = absurd (false≢true h)
same-elem-eq (Var k) (Name m) h = absurd (false≢true h)
same-elem-eq (Var k) (Index j) h = absurd (false≢true h)
same-elem-eq (Var k) (Var l) h = ap Var (eqb-true k l h)
same-elem-eq (Var k) AnyIndex h = absurd (false≢true h)
same-elem-eq AnyIndex (Name m) h = absurd (false≢true h)
same-elem-eq AnyIndex (Index j) h = absurd (false≢true h)
same-elem-eq AnyIndex (Var j) h = absurd (false≢true h)
same-elem-eq AnyIndex AnyIndex h = refl

same-value-eq : (x y : Option Elem) → same_value x y ≡ true → x ≡ y
same-value-eq None None h = refl
same-value-eq None (Some b) h = absurd (false≢true h)
same-value-eq (Some a) None h = absurd (false≢true h)
same-value-eq (Some a) (Some b) h = ap Some (same-elem-eq a b h)

pub same-values-eq : (xs ys : List (Option Elem)) → same_values xs ys ≡ true → xs ≡ ys
same-values-eq [] [] h = refl
same-values-eq [] (y ∷ ys) h = absurd (false≢true h)
same-values-eq (x ∷ xs) [] h = absurd (false≢true h)
same-values-eq (x ∷ xs) (y ∷ ys) h =
    let parts = and_parts (same_value x y) (same_values xs ys) h in
    ap (λ (z : Option Elem). z ∷ xs) (same-value-eq x y parts.0) ∙ ap (λ (zs : List (Option Elem)). y ∷ zs) (same-values-eq xs ys parts.1)

-- a local stands for any index, and so does what a declaration says of it
pub value-settled : (values : List (Option Elem)) (e : Elem) → value_of values (settled_elem (length values) e) ≡ value_of values e
value-settled values (Name n) = refl
value-settled values (Index i) = refl
value-settled values AnyIndex = refl
value-settled values (Var k) = elim (cases_lt k (length values)) [
  | inl below ↦ ap (λ (b : Bool). value_of values (if b then Var k else AnyIndex)) (lt-ltb k (length values) below)
  | inr past ↦ ap (λ (b : Bool). value_of values (if b then Var k else AnyIndex)) (le-ltb k (length values) past) ∙ sym (get_or_past values k (Some AnyIndex) past)
]

-- the values of parameters, one by one
pub callee-length : (values : List (Option Elem)) (targets args : List Elem) (n : ℕ) → length (callee_values values targets args n) ≡ n
callee-length values targets args zero = refl
callee-length values targets args (suc n) =
    let before = callee-length values targets args n in
    length-append (callee_values values targets args n) (kept_value targets (value_of values (fill_elem args (Var n))) ∷ []) ∙ omega (arith, before)

pub callee-at : (values : List (Option Elem)) (targets args : List Elem) (n j : ℕ) (d : Option Elem) → j < n
    → get_or (callee_values values targets args n) j d ≡ kept_value targets (value_of values (fill_elem args (Var j)))
callee-at values targets args zero j d below = absurd (omega (arith, below))
callee-at values targets args (suc n) j d below =
    let front = callee_values values targets args n in
    let long : length front ≡ n = callee-length values targets args n in
    let last = kept_value targets (value_of values (fill_elem args (Var n))) in
    elim (cases_lt j n) [
      | inl before ↦ get_or_append_left front (last ∷ []) d j (omega (arith, before, long)) ∙ callee-at values targets args n j d before
      | inr past ↦
          let same : j ≡ n = omega (arith, past, below) in
          ap (λ (i : ℕ). get_or (front ++ last ∷ []) i d) same ∙ (get_or_push front last d n long
          ∙ ap (λ (i : ℕ). kept_value targets (value_of values (fill_elem args (Var i)))) (sym same))
    ]

pub own-length : (n : ℕ) → length (own_values n) ≡ n
own-length zero = refl
own-length (suc n) = let before = own-length n in length-append (own_values n) (Some (Var n) ∷ []) ∙ omega (arith, before)

pub own-at : (n j : ℕ) (d : Option Elem) → j < n → get_or (own_values n) j d ≡ Some (Var j)
own-at zero j d below = absurd (omega (arith, below))
own-at (suc n) j d below =
    let front = own_values n in
    let long : length front ≡ n = own-length n in
    elim (cases_lt j n) [
      | inl before ↦ get_or_append_left front (Some (Var n) ∷ []) d j (omega (arith, before, long)) ∙ own-at n j d before
      | inr past ↦
          let same : j ≡ n = omega (arith, past, below) in
          ap (λ (i : ℕ). get_or (front ++ Some (Var n) ∷ []) i d) same
          ∙ (get_or_push front (Some (Var n)) d n long ∙ ap (λ (i : ℕ). Some (Var i)) (sym same))
    ]

-- a value that is dropped is none of those that are looked for
dropped : (targets : List Elem) (e t : Elem) (b : Bool) → list_any (same_elem e) targets ≡ b → IsIn t targets
    → is_value (if b then Some e else None) t ≡ same_elem e t
dropped targets e t true is there = refl
dropped targets e t false is there = elim (cases_Bool (same_elem e t)) [
  | inl same ↦ absurd (false≢true (sym is ∙ in-list_any (same_elem e) targets t there same))
  | inr differ ↦ sym differ
]

pub kept-is : (targets : List Elem) (value : Option Elem) (t : Elem) → IsIn t targets → is_value (kept_value targets value) t ≡ is_value value t
kept-is targets None t there = refl
kept-is targets (Some e) t there = dropped targets e t (list_any (same_elem e) targets) refl there
