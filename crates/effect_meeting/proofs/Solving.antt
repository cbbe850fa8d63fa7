-- Equalities of columns hold exactly where a concrete path stands in them.
use Rattle.std.proofs.Common.{◌≡◌, ◌↔◌, ◌⊎◌, ℕ, pos, zero, suc, ◌+◌, ◌<◌, Bool, true, false, not, IsTrue, List, [], ◌∷◌, ◌++◌, length, map, inl, inr, refl, sym, ap, ap₂, ◌∙◌, arith}
use Rattle.std.specs.Prelude.{◌&&◌, Option, None, Some}
use Rattle.std.specs.Ordering.{int_eq}
use Rattle.std.specs.List.{flat_map}
use Rattle.std.proofs.lemmas.Bool.{false≢true, and_parts, and_from, not-true}
use Rattle.std.proofs.lemmas.Bool.Decides.{Decides-int_eq}
use Rattle.region_paths.specs.declared.elements.Elem.{Elem}
use Rattle.region_paths.specs.declared.elements.Elem.TheVariants.{Name, Index, Var, AnyIndex}
use Rattle.region_paths.specs.Concrete.{ConcreteElem, ConcretePath, elem_stands}
use Rattle.region_paths.specs.Apart.{clash}
use Rattle.region_paths.specs.Filled.{Valuation, elem_under}
use Rattle.region_paths.proofs.ElementLaws.{clash-stands, common-stands-second, example, example-stands, is_var}
use Rattle.effect_meeting.specs.declared.equality.Equality.{Equality}
use Rattle.effect_meeting.specs.declared.equality.Term.TheVariants.{First, Second}
use Rattle.effect_meeting.specs.Equalities.{equalities_hold}
use Rattle.effect_meeting.specs.PathEqualities.{equal_terms}
use Rattle.effect_meeting.proofs.Exactness.{all-two, clash-swap, elem-exact}
use Rattle.effect_meeting.specs.declared.column.Column.{Column}
use Rattle.effect_meeting.specs.Meeting.{AgreeBelow, as_written}
use Rattle.effect_meeting.specs.inner.Aligned.{all_stand, one_stands, one_under}
use Rattle.effect_meeting.specs.inner.Columns.{all_plain, column_equalities, columns, is_plain, pair_equalities, solid_of, solid_or}

abbrev agreement : ℕ → Equality
agreement k = equal_terms (First k) (Second k)

pub agree-none : (v w : Valuation) → IsTrue (equalities_hold v w []) ↔ AgreeBelow 0 v w
agree-none v w = (λ h k below. absurd (omega arith), λ h. refl)

pub agree-more : (v w : Valuation) (n : ℕ) (list : List Equality) → IsTrue (equalities_hold v w list) ↔ AgreeBelow n v w
    → IsTrue (equalities_hold v w (list ++ agreement n ∷ [])) ↔ AgreeBelow (n + 1) v w
agree-more v w n list both = (
  λ h k below.
      let parts = and_parts (equalities_hold v w list) (equalities_hold v w (agreement n ∷ [])) (sym (all-two v w list (agreement n ∷ [])) ∙ h) in
      let last : v n ≡ w n = (Decides-int_eq (v n) (w n)).0 (and_parts (int_eq (v n) (w n)) true parts.1).0 in
      at-most k n below (both.0 parts.0 k) last,
  λ h.
      all-two v w list (agreement n ∷ [])
      ∙ and_from _ _ (both.1 (λ k below. h k (omega arith))) (and_from _ _ ((Decides-int_eq (v n) (w n)).1 (h n (omega arith))) refl),
) where
  at-most : (k m : ℕ) → k < m + 1 → (k < m → v k ≡ w k) → v m ≡ w m → v k ≡ w k
  at-most k m below h last = elim (either k m below) [
    | inl less ↦ h less
    | inr same ↦ ap v same ∙ last ∙ ap w (sym same)
  ] where
    either : (k m : ℕ) → k < m + 1 → (k < m) ⊎ (k ≡ m)
    either zero zero below = inr refl
    either zero (suc m) below = inl (omega arith)
    either (suc k) zero below = absurd (omega arith)
    either (suc k) (suc m) below = elim (either k m (omega arith)) [
      | inl less ↦ inl (omega arith)
      | inr same ↦ inr (ap suc same)
    ]

-- where elements stand for one, they do with values for variables that they do not have
stands-under : (v : Valuation) (e : Elem) (c : ConcreteElem) → elem_stands e c ≡ true → elem_stands (elem_under v e) c ≡ true
stands-under v (Name n) c h = h
stands-under v (Index i) c h = h
stands-under v (Var k) c h = absurd (false≢true h)
stands-under v AnyIndex c h = h

not-from : (b : Bool) → (b ≡ true → ⊥) → not b ≡ true
not-from true h = absurd (h refl)
not-from false h = refl

zeros : Valuation
zeros k = pos 0

together : (e f : Elem) (c : ConcreteElem) → elem_stands e c ≡ true → elem_stands f c ≡ true → not (clash e f) ≡ true
together e f c h k =
    not-from (clash e f) (λ clashing. clash-stands zeros e f c clashing (stands-under zeros e c h) (stands-under zeros f c k))

-- elements that stand for one thing have what is asked of the pair
pair-holds : (v w : Valuation) (x y : Option Elem) (c : ConcreteElem) → one_stands (one_under v x) c ≡ true → one_stands (one_under w y) c ≡ true
    → equalities_hold v w (pair_equalities x y) ≡ true
pair-holds v w None y c h k = refl
pair-holds v w (Some e) None c h k = refl
pair-holds v w (Some e) (Some f) c h k =
    and_from _ _ (elem-exact v w e f ∙ together (elem_under v e) (elem_under w f) c h k) refl

plain-under : (v : Valuation) (x : Option Elem) → is_plain x ≡ true → one_under v x ≡ x
plain-under v None h = refl
plain-under v (Some (Name n)) h = refl
plain-under v (Some (Index i)) h = refl
plain-under v (Some (Var k)) h = absurd (false≢true h)
plain-under v (Some AnyIndex) h = refl

-- the elements of a column stand for this
pub record ColumnStands (v w : Valuation) (column : Column) (c : ConcreteElem) : Type 0 where
  pub first : one_stands (one_under v column.first) c ≡ true
  pub second : one_stands (one_under w column.second) c ≡ true
  pub third : one_stands column.third c ≡ true

all-three : (v w : Valuation) (xs ys zs : List Equality) → equalities_hold v w xs ≡ true → equalities_hold v w ys ≡ true
    → equalities_hold v w zs ≡ true → equalities_hold v w (xs ++ (ys ++ zs)) ≡ true
all-three v w xs ys zs h k l = all-two v w xs (ys ++ zs) ∙ and_from _ _ h (all-two v w ys zs ∙ and_from _ _ k l)

column-holds : (v w : Valuation) (column : Column) (c : ConcreteElem) → is_plain column.third ≡ true → ColumnStands v w column c
    → equalities_hold v w (column_equalities column) ≡ true
column-holds v w column c plain s =
    let third : (u : Valuation) → one_stands (one_under u column.third) c ≡ true =
    λ u. ap (λ (x : Option Elem). one_stands x c) (plain-under u column.third plain) ∙ s.third in
    all-three v w (pair_equalities column.first column.second) (pair_equalities column.first column.third) (pair_equalities column.third column.second)
    (pair-holds v w column.first column.second c s.first s.second)
    (pair-holds v w column.first column.third c s.first (third w)) (pair-holds v w column.third column.second c (third v) s.second)

-- two elements clash
abbrev both_clash : Option Elem → Option Elem → Bool
both_clash None y = false
both_clash (Some e) None = false
both_clash (Some e) (Some f) = clash e f

both_clash-swap : (x y : Option Elem) → both_clash x y ≡ both_clash y x
both_clash-swap None None = refl
both_clash-swap None (Some f) = refl
both_clash-swap (Some e) None = refl
both_clash-swap (Some e) (Some f) = clash-swap e f

pair-apart : (v w : Valuation) (x y : Option Elem) → equalities_hold v w (pair_equalities x y) ≡ true → both_clash (one_under v x) (one_under w y) ≡ false
pair-apart v w None y h = refl
pair-apart v w (Some e) None h = refl
pair-apart v w (Some e) (Some f) h = not-true _ (sym (elem-exact v w e f) ∙ (and_parts _ _ h).0)

-- what does not clash with a name or a literal index stands for it
solid-stands : (x y : Option Elem) (r : Elem) → is_plain y ≡ true → both_clash x y ≡ false → one_stands y (example r) ≡ true
    → one_stands y (example (solid_or x r)) ≡ true
solid-stands None y r plain apart h = h
solid-stands (Some (Var k)) y r plain apart h = h
solid-stands (Some AnyIndex) y r plain apart h = h
solid-stands (Some (Name n)) None r plain apart h = refl
solid-stands (Some (Index i)) None r plain apart h = refl
solid-stands (Some (Name n)) (Some f) r plain apart h = common-stands-second (Name n) f refl (no-var f plain) apart where
  no-var : (e : Elem) → is_plain (Some e) ≡ true → is_var e ≡ false
  no-var (Name m) g = refl
  no-var (Index j) g = refl
  no-var (Var k) g = absurd (false≢true g)
  no-var AnyIndex g = refl
solid-stands (Some (Index i)) (Some f) r plain apart h = common-stands-second (Index i) f refl (no-var f plain) apart where
  no-var : (e : Elem) → is_plain (Some e) ≡ true → is_var e ≡ false
  no-var (Name m) g = refl
  no-var (Index j) g = refl
  no-var (Var k) g = absurd (false≢true g)
  no-var AnyIndex g = refl

-- an element stands for itself, if it is a name or a literal index, and any index for what is one
own-stands : (x : Option Elem) (r : Elem) → is_plain x ≡ true → (x ≡ Some AnyIndex → elem_stands AnyIndex (example r) ≡ true)
    → one_stands x (example (solid_or x r)) ≡ true
own-stands None r plain h = refl
own-stands (Some (Name n)) r plain h = example-stands (Name n) refl
own-stands (Some (Index i)) r plain h = example-stands (Index i) refl
own-stands (Some (Var k)) r plain h = absurd (false≢true plain)
own-stands (Some AnyIndex) r plain h = h refl

-- elements that clash with none of the others all stand for the first solid one
pub record AllStand (x y z : Option Elem) (c : ConcreteElem) : Type 0 where
  pub first : one_stands x c ≡ true
  pub second : one_stands y c ≡ true
  pub third : one_stands z c ≡ true

all-stand : (x y z : Option Elem) → is_plain x ≡ true → is_plain y ≡ true → is_plain z ≡ true
    → both_clash x y ≡ false → both_clash x z ≡ false → both_clash z y ≡ false → AllStand x y z (example (solid_of x y z))
all-stand x y z x_plain y_plain z_plain xy xz zy =
    let zero_index = Index (pos 0) in
    let last = solid_or z zero_index in
    let rest = solid_or y last in
    let yz = both_clash-swap y z ∙ zy in
    let any : (u : Option Elem) → both_clash z u ≡ false → u ≡ Some AnyIndex → elem_stands AnyIndex (example last) ≡ true =
    λ u apart is.
    let apart_any : both_clash z (Some AnyIndex) ≡ false = ap (both_clash z) (sym is) ∙ apart in
    solid-stands z (Some AnyIndex) zero_index refl apart_any refl in
    let any_first : x ≡ Some AnyIndex → elem_stands AnyIndex (example rest) ≡ true =
    λ is.
    let apart_any : both_clash y (Some AnyIndex) ≡ false = ap (both_clash y) (sym is) ∙ both_clash-swap y x ∙ xy in
    solid-stands y (Some AnyIndex) last refl apart_any (any x (both_clash-swap z x ∙ xz) is) in
    let second : one_stands y (example rest) ≡ true = own-stands y last y_plain (any y zy) in
    let third : one_stands z (example last) ≡ true = own-stands z zero_index z_plain (λ is. refl) in
    record {
      first = own-stands x rest x_plain any_first;
      second = solid-stands x y rest y_plain xy second;
      third = solid-stands x z rest z_plain xz (solid-stands y z last z_plain yz third);
    }

under-plain : (v : Valuation) (x : Option Elem) → is_plain (one_under v x) ≡ true
under-plain v None = refl
under-plain v (Some (Name n)) = refl
under-plain v (Some (Index i)) = refl
under-plain v (Some (Var k)) = refl
under-plain v (Some AnyIndex) = refl

-- what the three elements of a column are with these values
abbrev pub solid_under : Valuation → Valuation → Column → Elem
solid_under v w column = solid_of (one_under v column.first) (one_under w column.second) column.third

column-stands : (v w : Valuation) (column : Column) → is_plain column.third ≡ true → equalities_hold v w (column_equalities column) ≡ true
    → ColumnStands v w column (example (solid_under v w column))
column-stands v w column plain h =
    let x = column.first in
    let y = column.second in
    let z = column.third in
    let outer = and_parts _ _ (sym (all-two v w (pair_equalities x y) (pair_equalities x z ++ pair_equalities z y)) ∙ h) in
    let inner = and_parts _ _ (sym (all-two v w (pair_equalities x z) (pair_equalities z y)) ∙ outer.1) in
    let xz : both_clash (one_under v x) z ≡ false = ap (both_clash (one_under v x)) (sym (plain-under w z plain)) ∙ pair-apart v w x z inner.0 in
    let zy : both_clash z (one_under w y) ≡ false =
    ap (λ (u : Option Elem). both_clash u (one_under w y)) (sym (plain-under v z plain)) ∙ pair-apart v w z y inner.1 in
    let all = all-stand (one_under v x) (one_under w y) z (under-plain v x) (under-plain w y) plain (pair-apart v w x y outer.0) xz zy in
    record { first = all.first; second = all.second; third = all.third }

-- where a concrete path stands in the columns, their equalities hold
pub columns-hold : (v w : Valuation) (xs ys zs : List (Option Elem)) (c : ConcretePath) → all_plain zs ≡ true
    → all_stand (map (one_under v) xs) c ≡ true → all_stand (map (one_under w) ys) c ≡ true → all_stand zs c ≡ true
    → equalities_hold v w (flat_map column_equalities (columns xs ys zs)) ≡ true
columns-hold v w [] ys zs c plain h k l = refl
columns-hold v w (x ∷ xs) [] zs c plain h k l = refl
columns-hold v w (x ∷ xs) (y ∷ ys) [] c plain h k l = refl
columns-hold v w (x ∷ xs) (y ∷ ys) (z ∷ zs) [] plain h k l = absurd (false≢true h)
columns-hold v w (x ∷ xs) (y ∷ ys) (z ∷ zs) (d ∷ c) plain h k l =
    let column : Column = record { first = x; second = y; third = z } in
    let plains = and_parts (is_plain z) (all_plain zs) plain in
    let firsts = and_parts _ _ h in
    let seconds = and_parts _ _ k in
    let thirds = and_parts _ _ l in
    all-two v w (column_equalities column) (flat_map column_equalities (columns xs ys zs))
    ∙ and_from _ _ (column-holds v w column d plains.0 (record { first = firsts.0; second = seconds.0; third = thirds.0 }))
    (columns-hold v w xs ys zs c plains.1 firsts.1 seconds.1 thirds.1)

-- the concrete path of what stands in the columns
abbrev pub solid_path : Valuation → Valuation → List Column → ConcretePath
solid_path v w cols = map (λ column. example (solid_under v w column)) cols

-- the three lists stand for this
pub record LinesStand (v w : Valuation) (xs ys zs : List (Option Elem)) (c : ConcretePath) : Type 0 where
  pub first : all_stand (map (one_under v) xs) c ≡ true
  pub second : all_stand (map (one_under w) ys) c ≡ true
  pub third : all_stand zs c ≡ true

-- where the equalities of the columns hold, a concrete path stands in them
pub columns-stand : (v w : Valuation) (xs ys zs : List (Option Elem)) → all_plain zs ≡ true → length xs ≡ length zs → length ys ≡ length zs
    → equalities_hold v w (flat_map column_equalities (columns xs ys zs)) ≡ true
    → LinesStand v w xs ys zs (solid_path v w (columns xs ys zs))
columns-stand v w [] [] [] plain long wide h = record { first = refl; second = refl; third = refl }
columns-stand v w [] (y ∷ ys) [] plain long wide h = absurd (omega arith)
columns-stand v w [] ys (z ∷ zs) plain long wide h = absurd (omega arith)
columns-stand v w (x ∷ xs) ys [] plain long wide h = absurd (omega arith)
columns-stand v w (x ∷ xs) [] (z ∷ zs) plain long wide h = absurd (omega arith)
columns-stand v w (x ∷ xs) (y ∷ ys) (z ∷ zs) plain long wide h =
    let column : Column = record { first = x; second = y; third = z } in
    let plains = and_parts (is_plain z) (all_plain zs) plain in
    let parts = and_parts _ _ (sym (all-two v w (column_equalities column) (flat_map column_equalities (columns xs ys zs))) ∙ h) in
    let here = column-stands v w column plains.0 parts.0 in
    let later = columns-stand v w xs ys zs plains.1 (omega arith) (omega arith) parts.1 in record {
      first = and_from _ _ here.first later.first;
      second = and_from _ _ here.second later.second;
      third = and_from _ _ here.third later.third;
    }

-- a name and a literal index are written as they are
written-or : (x : Option Elem) (r : Elem) → as_written (example r) ≡ r → as_written (example (solid_or x r)) ≡ solid_or x r
written-or None r h = h
written-or (Some (Name n)) r h = refl
written-or (Some (Index i)) r h = refl
written-or (Some (Var k)) r h = h
written-or (Some AnyIndex) r h = h

written-solid : (x y z : Option Elem) → as_written (example (solid_of x y z)) ≡ solid_of x y z
written-solid x y z = written-or x _ (written-or y _ (written-or z (Index (pos 0)) refl))

pub written-path : (v w : Valuation) (cols : List Column) → map as_written (solid_path v w cols) ≡ map (solid_under v w) cols
written-path v w [] = refl
written-path v w (column ∷ cols) =
    ap₂ (λ (e : Elem) (es : List Elem). e ∷ es)
    (written-solid (one_under v column.first) (one_under w column.second) column.third) (written-path v w cols)

-- the equalities of all columns hold with those before them
pub both-hold : (init more list : List Equality) (shared : ℕ) → list ≡ init ++ more
    → ((v w : Valuation) → IsTrue (equalities_hold v w init) ↔ AgreeBelow shared v w)
    → (v w : Valuation) → IsTrue (equalities_hold v w list) ↔ (AgreeBelow shared v w × IsTrue (equalities_hold v w more))
both-hold init more list shared is both v w =
    let split : equalities_hold v w list ≡ (equalities_hold v w init && equalities_hold v w more) =
    ap (equalities_hold v w) is ∙ all-two v w init more in (
      λ h. let parts = and_parts _ _ (sym split ∙ h) in ((both v w).0 parts.0, parts.1),
      λ h. split ∙ and_from _ _ ((both v w).1 h.0) h.1,
    )
