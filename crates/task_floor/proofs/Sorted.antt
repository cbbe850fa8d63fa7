-- What lies at each node has the records that stand there.
use Rattle.std.proofs.Common.{◌≡◌, ◌≢◌, ◌++◌, ◌<◌, ℕ, zero, suc, List, [], ◌∷◌, length, length-set, get_or, take, replicate, refl, sym, ap, subst, ◌∙◌, inl, inr, ⊎_elim, arith}
use Rattle.std.specs.Prelude.{Some, slice_get, slice_set}
use Rattle.std.proofs.lemmas.Bool.{cases_eq}
use Rattle.std.proofs.lemmas.List.{length-replicate}
use mathlib.Core.Option as core
use mathlib.Core.Option.{some-injective, some-ne-none}
use lib.ListN.{get_elem?}
use Rattle.floor_laws.proofs.rule.Puts.{some_one}
use Rattle.floor_laws.proofs.table.Elements.{at_else, at_within}
use Rattle.floor_laws.specs.admission.admission_core.States.{IsAmong, Record}
use Rattle.floor_laws.specs.rule.nodes.Fitting.{AreRecordsAt, IsDistinct}
use Rattle.task_floor.specs.inner.Recording.{HoldRecords, HoldsThose, with_added}
use Rattle.task_floor.proofs.Gathered.{among_either, among_left, among_right}

pub all_same : {A : Type 0} (n i : ℕ) (x : A) → i < n → get_elem? (replicate n x) i ≡ core.some x
all_same zero i x below = absurd (omega (arith, below))
all_same (suc n) zero x below = refl
all_same (suc n) (suc i) x below = all_same n i x (omega (arith, below))

at_or : {A : Type 0} (l : List A) (i : ℕ) (d x : A) → get_elem? l i ≡ core.some x → get_or l i d ≡ x
at_or [] i d x is = absurd (some-ne-none x (sym is))
at_or (y ∷ l) zero d x is = some-injective y x is
at_or (y ∷ l) (suc i) d x is = at_or l i d x is

at_get : {A : Type 0} (l : List A) (i : ℕ) (x : A) → get_elem? l i ≡ core.some x → Some x ≡ slice_get l i
at_get [] i x is = absurd (some-ne-none x (sym is))
at_get {A} (y ∷ l) zero x is = ap (λ (z : A). Some z) (sym (some-injective y x is))
at_get (y ∷ l) (suc i) x is = at_get l i x is

-- the element that a loop has come to is in the list
pub item_among : {A : Type 0} (l : List A) (i : ℕ) (x : A) → i < length l → x ≡ get_or l i x → IsAmong x l
item_among [] i x below is = absurd (omega (arith, below))
item_among (y ∷ l) zero x below is = inl is
item_among (y ∷ l) (suc i) x below is = inr (item_among l i x (omega (arith, below)) is)

-- before any record was added
pub none_yet : (nodes : ℕ) → HoldRecords nodes [] (replicate nodes [])
none_yet nodes = record {
  count = length-replicate nodes [];
  each = λ n below. record { content = []; there = all_same nodes n [] below; all = λ r. (λ among. absurd among, λ pair. absurd pair.0); once = tt };
}

-- one record more
module _ (nodes : ℕ) (records : List Record) (contents : List (List Record)) (r : Record) (before : HoldRecords nodes records contents) (there : r.node < nodes)
    (new_one : ¬ IsAmong r records) where
  abbrev own : HoldsThose records contents r.node
  own = before.each r.node there

  abbrev new : List Record
  new = r ∷ own.content

  -- it does not lie at its node yet
  pub new_here : (content : List Record) → slice_get contents r.node ≡ Some content → ¬ IsAmong r content
  new_here content is among =
      let same : own.content ≡ content = some_one (at_get contents r.node own.content own.there ∙ is) in
      new_one ((own.all r).0 (subst (IsAmong r) (sym same) among)).0

  added_is : with_added r contents ≡ slice_set contents r.node new
  added_is = ap (λ (l : List Record). slice_set contents r.node (r ∷ l)) (at_or contents r.node [] own.content own.there)

  all_here : AreRecordsAt (records ++ r ∷ []) r.node new
  all_here x = (
    λ among.
        ⊎_elim (λ (same : x ≡ r). (among_right x records (r ∷ []) (inl same), ap (λ (y : Record). y.node) same))
        (λ (old : IsAmong x own.content). let was = (own.all x).0 old in (among_left x records (r ∷ []) was.0, was.1)) among,
    λ pair.
        ⊎_elim (λ (old : IsAmong x records). inr ((own.all x).1 (old, pair.1)))
        (λ (last : IsAmong x (r ∷ [])). ⊎_elim (λ (same : x ≡ r). inl same) (λ none. absurd none) last) (among_either x records (r ∷ []) pair.0),
  )

  all_else : (n : ℕ) (content : List Record) → n ≢ r.node → AreRecordsAt records n content → AreRecordsAt (records ++ r ∷ []) n content
  all_else n content other was x = (
    λ among. let old = (was x).0 among in (among_left x records (r ∷ []) old.0, old.1),
    λ pair.
        ⊎_elim (λ (old : IsAmong x records). (was x).1 (old, pair.1))
        (λ (last : IsAmong x (r ∷ [])).
        ⊎_elim (λ (same : x ≡ r). absurd (other (sym pair.1 ∙ ap (λ (y : Record). y.node) same))) (λ none. absurd none) last) (among_either x records (r ∷ []) pair.0),
  )

  each_set : (n : ℕ) → n < nodes → HoldsThose (records ++ r ∷ []) (slice_set contents r.node new) n
  each_set n below =
      let count = before.count in
      ⊎_elim
      (λ (same : n ≡ r.node).
      subst (HoldsThose (records ++ r ∷ []) (slice_set contents r.node new)) (sym same)
      (record { content = new; there = at_within contents r.node new (omega (arith, count, there)); all = all_here; once = (λ among. new_one ((own.all r).0 among).0, own.once) }))
      (λ (other : n ≢ r.node).
      let was = before.each n below in
      record { content = was.content; there = at_else contents r.node n new other ∙ was.there; all = all_else n was.content other was.all; once = was.once })
      (cases_eq n r.node)

  pub record_added : HoldRecords nodes (records ++ r ∷ []) (with_added r contents)
  record_added = subst (HoldRecords nodes (records ++ r ∷ [])) (sym added_is) (record { count = length-set contents r.node new ∙ before.count; each = each_set })

-- the record that a loop has come to is none of those before it
pub item_new : {A : Type 0} (l : List A) (i : ℕ) (x : A) → IsDistinct l → i < length l → x ≡ get_or l i x → ¬ IsAmong x (take i l)
item_new [] i x once below is among = absurd (omega (arith, below))
item_new (y ∷ l) zero x once below is among = among
item_new {A} (y ∷ l) (suc i) x once below is among =
    ⊎_elim (λ (here : x ≡ y). once.0 (subst (λ (z : A). IsAmong z l) here (item_among l i x (omega (arith, below)) is)))
    (λ (later : IsAmong x (take i l)). item_new l i x once.1 (omega (arith, below)) is later) among
