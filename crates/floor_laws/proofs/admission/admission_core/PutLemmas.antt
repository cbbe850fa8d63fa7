-- Who holds a node once a worker's activity was set, and when the invariant stays.
use Rattle.std.proofs.Common.{◌≡◌, ◌≢◌, ℕ, Bool, List, Option, Some, None, if◌then◌else◌, refl, sym, ap, subst, ◌∙◌, ◌⊎◌, inl, inr, ⊎_elim, eq-eqb, ne_eqb}
use Rattle.std.proofs.lemmas.Bool.{cases_eq}
use Rattle.region_paths.specs.declared.elements.Elem.{Elem}
use Rattle.floor_laws.specs.admission.admission_core.States.{IsAmong, IsAbove, IsApartBelow, Activity, State, HoldsNode, NodeIsFree, held, finished, record_effect, put_activity, with_activity}
use Rattle.floor_laws.proofs.admission.admission_core.Invariant.{Going, Kept}

pub some_one : {A : Type 0} {x y : A} → Some x ≡ Some y → x ≡ y
some_one h = cc

pub not_some : {A : Type 0} {x : A} → None ≡ Some x → ⊥
not_some h = cc

put_own : (f : ℕ → Option Activity) (w : ℕ) (x : Option Activity) → put_activity f w x w ≡ x
put_own f w x = ap (λ (b : Bool). if b then x else f w) (eq-eqb w w refl)

put_other : (f : ℕ → Option Activity) (w v : ℕ) (x : Option Activity) → v ≢ w → put_activity f w x v ≡ f v
put_other f w v x other = ap (λ (b : Bool). if b then x else f v) (ne_eqb v w other)

pub put_was : (f : ℕ → Option Activity) (w v : ℕ) (x y : Option Activity) → put_activity f w x v ≡ y → ((v ≡ w) × (x ≡ y)) ⊎ ((v ≢ w) × (f v ≡ y))
put_was f w v x y h =
    ⊎_elim
    (λ same. inl (same, sym (put_own f w x) ∙ subst (λ (u : ℕ). put_activity f w x u ≡ y) same h))
    (λ other. inr (other, sym (put_other f w v x other) ∙ h))
    (cases_eq v w)

pub Holds-put : (f : ℕ → Option Activity) (w v n : ℕ) (a : Activity) → HoldsNode (put_activity f w (Some a)) v n → ((v ≡ w) × IsAmong n (held a.stage)) ⊎ ((v ≢ w) × HoldsNode f v n)
Holds-put f w v n a h =
    ⊎_elim
    (λ own. inl (own.0, subst (λ (b : Activity). IsAmong n (held b.stage)) (sym (some_one own.1)) h.2))
    (λ other. inr (other.0, (h.0, other.1, h.2)))
    (put_was f w v (Some a) (Some h.0) h.1)

pub Holds-put_none : (f : ℕ → Option Activity) (w v n : ℕ) → HoldsNode (put_activity f w None) v n → HoldsNode f v n
Holds-put_none f w v n h =
    ⊎_elim
    (λ own. absurd (not_some own.1))
    (λ other. (h.0, other.1, h.2))
    (put_was f w v None (Some h.0) h.1)

-- nobody holds the node, and if it lies at or below a finished node, it is apart from that walk's effect with all below it
pub record IsFresh (nodes : List (List Elem)) (s : State) (n : ℕ) : Type 0 where
  pub free : NodeIsFree s n
  pub clear : (v : ℕ) (b : Activity) (f : ℕ) → s.activities v ≡ Some b → IsAmong f (finished b.stage) → IsAbove nodes f n → IsApartBelow nodes (record_effect b.purpose) n

pub put_keeps : (nodes : List (List Elem)) (s : State) (w : ℕ) (a : Activity) → Kept nodes s
    → ((n : ℕ) → IsAmong n (held a.stage) → HoldsNode s.activities w n ⊎ IsFresh nodes s n)
    → Going nodes s.tasks s.records w a
    → ((f n : ℕ) → IsAmong f (finished a.stage) → IsAbove nodes f n → (IsAmong n (held a.stage) → IsApartBelow nodes (record_effect a.purpose) n) × ((v : ℕ) → v ≢ w → HoldsNode s.activities v n → IsApartBelow nodes (record_effect a.purpose) n))
    → Kept nodes (with_activity s w (Some a))
put_keeps nodes s w a kept new going own = record {
  given = kept.given;
  home = kept.home;
  pairs = kept.pairs;
  full = kept.full;
  born = kept.born;
  owner = λ u v n hu hv.
      ⊎_elim
      (λ (left : (u ≡ w) × IsAmong n (held a.stage)).
      ⊎_elim
      (λ (right : (v ≡ w) × IsAmong n (held a.stage)). left.0 ∙ sym right.0)
      (λ (right : (v ≢ w) × HoldsNode s.activities v n).
      absurd
      (⊎_elim
      (λ mine. right.0 (kept.owner v w n right.1 mine))
      (λ fresh. fresh.free v right.1)
      (new n left.1)))
      (Holds-put s.activities w v n a hv))
      (λ (left : (u ≢ w) × HoldsNode s.activities u n).
      ⊎_elim
      (λ (right : (v ≡ w) × IsAmong n (held a.stage)).
      absurd
      (⊎_elim
      (λ mine. left.0 (kept.owner u w n left.1 mine))
      (λ fresh. fresh.free u left.1)
      (new n right.1)))
      (λ (right : (v ≢ w) × HoldsNode s.activities v n). kept.owner u v n left.1 right.1)
      (Holds-put s.activities w v n a hv))
      (Holds-put s.activities w u n a hu);
  going = λ v b is.
      ⊎_elim
      (λ (mine : (v ≡ w) × (Some a ≡ Some b)).
      subst (λ (x : ℕ). Going nodes s.tasks s.records x b) (sym mine.0) (subst (λ (x : Activity). Going nodes s.tasks s.records w x) (some_one mine.1) going))
      (λ (other : (v ≢ w) × (s.activities v ≡ Some b)). kept.going v b other.1)
      (put_was s.activities w v (Some a) (Some b) is);
  shut = λ u v b f n is fin above holds.
      ⊎_elim
      (λ (mine : (u ≡ w) × (Some a ≡ Some b)).
      let done = subst (λ (x : Activity). IsAmong f (finished x.stage)) (sym (some_one mine.1)) fin in
      let apart : IsApartBelow nodes (record_effect a.purpose) n =
      ⊎_elim
      (λ (holder : (v ≡ w) × IsAmong n (held a.stage)). (own f n done above).0 holder.1)
      (λ (holder : (v ≢ w) × HoldsNode s.activities v n). (own f n done above).1 v holder.0 holder.1)
      (Holds-put s.activities w v n a holds) in
      subst (λ (x : Activity). IsApartBelow nodes (record_effect x.purpose) n) (some_one mine.1) apart)
      (λ (other : (u ≢ w) × (s.activities u ≡ Some b)).
      ⊎_elim
      (λ (holder : (v ≡ w) × IsAmong n (held a.stage)).
      ⊎_elim
      (λ was. kept.shut u w b f n other.1 fin above was)
      (λ fresh. fresh.clear u b f other.1 fin above)
      (new n holder.1))
      (λ (holder : (v ≢ w) × HoldsNode s.activities v n). kept.shut u v b f n other.1 fin above holder.1)
      (Holds-put s.activities w v n a holds))
      (put_was s.activities w u (Some a) (Some b) is);
}

pub put_none_keeps : (nodes : List (List Elem)) (s : State) (w : ℕ) → Kept nodes s → Kept nodes (with_activity s w None)
put_none_keeps nodes s w kept = record {
  given = kept.given;
  home = kept.home;
  pairs = kept.pairs;
  full = kept.full;
  born = kept.born;
  owner = λ u v n hu hv. kept.owner u v n (Holds-put_none s.activities w u n hu) (Holds-put_none s.activities w v n hv);
  going = λ v b is.
      ⊎_elim
      (λ (mine : (v ≡ w) × (None ≡ Some b)). absurd (not_some mine.1))
      (λ (other : (v ≢ w) × (s.activities v ≡ Some b)). kept.going v b other.1)
      (put_was s.activities w v None (Some b) is);
  shut = λ u v b f n is fin above holds.
      ⊎_elim
      (λ (mine : (u ≡ w) × (None ≡ Some b)). absurd (not_some mine.1))
      (λ (other : (u ≢ w) × (s.activities u ≡ Some b)). kept.shut u v b f n other.1 fin above (Holds-put_none s.activities w v n holds))
      (put_was s.activities w u None (Some b) is);
}
