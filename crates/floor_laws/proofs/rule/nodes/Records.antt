-- Contents, and what the seats know, once the records at one node have changed.
use Rattle.std.proofs.Common.{◌≡◌, ◌≢◌, ◌↔◌, ◌&&◌, ℕ, Bool, true, false, List, [], ◌∷◌, Option, Some, None, if◌then◌else◌, refl, sym, ap, subst, ◌∙◌, inl, inr, ⊎_elim, eq-eqb}
use Rattle.std.specs.Prelude.{◌==◌}
use Rattle.machine_state.specs.declared.state.State.{State}
use Rattle.floor_laws.specs.rule.Fitting.{OneHolder, Turns}
use Rattle.floor_laws.specs.rule.Floors.{put}
use Rattle.floor_laws.proofs.rule.Puts.{put_all, put_here, put_was}
use Rattle.floor_laws.specs.admission.admission_core.States.{HoldsNode, IsAmong, Record}
use Rattle.floor_laws.specs.rule.nodes.Fitting.{Activities, AreRecordsAt, ContentFits, ContentsFit, HasTurn, KeptFits, KnowledgeFits}
use Rattle.floor_laws.specs.rule.nodes.RecordSteps.{IsWithout, not_clear}
use Rattle.floor_laws.specs.rule.nodes.Trees.{WaitFact, put_kept}
use Rattle.floor_laws.proofs.rule.nodes.Holding.{kept_all}

-- The records at nodes other than n are as before, and seat i, which holds n, has the new ones.
module _ (activities : Activities) (contents : ℕ → Option (List Record)) (kept : ℕ → ℕ → Option (List Record)) (before after : List Record)
    (fit : ContentsFit before activities contents kept) (i n : ℕ) (content : List Record) (holds : HoldsNode activities i n)
    (alone : (j : ℕ) → HoldsNode activities j n → j ≡ i) (same : (r : Record) → r.node ≢ n → IsAmong r before ↔ IsAmong r after)
    (here : AreRecordsAt after n content) where
  at_else : (m : ℕ) (records : List Record) → m ≢ n → AreRecordsAt before m records → AreRecordsAt after m records
  at_else m records other are r = (
    λ among. let was = (are r).0 among in ((same r (λ at. other (sym was.1 ∙ at))).0 was.0, was.1),
    λ now. (are r).1 ((same r (λ at. other (sym now.1 ∙ at))).1 now.0, now.1),
  )

  home_else : (m : ℕ) (x : Option (List Record)) → ContentFits before activities m x → ContentFits after activities m x
  home_else m None by = by
  home_else m (Some records) h = (h.0, at_else m records (λ at. h.0 i (subst (λ (y : ℕ). HoldsNode activities i y) (sym at) holds)) h.1)

  kept_else : (j m : ℕ) → (j ≡ i → m ≢ n) → (x : Option (List Record)) → KeptFits before activities j m x → KeptFits after activities j m x
  kept_else j m apart None h = h
  kept_else j m apart (Some records) h =
      (h.0, at_else m records (λ at. apart (alone j (subst (λ (y : ℕ). HoldsNode activities j y) at h.0)) at) h.1)

  pub contents_changed : ContentsFit after activities contents (put_kept kept i n (Some content))
  contents_changed = record {
    homes = λ m. home_else m (contents m) (fit.homes m);
    out = kept_all (KeptFits after activities) kept i n (Some content) (holds, here) (λ j m apart. kept_else j m apart (kept j m) (fit.out j m));
  }

-- A record that was placed.

pub at_placed : (standing content : List Record) (r : Record) → AreRecordsAt standing r.node content → AreRecordsAt (r ∷ standing) r.node (r ∷ content)
at_placed standing content r are x = (
  λ among.
      ⊎_elim
      (λ (is : x ≡ r). (inl is, ap (λ (y : Record). y.node) is))
      (λ (rest : IsAmong x content). (inr ((are x).0 rest).0, ((are x).0 rest).1))
      among,
  λ pair.
      ⊎_elim
      (λ (is : x ≡ r). inl is)
      (λ (rest : IsAmong x standing). inr ((are x).1 (rest, pair.1)))
      pair.0,
)

pub else_placed : (standing : List Record) (r : Record) (x : Record) → x.node ≢ r.node → IsAmong x standing ↔ IsAmong x (r ∷ standing)
else_placed standing r x other = (
  λ among. inr among,
  λ among. ⊎_elim (λ (is : x ≡ r). absurd (other (ap (λ (y : Record). y.node) is))) (λ (rest : IsAmong x standing). rest) among,
)

-- A record that was removed.

pub at_removed : (standing left before content : List Record) (r : Record) → AreRecordsAt standing r.node before → IsWithout r standing left → IsWithout r before content
    → AreRecordsAt left r.node content
at_removed standing left before content r are out others x = (
  λ among.
      let old = (others x).0 among in
      let at = (are x).0 old.0 in
      ((out x).1 (at.0, old.1), at.1),
  λ pair.
      let old = (out x).0 pair.0 in
      (others x).1 ((are x).1 (old.0, pair.1), old.1),
)

pub else_removed : (standing left : List Record) (r : Record) → IsWithout r standing left → (x : Record) → x.node ≢ r.node → IsAmong x standing ↔ IsAmong x left
else_removed standing left r out x other = (
  λ among. (out x).1 (among, λ is. other (ap (λ (y : Record). y.node) is)),
  λ among. ((out x).0 among).0,
)

-- What is not known any more not to stand.

both_true : (m n k l : ℕ) → m ≡ n → k ≡ l → ((m == n) && (k == l)) ≡ true
both_true m n k l first second = ap (λ (b : Bool). b && (k == l)) (eq-eqb m n first) ∙ eq-eqb k l second

module _ (t n : ℕ) where
  still_clear : (b : Bool) (x fact : Record) (facts : List Record) → ((fact.task == t) && (fact.node == n)) ≡ b
      → (IsAmong x (not_clear t n facts) → IsAmong x facts × (x.task ≡ t → x.node ≢ n))
      → IsAmong x (if b then not_clear t n facts else fact ∷ not_clear t n facts) → IsAmong x (fact ∷ facts) × (x.task ≡ t → x.node ≢ n)
  still_clear true x fact facts is rest among = let found = rest among in (inr found.0, found.1)
  still_clear false x fact facts is rest (inl same) = (
    inl same,
    λ task node.
        let hit : ((fact.task == t) && (fact.node == n)) ≡ true =
        both_true fact.task t fact.node n (sym (ap (λ (y : Record). y.task) same) ∙ task) (sym (ap (λ (y : Record). y.node) same) ∙ node) in
        false_true (sym is ∙ hit),
  )
    where
      false_true : false ≡ true → ⊥
      false_true h = cc
  still_clear false x fact facts is rest (inr among) = let found = rest among in (inr found.0, found.1)

  pub clear_among : (x : Record) (facts : List Record) → IsAmong x (not_clear t n facts) → IsAmong x facts × (x.task ≡ t → x.node ≢ n)
  clear_among x [] among = absurd among
  clear_among x (fact ∷ facts) among =
      still_clear ((fact.task == t) && (fact.node == n)) x fact facts refl (clear_among x facts) among

-- What the seats know.
module _ (st : State) (turns : Turns) (one : OneHolder turns) (standing : List Record) (fresh : ℕ → List Record) (clear : ℕ → List Record) (waits : ℕ → List WaitFact)
    (known : KnowledgeFits st turns standing fresh clear waits) (i : ℕ) (r : Record) (turn : HasTurn turns i r.task) where
  fresh_more : (j : ℕ) (x : Record) → IsAmong x (fresh j) → IsAmong x (put fresh i (r ∷ fresh i) j)
  fresh_more j x among =
      put_all (λ (k : ℕ) (xs : List Record). IsAmong x (fresh k) → IsAmong x xs) fresh i (r ∷ fresh i) (λ old. inr old) (λ k other old. old) j among

  pub known_placed : KnowledgeFits st turns (r ∷ standing) (put fresh i (r ∷ fresh i)) (put clear i (not_clear r.task r.node (clear i))) waits
  known_placed = record {
    owned = λ x row among there other.
        ⊎_elim
        (λ (is : x ≡ r). (
          i,
          subst (λ (y : Record). HasTurn turns i y.task) (sym is) turn,
          λ made. subst (λ (xs : List Record). IsAmong x xs) (sym (put_here fresh i (r ∷ fresh i))) (inl is),
        ))
        (λ (rest : IsAmong x standing).
        let old = known.owned x row rest there other in
        (old.0, old.1, λ made. fresh_more old.0 x (old.2 made)))
        among;
    first_fresh = λ j x other among at first.
        ⊎_elim
        (λ (is : x ≡ r).
        let mine : HasTurn turns i x.task = subst (λ (y : Record). HasTurn turns i y.task) (sym is) turn in
        let seat : j ≡ i = one j i x.task other mine.0 at mine.1 in
        subst (λ (k : ℕ). IsAmong x (put fresh i (r ∷ fresh i) k)) (sym seat) (subst (λ (xs : List Record). IsAmong x xs) (sym (put_here fresh i (r ∷ fresh i))) (inl is)))
        (λ (rest : IsAmong x standing). fresh_more j x (known.first_fresh j x other rest at first))
        among;
    fresh_stand = λ j x among.
        ⊎_elim
        (λ (own : (j ≡ i) × (r ∷ fresh i ≡ put fresh i (r ∷ fresh i) j)).
        ⊎_elim
        (λ (is : x ≡ r). (
          inl is,
          subst (λ (k : ℕ). HasTurn turns k x.task) (sym own.0) (subst (λ (y : Record). HasTurn turns i y.task) (sym is) turn),
        ))
        (λ (rest : IsAmong x (fresh i)).
        let old = known.fresh_stand i x rest in
        (inr old.0, subst (λ (k : ℕ). HasTurn turns k x.task) (sym own.0) old.1))
        (subst (λ (xs : List Record). IsAmong x xs) (sym own.1) among))
        (λ (other : (j ≢ i) × (fresh j ≡ put fresh i (r ∷ fresh i) j)).
        let old = known.fresh_stand j x (subst (λ (xs : List Record). IsAmong x xs) (sym other.1) among) in
        (inr old.0, old.1))
        (put_was fresh i j (r ∷ fresh i) (put fresh i (r ∷ fresh i) j) refl);
    clear_are = λ j fact among.
        ⊎_elim
        (λ (own : (j ≡ i) × (not_clear r.task r.node (clear i) ≡ put clear i (not_clear r.task r.node (clear i)) j)).
        let found = clear_among r.task r.node fact (clear i) (subst (λ (xs : List Record). IsAmong fact xs) (sym own.1) among) in
        let old = known.clear_are i fact found.0 in (
          subst (λ (k : ℕ). HasTurn turns k fact.task) (sym own.0) old.0,
          λ stands.
              ⊎_elim
              (λ (is : fact ≡ r). found.1 (ap (λ (y : Record). y.task) is) (ap (λ (y : Record). y.node) is))
              (λ (rest : IsAmong fact standing). old.1 rest)
              stands,
        ))
        (λ (other : (j ≢ i) × (clear j ≡ put clear i (not_clear r.task r.node (clear i)) j)).
        let old = known.clear_are j fact (subst (λ (xs : List Record). IsAmong fact xs) (sym other.1) among) in (
          old.0,
          λ stands.
              ⊎_elim
              (λ (is : fact ≡ r).
              let mine : HasTurn turns i fact.task = subst (λ (u : ℕ). HasTurn turns i u) (sym (ap (λ (y : Record). y.task) is)) turn in
              other.0 (one j i fact.task old.0.0 mine.0 old.0.1 mine.1))
              (λ (rest : IsAmong fact standing). old.1 rest)
              stands,
        ))
        (put_was clear i j (not_clear r.task r.node (clear i)) (put clear i (not_clear r.task r.node (clear i)) j) refl);
    waits_hold = known.waits_hold;
  }

  module _ (left less : List Record) (out : IsWithout r standing left) (others : IsWithout r (fresh i) less) where
    -- a record that seat j has placed is another one if it is not at seat i
    fresh_apart : (j : ℕ) (x : Record) → j ≢ i → IsAmong x (fresh j) → x ≢ r
    fresh_apart j x differ among is =
        let mine = subst (λ (y : Record). HasTurn turns i y.task) (sym is) turn in
        let theirs = (known.fresh_stand j x among).1 in
        differ (one j i x.task theirs.0 mine.0 theirs.1 mine.1)

    fresh_less : (j : ℕ) (x : Record) → x ≢ r → IsAmong x (fresh j) → IsAmong x (put fresh i less j)
    fresh_less j x apart among =
        put_all (λ (k : ℕ) (xs : List Record). IsAmong x (fresh k) → IsAmong x xs) fresh i less (λ old. (others x).1 (old, apart)) (λ k other old. old) j among

    -- what a seat knew not to stand does not stand, and neither does the record
    clear_left : (j : ℕ) (x : Record) → IsAmong x (clear j) → HasTurn turns j x.task × (¬ IsAmong x left)
    clear_left j x among =
        let old = known.clear_are j x among in
        (old.0, λ stands. old.1 ((out x).0 stands).0)

    clear_now : (x : Record) → IsAmong x (r ∷ clear i) → HasTurn turns i x.task × (¬ IsAmong x left)
    clear_now x among =
        ⊎_elim
        (λ (is : x ≡ r). (subst (λ (y : Record). HasTurn turns i y.task) (sym is) turn, λ stands. ((out x).0 stands).1 is))
        (λ (rest : IsAmong x (clear i)). clear_left i x rest)
        among

    pub known_removed : KnowledgeFits st turns left (put fresh i less) (put clear i (r ∷ clear i)) waits
    known_removed = record {
      owned = λ x row among there other.
          let was = (out x).0 among in
          let old = known.owned x row was.0 there other in
          (old.0, old.1, λ made. fresh_less old.0 x was.1 (old.2 made));
      first_fresh = λ j x other among at first. let was = (out x).0 among in fresh_less j x was.1 (known.first_fresh j x other was.0 at first);
      fresh_stand = λ j x among.
          ⊎_elim
          (λ (own : (j ≡ i) × (less ≡ put fresh i less j)).
          let was = (others x).0 (subst (λ (xs : List Record). IsAmong x xs) (sym own.1) among) in
          let old = known.fresh_stand i x was.0 in
          ((out x).1 (old.0, was.1), subst (λ (k : ℕ). HasTurn turns k x.task) (sym own.0) old.1))
          (λ (other : (j ≢ i) × (fresh j ≡ put fresh i less j)).
          let was : IsAmong x (fresh j) = subst (λ (xs : List Record). IsAmong x xs) (sym other.1) among in
          let old = known.fresh_stand j x was in
          ((out x).1 (old.0, fresh_apart j x other.0 was), old.1))
          (put_was fresh i j less (put fresh i less j) refl);
      clear_are = put_all (λ (j : ℕ) (records : List Record). (x : Record) → IsAmong x records → HasTurn turns j x.task × (¬ IsAmong x left)) clear i (r ∷ clear i) clear_now
          (λ j differ. clear_left j);
      waits_hold = known.waits_hold;
    }
