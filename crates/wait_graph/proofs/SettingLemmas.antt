-- What the waits, the spawn edges and their chains are once a task's wait was set, once it is done, and once it was joined.
use Rattle.std.proofs.Common.{◌≡◌, ◌≢◌, ℕ, ◌<◌, ◌↔◌, true, false, List, length, Option, Some, None, refl, sym, ap, subst, ◌∙◌, ◌⊎◌, inl, inr, ⊎_elim}
use Rattle.std.proofs.Math.Seq.{set_out}
use Rattle.std.proofs.lemmas.Bool.{cases_eq, cases_lt, cases_Bool, false≢true, false_from_ne_true}
use Rattle.wait_graph.specs.declared.tasks.Link.{Link}
use Rattle.wait_graph.specs.Link.{link_of, with_wait, with_done, with_joined}
use Rattle.wait_graph.specs.Waiting.{WaitsFor, WaitsForNobody, WaitsOn, IsDone, WaitsOnUnlessDone, SpawnedBy, DescendsFrom, YieldsTo}
use Rattle.wait_graph.specs.Chain.{none}
use Rattle.wait_graph.proofs.ChainLemmas.{Chain-stays, Chain-map, Chain-around, Chain-apart}
use Rattle.wait_graph.proofs.LinkLemmas.{link_of-set_same, link_of-set_other, kept_by_set}
use Rattle.wait_graph.proofs.WaitingLemmas.{WaitsFor-same, WaitsOn-same, WaitsOnUnlessDone-same, SpawnedBy-same, DescendsFrom-same}

-- a wait that is set

done-with_wait : (links : List Link) (t : ℕ) (on : Option ℕ) (x : ℕ) → (link_of (with_wait links t on) x).done ≡ (link_of links x).done
done-with_wait links t on = kept_by_set (λ link. link.done) links t (record (link_of links t) { waits = on }) refl

pub IsDone-with_wait : (links : List Link) (t u : ℕ) (on : Option ℕ) → IsDone (with_wait links t on) u ↔ IsDone links u
IsDone-with_wait links t u on = (λ d. sym (done-with_wait links t on u) ∙ d, λ d. done-with_wait links t on u ∙ d)

pub WaitsFor-with_wait_other : (links : List Link) (t s u : ℕ) (on : Option ℕ) → s ≢ t → WaitsFor (with_wait links t on) s u ↔ WaitsFor links s u
WaitsFor-with_wait_other links t s u on other =
    let waits = ap (λ link. link.waits) (link_of-set_other links t (record (link_of links t) { waits = on }) s other) in
    let done = done-with_wait links t on u in (
      λ w. record { waits = sym waits ∙ w.waits; undone = sym done ∙ w.undone },
      λ w. record { waits = waits ∙ w.waits; undone = done ∙ w.undone },
    )

pub WaitsFor-with_wait_same : (links : List Link) (t u : ℕ) (on : Option ℕ) → t < length links → WaitsFor (with_wait links t on) t u ↔ ((on ≡ Some u) × ¬ IsDone links u)
WaitsFor-with_wait_same links t u on there =
    let waits = ap (λ link. link.waits) (link_of-set_same links t (record (link_of links t) { waits = on }) there) in
    let done = done-with_wait links t on u in (
      λ w. (sym waits ∙ w.waits, λ d. false≢true (sym w.undone ∙ done ∙ d)),
      λ h. record { waits = waits ∙ h.0; undone = done ∙ false_from_ne_true _ h.1 },
    )

pub SpawnedBy-with_wait : (links : List Link) (t c p : ℕ) (on : Option ℕ) → SpawnedBy (with_wait links t on) c p ↔ SpawnedBy links c p
SpawnedBy-with_wait links t c p on =
    let link : Link = record (link_of links t) { waits = on } in
    SpawnedBy-same (kept_by_set (λ l. l.parent) links t link refl) (kept_by_set (λ l. l.joined) links t link refl) c p

pub DescendsFrom-with_wait : (links : List Link) (t c u : ℕ) (on : Option ℕ) → DescendsFrom (with_wait links t on) c u ↔ DescendsFrom links c u
DescendsFrom-with_wait links t c u on = DescendsFrom-same (λ x y. SpawnedBy-with_wait links t x y on) c u

-- who waits for somebody is another than t, which waits for nobody
keeps_waits : (links : List Link) (t : ℕ) (on : Option ℕ) → WaitsForNobody links t → (x y : ℕ) → WaitsFor links x y → WaitsFor (with_wait links t on) x y
keeps_waits links t on nobody x y w =
    (WaitsFor-with_wait_other links t x y on (λ e. nobody y (subst (λ (z : ℕ). WaitsFor links z y) e w))).1 w

pub WaitsOn-with_wait : (links : List Link) (t s u : ℕ) (on : Option ℕ) → WaitsForNobody links t → WaitsOn links s u → WaitsOn (with_wait links t on) s u
WaitsOn-with_wait links t s u on nobody = Chain-map (keeps_waits links t on nobody)

pub WaitsOnUnlessDone-with_wait : (links : List Link) (t s u : ℕ) (on : Option ℕ) → WaitsForNobody links t → WaitsOnUnlessDone links s u → WaitsOnUnlessDone (with_wait links t on) s u
WaitsOnUnlessDone-with_wait links t s u on nobody (inl chain) = inl (WaitsOn-with_wait links t s u on nobody chain)
WaitsOnUnlessDone-with_wait links t s u on nobody (inr done) = inr ((IsDone-with_wait links t u on).1 done)

pub YieldsTo-with_wait : (links : List Link) (t s c : ℕ) (on : Option ℕ) → WaitsForNobody links t → YieldsTo links s c → YieldsTo (with_wait links t on) s c
YieldsTo-with_wait links t s c on nobody yield =
    (yield.0, WaitsOn-with_wait links t s yield.0 on nobody yield.1, (DescendsFrom-with_wait links t c yield.0 on).1 yield.2)

-- a wait that was taken away was one of the links before
had_wait : (links : List Link) (t x y : ℕ) → WaitsFor (with_wait links t None) x y → WaitsFor links x y
had_wait links t x y w =
    let link : Link = record (link_of links t) { waits = None } in
    ⊎_elim
    (λ e.
    ⊎_elim
    (λ there.
    let waits = ap (λ l. l.waits) (link_of-set_same links t link there) in
    let own = subst (λ (z : ℕ). WaitsFor (with_wait links t None) z y) e w in
    let wait = own.waits in
    cc)
    (λ past. subst (λ (ls : List Link). WaitsFor ls x y) (set_out links t link past) w)
    (cases_lt t (length links)))
    (λ other. (WaitsFor-with_wait_other links t x y None other).0 w)
    (cases_eq x t)

pub WaitsOn-without_wait : (links : List Link) (t s u : ℕ) → WaitsForNobody links t → WaitsOn (with_wait links t None) s u ↔ WaitsOn links s u
WaitsOn-without_wait links t s u nobody = (Chain-map (had_wait links t), WaitsOn-with_wait links t s u None nobody)

-- a task that is done

waits-with_done : (links : List Link) (t x : ℕ) → (link_of (with_done links t) x).waits ≡ (link_of links x).waits
waits-with_done links t = kept_by_set (λ link. link.waits) links t (record (link_of links t) { done = true }) refl

done-with_done_same : (links : List Link) (t : ℕ) → t < length links → IsDone (with_done links t) t
done-with_done_same links t there = ap (λ link. link.done) (link_of-set_same links t (record (link_of links t) { done = true }) there)

done-with_done_other : (links : List Link) (t x : ℕ) → x ≢ t → (link_of (with_done links t) x).done ≡ (link_of links x).done
done-with_done_other links t x other = ap (λ link. link.done) (link_of-set_other links t (record (link_of links t) { done = true }) x other)

-- what isn't done then wasn't done before
undone_before : (links : List Link) (t x : ℕ) → (link_of (with_done links t) x).done ≡ false → (link_of links x).done ≡ false
undone_before links t x undone =
    ⊎_elim
    (λ e.
    ⊎_elim
    (λ there. absurd (false≢true (sym undone ∙ subst (λ (z : ℕ). IsDone (with_done links t) z) (sym e) (done-with_done_same links t there))))
    (λ past. subst (λ (ls : List Link). (link_of ls x).done ≡ false) (set_out links t (record (link_of links t) { done = true }) past) undone)
    (cases_lt t (length links)))
    (λ other. sym (done-with_done_other links t x other) ∙ undone)
    (cases_eq x t)

pub IsDone-with_done : (links : List Link) (t u : ℕ) → t < length links → IsDone (with_done links t) u ↔ ((u ≡ t) ⊎ IsDone links u)
IsDone-with_done links t u there = (
  λ d. ⊎_elim (λ e. inl e) (λ other. inr (sym (done-with_done_other links t u other) ∙ d)) (cases_eq u t),
  λ h.
      ⊎_elim
      (λ e. subst (λ (z : ℕ). IsDone (with_done links t) z) (sym e) (done-with_done_same links t there))
      (λ d. ⊎_elim (λ yes. yes) (λ no. absurd (false≢true (sym (undone_before links t u no) ∙ d))) (cases_Bool (link_of (with_done links t) u).done))
      h,
)

had_undone_wait : (links : List Link) (t x y : ℕ) → WaitsFor (with_done links t) x y → WaitsFor links x y
had_undone_wait links t x y w = record { waits = sym (waits-with_done links t x) ∙ w.waits; undone = undone_before links t y w.undone }

has_undone_wait : (links : List Link) (t x y : ℕ) → y ≢ t → WaitsFor links x y → WaitsFor (with_done links t) x y
has_undone_wait links t x y other w =
    record { waits = waits-with_done links t x ∙ w.waits; undone = done-with_done_other links t y other ∙ w.undone }

pub WaitsFor-with_done : (links : List Link) (t s u : ℕ) → t < length links → WaitsFor (with_done links t) s u ↔ (WaitsFor links s u × (u ≢ t))
WaitsFor-with_done links t s u there = (
  λ w. (had_undone_wait links t s u w, λ e. false≢true (sym w.undone ∙ subst (λ (z : ℕ). IsDone (with_done links t) z) (sym e) (done-with_done_same links t there))),
  λ h. has_undone_wait links t s u h.1 h.0,
)

pub SpawnedBy-with_done : (links : List Link) (t c p : ℕ) → SpawnedBy (with_done links t) c p ↔ SpawnedBy links c p
SpawnedBy-with_done links t c p =
    let link : Link = record (link_of links t) { done = true } in
    SpawnedBy-same (kept_by_set (λ l. l.parent) links t link refl) (kept_by_set (λ l. l.joined) links t link refl) c p

pub DescendsFrom-with_done : (links : List Link) (t c u : ℕ) → DescendsFrom (with_done links t) c u ↔ DescendsFrom links c u
DescendsFrom-with_done links t c u = DescendsFrom-same (λ x y. SpawnedBy-with_done links t x y) c u

pub WaitsOn-with_done : (links : List Link) (t s u : ℕ) → WaitsForNobody links t → u ≢ t → WaitsOn (with_done links t) s u ↔ WaitsOn links s u
WaitsOn-with_done links t s u nobody other = (Chain-map (had_undone_wait links t), Chain-around nobody (has_undone_wait links t) other)

pub WaitsOnUnlessDone-with_done : (links : List Link) (t s u : ℕ) → t < length links → WaitsForNobody links t → WaitsOnUnlessDone links s u → WaitsOnUnlessDone (with_done links t) s u
WaitsOnUnlessDone-with_done links t s u there nobody (inl chain) =
    ⊎_elim
    (λ e. inr ((IsDone-with_done links t u there).1 (inl e)))
    (λ other. inl ((WaitsOn-with_done links t s u nobody other).1 chain))
    (cases_eq u t)
WaitsOnUnlessDone-with_done links t s u there nobody (inr done) = inr ((IsDone-with_done links t u there).1 (inr done))

pub YieldsTo-with_done : (links : List Link) (t s c : ℕ) → WaitsForNobody links t → ¬ DescendsFrom links c t → YieldsTo (with_done links t) s c ↔ YieldsTo links s c
YieldsTo-with_done links t s c nobody apart = (
  λ y. (y.0, Chain-map (had_undone_wait links t) y.1, (DescendsFrom-with_done links t c y.0).0 y.2),
  λ y. (
    y.0,
    (WaitsOn-with_done links t s y.0 nobody (λ e. apart (subst (λ (z : ℕ). DescendsFrom links c z) e y.2))).1 y.1,
    (DescendsFrom-with_done links t c y.0).1 y.2,
  ),
)

-- a task that was joined

pub WaitsFor-with_joined : (links : List Link) (t s u : ℕ) → WaitsFor (with_joined links t) s u ↔ WaitsFor links s u
WaitsFor-with_joined links t s u =
    let link : Link = record (link_of links t) { joined = true } in
    WaitsFor-same (kept_by_set (λ l. l.waits) links t link refl) (kept_by_set (λ l. l.done) links t link refl) s u

pub WaitsOn-with_joined : (links : List Link) (t s u : ℕ) → WaitsOn (with_joined links t) s u ↔ WaitsOn links s u
WaitsOn-with_joined links t s u = WaitsOn-same (λ x y. WaitsFor-with_joined links t x y) s u

pub WaitsOnUnlessDone-with_joined : (links : List Link) (t s u : ℕ) → WaitsOnUnlessDone (with_joined links t) s u ↔ WaitsOnUnlessDone links s u
WaitsOnUnlessDone-with_joined links t s u =
    let link : Link = record (link_of links t) { joined = true } in
    WaitsOnUnlessDone-same (kept_by_set (λ l. l.waits) links t link refl) (kept_by_set (λ l. l.done) links t link refl) s u

pub IsDone-with_joined : (links : List Link) (t u : ℕ) → IsDone (with_joined links t) u ↔ IsDone links u
IsDone-with_joined links t u =
    let same = kept_by_set (λ link. link.done) links t (record (link_of links t) { joined = true }) refl u in
    (λ d. sym same ∙ d, λ d. same ∙ d)

parent-with_joined : (links : List Link) (t x : ℕ) → (link_of (with_joined links t) x).parent ≡ (link_of links x).parent
parent-with_joined links t = kept_by_set (λ link. link.parent) links t (record (link_of links t) { joined = true }) refl

joined-with_joined_same : (links : List Link) (t : ℕ) → t < length links → (link_of (with_joined links t) t).joined ≡ true
joined-with_joined_same links t there = ap (λ link. link.joined) (link_of-set_same links t (record (link_of links t) { joined = true }) there)

joined-with_joined_other : (links : List Link) (t x : ℕ) → x ≢ t → (link_of (with_joined links t) x).joined ≡ (link_of links x).joined
joined-with_joined_other links t x other = ap (λ link. link.joined) (link_of-set_other links t (record (link_of links t) { joined = true }) x other)

was_joined : (links : List Link) (t c p : ℕ) → t < length links → SpawnedBy (with_joined links t) c p → c ≢ t
was_joined links t c p there w e =
    false≢true (sym w.unjoined ∙ subst (λ (z : ℕ). (link_of (with_joined links t) z).joined ≡ true) (sym e) (joined-with_joined_same links t there))

-- what is unjoined then was unjoined before
had_parent : (links : List Link) (t c p : ℕ) → SpawnedBy (with_joined links t) c p → SpawnedBy links c p
had_parent links t c p w =
    ⊎_elim
    (λ e.
    ⊎_elim
    (λ there. absurd (was_joined links t c p there w e))
    (λ past. subst (λ (ls : List Link). SpawnedBy ls c p) (set_out links t (record (link_of links t) { joined = true }) past) w)
    (cases_lt t (length links)))
    (λ other. record { parent = sym (parent-with_joined links t c) ∙ w.parent; unjoined = sym (joined-with_joined_other links t c other) ∙ w.unjoined })
    (cases_eq c t)

has_parent : (links : List Link) (t c p : ℕ) → c ≢ t → SpawnedBy links c p → SpawnedBy (with_joined links t) c p
has_parent links t c p other w =
    record { parent = parent-with_joined links t c ∙ w.parent; unjoined = joined-with_joined_other links t c other ∙ w.unjoined }

pub SpawnedBy-with_joined : (links : List Link) (t c p : ℕ) → t < length links → SpawnedBy (with_joined links t) c p ↔ (SpawnedBy links c p × (c ≢ t))
SpawnedBy-with_joined links t c p there =
    (λ w. (had_parent links t c p w, was_joined links t c p there w), λ h. has_parent links t c p h.1 h.0)

pub DescendsFrom-with_joined : (links : List Link) (t c u : ℕ) → ¬ DescendsFrom links c t → DescendsFrom (with_joined links t) c u ↔ DescendsFrom links c u
DescendsFrom-with_joined links t c u apart = (Chain-map (had_parent links t), Chain-apart (has_parent links t) apart)

pub YieldsTo-with_joined : (links : List Link) (t s c : ℕ) → ¬ DescendsFrom links c t → YieldsTo (with_joined links t) s c ↔ YieldsTo links s c
YieldsTo-with_joined links t s c apart = (
  λ y. (y.0, (WaitsOn-with_joined links t s y.0).0 y.1, (DescendsFrom-with_joined links t c y.0 apart).0 y.2),
  λ y. (y.0, (WaitsOn-with_joined links t s y.0).1 y.1, (DescendsFrom-with_joined links t c y.0 apart).1 y.2),
)

pub YieldsTo-joined : (links : List Link) (t s : ℕ) → t < length links → YieldsTo (with_joined links t) s t ↔ WaitsOn links s t
YieldsTo-joined links t s there = (
  λ y.
      (WaitsOn-with_joined links t s t).0
      (subst (λ (x : ℕ). WaitsOn (with_joined links t) s x) (sym (Chain-stays (λ p w. was_joined links t t p there w refl) y.2)) y.1),
  λ w. (t, (WaitsOn-with_joined links t s t).1 w, none),
)
