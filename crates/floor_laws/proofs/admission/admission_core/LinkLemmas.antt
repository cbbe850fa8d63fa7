-- What a segment does to who yields to whom: nothing ends between tasks that are live after it.
use Rattle.std.proofs.Common.{◌≡◌, ◌≢◌, ℕ, true, ◌++◌, List, [], ◌∷◌, length, Option, Some, None, refl, sym, ap, subst, ◌∙◌, inl, inr, ⊎_elim}
use Rattle.std.proofs.Math.Seq.{set_out}
use Rattle.std.proofs.lemmas.Bool.{cases_lt}
use Rattle.wait_graph.specs.declared.tasks.Link.{Link}
use Rattle.wait_graph.specs.Link.{link_of, new_link, with_wait, with_joined}
use Rattle.wait_graph.specs.Waiting.{SpawnedBy, WaitsFor, WaitsForNobody, DescendsFrom, YieldsTo}
use Rattle.wait_graph.proofs.ChainLemmas.{Chain-arrives, Chain-map}
use Rattle.wait_graph.proofs.SettingLemmas.{WaitsFor-with_wait_same, SpawnedBy-with_wait, YieldsTo-with_wait, SpawnedBy-with_done, YieldsTo-with_done, WaitsFor-with_joined, SpawnedBy-with_joined, YieldsTo-with_joined}
use Rattle.wait_graph.proofs.AddingLemmas.{WaitsOn-added, SpawnedBy-added}
use Rattle.floor_laws.specs.admission.admission_core.Tasks.{Task, Tasks, Status, Made, Enabled, Done, Faulted, IsLiveStatus, TaskHasStatus, IsLive}
use Rattle.floor_laws.specs.admission.admission_core.Conditions.{MeetsConditions, HasRunBefore}
use Rattle.floor_laws.specs.admission.admission_core.Entries.{IsJoined, links_joined, links_ended}
use Rattle.floor_laws.proofs.admission.admission_core.FamilyLemmas.{one_task}
use Rattle.floor_laws.proofs.admission.admission_core.PutLemmas.{not_some}

done_enabled : Done ≡ Enabled → ⊥
done_enabled h = cc

done_faulted : Done ≡ Faulted → ⊥
done_faulted h = cc

pub done_not_run : (ts : Tasks) (t : ℕ) → TaskHasStatus ts t Done → HasRunBefore ts t → ⊥
done_not_run ts t d (inl e) = done_enabled (sym d.2 ∙ ap (λ (x : Task). x.status) (one_task ts t d.0 e.0 d.1 e.1) ∙ e.2)
done_not_run ts t d (inr f) = done_faulted (sym d.2 ∙ ap (λ (x : Task). x.status) (one_task ts t d.0 f.0 d.1 f.1) ∙ f.2)

pub done_not_live : (ts : Tasks) (t : ℕ) → TaskHasStatus ts t Done → IsLive ts t → ⊥
done_not_live ts t d l =
    subst IsLiveStatus (sym (ap (λ (x : Task). x.status) (one_task ts t d.0 l.0 d.1 l.1)) ∙ d.2) l.2

-- nobody but itself descends from a task that is done
done_childless : (ts : Tasks) → MeetsConditions ts → (c u : ℕ) → TaskHasStatus ts c Done → DescendsFrom ts.links u c → u ≡ c
done_childless ts given c u done chain = Chain-arrives (λ x w. done_not_run ts c done (given.parent x c w)) chain

without_wait : (links : List Link) (t : ℕ) → WaitsForNobody links t → WaitsForNobody (with_wait links t None) t
without_wait links t nobody x w =
    ⊎_elim
    (λ there. not_some ((WaitsFor-with_wait_same links t x None there).0 w).0)
    (λ past. nobody x (subst (λ (ls : List Link). WaitsFor ls t x) (set_out links t (record (link_of links t) { waits = None }) past) w))
    (cases_lt t (length links))

joined_spawned : (links : List Link) (c x p : ℕ) → x ≢ c → SpawnedBy links x p → SpawnedBy (with_joined links c) x p
joined_spawned links c x p other w =
    ⊎_elim
    (λ there. (SpawnedBy-with_joined links c x p there).1 (w, other))
    (λ past. subst (λ (ls : List Link). SpawnedBy ls x p) (sym (set_out links c (record (link_of links c) { joined = true }) past)) w)
    (cases_lt c (length links))

module _ (ts : Tasks) (given : MeetsConditions ts) (t : ℕ) (nobody : WaitsForNobody ts.links t) where
  joined_nobody : (joins : Option ℕ) → WaitsForNobody (links_joined ts.links joins) t
  joined_nobody None = nobody
  joined_nobody (Some c) = λ x w. nobody x ((WaitsFor-with_joined ts.links c t x).0 w)

  joined_yields : (joins : Option ℕ) → IsJoined ts joins → (q u : ℕ) → IsLive ts u → YieldsTo ts.links q u → YieldsTo (links_joined ts.links joins) q u
  joined_yields None joined q u live yield = yield
  joined_yields (Some c) joined q u live yield =
      (YieldsTo-with_joined ts.links c q u
      (λ chain. done_not_live ts c joined (subst (λ (x : ℕ). IsLive ts x) (done_childless ts given c u joined chain) live))).1
      yield

  joined_keeps : (joins : Option ℕ) → IsJoined ts joins → (x p : ℕ) → IsLive ts x → SpawnedBy ts.links x p → SpawnedBy (links_joined ts.links joins) x p
  joined_keeps None joined x p live w = w
  joined_keeps (Some c) joined x p live w =
      joined_spawned ts.links c x p (λ same. done_not_live ts c joined (subst (λ (y : ℕ). IsLive ts y) same live)) w

  module _ (joins waits : Option ℕ) (joined : IsJoined ts joins) where
    abbrev mid : List Link
    mid = with_wait (links_joined ts.links joins) t waits

    pub segment_yields : (q u : ℕ) → IsLive ts u → YieldsTo ts.links q u → YieldsTo (with_wait (links_joined ts.links joins) t waits) q u
    segment_yields q u live yield =
        YieldsTo-with_wait (links_joined ts.links joins) t q u waits (joined_nobody joins) (joined_yields joins joined q u live yield)

    pub segment_spawned : (x p : ℕ) → IsLive ts x → SpawnedBy ts.links x p → SpawnedBy (with_wait (links_joined ts.links joins) t waits) x p
    segment_spawned x p live w =
        (SpawnedBy-with_wait (links_joined ts.links joins) t x p waits).1 (joined_keeps joins joined x p live w)

    pub ended_spawned : (status : Status) (x p : ℕ) → SpawnedBy mid x p → SpawnedBy (links_ended status mid t) x p
    ended_spawned Made x p w = w
    ended_spawned Enabled x p w = w
    ended_spawned Done x p w = (SpawnedBy-with_done mid t x p).1 w
    ended_spawned Faulted x p w = w

    -- once t is done, what yields to a task that is live then goes on to
    pub ended_yields : (status : Status) (after : Tasks) → MeetsConditions after → after.links ≡ links_ended status mid t
        → TaskHasStatus after t status → (status ≡ Done → waits ≡ None) → (q u : ℕ) → IsLive after u → YieldsTo mid q u
        → YieldsTo (links_ended status mid t) q u
    ended_yields Made after given' links is last q u live yield = yield
    ended_yields Enabled after given' links is last q u live yield = yield
    ended_yields Faulted after given' links is last q u live yield = yield
    ended_yields Done after given' links is last q u live yield =
        (YieldsTo-with_done mid t q u
        (subst (λ (x : Option ℕ). WaitsForNobody (with_wait (links_joined ts.links joins) t x) t) (sym (last refl))
        (without_wait (links_joined ts.links joins) t (joined_nobody joins)))
        (λ chain.
        let same = Chain-arrives (λ x w. done_not_run after t is (given'.parent x t (subst (λ (ls : List Link). SpawnedBy ls x t) (sym links) ((SpawnedBy-with_done mid t x t).1 w)))) chain in
        done_not_live after t is (subst (λ (x : ℕ). IsLive after x) same live))).1
        yield

pub added_yields : (links : List Link) (parent : Option ℕ) (q u : ℕ) → YieldsTo links q u → YieldsTo (links ++ new_link parent ∷ []) q u
added_yields links parent q u yield =
    (yield.0, (WaitsOn-added links parent q yield.0).1 yield.1, Chain-map (λ x y w. (SpawnedBy-added links parent x y).1 (inl w)) yield.2)

pub added_spawned : (links : List Link) (parent : Option ℕ) (x p : ℕ) → SpawnedBy links x p → SpawnedBy (links ++ new_link parent ∷ []) x p
added_spawned links parent x p w = (SpawnedBy-added links parent x p).1 (inl w)
