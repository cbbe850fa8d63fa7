-- A view that learns goes on to know what it knew.
use Rattle.std.proofs.Common.{◌≡◌, ◌≢◌, ◌++◌, ℕ, List, Some, refl, sym, ap, subst, ◌∙◌, inl, inr, ⊎_elim}
use Rattle.twe_base.specs.Limits.{Bounds}
use Rattle.twe_program.specs.Program.{Program}
use Rattle.floor_laws.specs.rule.nodes.Trees.{WaitFact}
use Rattle.floor_laws.specs.table.Added.{HasGrown}
use Rattle.floor_laws.specs.declared.table.nodes.view.Look.{Look}
use Rattle.floor_laws.specs.table.nodes.Chains.{HasFollowedTo}
use Rattle.floor_laws.proofs.table.Added.{added_before, added_then, grown_same, grown_then}
use Rattle.floor_laws.specs.declared.table.view.View.{View}
use Rattle.floor_laws.specs.declared.table.nodes.view.TreeView.{TreeView}
use Rattle.floor_laws.specs.admission.admission_core.States.{IsAmong, Record}
use Rattle.floor_laws.specs.declared.table.view.SeatKind.{SeatKind}
use Rattle.floor_laws.specs.declared.table.view.SeatKind.TheVariants.{Spent}
use Rattle.effect_sets.specs.declared.effects.Effect.{Effect}
use Rattle.floor_laws.specs.rule.nodes.LockSteps.{IsKnownToPass, apart, own, waiting}
use Rattle.tree_admit.specs.declared.bars.Bar.{Bar}
use Rattle.floor_laws.specs.rule.nodes.FactSteps.{IsKnownToWait}
use Rattle.tree_admit.specs.Bars.{IsBarIn, IsBarOf, WasBarred}
use Rattle.tree_admit.specs.Going.{HasOnlyLearned}
use Rattle.tree_admit.specs.inner.Served.{HasOnlyServed}
use Rattle.tree_admit.proofs.Alone.{in_the_way_since}

pub learned_refl : (v : TreeView) → HasOnlyLearned v v
learned_refl v = record { floor = refl; done = λ fact h. h; waits = λ fact h. h; placed = refl; removed = refl; fresh = refl; clear = refl; kept = grown_same v.kept; looks = grown_same v.looks }

pub learned_trans : (u v w : TreeView) → HasOnlyLearned u v → HasOnlyLearned v w → HasOnlyLearned u w
learned_trans u v w h k = record {
  floor = k.floor ∙ ap (λ (f : View). record f { done = w.floor.done }) h.floor;
  done = λ fact among. k.done fact (h.done fact among);
  waits = λ fact among. k.waits fact (h.waits fact among);
  placed = k.placed ∙ h.placed;
  removed = k.removed ∙ h.removed;
  fresh = k.fresh ∙ h.fresh;
  clear = k.clear ∙ h.clear;
  kept = grown_then u.kept v.kept w.kept h.kept k.kept;
  looks = grown_then u.looks v.looks w.looks h.looks k.looks;
}

-- what is known of the floor beside the done tasks is known as before
pub live_kept : (v w : TreeView) → HasOnlyLearned v w → v.floor.kind ≢ Spent → w.floor.kind ≢ Spent
live_kept v w h live = subst (λ (k : SeatKind). k ≢ Spent) (sym (ap (λ (f : View). f.kind) h.floor)) live

pub worker_kept : (v w : TreeView) → HasOnlyLearned v w → w.floor.worker ≡ v.floor.worker
worker_kept v w h = ap (λ (f : View). f.worker) h.floor

pub led_kept : (v w : TreeView) (s u : ℕ) → HasOnlyLearned v w → IsKnownToWait v.waits s u → IsKnownToWait w.waits s u
led_kept v w s u h led = ⊎_elim (λ same. inl same) (λ known. inr (h.waits (record { waiter = s; awaited = u }) known)) led

pub pass_kept : (v w : TreeView) (t : ℕ) (e : Effect) (r : Record) → HasOnlyLearned v w → IsKnownToPass v.waits t e r → IsKnownToPass w.waits t e r
pass_kept v w t e r h (apart away) = apart away
pass_kept v w t e r h (own same) = own same
pass_kept v w t e r h (waiting known) = waiting (h.waits (record { waiter = r.task; awaited = t }) known)

-- What a later view knows of waits, contents and looks, where an earlier one knew no more.
pub record KnowsAll (v w : TreeView) : Type 0 where
  pub waits : (fact : WaitFact) → IsAmong fact v.waits → IsAmong fact w.waits
  pub kept : HasGrown v.kept w.kept
  pub looks : HasGrown v.looks w.looks

pub learned_all : (v w : TreeView) → HasOnlyLearned v w → KnowsAll v w
learned_all v w h = record { waits = h.waits; kept = h.kept; looks = h.looks }

-- Chains that were followed.

followed_then : (a b c : List Look) (s u : ℕ) → HasFollowedTo a b s u → HasGrown b c → HasFollowedTo a c s u
followed_then a b c s u is grown = record {
  start = is.start;
  chain = is.chain;
  earlier = is.earlier;
  ended = is.ended;
  later = grown_then (is.chain ++ is.start) b c is.later grown;
}

followed_since : (a b c : List Look) (s u : ℕ) → HasGrown a b → HasFollowedTo b c s u → HasFollowedTo a c s u
followed_since a b c s u grown is = record {
  start = is.start;
  chain = is.chain;
  earlier = grown_then a b is.start grown is.earlier;
  ended = is.ended;
  later = is.later;
}

-- Bars, of which the seat knows more later, and which it has met since any view before.
module _ (p : Program) (lim : Bounds) (t : ℕ) (e : Effect) where
  pub bar_kept : (since v w : TreeView) (r : Record) (bar : Bar) → KnowsAll v w → IsBarOf p lim since v t e r bar → IsBarOf p lim since w t e r bar
  bar_kept since v w r bar h is = record {
    other = is.other;
    meets = is.meets;
    task = is.task;
    leads = ⊎_elim (λ (same : bar.by ≡ bar.end). inl same)
        (λ (known : IsAmong (record { waiter = bar.by; awaited = bar.end }) v.waits). inr (h.waits (record { waiter = bar.by; awaited = bar.end }) known)) is.leads;
    elsewhere = is.elsewhere;
    followed = λ low. followed_then since.looks v.looks w.looks bar.by bar.end (is.followed low) h.looks;
    alone = is.alone;
  }

  pub bar_since : (u v w : TreeView) (r : Record) (bar : Bar) → HasGrown u.looks v.looks → HasOnlyServed t u.floor v.floor → IsBarOf p lim v w t e r bar → IsBarOf p lim u w t e r bar
  bar_since u v w r bar grown served is = record {
    other = is.other;
    meets = is.meets;
    task = is.task;
    leads = is.leads;
    elsewhere = is.elsewhere;
    followed = λ low. followed_since u.looks v.looks w.looks bar.by bar.end grown (is.followed low);
    alone = λ low. in_the_way_since p lim t r u.floor v.floor served (is.alone low);
  }

  pub bar_in_since : (u v w : TreeView) (content : List Record) (bar : Bar) → HasGrown u.looks v.looks → HasOnlyServed t u.floor v.floor → IsBarIn p lim v w t e content bar → IsBarIn p lim u w t e content bar
  bar_in_since u v w content bar grown served (r, among, is) = (r, among, bar_since u v w r bar grown served is)

  pub barred_kept : (since v w : TreeView) (bar : Bar) → KnowsAll v w → WasBarred p lim since v t e bar → WasBarred p lim since w t e bar
  barred_kept since v w bar h (content, added, (r, among, is)) =
      (content, added_then (record { node = bar.node; content = Some content }) since.kept v.kept w.kept added h.kept, (r, among, bar_kept since v w r bar h is))

  pub barred_since : (u v w : TreeView) (bar : Bar) → HasGrown u.kept v.kept → HasGrown u.looks v.looks → HasOnlyServed t u.floor v.floor → WasBarred p lim v w t e bar → WasBarred p lim u w t e bar
  barred_since u v w bar kept looks served (content, added, (r, among, is)) =
      (content, added_before (record { node = bar.node; content = Some content }) u.kept v.kept w.kept kept added, (r, among, bar_since u v w r bar looks served is))
