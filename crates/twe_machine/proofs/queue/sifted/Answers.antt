use Rattle.std.proofs.Common.{◌≡◌, ◌<◌, ◌+◌, ℕ, List, [], ◌∷◌, ◌++◌, Some, inl, inr, length, length-append, refl, sym, ap, ◌∙◌, subst, arith}
use Rattle.std.specs.Prelude.{slice_get}
use Rattle.std.proofs.lemmas.Bool.{cases_lt}
use Rattle.std.proofs.lemmas.Option.{slice_get_within}
use Rattle.twe_machine.specs.declared.queue.Queued.{Queued}
use Rattle.machine_state.specs.declared.state.TaskStatus.TheVariants.{Enabled}
use Rattle.twe_machine.specs.Queues.{DecidesAt, IsQueued, IsDecided, KeepsWaiting, MayName}
use Rattle.machine_state.specs.Rows.{HasStatus}
use Rattle.machine_state.proofs.lists.Places.{got_one, put_cases, put_last}
use Rattle.twe_machine.proofs.listing.Entries.{decided_put, some_same, task_before, task_put}
use Rattle.twe_machine.proofs.queue.sifted.Goals as goal

pub loop-at-init : goal.loop-at-init
loop-at-init c = record {
  kept = λ i e low at has. absurd (omega (arith, low));
  back = λ j g at. absurd (let is = subst (λ (es : List Queued). slice_get es j ≡ Some g) c.new-left.ensures at in cc (is));
  decided = λ i d e at names. absurd (let is = subst (λ (es : List Queued). slice_get es i ≡ Some e) c.new-left.ensures at in cc (is));
  decides = λ d names. absurd (cc (names));
}

pub loop-at-preserved-then-not-is_enabled : goal.loop-at-preserved-then-not-is_enabled
loop-at-preserved-then-not-is_enabled c =
    let loop = c.loop-at in
    record {
      kept = λ i e low at has.
          elim (cases_lt i loop.at) [
            | inl less ↦ loop.invariant.kept i e less at has
            | inr high ↦
                let is : i ≡ loop.at = omega (arith, low, high) in
                let one = got_one (slice_get c.args.entries.now loop.at) (subst (λ (n : ℕ). slice_get c.args.entries.now n ≡ Some e) is at) c.entry_at-entry.ensures in
                absurd (cc (c.is_enabled.ensures.1 (subst (λ (f : Queued). HasStatus c.args.st.now f.task Enabled) one has)))
          ];
      back = λ j g at. let h = loop.invariant.back j g at in (h.0, h.1, omega (arith, h.2), h.3, h.4);
      decided = loop.invariant.decided;
      decides = loop.invariant.decides;
    }

pub loop-at-preserved : goal.loop-at-preserved
loop-at-preserved c =
    let loop = c.loop-at in
    let links = c.args.st.now.links in
    let E = c.args.entries.now in
    let left = loop.left in
    let e = c.entry_at-entry.result in
    let now = c.decider_now-decider.result in
    let x : Queued = record { task = e.task; decider = now } in
    let many : length (left ++ x ∷ []) ≡ length left + 1 = length-append left (x ∷ []) in
    let may : (d : ℕ) → now ≡ Some d → MayName links left e.task d = λ d names.
    elim c.decider_now-decider.ensures [
      | inl same ↦ inr (loop.invariant.decides d (sym same ∙ names))
      | inr own ↦
          let at_end : d ≡ length left = some_same d c.len.result (sym names ∙ own.0) ∙ c.len.ensures in
          inl (
            at_end,
            λ j g low at.
                let h = loop.invariant.back j g at in
                subst (λ (u : ℕ). KeepsWaiting links u e.task) h.4 ((c.requires loop.at loop.at e c.entry_at-entry.ensures own.1).1 e c.entry_at-entry.ensures h.0 h.1 h.2 h.3),
          )
    ] in
    let decided : IsDecided links (left ++ x ∷ []) = decided_put links left x loop.invariant.decided may in
    let is = c.in_ok-push.ensures.ok in
    record {
      kept = λ i f low at has.
          subst (λ (es : List Queued). IsQueued es f.task) (sym is)
          (elim (cases_lt i loop.at) [
            | inl less ↦ task_before left x f.task (loop.invariant.kept i f less at has)
            | inr high ↦
                let same : i ≡ loop.at = omega (arith, low, high) in
                let one : e ≡ f = got_one (slice_get E loop.at) c.entry_at-entry.ensures (subst (λ (n : ℕ). slice_get E n ≡ Some f) same at) in
                subst (λ (g : Queued). IsQueued (left ++ x ∷ []) g.task) one (task_put left x)
          ]);
      back = λ j g at.
          elim (put_cases left x j g (subst (λ (es : List Queued). slice_get es j ≡ Some g) is at)) [
            | inl before ↦ let h = loop.invariant.back j g before in let below = h.2 in (h.0, h.1, omega (arith, below), h.3, h.4)
            | inr last ↦ (loop.at, e, omega arith, c.entry_at-entry.ensures, ap (λ (f : Queued). f.task) last.1)
          ];
      decided = subst (IsDecided links) (sym is) decided;
      decides = λ d names.
          subst (λ (es : List Queued). (d < length es) × DecidesAt links es d) (sym is)
          (let h = decided (length left) d x (put_last left x (length left) refl) names in let low = h.0 in (omega (arith, low, many), h.1));
    }

pub returns-clause-kept : goal.returns-clause-kept
returns-clause-kept c = λ s has h.
    let within = slice_get_within c.args.entries.now h.0 h.1 h.2 in
    let low : h.0 < c.loop-at.at = omega (arith, within) in
    subst (IsQueued c.loop-at.left) h.3 (c.loop-at.invariant.kept h.0 h.1 low h.2 (subst (λ (u : ℕ). HasStatus c.args.st.now u Enabled) (sym h.3) has))

pub returns-clause-decided : goal.returns-clause-decided
returns-clause-decided c = c.loop-at.invariant.decided
