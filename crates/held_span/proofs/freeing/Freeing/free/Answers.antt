use Rattle.std.proofs.Common.{◌≡◌, ◌++◌, List, [], map, None, Some, refl, sym, ◌∙◌, subst}
use Rattle.std.proofs.lemmas.List.{append-nil}
use Rattle.held_span.specs.Marks.{seen_by}
use Rattle.held_span.specs.declared.marks.EffectMark.{EffectMark}
use Rattle.held_span.specs.inner.Holding.{HoldsOne, IsLowestOf}
use Rattle.held_span.specs.inner.Keys.{mark_key}
use Rattle.held_span.proofs.Numbered.{freed_back, seen_fit}
use Rattle.held_span.proofs.freeing.Freeing.free.Goals as goal

pub push_marks-requires : goal.push_marks-requires
push_marks-requires c =
    seen_fit c.args.marks.now c.requires.numbered c.args.t c.len-tasks.result c.len-tasks.ensures c.as_slice.result.now (c.as_slice.ensures ∙ c.in_ok-seen.ensures)

pub returns-in-None-clause-freed : goal.returns-in-None-clause-freed
returns-in-None-clause-freed c =
    let seen : c.as_slice-2.result.now ≡ seen_by c.args.marks.now c.args.t = c.as_slice-2.ensures ∙ c.in_ok-seen.ensures in
    let added = c.in_ok-push_marks.ensures ∙ (λ i. c.args.asks.now ++ map (mark_key (c.len-tasks.ensures i)) ((c.as_slice.ensures ∙ c.in_ok-seen.ensures) i)) in
    record {
      lowest = subst (λ (l : List EffectMark). IsLowestOf (HoldsOne c.args.self.now.holders l) None) seen c.in-None.ensures;
      walk = [];
      walks = (refl, refl);
      keys = added ∙ sym (append-nil _);
    }

pub returns-clause-freed : goal.returns-clause-freed
returns-clause-freed c =
    let seen : c.as_slice-2.result.now ≡ seen_by c.args.marks.now c.args.t = c.as_slice-2.ensures ∙ c.in_ok-seen.ensures in
    let added = c.in_ok-push_marks.ensures ∙ (λ i. c.args.asks.now ++ map (mark_key (c.len-tasks.ensures i)) ((c.as_slice.ensures ∙ c.in_ok-seen.ensures) i)) in
    let lowest = subst (λ (l : List EffectMark). IsLowestOf (HoldsOne c.args.self.now.holders l) (Some c.in-Some.s)) seen c.in-Some.ensures in
    freed_back c.args.marks.now c.args.self.now.holders c.args.self.now.ways c.push_way.new.self c.args.t c.in-Some.s c.args.asks.now c.push_marks.new.keys c.push_way.new.keys
    lowest added c.in_ok-push_way-in-Some.ensures.walked c.in_ok-push_way-in-Some.ensures.noted
