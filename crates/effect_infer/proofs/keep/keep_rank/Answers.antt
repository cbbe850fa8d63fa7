use Rattle.std.proofs.Common.{◌≡◌, ◌<◌, ◌+◌, List, ℕ, true, length, refl, sym, ap, ◌∙◌, subst, arith}
use Rattle.std.specs.List.{Contains}
use Rattle.effect_infer.specs.declared.needs.need.Need.{Need}
use Rattle.effect_infer.specs.declared.found.FoundNeed.{FoundNeed}
use Rattle.effect_infer.specs.Rows.{row, with_item}
use Rattle.effect_infer.specs.Kept.{KeepsNeeds, is_wanted, method_rank}
use Rattle.effect_infer.proofs.Keeping.{DoneUpTo, rank-start, rank-other, rank-unwanted, rank-wanted, rank-end}
use Rattle.effect_infer.proofs.keep.keep_rank.Goals.{then-method-len+then-rank-this+then-is_wanted+in_ok-need+in_ok-push_to, else-method-len, else-method-len-via-then-method-len+then-rank-this+else-is_wanted, else-method-len-via-then-method-len+else-rank-this, else-method-len-via-else-method-len}
use Rattle.effect_infer.proofs.keep.keep_rank.Goals as goal

-- the first of this rank
pub loop-found-init : goal.loop-found-init
loop-found-init c = rank-start (length c.args.table.now) c.args.all.now c.args.this c.args.table.now c.requires

-- one need more
pub loop-found-preserved : goal.loop-found-preserved
loop-found-preserved c =
    let methods = length c.args.table.now in
    let all = c.args.all.now in
    let this = c.args.this in
    let i = c.loop-found.found-index in
    let table = c.loop-found.table in
    let f = c.found-item.result in
    let is = sym c.found-item.is in
    let k = c.loop-found.invariant in
    let long : length table ≡ methods = k.long in
    let count : c.len.result ≡ length table = c.len.ensures in
    let P : List (List Need) → Type 0 = λ t. KeepsNeeds methods all t (DoneUpTo methods all this (i + 1)) in
    elim c.if-method-len.branch [
      | then-method-len+then-rank-this+then-is_wanted+in_ok-need+in_ok-push_to w ↦
          let same : method_rank f.need ≡ this = sym w.rank.ensures.rank ∙ w.if-rank-this.true in
          let wanted : is_wanted (row table f.method) f.need ≡ true = sym w.is_wanted.ensures ∙ w.if-is_wanted.true in
          let made : w.push_to.new.lists ≡ with_item table f.method f.need = w.in_ok-push_to.ensures ∙ ap (λ (n : Need). with_item table f.method n) w.in_ok-need.ensures in
          subst P (sym (w.table-is ∙ made))
          (rank-wanted methods all this i table k f c.loop-found-test.true is same (i, c.loop-found-test.true, is)
          (let below = w.if-method-len.true in omega (arith, below, count)) wanted)
      | else-method-len w ↦ subst P (sym w.table-is) (elim w.else-method-len.branch [
        | else-method-len-via-then-method-len+then-rank-this+else-is_wanted w' ↦
            rank-unwanted methods all this i table k f c.loop-found-test.true is (sym w'.is_wanted.ensures ∙ w'.if-is_wanted.false)
        | else-method-len-via-then-method-len+else-rank-this w' ↦
            rank-other methods all this i table k f c.loop-found-test.true is
            (λ same within. w'.if-rank-this.false (w'.rank.ensures.rank ∙ same))
        | else-method-len-via-else-method-len w' ↦
            rank-other methods all this i table k f c.loop-found-test.true is
            (λ same within. let past = w'.if-method-len.false in omega (arith, past, count, long, within))
      ])
    ]

pub returns : goal.returns
returns c = rank-end (length c.args.table.now) c.args.all.now c.args.this c.loop-found.found-index c.loop-found.table c.loop-found-test.false c.loop-found.invariant
