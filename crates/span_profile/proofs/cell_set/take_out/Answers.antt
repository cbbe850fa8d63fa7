use Rattle.std.proofs.Common.{ℕ, Bool, false, List, length, not, take, get_or, refl, sym, ap, ◌∙◌, arith, length-set}
use Rattle.std.specs.Prelude.{◌&&◌, slice_get}
use Rattle.std.proofs.lemmas.List.{take_more}
use Rattle.std.proofs.lemmas.List.Elements.{Contains-get_or}
use Rattle.span_profile.specs.inner.Sets.{has_found, is_in}
use Rattle.span_profile.proofs.NumberSets.{contains_in, nothing_out, one_out}
use Rattle.span_profile.proofs.cell_set.take_out.Goals as goal

pub loop-cell-init : goal.loop-cell-init
loop-cell-init c = record { size = refl; gone = λ n. nothing_out c.args.has.now n }

pub set-requires : goal.set-requires
set-requires c =
    let cells = c.args.cells.now in
    let at = c.loop-cell.cell-index in
    let below = c.requires (get_or cells at 0) (contains_in cells (get_or cells at 0) (Contains-get_or cells at 0 c.loop-cell-test.true)) in
    omega (arith, below, c.loop-cell.invariant.size)

pub loop-cell-preserved : goal.loop-cell-preserved
loop-cell-preserved c =
    let cells = c.args.cells.now in
    let at = c.loop-cell.cell-index in
    let old = c.args.has.now in
    let below = c.requires (get_or cells at 0) (contains_in cells (get_or cells at 0) (Contains-get_or cells at 0 c.loop-cell-test.true)) in
    let more = one_out old c.loop-cell.has (take at cells) (get_or cells at 0) (omega (arith, below, c.loop-cell.invariant.size)) c.loop-cell.invariant.gone in
    record {
      size = ap (λ (l : List Bool). length l) c.set.ensures ∙ (length-set c.loop-cell.has (get_or cells at 0) false ∙ c.loop-cell.invariant.size);
      gone = λ n.
          ap (λ (l : List Bool). has_found (slice_get l n)) c.set.ensures
          ∙ (more n ∙ ap (λ (l : List ℕ). has_found (slice_get old n) && not (is_in l n)) (sym (take_more cells at 0 c.loop-cell-test.true)));
    }
