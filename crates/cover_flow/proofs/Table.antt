-- Rows that are those of the futures of a body answer as the control paths say.
use Rattle.std.proofs.Common.{◌≡◌, ◌↔◌, ◌<◌, ℕ, ◌+◌, ◌-◌, Bool, true, false, not, IsTrue, if◌then◌else◌, get_or, inl, inr, sym, ap, ◌∙◌}
use Rattle.std.proofs.lemmas.Bool.{false≢true}
use Rattle.std.proofs.lemmas.Option.{unwrap_or-slice_get}
use Rattle.twe_program.specs.declared.program.Body.{Body}
use Rattle.cover_flow.specs.declared.answers.Points.{Points}
use Rattle.cover_flow.specs.Flow.{IsFlowOf, is_among, fact_of, facts_at, fact_at, may_at, surely_at}
use Rattle.cover_flow.specs.Out.{out_after, MayBeOut, SurelyOut}
use Rattle.cover_flow.specs.inner.After.{nowhere}
use Rattle.cover_flow.specs.inner.Marked.{row_of}
use Rattle.cover_flow.specs.inner.Words.{none_come}
use Rattle.cover_flow.specs.inner.MarkedWords.{rows_of}
use Rattle.cover_flow.proofs.FactLaws.{has, both}
use Rattle.cover_flow.proofs.Notes.{has_at}
use Rattle.cover_flow.proofs.Rows.{row-path, path-row}
use Rattle.cover_flow.proofs.WordLaws.{among_number}
use Rattle.cover_flow.proofs.Lanes.{lanes, lanes-get, lanes-row}

module _ (points : Points) (body : Body) (rows : points.rows ≡ rows_of body points.first) where
  shown : (point f : ℕ) → is_among points.first f ≡ true → fact_at points point f ≡ get_or (row_of body f) point nowhere
  shown point f e =
      let number = among_number points.first f e in
      let k = f - points.first in
      let within : k < 128 = number.0 in
      let whole : points.first + k ≡ f = number.1 in
      ap (λ b. if b then fact_of (facts_at points point) k else nowhere) e
      ∙ ap (λ facts. fact_of facts k) (unwrap_or-slice_get points.rows point none_come)
      ∙ sym (lanes-get points.first k within points.rows point)
      ∙ ap (λ rs. get_or (lanes points.first k within rs) point nowhere) rows
      ∙ ap (λ row. get_or row point nowhere) (lanes-row points.first k within body)
      ∙ ap (λ g. get_or (row_of body g) point nowhere) whole

  shows : (b : Bool) (point f : ℕ) → is_among points.first f ≡ true → has b (fact_at points point f) ≡ has_at b (row_of body f) point
  shows b point f e = ap (has b) (shown point f e)

  may_exact : (point f : ℕ) → point < body.points → f < body.futures → IsTrue (is_among points.first f) → IsTrue (may_at points point f) ↔ MayBeOut body point f
  may_exact point f in_points in_futures e = (
    λ h. row-path body f point true in_points (sym (shows true point f e) ∙ h),
    λ some. shows true point f e ∙ path-row body f point true in_points some,
  )

  surely_exact : (point f : ℕ) → point < body.points → f < body.futures → IsTrue (is_among points.first f) → IsTrue (surely_at points point f) ↔ SurelyOut body point f
  surely_exact point f in_points in_futures e = (
    λ h path comes. elim (both (out_after f path)) [
      | inl out ↦ out
      | inr not_out ↦ absurd (false≢true (sym (ap not (shows false point f e ∙ path-row body f point false in_points (path, comes, not_out))) ∙ h))
    ],
    λ surely. elim (both (has_at false (row_of body f) point)) [
      | inl seen ↦ let some = row-path body f point false in_points seen in absurd (false≢true (sym some.2 ∙ surely some.0 some.1))
      | inr none ↦ ap not (shows false point f e ∙ none)
    ],
  )

  pub rows-flow : IsFlowOf points body
  rows-flow = record { may = may_exact; surely = surely_exact }
