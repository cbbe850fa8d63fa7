-- What the entries of a journal did, and what their stages say of it.
use Rattle.std.proofs.Common.{◌≡◌, inl, ℕ, zero, suc, List, [], ◌∷◌, length, Some, refl, sym, ap, subst}
use Rattle.std.specs.Prelude.{slice_get}
use Rattle.seg_journal.specs.declared.journal.Entry.{Entry}
use Rattle.twe_base.specs.Limits.{Bounds}
use Rattle.twe_program.specs.Program.{Program}
use Rattle.machine_state.specs.declared.state.State.{State}
use Rattle.machine_state.specs.declared.state.TaskRow.{TaskRow}
use Rattle.machine_state.specs.Moves.{move_result, start_of}
use Rattle.span_profile.specs.heaviest_chain.Chains.{Leads, weight_of_found}
use Rattle.span_profile.specs.LeadsTo.{LeadsTo}
use Rattle.span_profile.specs.Strands.{Strand, strands, strands_from, weight_of}
use Rattle.held_span.specs.Freed.{FollowsFreed, RunEntry, stage_of, stage_weight, stages, stages_from}

-- what entries did
pub strands_are : (p : Program) (lim : Bounds) (st : State) (entries : List Entry) (i : ℕ) (a : Strand) → slice_get (strands_from p lim st entries) i ≡ Some a
    → (s : RunEntry) × (slice_get (stages_from p lim st entries) i ≡ Some s) × (s.strand ≡ a)
strands_are p lim st [] i a found = absurd (cc)
strands_are p lim st (entry ∷ entries) zero a found = (stage_of p st entry, refl, cc)
strands_are p lim st (entry ∷ entries) (suc i) a found = strands_are p lim (move_result p lim st entry.mv).0 entries i a found

pub weights_at : (p : Program) (lim : Bounds) (st : State) (entries : List Entry) (i : ℕ) → weight_of_found weight_of (slice_get (strands_from p lim st entries) i) ≡ weight_of_found stage_weight (slice_get (stages_from p lim st entries) i)
weights_at p lim st [] i = refl
weights_at p lim st (entry ∷ entries) zero = refl
weights_at p lim st (entry ∷ entries) (suc i) = weights_at p lim (move_result p lim st entry.mv).0 entries i

pub strand_count : (p : Program) (lim : Bounds) (st : State) (entries : List Entry) → length (strands_from p lim st entries) ≡ length (stages_from p lim st entries)
strand_count p lim st [] = refl
strand_count p lim st (entry ∷ entries) = ap (λ (n : ℕ). suc n) (strand_count p lim (move_result p lim st entry.mv).0 entries)

-- what leads to an entry stays so if admissions also follow what freed them
module _ (p : Program) (lim : Bounds) (rows : List TaskRow) (journal : List Entry) where
  pub leads_still : (i j : ℕ) → Leads LeadsTo (strands p lim journal) i j → Leads (FollowsFreed rows) (stages p lim journal) i j
  leads_still i j l =
      let a = strands_are p lim (start_of p lim) journal i l.first l.at_first in
      let b = strands_are p lim (start_of p lim) journal j l.second l.at_second in
      record {
        before = l.before;
        first = a.0;
        second = b.0;
        at_first = a.1;
        at_second = b.1;
        leads = inl (subst (λ (x : Strand). LeadsTo x b.0.strand) (sym a.2) (subst (λ (y : Strand). LeadsTo l.first y) (sym b.2) l.leads));
      }
