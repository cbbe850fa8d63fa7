-- A journal without a fault, and one entry more.
use Rattle.std.proofs.Common.{◌≡◌, Bool, List, [], ◌∷◌, ◌++◌, true, false, refl, ap, ◌∙◌}
use Rattle.std.specs.Prelude.{if◌then◌else◌}
use Rattle.seg_journal.specs.declared.journal.Entry.{Entry}
use Rattle.machine_state.specs.Runs.{counted, is_fault}
use Rattle.twe_rounds.specs.Keeping.{NoFaults}

-- one entry more that is no fault
pub none_more : (entries : List Entry) (last : Entry) → NoFaults entries → is_fault last.end ≡ false → NoFaults (entries ++ last ∷ [])
none_more [] last none well = (well, tt)
none_more (entry ∷ entries) last none well = (none.0, none_more entries last none.1 well)

last_counted : (last : Entry) (faults : Bool) → last ∷ (if faults then [] else []) ≡ last ∷ []
last_counted last true = refl
last_counted last false = refl

-- after no faults one entry more counts, even a fault
pub counted_more : (entries : List Entry) (last : Entry) → NoFaults entries → counted (entries ++ last ∷ []) ≡ entries ++ last ∷ []
counted_more [] last none = last_counted last (is_fault last.end)
counted_more (entry ∷ entries) last none =
    ap (λ (b : Bool). entry ∷ (if b then [] else counted (entries ++ last ∷ []))) none.0
    ∙ ap (λ (es : List Entry). entry ∷ es) (counted_more entries last none.1)
