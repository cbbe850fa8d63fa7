-- An entry has one reason to follow another one, and a chain has one list of steps.
use Rattle.std.proofs.Common.{◌≡◌, ◌++◌, ℕ, zero, suc, Bool, true, false, List, [], ◌∷◌, length, map, Option, None, Some, refl, sym, ap, ◌∙◌, subst, arith}
use Rattle.std.specs.Prelude.{◌≢◌, ◌↔◌, IsTrue, slice_get}
use Rattle.std.specs.List.{Contains}
use Rattle.std.proofs.lemmas.List.Elements.{Contains-append_right}
use Rattle.effect_sets.specs.Access.{PathAccess}
use Rattle.region_paths.specs.Concrete.{ConcretePath}
use Rattle.isolation_laws.specs.soundness.CellPaths.{path_of_cell}
use Rattle.isolation_laws.specs.soundness.DeclaredNow.{access_of}
use Rattle.seg_journal.specs.declared.journal.End.{End}
use Rattle.seg_journal.specs.declared.journal.Entry.{Entry}
use Rattle.seg_journal.specs.declared.moves.Kind.{Kind}
use Rattle.seg_journal.specs.declared.moves.Kind.TheVariants.{Admit, Run}
use Rattle.seg_journal.specs.declared.moves.Move.{Move}
use Rattle.seg_meaning.specs.Access.{Access as CellAccess}
use Rattle.twe_base.specs.Limits.{Bounds}
use Rattle.twe_program.specs.Program.{Program}
use Rattle.machine_state.specs.declared.state.State.{State}
use Rattle.machine_state.specs.declared.state.TaskRow.{TaskRow}
use Rattle.machine_state.specs.Moves.{move_result, start_of}
use Rattle.machine_state.specs.Runs.{counted}
use Rattle.machine_state.proofs.replays.Replayed.{one_from}
use Rattle.span_profile.specs.Reasons.{Accessed, AreChainSteps, HasSteps, IsFirstCell, IsReasonAt, IsReasonFor, IsStepAt, IsUntold, PrintsNone, ReadsNone, SaysWhether, Touched, WritesNone, console_path, goes_on, made, printed, read, read_cell, took, unlinked, written_cell, wrote}
use Rattle.span_profile.specs.Strands.{Strand, strand_by_kind, strands, strands_from}
use Rattle.span_profile.specs.declared.reasons.ChainStep.{ChainStep}
use Rattle.span_profile.specs.declared.reasons.LinkReason.{LinkReason}
use Rattle.span_profile.specs.declared.reasons.LinkReason.TheVariants as reasons
use Rattle.span_profile.proofs.Lists.{contains_first, contains_map}
use Rattle.span_profile.proofs.PathReasons.{read_is, write_is}

-- the accesses of an entry by their paths are those to its cells, and its prints
abbrev pub IsPathed : Program → Strand → Type 0
IsPathed p strand = strand.accesses ≡ map (access_of p) strand.cells

-- A flag that says whether something holds is one.
one_flag : (P : Type 0) (flag other : Bool) → (IsTrue flag ↔ P) → (IsTrue other ↔ P) → flag ≡ other
one_flag P true true a b = refl
one_flag P false false a b = refl
one_flag P true false a b = sym (b.1 (a.0 refl))
one_flag P false true a b = a.1 (b.0 refl)

-- The first cell with a property is one.
module _ (p : Program) (cell_of : CellAccess → Option ℕ) (Has : ConcretePath → Type 0) where
  abbrev NoneHas : List CellAccess → Type 0
  NoneHas earlier = (before : CellAccess) (other : ℕ) → Contains earlier before → cell_of before ≡ Some other → ¬ Has (path_of_cell p other)

  in_middle : (later earlier : List CellAccess) (x : CellAccess) → Contains (later ++ x ∷ earlier) x
  in_middle later earlier x = Contains-append_right later (x ∷ earlier) x (contains_first x earlier)

  one_split : (later more earlier before : List CellAccess) (x y : CellAccess) (c d : ℕ) → later ++ x ∷ earlier ≡ more ++ y ∷ before → cell_of x ≡ Some c → cell_of y ≡ Some d
      → Has (path_of_cell p c) → Has (path_of_cell p d) → NoneHas earlier → NoneHas before → c ≡ d
  one_split [] [] earlier before x y c d same at_c at_d has_c has_d none_c none_d =
      let one : x ≡ y = cc in
      let both : Some c ≡ Some d = sym at_c ∙ (ap cell_of one ∙ at_d) in
      cc
  one_split [] (z ∷ more) earlier before x y c d same at_c at_d has_c has_d none_c none_d =
      let rest : earlier ≡ more ++ y ∷ before = cc in
      absurd (none_c y d (subst (λ (l : List CellAccess). Contains l y) (sym rest) (in_middle more before y)) at_d has_d)
  one_split (z ∷ later) [] earlier before x y c d same at_c at_d has_c has_d none_c none_d =
      let rest : later ++ x ∷ earlier ≡ before = cc in
      absurd (none_d x c (subst (λ (l : List CellAccess). Contains l x) rest (in_middle later earlier x)) at_c has_c)
  one_split (z ∷ later) (w ∷ more) earlier before x y c d same at_c at_d has_c has_d none_c none_d =
      let rest : later ++ x ∷ earlier ≡ more ++ y ∷ before = cc in
      one_split later more earlier before x y c d rest at_c at_d has_c has_d none_c none_d

  one_cell : (strand : Strand) (c d : ℕ) → IsFirstCell p strand cell_of Has c → IsFirstCell p strand cell_of Has d → c ≡ d
  one_cell strand c d a b = one_split a.later b.later a.earlier b.earlier a.access b.access c d (sym a.split ∙ b.split) a.accessed b.accessed a.has b.has a.none b.none

-- One reason.
module _ (p : Program) (a b : Strand) (pathed : IsPathed p b) where
  accessed_by : (x : CellAccess) (y : PathAccess) → access_of p x ≡ y → Contains b.cells x → Contains b.accesses y
  accessed_by x y is has =
      subst (λ (l : List PathAccess). Contains l y) (sym pathed) (subst (λ (z : PathAccess). Contains (map (access_of p) b.cells) z) is (contains_map (access_of p) b.cells x has))

  has_access : (cell_of : CellAccess → Option ℕ) (Has : ConcretePath → Type 0) (cell : ℕ) (first : IsFirstCell p b cell_of Has cell) → Contains b.cells first.access
  has_access cell_of Has cell first = subst (λ (l : List CellAccess). Contains l first.access) (sym first.split) (in_middle p cell_of Has first.later first.earlier first.access)

  reads_it : (cell : ℕ) → IsFirstCell p b read_cell (Accessed a true) cell → Accessed b false (path_of_cell p cell)
  reads_it cell first =
      let is = read_is first.access cell first.accessed in
      accessed_by first.access (record { write = false; path = path_of_cell p cell }) (ap (access_of p) is.1) (has_access read_cell (Accessed a true) cell first)

  writes_it : (cell : ℕ) → IsFirstCell p b written_cell (Touched a) cell → Accessed b true (path_of_cell p cell)
  writes_it cell first =
      let is = write_is first.access cell first.accessed in
      accessed_by first.access (record { write = true; path = path_of_cell p cell }) (ap (access_of p) is.1) (has_access written_cell (Touched a) cell first)

  -- what is read keeps other reasons out
  never_quiet : (cell : ℕ) → IsFirstCell p b read_cell (Accessed a true) cell → ReadsNone a b → ⊥
  never_quiet cell first quiet = quiet (path_of_cell p cell) (reads_it cell first) first.has

  by_task : (reason : LinkReason) → a.task ≡ b.task → IsReasonFor p a b reason → reasons.GoesOn ≡ reason
  by_task _ same (goes_on is) = refl
  by_task _ same (made other child) = absurd (other same)
  by_task _ same (took other unmade done taken) = absurd (other same)
  by_task _ same (read cell untold first) = absurd (untold.other same)
  by_task _ same (printed flag untold quiet has touched says) = absurd (untold.other same)
  by_task _ same (wrote cell flag untold quiet silent first says) = absurd (untold.other same)
  by_task _ same (unlinked untold quiet silent) = absurd (untold.other same)

  by_making : (reason : LinkReason) → a.task ≢ b.task → a.made ≡ Some b.task → IsReasonFor p a b reason → reasons.Made ≡ reason
  by_making _ apart makes (goes_on is) = absurd (apart is)
  by_making _ apart makes (made other child) = refl
  by_making _ apart makes (took other unmade done taken) = absurd (unmade makes)
  by_making _ apart makes (read cell untold first) = absurd (untold.unmade makes)
  by_making _ apart makes (printed flag untold quiet has touched says) = absurd (untold.unmade makes)
  by_making _ apart makes (wrote cell flag untold quiet silent first says) = absurd (untold.unmade makes)
  by_making _ apart makes (unlinked untold quiet silent) = absurd (untold.unmade makes)

  by_taking : (reason : LinkReason) → a.task ≢ b.task → a.made ≢ Some b.task → IsTrue a.done → b.taken ≡ Some a.task → IsReasonFor p a b reason → reasons.Took ≡ reason
  by_taking _ apart unmade over takes (goes_on is) = absurd (apart is)
  by_taking _ apart unmade over takes (made other child) = absurd (unmade child)
  by_taking _ apart unmade over takes (took other still done taken) = refl
  by_taking _ apart unmade over takes (read cell untold first) = absurd (untold.untaken over takes)
  by_taking _ apart unmade over takes (printed flag untold quiet has touched says) = absurd (untold.untaken over takes)
  by_taking _ apart unmade over takes (wrote cell flag untold quiet silent first says) = absurd (untold.untaken over takes)
  by_taking _ apart unmade over takes (unlinked untold quiet silent) = absurd (untold.untaken over takes)

  by_read : (reason : LinkReason) (cell : ℕ) → IsUntold a b → IsFirstCell p b read_cell (Accessed a true) cell → IsReasonFor p a b reason → reasons.Read cell ≡ reason
  by_read _ cell untold first (goes_on is) = absurd (untold.other is)
  by_read _ cell untold first (made other child) = absurd (untold.unmade child)
  by_read _ cell untold first (took other unmade done taken) = absurd (untold.untaken done taken)
  by_read _ cell untold first (read c u f) = ap (λ (n : ℕ). reasons.Read n) (one_cell p read_cell (Accessed a true) b cell c first f)
  by_read _ cell untold first (printed flag u quiet has touched says) = absurd (never_quiet cell first quiet)
  by_read _ cell untold first (wrote c flag u quiet silent f says) = absurd (never_quiet cell first quiet)
  by_read _ cell untold first (unlinked u quiet silent) = absurd (never_quiet cell first quiet)

  by_print : (reason : LinkReason) (wrote_it : Bool) → IsUntold a b → ReadsNone a b → Accessed b true console_path → Touched a console_path → SaysWhether a console_path wrote_it
      → IsReasonFor p a b reason → reasons.Printed wrote_it ≡ reason
  by_print _ wrote_it untold quiet has touched says (goes_on is) = absurd (untold.other is)
  by_print _ wrote_it untold quiet has touched says (made other child) = absurd (untold.unmade child)
  by_print _ wrote_it untold quiet has touched says (took other unmade done taken) = absurd (untold.untaken done taken)
  by_print _ wrote_it untold quiet has touched says (read cell u first) = absurd (never_quiet cell first quiet)
  by_print _ wrote_it untold quiet has touched says (printed flag u q h t also) = ap (λ (f : Bool). reasons.Printed f) (one_flag (Accessed a true console_path) wrote_it flag says also)
  by_print _ wrote_it untold quiet has touched says (wrote cell flag u q silent first also) = absurd (silent has touched)
  by_print _ wrote_it untold quiet has touched says (unlinked u q silent) = absurd (silent console_path has touched)

  by_write : (reason : LinkReason) (cell : ℕ) (wrote_it : Bool) → IsUntold a b → ReadsNone a b → PrintsNone a b → IsFirstCell p b written_cell (Touched a) cell → SaysWhether a (path_of_cell p cell) wrote_it
      → IsReasonFor p a b reason → reasons.Wrote cell wrote_it ≡ reason
  by_write _ cell wrote_it untold quiet silent first says (goes_on is) = absurd (untold.other is)
  by_write _ cell wrote_it untold quiet silent first says (made other child) = absurd (untold.unmade child)
  by_write _ cell wrote_it untold quiet silent first says (took other unmade done taken) = absurd (untold.untaken done taken)
  by_write _ cell wrote_it untold quiet silent first says (read c u f) = absurd (never_quiet c f quiet)
  by_write _ cell wrote_it untold quiet silent first says (printed flag u q has touched also) = absurd (silent has touched)
  by_write _ cell wrote_it untold quiet silent first says (wrote c flag u q s f also) =
      let one = one_cell p written_cell (Touched a) b cell c first f in
      let flags = one_flag (Accessed a true (path_of_cell p c)) wrote_it flag (subst (λ (n : ℕ). SaysWhether a (path_of_cell p n) wrote_it) one says) also in
      λ i. reasons.Wrote (one i) (flags i)
  by_write _ cell wrote_it untold quiet silent first says (unlinked u q none) = absurd (none (path_of_cell p cell) (writes_it cell first) first.has)

  by_none : (reason : LinkReason) → IsUntold a b → ReadsNone a b → WritesNone a b → IsReasonFor p a b reason → reasons.Unlinked ≡ reason
  by_none _ untold quiet silent (goes_on is) = absurd (untold.other is)
  by_none _ untold quiet silent (made other child) = absurd (untold.unmade child)
  by_none _ untold quiet silent (took other unmade done taken) = absurd (untold.untaken done taken)
  by_none _ untold quiet silent (read cell u first) = absurd (never_quiet cell first quiet)
  by_none _ untold quiet silent (printed flag u q has touched says) = absurd (silent console_path has touched)
  by_none _ untold quiet silent (wrote cell flag u q s first says) = absurd (silent (path_of_cell p cell) (writes_it cell first) first.has)
  by_none _ untold quiet silent (unlinked u q s) = refl

  pub one_reason : (reason other : LinkReason) → IsReasonFor p a b reason → IsReasonFor p a b other → reason ≡ other
  one_reason _ other (goes_on same) also = by_task other same also
  one_reason _ other (made apart child) also = by_making other apart child also
  one_reason _ other (took apart unmade done taken) also = by_taking other apart unmade done taken also
  one_reason _ other (read cell untold first) also = by_read other cell untold first also
  one_reason _ other (printed flag untold quiet has touched says) also = by_print other flag untold quiet has touched says also
  one_reason _ other (wrote cell flag untold quiet silent first says) also = by_write other cell flag untold quiet silent first says also
  one_reason _ other (unlinked untold quiet silent) also = by_none other untold quiet silent also

-- the entries of a journal are so
module _ (p : Program) (lim : Bounds) where
  pathed_kind : (st : State) (kind : Kind) (t : ℕ) (found : Option TaskRow) (end : End) → IsPathed p (strand_by_kind p st kind t found end)
  pathed_kind st Admit t found end = refl
  pathed_kind st Run t None end = refl
  pathed_kind st Run t (Some row) end = refl

  pathed_from : (st : State) (entries : List Entry) (i : ℕ) (strand : Strand) → slice_get (strands_from p lim st entries) i ≡ Some strand → IsPathed p strand
  pathed_from st [] i strand at = absurd (cc)
  pathed_from st (entry ∷ entries) zero strand at =
      let same : strand_by_kind p st entry.mv.kind entry.mv.task (slice_get st.tasks entry.mv.task) entry.end ≡ strand = cc in
      subst (IsPathed p) same (pathed_kind st entry.mv.kind entry.mv.task (slice_get st.tasks entry.mv.task) entry.end)
  pathed_from st (entry ∷ entries) (suc i) strand at = pathed_from (move_result p lim st entry.mv).0 entries i strand at

-- lists of one length with the same elements are one
pub same_list : {X : Type 0} (xs ys : List X) → length xs ≡ length ys → ((k : ℕ) (x y : X) → slice_get xs k ≡ Some x → slice_get ys k ≡ Some y → x ≡ y) → xs ≡ ys
same_list [] [] many same = refl
same_list [] (y ∷ ys) many same = absurd (omega (arith, many))
same_list (x ∷ xs) [] many same = absurd (omega (arith, many))
same_list (x ∷ xs) (y ∷ ys) many same =
    let first = same 0 x y refl refl in
    let rest = same_list xs ys (omega (arith, many)) (λ k v w at also. same (suc k) v w at also) in
    λ i. first i ∷ rest i

-- One list of steps.
module _ (p : Program) (all : List Strand) (chain : List ℕ) (pathed : (i : ℕ) (strand : Strand) → slice_get all i ≡ Some strand → IsPathed p strand) where
  one_at : (k : ℕ) (b : Strand) → IsPathed p b → (reason other : LinkReason) → IsReasonAt p all chain k b reason → IsReasonAt p all chain k b other → reason ≡ other
  one_at zero b is reason other one two = one ∙ sym two
  one_at (suc k) b is reason other one two =
      let numbers : Some one.0 ≡ Some two.0 = sym one.2 ∙ two.2 in
      let number : one.0 ≡ two.0 = cc (numbers) in
      let strands : Some one.1 ≡ Some two.1 = sym one.3 ∙ (ap (slice_get all) number ∙ two.3) in
      let strand : one.1 ≡ two.1 = cc (strands) in
      one_reason p two.1 b is reason other (subst (λ (a : Strand). IsReasonFor p a b reason) strand one.4) two.4

  one_step : (k : ℕ) (step other : ChainStep) → IsStepAt p all chain k step → IsStepAt p all chain k other → step ≡ other
  one_step k step other one two =
      let numbers : Some step.entry ≡ Some other.entry = sym one.entry ∙ two.entry in
      let number : step.entry ≡ other.entry = cc (numbers) in
      let strands : Some one.strand ≡ Some two.strand = sym one.there ∙ (ap (slice_get all) number ∙ two.there) in
      let strand : one.strand ≡ two.strand = cc (strands) in
      let task = one.task ∙ (ap (λ (s : Strand). s.task) strand ∙ sym two.task) in
      let reason = one_at k two.strand (pathed other.entry two.strand two.there) step.reason other.reason (subst (λ (s : Strand). IsReasonAt p all chain k s step.reason) strand one.reason) two.reason in
      λ i. record { entry = number i; task = task i; reason = reason i }

  one_list : (steps others : List ChainStep) → AreChainSteps p all chain steps → AreChainSteps p all chain others → steps ≡ others
  one_list steps others one two = same_list steps others (one.count ∙ sym two.count) (λ k x y at also. one_step k x y (one.each k x at) (two.each k y also))

pub one_steps : (p : Program) (lim : Bounds) (moves : List Move) (chain : List ℕ) (steps others : List ChainStep) → HasSteps p lim moves chain steps → HasSteps p lim moves chain others → steps ≡ others
one_steps p lim moves chain steps others one two =
    let journals : one.journal ≡ two.journal = one_from p lim (start_of p lim) one.journal two.journal one.legal two.legal (one.has ∙ sym two.has) in
    one_list p (strands p lim (counted two.journal)) chain (pathed_from p lim (start_of p lim) (counted two.journal)) steps others
    (subst (λ (j : List Entry). AreChainSteps p (strands p lim (counted j)) chain steps) journals one.steps_are) two.steps_are
