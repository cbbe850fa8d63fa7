-- What the notes on the entries of a run tell of its holds.
use Rattle.std.proofs.Common.{◌≡◌, ◌<◌, ◌≤◌, ◌+◌, ◌-◌, ◌++◌, ◌⊎◌, inl, inr, ℕ, zero, suc, Bool, true, false, cond, List, [], ◌∷◌, length, length-append, get_or, map, Option, None, Some, refl, sym, ap, ◌∙◌, subst, arith}
use Rattle.std.specs.Prelude.{slice_get, slice_index, unwrap_or}
use Rattle.std.specs.List.{All, AllZip, Contains}
use Rattle.std.specs.List.Sorted.{IsStrictlyIncreasing}
use Rattle.std.proofs.Math.Seq.{get_or-append_seam}
use Rattle.std.proofs.lemmas.Bool.{cases_eq, cases_lt}
use Rattle.std.proofs.lemmas.List.{append-nil, get_or_append_left}
use Rattle.std.proofs.lemmas.List.Elements.{All-get_or, All-push, All-weaker, Contains-append_left, Contains-push}
use Rattle.std.proofs.lemmas.Option.{slice_get_within}
use Rattle.seg_journal.specs.declared.journal.Entry.{Entry}
use Rattle.seg_journal.specs.declared.moves.Kind.{Kind}
use Rattle.seg_journal.specs.declared.moves.Kind.TheVariants.{Admit, Run}
use Rattle.twe_base.specs.Limits.{Bounds}
use Rattle.twe_program.specs.Program.{Program}
use Rattle.machine_state.specs.declared.state.State.{State}
use Rattle.machine_state.specs.declared.state.TaskRow.{TaskRow}
use Rattle.machine_state.specs.Legal.{MayMove}
use Rattle.machine_state.specs.Moves.{move_result}
use Rattle.machine_state.specs.Runs.{LegalFrom, is_done}
use Rattle.machine_state.proofs.lists.Places.{below_there}
use Rattle.span_profile.proofs.Lists.{zip_first, zip_second}
use Rattle.span_profile.proofs.Tracking.{mover_row}
use Rattle.span_profile.specs.declared.heaviest_chain.chains.Heaviest.{Heaviest}
use Rattle.span_profile.specs.heaviest_chain.Chains.{Leads}
use Rattle.span_profile.specs.heaviest_chain.LastBefore.{StartsAfter}
use Rattle.held_span.specs.Freed.{FollowsFreed, Frees, FreesFrom, RunEntry, stage_of, stages_from}
use Rattle.held_span.specs.Holds.{AreHolds, IsHeldFor, IsHold, held_entry}
use Rattle.held_span.specs.declared.hold.Hold.{Hold}
use Rattle.held_span.specs.declared.notes.EntryNotes.{EntryNotes}
use Rattle.held_span.specs.inner.Noting.{holder_by, low_at, maker_by, maker_found}
use Rattle.held_span.specs.inner.Told.{Did, HoldsBelow, IsFoundHold, IsNoHold, IsTold, before_at, before_found, done_found, done_task, found_list, time_at}
use Rattle.held_span.proofs.Plans.{admits_end, strand_done, strand_task}

-- The entries of a legal journal did what their strands say.
did : (p : Program) (lim : Bounds) (st : State) (entry : Entry) → MayMove st entry.mv → (move_result p lim st entry.mv).1 ≡ entry.end → Did (stage_of p st entry) entry
did p lim st entry may is =
    let row = mover_row st entry.mv.kind entry.mv.task may in
    record {
      kind = refl;
      task = strand_task p st entry.mv.task entry.end entry.mv.kind (slice_get st.tasks entry.mv.task);
      done = strand_done p st entry.mv.task entry.end entry.mv.kind (admits_end p lim st entry.mv entry.end is) row.0 (slice_get st.tasks entry.mv.task) row.1;
    }

pub did_all : (p : Program) (lim : Bounds) (st : State) (entries : List Entry) → LegalFrom p lim st entries → AllZip Did (stages_from p lim st entries) entries
did_all p lim st [] legal = tt
did_all p lim st (entry ∷ entries) legal = (did p lim st entry legal.0 legal.1, did_all p lim (move_result p lim st entry.mv).0 entries legal.2)

-- a time that was looked up
pub time_is : (times : List ℕ) (number : ℕ) → time_at times number ≡ slice_index times number
time_is [] number = refl
time_is (time ∷ times) zero = refl
time_is (time ∷ times) (suc number) = time_is times number

-- the maker that was noted
maker_there : (makers : List (Option ℕ)) (kind : Kind) (task maker : ℕ) → kind ≡ Admit → slice_get makers task ≡ Some (Some maker) → maker_by makers kind task ≡ Some maker
maker_there makers Admit task maker is there = ap maker_found there
maker_there makers Run task maker is there = absurd (cc (is))

maker_was : (makers : List (Option ℕ)) (kind : Kind) (task maker : ℕ) → maker_by makers kind task ≡ Some maker → (kind ≡ Admit) × (slice_get makers task ≡ Some (Some maker))
maker_was makers Admit task maker is = (refl, found (slice_get makers task) is)
  where
    found : (o : Option (Option ℕ)) → maker_found o ≡ Some maker → o ≡ Some (Some maker)
    found None h = absurd (cc (h))
    found (Some m) h = ap Some h
maker_was makers Run task maker is = absurd (cc (is))

-- the holder that was noted
module _ (a : RunEntry) (low : ℕ) (entry : Entry) (is : Did a entry) where
  by_test : (b : Bool) → is_done entry.end ≡ b → unwrap_or (cond b (Some entry.mv.task) None) low ≡ holder_by a low
  by_test true done = sym is.task ∙ sym (ap (λ (b : Bool). cond b a.strand.task low) (is.done ∙ done))
  by_test false done = sym (ap (λ (b : Bool). cond b a.strand.task low) (is.done ∙ done))

  holder_found : unwrap_or (done_found (Some entry)) low ≡ holder_by a low
  holder_found = by_test (is_done entry.end) refl

module _ (rows : List TaskRow) (stages : List RunEntry) (journal : List Entry) (notes : EntryNotes) (h : Heaviest) (told : IsTold rows stages journal notes h) (number : ℕ) where
  -- an admission that was held is an entry of the journal
  found_entry : (task time : ℕ) → IsHeldFor stages h.starts h.ends number task time → (entry : Entry) × (slice_get journal number ≡ Some entry) × (entry.mv.kind ≡ Admit) × (entry.mv.task ≡ task)
  found_entry task time held =
      let a = held.admits in
      let z = zip_first Did stages journal number a.entry told.entries a.there in
      (z.0, z.1, sym z.2.kind ∙ a.kind, sym z.2.task ∙ a.task_is)

  pub no_entry : slice_get journal number ≡ None → IsNoHold stages h.starts h.ends number
  no_entry none task time held = let there = (found_entry task time held).1 in cc (none, there)

  module _ (entry : Entry) (there : slice_get journal number ≡ Some entry) where
    noted_maker : (task time : ℕ) (held : IsHeldFor stages h.starts h.ends number task time) → maker_by notes.makers entry.mv.kind entry.mv.task ≡ Some held.maker
    noted_maker task time held =
        let found = found_entry task time held in
        let same : found.0 ≡ entry = cc (there, found.1) in
        maker_there notes.makers entry.mv.kind entry.mv.task held.maker (subst (λ (e : Entry). e.mv.kind ≡ Admit) same found.2)
        (subst (λ (t : ℕ). slice_get notes.makers t ≡ Some (Some held.maker)) (sym (subst (λ (e : Entry). e.mv.task ≡ task) same found.3)) ((told.makers task held.maker).1 held.makes))

    pub no_maker : maker_by notes.makers entry.mv.kind entry.mv.task ≡ None → IsNoHold stages h.starts h.ends number
    no_maker none task time held = let noted = noted_maker task time held in cc (none, noted)

    pub no_wait : before_at h.before number ≡ None → IsNoHold stages h.starts h.ends number
    no_wait none task time held =
        let below = slice_get_within stages number held.admits.entry held.admits.there in
        let count = told.count in
        let as_many = told.last.count in
        let found = below_there h.before number (omega (arith, below, count, as_many)) in
        let nothing : found.0 ≡ None = sym (ap before_found found.1) ∙ none in
        let first = told.last.each number None (found.1 ∙ ap Some nothing) in
        let later = held.time_is in
        let some = held.some in
        omega (arith, first, later, some)

    pub no_time : (maker : ℕ) → maker_by notes.makers entry.mv.kind entry.mv.task ≡ Some maker → slice_index h.starts number ≤ slice_index h.ends maker → IsNoHold stages h.starts h.ends number
    no_time maker is early task time held =
        let noted = noted_maker task time held in
        let same : held.maker ≡ maker = cc (noted, is) in
        let later = subst (λ (m : ℕ). slice_index h.ends m + time ≡ slice_index h.starts number) same held.time_is in
        let some = held.some in
        omega (arith, later, some, early)

    module _ (maker freed_by begins made holder : ℕ) (maker_is : maker_by notes.makers entry.mv.kind entry.mv.task ≡ Some maker) (before : before_at h.before number ≡ Some freed_by)
        (begins_is : begins ≡ slice_index h.starts number) (made_is : made ≡ slice_index h.ends maker) (later : made < begins)
        (holder_is : holder ≡ unwrap_or (done_task journal freed_by) (low_at notes.lows number)) where
      noted : (entry.mv.kind ≡ Admit) × (slice_get notes.makers entry.mv.task ≡ Some (Some maker))
      noted = maker_was notes.makers entry.mv.kind entry.mv.task maker maker_is

      this : (b : RunEntry) × (slice_get stages number ≡ Some b) × Did b entry
      this = zip_second Did stages journal number entry told.entries there

      found_before : slice_get h.before number ≡ Some (Some freed_by)
      found_before =
          let below = slice_get_within stages number this.0 this.1 in
          let count = told.count in
          let as_many = told.last.count in
          let found = below_there h.before number (omega (arith, below, count, as_many)) in
          found.1 ∙ ap Some (sym (ap before_found found.1) ∙ before)

      freed : StartsAfter told.nodes h.starts h.ends number (Some freed_by)
      freed = told.last.each number (Some freed_by) found_before

      other : (a : RunEntry) × (slice_get stages freed_by ≡ Some a)
      other =
          let below = slice_get_within told.nodes freed_by freed.0.first freed.0.at_first in
          let count = told.count in
          below_there stages freed_by (omega (arith, below, count))

      frees_by : (other.0.strand.made ≡ Some this.0.strand.task) ⊎ FreesFrom rows (holder_by other.0 (low_at notes.lows number)) other.0 this.0 → FreesFrom rows (holder_by other.0 (low_at notes.lows number)) other.0 this.0
      frees_by (inr frees) = frees
      frees_by (inl makes) =
          let by_this = (told.makers entry.mv.task freed_by).1 (record { entry = other.0; there = other.1; made = makes ∙ ap Some this.2.task }) in
          let is = noted.1 in
          let same : freed_by ≡ maker = cc (by_this, is) in
          let last = subst (λ (m : ℕ). slice_index h.ends m ≡ slice_index h.starts number) same freed.1 in
          absurd (omega (arith, last, later, begins_is, made_is))

      known : holder ≡ holder_by other.0 (low_at notes.lows number)
      known =
          let z = zip_first Did stages journal freed_by other.0 told.entries other.1 in
          holder_is ∙ (ap (λ (o : Option Entry). unwrap_or (done_found o) (low_at notes.lows number)) z.1 ∙ holder_found other.0 (low_at notes.lows number) z.0 z.2)

      frees : FreesFrom rows holder other.0 this.0
      frees =
          subst (λ (n : ℕ). FreesFrom rows n other.0 this.0) (sym known)
          (frees_by (told.holders freed_by number other.0 this.0 freed.0 other.1 this.1 (this.2.kind ∙ noted.0)))

      -- no other entry that frees it then is earlier, and no other holder lower
      first_freeing : (entry : ℕ) → Leads (Frees rows) stages entry number → slice_index h.ends entry ≡ slice_index h.starts number → freed_by ≤ entry
      first_freeing entry follows until =
          let leads : Leads (FollowsFreed rows) stages entry number =
          record { before = follows.before; first = follows.first; second = follows.second; at_first = follows.at_first; at_second = follows.at_second; leads = inr follows.leads } in
          told.last.first number freed_by entry found_before (told.shares entry number leads until) until

      lowest_holder : (x : ℕ) → Leads (FreesFrom rows x) stages freed_by number → holder ≤ x
      lowest_holder x from =
          let both : Some from.first ≡ Some other.0 = sym from.at_first ∙ other.1 in
          let same : from.first ≡ other.0 = cc (both) in
          let least = told.lowest freed_by number from.first from.second from.before from.at_first from.at_second x from.leads in
          let here = known ∙ ap (λ (a : RunEntry). holder_by a (low_at notes.lows number)) (sym same) in
          omega (arith, least, here)

      pub is_hold : IsHold rows stages h.starts h.ends (record { entry = number; task = entry.mv.task; holder = holder; freed_by = freed_by; time = begins - made })
      is_hold = record {
        held = record {
          admits = record { entry = this.0; there = this.1; kind = this.2.kind ∙ noted.0; task_is = this.2.task };
          maker = maker;
          makes = (told.makers entry.mv.task maker).0 noted.1;
          time_is = omega (arith, later, begins_is, made_is);
          some = omega (arith, later);
        };
        frees = record { before = freed.0.before; first = other.0; second = this.0; at_first = other.1; at_second = this.1; leads = frees };
        until = freed.1;
        first = first_freeing;
        lowest = lowest_holder;
      }

-- Holds so far.

rises : (xs : List ℕ) (m : ℕ) → IsStrictlyIncreasing xs → All (λ n. n < m) xs → IsStrictlyIncreasing (xs ++ m ∷ [])
rises xs m in_order below k within =
    let all : length (xs ++ m ∷ []) ≡ length xs + 1 = length-append xs (m ∷ []) in
    let here : k < length xs = omega (arith, within, all) in
    let left = get_or_append_left xs (m ∷ []) 0 k here in
    elim (cases_lt (k + 1) (length xs)) [
      | inl inner ↦ (let right = get_or_append_left xs (m ∷ []) 0 (k + 1) inner in let less = in_order k inner in omega (arith, left, right, less))
      | inr past ↦
          let last : k + 1 ≡ length xs = omega (arith, past, here) in
          let right = ap (λ (j : ℕ). get_or (xs ++ m ∷ []) j 0) last ∙ get_or-append_seam xs m [] 0 in
          let less = All-get_or (λ (n : ℕ). n < m) xs k 0 here below in
          omega (arith, left, right, less)
    ]

map_last : (holds : List Hold) (hold : Hold) → map held_entry (holds ++ hold ∷ []) ≡ map held_entry holds ++ hold.entry ∷ []
map_last [] hold = refl
map_last (first ∷ holds) hold = ap (λ (l : List ℕ). first.entry ∷ l) (map_last holds hold)

module _ (rows : List TaskRow) (stages : List RunEntry) (starts ends : List ℕ) where
  pub no_holds : HoldsBelow rows stages starts ends 0 []
  no_holds = record {
    each = λ k d below. absurd (omega arith);
    in_order = λ k below. absurd (omega arith);
    below = λ k d below. absurd (omega arith);
    all = λ number task time less. absurd (omega (arith, less));
  }

  module _ (n : ℕ) (holds : List Hold) (old : HoldsBelow rows stages starts ends n holds) where
    further : All (λ (k : ℕ). k < n + 1) (map held_entry holds)
    further = All-weaker (λ (k : ℕ). k < n) (λ (k : ℕ). k < n + 1) (λ k less. omega (arith, less)) (map held_entry holds) old.below

    pub holds_on : (found : Option Hold) → IsFoundHold rows stages starts ends n found → HoldsBelow rows stages starts ends (n + 1) (holds ++ found_list found)
    holds_on None none = subst (HoldsBelow rows stages starts ends (n + 1)) (sym (append-nil holds)) (record {
      each = old.each;
      in_order = old.in_order;
      below = further;
      all = λ number task time less held. elim (cases_eq number n) [
        | inl same ↦ absurd (none task time (subst (λ (k : ℕ). IsHeldFor stages starts ends k task time) same held))
        | inr apart ↦ old.all number task time (omega (arith, less, apart)) held
      ];
    })
    holds_on (Some hold) is =
        let list = map_last holds hold in
        record {
          each = All-push (IsHold rows stages starts ends) holds hold old.each is.1;
          in_order = subst IsStrictlyIncreasing (sym list) (rises (map held_entry holds) hold.entry old.in_order (subst (λ (k : ℕ). All (λ (e : ℕ). e < k) (map held_entry holds)) (sym is.0) old.below));
          below = subst (All (λ (k : ℕ). k < n + 1)) (sym list) (All-push (λ (k : ℕ). k < n + 1) (map held_entry holds) hold.entry further (let at = is.0 in omega (arith, at)));
          all = λ number task time less held. subst (λ (l : List ℕ). Contains l number) (sym list)
              (elim (cases_eq number n) [
                | inl same ↦ subst (λ (k : ℕ). Contains (map held_entry holds ++ hold.entry ∷ []) k) (is.0 ∙ sym same) (Contains-push (map held_entry holds) hold.entry)
                | inr apart ↦ Contains-append_left (map held_entry holds) (hold.entry ∷ []) number (old.all number task time (omega (arith, less, apart)) held)
              ]);
        }

  pub holds_all : (n : ℕ) (holds : List Hold) → length stages ≤ n → HoldsBelow rows stages starts ends n holds → AreHolds rows stages starts ends holds
  holds_all n holds past h = record {
    each = h.each;
    in_order = h.in_order;
    all = λ number task time held.
        let below = slice_get_within stages number held.admits.entry held.admits.there in
        h.all number task time (omega (arith, below, past)) held;
  }
