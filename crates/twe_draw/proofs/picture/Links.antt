-- The entries that a bar names lead to its own.
use Rattle.std.proofs.Common.{◌≡◌, ◌<◌, ◌+◌, ◌⊎◌, inl, inr, ℕ, zero, suc, Bool, true, false, List, [], ◌∷◌, take, Option, None, Some, refl, sym, ap, ◌∙◌, subst, arith}
use Rattle.std.specs.Prelude.{◌==◌, slice_get, if◌then◌else◌}
use Rattle.std.specs.List.{fold}
use Rattle.std.proofs.lemmas.Bool.{and_parts, eqb-true, or_cases}
use Rattle.seg_journal.specs.declared.journal.End.{End}
use Rattle.seg_journal.specs.declared.journal.End.TheVariants as ends
use Rattle.machine_state.specs.Runs.{is_done}
use Rattle.span_profile.specs.LeadsTo.{LeadsTo}
use Rattle.span_profile.specs.Strands.{Strand, made_task}
use Rattle.span_profile.specs.heaviest_chain.Chains.{Leads}
use Rattle.twe_draw.specs.picture.Bars.{IsShown, Shows, concerns, ends_by_making, giver_in, has_done, last_that}
use Rattle.twe_draw.specs.declared.picture.bars.EntryBar.{EntryBar}
use Rattle.twe_draw.proofs.picture.Shown.{shown_at}

-- a bar at this place passes the test and has this number
abbrev Passes : (EntryBar → Bool) → List EntryBar → ℕ → Type 0
Passes test bars number = (k : ℕ) × (bar : EntryBar) × (slice_get bars k ≡ Some bar) × (test bar ≡ true) × (bar.number ≡ number)

further : (test : EntryBar → Bool) (first : EntryBar) (bars : List EntryBar) (number : ℕ) → Passes test bars number → Passes test (first ∷ bars) number
further test first bars number is = (suc is.0, is.1, is.2, is.3, is.4)

first_or : (test : EntryBar → Bool) (first : EntryBar) (bars : List EntryBar) (number : ℕ) (last : Option ℕ) (t : Bool) → test first ≡ t → (if t then Some first.number else last) ≡ Some number
    → (last ≡ Some number) ⊎ Passes test (first ∷ bars) number
first_or test first bars number last true passes is = let same : first.number ≡ number = cc in inr (0, first, refl, passes, same)
first_or test first bars number last false fails is = inl is

-- the last that passes is one that does
found_in : (test : EntryBar → Bool) (bars : List EntryBar) (last : Option ℕ) (number : ℕ) → fold (λ (l : Option ℕ) (bar : EntryBar). if test bar then Some bar.number else l) last bars ≡ Some number
    → (last ≡ Some number) ⊎ Passes test bars number
found_in test [] last number is = inl is
found_in test (first ∷ bars) last number is = elim (found_in test bars (if test first then Some first.number else last) number is) [
  | inl here ↦ first_or test first bars number last (test first) refl here
  | inr later ↦ inr (further test first bars number later)
]

none_is : (last : Option ℕ) (number : ℕ) → last ≡ None → last ≡ Some number → ⊥
none_is last number none some = cc

passes_one : (test : EntryBar → Bool) (bars : List EntryBar) (number : ℕ) → last_that test bars ≡ Some number → Passes test bars number
passes_one test bars number is = elim (found_in test bars None number is) [ inl none ↦ absurd (none_is None number refl none) | inr passes ↦ passes ]

-- what stands in a beginning of a list stands in it, before the end of the beginning
taken_get : (bars : List EntryBar) (n k : ℕ) (bar : EntryBar) → slice_get (take n bars) k ≡ Some bar → (k < n) × (slice_get bars k ≡ Some bar)
taken_get bars zero k bar here = absurd (cc)
taken_get [] (suc n) k bar here = absurd (cc)
taken_get (first ∷ bars) (suc n) zero bar here = (omega arith, here)
taken_get (first ∷ bars) (suc n) (suc k) bar here = let rest = taken_get bars n k bar here in (let less = rest.0 in omega (arith, less), rest.1)

made_it : (task : ℕ) (end : End) → ends_by_making task end ≡ true → made_task end ≡ Some task
made_it task (ends.Made child) e = let same = eqb-true task child e in ap (λ (n : ℕ). Some n) (sym same)
made_it task ends.Admitted e = absurd (cc)
made_it task (ends.Waits on) e = absurd (cc)
made_it task (ends.Joins on) e = absurd (cc)
made_it task (ends.Done value) e = absurd (cc)
made_it task (ends.Fault kind place) e = absurd (cc)

module _ (strands : List Strand) (bars : List EntryBar) (shows : Shows 0 strands bars) where
  -- a bar before another one, with what both show
  record HasEarlier (test : EntryBar → Bool) (number before : ℕ) (bar : EntryBar) : Type 0 where
    pub first : EntryBar
    pub a : Strand
    pub b : Strand
    pub less : before < number
    pub at_first : slice_get strands before ≡ Some a
    pub at_second : slice_get strands number ≡ Some b
    pub passes : test first ≡ true
    pub shows_first : IsShown (0 + before) a first
    pub shows_second : IsShown (0 + number) b bar

  earlier : (test : EntryBar → Bool) (number before : ℕ) (bar : EntryBar) → slice_get bars number ≡ Some bar → last_that test (take number bars) ≡ Some before → HasEarlier test number before bar
  earlier test number before bar here last =
      let found = passes_one test (take number bars) before last in
      let place = taken_get bars number found.0 found.1 found.2 in
      let first = shown_at 0 strands bars shows found.0 found.1 place.1 in
      let second = shown_at 0 strands bars shows number bar here in
      let same : found.0 ≡ before = (let a = first.2.number_is in let b = found.4 in omega (arith, a, b)) in
      let less = place.0 in
      record {
        first = found.1;
        a = first.0;
        b = second.0;
        less = omega (arith, less, same);
        at_first = subst (λ (n : ℕ). slice_get strands n ≡ Some first.0) same first.1;
        at_second = second.1;
        passes = found.3;
        shows_first = subst (λ (n : ℕ). IsShown (0 + n) first.0 found.1) same first.2;
        shows_second = second.2;
      }

  leads_by : (number before : ℕ) (bar : EntryBar) (test : EntryBar → Bool) (e : HasEarlier test number before bar) → LeadsTo e.a e.b → Leads LeadsTo strands before number
  leads_by number before bar test e leads = record {
    before = e.less;
    first = e.a;
    second = e.b;
    at_first = e.at_first;
    at_second = e.at_second;
    leads = leads;
  }

  -- the entry before, of the same task or which made it
  pub previous_leads : (number before : ℕ) (bar : EntryBar) → slice_get bars number ≡ Some bar → last_that (concerns bar.task) (take number bars) ≡ Some before → Leads LeadsTo strands before number
  previous_leads number before bar here last =
      let e = earlier (concerns bar.task) number before bar here last in
      leads_by number before bar (concerns bar.task) e (elim (or_cases (bar.task == e.first.task) (ends_by_making bar.task e.first.end) e.passes) [
        | inl same ↦ LeadsTo.same_task (sym e.shows_first.task ∙ (sym (eqb-true bar.task e.first.task same) ∙ e.shows_second.task))
        | inr made ↦ LeadsTo.makes (sym e.shows_first.made ∙ (made_it bar.task e.first.end made ∙ ap (λ (n : ℕ). Some n) e.shows_second.task))
      ])

  gives : (number before : ℕ) (bar : EntryBar) (task : ℕ) → slice_get bars number ≡ Some bar → bar.taken ≡ Some task → last_that (has_done task) (take number bars) ≡ Some before
      → Leads LeadsTo strands before number
  gives number before bar task here took last =
      let e = earlier (has_done task) number before bar here last in
      let both = and_parts (is_done e.first.end) (task == e.first.task) e.passes in
      let same : task ≡ e.a.task = eqb-true task e.first.task both.1 ∙ e.shows_first.task in
      leads_by number before bar (has_done task) e
      (LeadsTo.gives_value (sym e.shows_first.done ∙ both.0) (sym e.shows_second.taken ∙ (took ∙ ap (λ (n : ℕ). Some n) same)))

  -- and the entry that has done the task whose value it took
  pub giver_leads : (number before : ℕ) (bar : EntryBar) (taken : Option ℕ) → bar.taken ≡ taken → slice_get bars number ≡ Some bar → giver_in (take number bars) taken ≡ Some before
      → Leads LeadsTo strands before number
  giver_leads number before bar None took here last = absurd (none_is None before refl last)
  giver_leads number before bar (Some task) took here last = gives number before bar task here took last
