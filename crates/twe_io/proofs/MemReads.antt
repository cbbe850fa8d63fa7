-- Runs of reads of a source in memory.
use Rattle.std.proofs.Common.{◌≡◌, ◌≤◌, ◌↔◌, ◌^◌, ◌+◌, ◌-◌, ℕ, length, List, [], Option, None, Some, Result, Ok, Err, IsErrOf, Bool, true, false, Contains, sym, ap, ◌∙◌, subst, refl, le_refl, arith, inl, inr}
use Rattle.std.proofs.lemmas.Bool.{cases_lt}
use Rattle.std.specs.Option.{is_none}
use Rattle.twe_io.specs.Faults.{one_more}
use Rattle.twe_io.specs.Named.{NamedBetween}
use Rattle.twe_io.specs.Memory.{MemReading, ReadsMem}
use Rattle.twe_io.specs.Runs.{Reads, ReadsThen, ReadsWhole}
use Rattle.twe_io.specs.declared.whole.ReadFail.{ReadFail}
use Rattle.twe_io.specs.declared.whole.ReadFail.TheVariants.{ReadFault, TooLong, OutOfMemory}

-- a run of reads, in which a call is named exactly where one failed
pub record RunOf (first last : MemReading) (failed : Bool) : Type 0 where
  pub same : last.fails ≡ first.fails
  pub later : first.calls ≤ last.calls
  pub counted : last.calls ≤ 2 ^ 64 - 1
  pub fault : failed ≡ true → NamedBetween first.fails first.calls last.calls
  pub no_fault : failed ≡ false → NamedBetween first.fails first.calls last.calls → ⊥

-- one read
run-one : (before after : MemReading) (room : ℕ) (answer : Option (List ℕ)) → before.calls ≤ 2 ^ 64 - 1
    → ReadsMem before room answer after → RunOf before after (is_none answer)
run-one before after room None counted (named, e) =
    let calls : after.calls ≡ one_more before.calls = ap (λ (s : MemReading). s.calls) e in
    record {
      same = ap (λ (s : MemReading). s.fails) e;
      later = omega arith;
      counted = omega arith;
      fault = λ yes. subst (λ (to : ℕ). NamedBetween before.fails before.calls to) (sym calls) named;
      no_fault = λ no. cc;
    }
run-one before after room (Some given) counted (unnamed, same, e) =
    let calls : after.calls ≡ one_more before.calls = ap (λ (s : MemReading). s.calls) e in
    record {
      same = ap (λ (s : MemReading). s.fails) e;
      later = omega arith;
      counted = omega arith;
      fault = λ yes. cc;
      no_fault = λ no h. unnamed (subst (λ (to : ℕ). NamedBetween before.fails before.calls to) calls h);
    }

-- a run in which no read failed, and then another
run-more : (first before last : MemReading) (failed : Bool) → RunOf first before false → RunOf before last failed → RunOf first last failed
run-more first before last failed run next =
    record {
      same = next.same ∙ run.same;
      later = omega (arith, run.later, next.later);
      counted = next.counted;
      fault = λ yes. let h = next.fault yes in record {
        number = h.number;
        is_named = subst (λ (xs : List ℕ). Contains xs h.number) run.same h.is_named;
        after = omega (arith, run.later, h.after);
        up_to = h.up_to;
      };
      no_fault = λ no h. elim (cases_lt before.calls h.number) [
        | inl after ↦ next.no_fault no (record {
          number = h.number;
          is_named = subst (λ (xs : List ℕ). Contains xs h.number) (sym run.same) h.is_named;
          after = after;
          up_to = h.up_to;
        })
        | inr up_to ↦ run.no_fault refl (record { number = h.number; is_named = h.is_named; after = h.after; up_to = up_to })
      ];
    }

pub run_of : (first : MemReading) {room : ℕ} {text : List ℕ} {last : MemReading} → first.calls ≤ 2 ^ 64 - 1 → Reads ReadsMem room first text last → RunOf first last false
run_of first counted Reads.none = record {
  same = refl;
  later = le_refl _;
  counted = counted;
  fault = λ yes. cc;
  no_fault = λ no h. omega (arith, h.after, h.up_to);
}
run_of first {room} counted (Reads.read {text} {before} {after} given more reads less some step e) =
    let run = run_of first counted reads in
    run-more first before after false run (run-one before after (room - length given) (Some more) run.counted step)

-- reads, and then one that ends them
run_then : (first : MemReading) (room : ℕ) (text : List ℕ) (answer : Option (List ℕ)) (last : MemReading) → first.calls ≤ 2 ^ 64 - 1
    → ReadsThen ReadsMem room first text answer last → RunOf first last (is_none answer)
run_then first room text answer last counted h =
    let run = run_of first counted h.reads in
    run-more first h.before last (is_none answer) run (run-one h.before last (room - length text) answer run.counted h.ends)

-- so the answer of a whole read is `ReadFault` exactly where a call that it made is named
pub read_fault_iff : (limit : ℕ) (answer : Result (List ℕ) ReadFail) (first last : MemReading) → first.calls ≤ 2 ^ 64 - 1
    → ReadsWhole ReadsMem limit first answer last
    → IsErrOf answer ReadFault ↔ NamedBetween first.fails first.calls last.calls
read_fault_iff limit (Ok text) first last counted h =
    let run = run_then first (limit + 1) text (Some []) last counted h in
    ((λ e. cc), (λ named. absurd (run.no_fault refl named)))
read_fault_iff limit (Err ReadFault) first last counted h =
    let run = run_then first (limit + 1) h.0 None last counted h.1 in
    ((λ e. run.fault refl), (λ named. refl))
read_fault_iff limit (Err TooLong) first last counted h =
    let run = run_of first counted h.2 in
    ((λ e. cc), (λ named. absurd (run.no_fault refl named)))
read_fault_iff limit (Err (OutOfMemory memory)) first last counted h =
    ((λ e. cc), (λ named. absurd (omega (arith, named.after, named.up_to, ap (λ (s : MemReading). s.calls) h))))
