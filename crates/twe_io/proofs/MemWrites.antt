-- The writes of a text to a sink in memory, as its first use.
use Rattle.std.proofs.Common.{◌≡◌, ◌<◌, ◌≤◌, ◌↔◌, ◌+◌, ◌*◌, ◌^◌, ◌-◌, ℕ, min, List, ◌++◌, length, take, drop, None, Some, Result, Ok, Err, IsErr, Contains, sym, ap, ◌∙◌, subst, refl, arith, inl, inr, append-nil, append_assoc, length-append, length-drop, length-take-le}
use Rattle.std.proofs.Math.Nat.{mul-le-mul_left, add-mul, mul_comm}
use Rattle.std.proofs.Math.Seq.{take-add}
use Rattle.std.proofs.lemmas.Bool.{cases_lt}
use Rattle.twe_io.specs.Faults.{one_more}
use Rattle.twe_io.specs.Memory.{MemWriting, WritesMem, IsFirstUse}
use Rattle.twe_io.specs.Runs.{WriteCalls, WritesWhole}

-- how many bytes the calls took together, after one call more
count_step : (size taken calls step more room used : ℕ) → 1 ≤ step → size ≤ 2 ^ 64 - 1 → taken ≡ min size (calls * step)
    → used + (size - taken) ≤ room → more ≡ min (size - taken) (min step (room - used))
    → taken + more ≡ min size (one_more calls * step)
count_step size taken calls step more room used stepping small count fits e =
    elim (cases_lt calls (2 ^ 64 - 1)) [
      | inl lt ↦
          let next : one_more calls ≡ calls + 1 = omega arith in
          rw next (omega (arith, add-mul calls 1 step))
      | inr full ↦
          let next : one_more calls ≡ 2 ^ 64 - 1 = omega arith in
          let now : (2 ^ 64 - 1) * 1 ≤ (2 ^ 64 - 1) * step = mul-le-mul_left (2 ^ 64 - 1) stepping in
          let before : calls * 1 ≤ calls * step = mul-le-mul_left calls stepping in
          rw next (omega arith)
    ]

-- what a sink took of a text since its first use, in calls that all succeeded
pub record TookOf (first : MemWriting) (text : List ℕ) (now : MemWriting) (taken : ℕ) : Type 0 where
  pub count : taken ≡ min (length text) (now.calls * first.step)
  pub bytes : now.bytes ≡ first.bytes ++ take taken text
  pub same_room : now.room ≡ first.room
  pub same_step : now.step ≡ first.step
  pub same_fails : now.fails ≡ first.fails
  pub unnamed : (number : ℕ) → Contains first.fails number → 1 ≤ number → now.calls < number

module _ (first : MemWriting) (text : List ℕ) (stepping : 1 ≤ first.step) (small : length text ≤ 2 ^ 64 - 1)
    (unused : first.calls ≡ 0) (roomy : length first.bytes + length text ≤ first.room) where
  -- no call, nothing taken
  TookOf-none : TookOf first text first 0
  TookOf-none = record {
    count = omega (arith, ap (λ (calls : ℕ). calls * first.step) unused);
    bytes = sym (append-nil first.bytes);
    same_room = refl;
    same_step = refl;
    same_fails = refl;
    unnamed = λ number named counted. omega arith;
  }

  -- one call more
  TookOf-more : (now next : MemWriting) (taken more : ℕ) → TookOf first text now taken
      → WritesMem now (drop taken text) (Some more) next → TookOf first text next (taken + more)
  TookOf-more now next taken more took (passes, given, e) =
      let calls : next.calls ≡ one_more now.calls = ap (λ (s : MemWriting). s.calls) e in
      let bytes : next.bytes ≡ now.bytes ++ take more (drop taken text) = ap (λ (s : MemWriting). s.bytes) e in
      let used : length now.bytes ≡ length first.bytes + taken =
      ap length took.bytes ∙ length-append first.bytes (take taken text)
      ∙ ap (λ (n : ℕ). length first.bytes + n) (length-take-le taken text (omega (arith, took.count))) in
      let fits : more ≡ min (length text - taken) (min first.step (first.room - (length first.bytes + taken))) =
      omega (arith, given, length-drop taken text, used, took.same_room, took.same_step) in
      let more_count = count_step (length text) taken now.calls first.step more first.room (length first.bytes + taken) stepping small took.count
      (omega (arith, took.count)) fits in
      record {
        count = more_count ∙ ap (λ (n : ℕ). min (length text) (n * first.step)) (sym calls);
        bytes = bytes ∙ ap (λ (xs : List ℕ). xs ++ take more (drop taken text)) took.bytes
            ∙ append_assoc first.bytes (take taken text) (take more (drop taken text))
            ∙ ap (λ (xs : List ℕ). first.bytes ++ xs) (sym (take-add taken more text));
        same_room = ap (λ (s : MemWriting). s.room) e ∙ took.same_room;
        same_step = ap (λ (s : MemWriting). s.step) e ∙ took.same_step;
        same_fails = ap (λ (s : MemWriting). s.fails) e ∙ took.same_fails;
        unnamed = λ number named counted.
            let before : now.calls < number = took.unnamed number named counted in
            let never : number ≤ one_more now.calls → ⊥ = λ le. passes (inr (record {
              number = number;
              is_named = subst (λ (xs : List ℕ). Contains xs number) (sym took.same_fails) named;
              after = before;
              up_to = le;
            })) in
            omega (arith, calls, never);
      }

  pub took_of : {taken : ℕ} {now : MemWriting} → WriteCalls WritesMem text first taken now → TookOf first text now taken
  took_of WriteCalls.none = TookOf-none
  took_of (WriteCalls.write {n} {before} {after} taken more writes less some step e) =
      subst (TookOf first text after) e (TookOf-more before after taken more (took_of writes) step)

-- after the calls before the first that fails, these bytes are taken, and it fails where these are not all
pub record IsCutOff (first : MemWriting) (text : List ℕ) (failing : ℕ) (failed : Type 0) (last : MemWriting) : Type 0 where
  pub written : last.bytes ≡ first.bytes ++ take (min (length text) ((failing - 1) * first.step)) text
  pub fault : failed ↔ ((failing - 1) * first.step < length text)

module _ (first : MemWriting) (text : List ℕ) (failing : ℕ) (stepping : 1 ≤ first.step) (small : length text ≤ 2 ^ 64 - 1)
    (use_of : IsFirstUse first text failing) where
  -- all was taken before the call that fails
  cut_off-ok : (failed : Type 0) (last : MemWriting) → (failed → ⊥) → TookOf first text last (length text) → IsCutOff first text failing failed last
  cut_off-ok failed last never took =
      let before : last.calls < failing = took.unnamed failing use_of.named.is_named use_of.named.counted in
      let most : first.step * last.calls ≤ first.step * (failing - 1) = mul-le-mul_left first.step (omega arith) in
      let enough : length text ≤ (failing - 1) * first.step = omega (arith, most, took.count, mul_comm last.calls first.step, mul_comm (failing - 1) first.step) in
      let all : length text ≡ min (length text) ((failing - 1) * first.step) = omega arith in
      record {
        written = took.bytes ∙ ap (λ (n : ℕ). first.bytes ++ take n text) all;
        fault = ((λ told. absurd (never told)), (λ less. absurd (omega (arith, less, enough))));
      }

  -- the call that failed is the first that is named
  cut_off-err : (failed : Type 0) (taken : ℕ) (before last : MemWriting) → failed → taken < length text → TookOf first text before taken
      → WritesMem before (drop taken text) None last → IsCutOff first text failing failed last
  cut_off-err failed taken before last told less took (fails, e) =
      let used : length before.bytes ≡ length first.bytes + taken =
      ap length took.bytes ∙ length-append first.bytes (take taken text)
      ∙ ap (λ (n : ℕ). length first.bytes + n) (length-take-le taken text (omega (arith, took.count))) in
      let next : failing ≡ before.calls + 1 = elim fails [
        | inl full ↦ omega (arith, full, used, use_of.roomy, took.same_room, less)
        | inr named ↦
            let is_named : Contains first.fails named.number = subst (λ (xs : List ℕ). Contains xs named.number) took.same_fails named.is_named in
            let least = use_of.named.least named.number is_named (omega (arith, named.after)) in
            omega (arith, named.after, named.up_to, least, took.unnamed failing use_of.named.is_named use_of.named.counted)
      ] in
      let calls : failing - 1 ≡ before.calls = omega arith in
      let product : (failing - 1) * first.step ≡ before.calls * first.step = ap (λ (n : ℕ). n * first.step) calls in
      record {
        written = ap (λ (s : MemWriting). s.bytes) e ∙ took.bytes
            ∙ ap (λ (n : ℕ). first.bytes ++ take n text) (omega (arith, took.count, product));
        fault = ((λ _. omega (arith, took.count, product, less)), (λ lt. told));
      }

  pub cut_off : {E : Type 0} (result : Result Unit E) (last : MemWriting) → WritesWhole WritesMem text first result last
      → IsCutOff first text failing (IsErr result) last
  cut_off (Ok done) last writes = cut_off-ok _ last (λ e. cc) (took_of first text stepping small use_of.unused use_of.roomy writes)
  cut_off (Err e) last (taken, before, less, writes, step) =
      cut_off-err _ taken before last refl less (took_of first text stepping small use_of.unused use_of.roomy writes) step
