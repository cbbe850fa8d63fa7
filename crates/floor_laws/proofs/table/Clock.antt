-- The clock after an entry.
use Rattle.std.proofs.Common.{◌≡◌, ◌+◌, ◌*◌, ◌<◌, ◌≤◌, ◌/◌, ◌%◌, ℕ, List, length, ap, subst, ◌∙◌, arith}
use Rattle.std.specs.Prelude.{◌^◌}
use Rattle.std.proofs.Math.Nat.{add-mul, mod-eq_of_lt, mul-le-mul}
use Rattle.std.proofs.lemmas.Nat.{div-mul-add, mod-mul-add, mul-add-lt}
use Rattle.std.proofs.lemmas.List.{length-map}
use Rattle.std.proofs.lemmas.List.Sums.{count_by-le-length}
use Rattle.twe_base.specs.Limits.{Bounds, IsWithin}
use Rattle.twe_program.specs.Program.{Program}
use Rattle.twe_program.specs.WellFormed.{IsWellFormed}
use Rattle.machine_state.specs.declared.state.State.{State}
use Rattle.machine_state.specs.Runs.{IsReached, Legal}
use Rattle.machine_state.proofs.counts.AllJournals.{journal_length}
use Rattle.machine_state.proofs.standing.ReachedStands.{reached_stands}
use Rattle.machine_state.proofs.standing.Standing.{is_faulted_row}
use Rattle.seg_journal.specs.declared.numbered.NumberedEntry.{NumberedEntry}
use Rattle.seg_journal.specs.Merging.{journal_of}

gather : (a b c r x : ℕ) → c ≡ a + b → x ≡ a + r → x + (1 + b) ≡ c + (r + 1)
gather a b c r x sum is = omega (arith, sum, is)

-- A number of q parts of size m, and r, in a word that holds h parts: it rises by one, and by d parts.
pub record Ticked (m q r d now : ℕ) : Type 0 where
  pub rest : now % m ≡ r + 1
  pub parts : now / m ≡ q + d

pub ticked : (m h n q r d x : ℕ) → x ≡ q * m + r → r + 1 < m → q + d < h → m * h ≡ n → Ticked m q r d ((x + (1 + d * m)) % n)
ticked m h n q r d x is small few size =
    let sum : x + (1 + d * m) ≡ (q + d) * m + (r + 1) = gather (q * m) (d * m) ((q + d) * m) r x (add-mul q d m) is in
    let below : (q + d) * m + (r + 1) < n = subst (λ (k : ℕ). (q + d) * m + (r + 1) < k) size (mul-add-lt (q + d) m (r + 1) h few small) in
    let now : (x + (1 + d * m)) % n ≡ (q + d) * m + (r + 1) = ap (λ (k : ℕ). k % n) sum ∙ mod-eq_of_lt below in
    record {
      rest = ap (λ (k : ℕ). k % m) now ∙ mod-mul-add (q + d) m (r + 1) small;
      parts = ap (λ (k : ℕ). k / m) now ∙ div-mul-add (q + d) m (r + 1) small;
    }

-- there are far fewer entries and makes than the clock can count
pub entries_few : (p : Program) (lim : Bounds) (log : List NumberedEntry) → IsWellFormed p → IsWithin lim.fuel lim.tasks → Legal p lim (journal_of log) → length log < 2 ^ 45
entries_few p lim log well within legal =
    let short = journal_length p lim well (journal_of log) within.tasks_least legal in
    let same : length (journal_of log) ≡ length log = length-map log (λ (e : NumberedEntry). e.entry) in
    let tasks = within.tasks_most in
    let fuel = within.fuel_most in
    let each : 2 * lim.fuel + 2 ≤ 200000002 = omega (arith, fuel) in
    let most : lim.tasks * (2 * lim.fuel + 2) ≤ 100000 * 200000002 = mul-le-mul {n₁ = lim.tasks} {m₁ = 2 * lim.fuel + 2} {n₂ = 100000} {m₂ = 200000002} tasks each in
    below (length log) (length (journal_of log)) (lim.tasks * (2 * lim.fuel + 2)) same short most
  where
    below : (n m most : ℕ) → m ≡ n → m ≤ most → most ≤ 20000000200000 → n < 2 ^ 45
    below n m most is le few = omega (arith, is, le, few)

pub asked_few : (p : Program) (lim : Bounds) (st : State) → IsWellFormed p → IsWithin lim.fuel lim.tasks → IsReached p lim st → st.asked + 1 < 2 ^ 19
asked_few p lim st well within reached =
    let stands = reached_stands p lim st well reached in
    let asked = stands.asked in
    let faulted = count_by-le-length is_faulted_row st.tasks in
    let tasks = stands.limit within.tasks_least in
    let most = within.tasks_most in
    omega (arith, asked, faulted, tasks, most)
