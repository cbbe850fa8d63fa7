-- Decider words stay true while contents lose records, get records of other tasks and change hands, and while the log grows.
use Rattle.std.proofs.Common.{◌≡◌, ◌≢◌, ◌<◌, ℕ, Bool, true, false, List, [], ◌∷◌, Option, Some, if◌then◌else◌, refl, sym, ap, subst, ◌∙◌, inl, inr, eq-eqb, ne_eqb}
use Rattle.std.specs.Prelude.{◌==◌}
use lib.ListN.{get_elem?}
use Rattle.wait_graph.specs.declared.tasks.Link.{Link}
use Rattle.wait_graph.specs.Waiting.{WaitsOnUnlessDone}
use Rattle.twe_base.specs.Limits.{Bounds}
use Rattle.twe_program.specs.Program.{Program}
use Rattle.floor_laws.specs.admission.admission_core.States.{IsAmong, Record}
use Rattle.floor_laws.specs.rule.Floors.{put}
use Rattle.floor_laws.specs.rule.nodes.Trees.{Tree, WaitFact, put_kept}
use Rattle.floor_laws.proofs.rule.Puts.{put_all}
use Rattle.floor_laws.specs.table.nodes.Deciders.{AreAt, DecidersAreSo, each_waits, led_to}
use Rattle.floor_laws.specs.table.nodes.Layout.{decider_place}
use Rattle.floor_laws.specs.table.nodes.Without.{same_record, without_record}
use Rattle.floor_laws.proofs.table.nodes.Withouts.{without_is}

-- Waits for one task.

-- of whom a wait is, if it is one of these
pub wait_of : (w : ℕ) (l : List Record) (fact : WaitFact) → IsAmong fact (each_waits w l) → (r : Record) × IsAmong r l × (fact ≡ record { waiter = r.task; awaited = w })
wait_of w [] fact among = absurd among
wait_of w (r ∷ l) fact (inl first) = (r, inl refl, first)
wait_of w (r ∷ l) fact (inr later) = let rest = wait_of w l fact later in (rest.0, inr rest.1, rest.2)

pub waits_each : (w : ℕ) (l : List Record) (r : Record) → IsAmong r l → IsAmong (record { waiter = r.task; awaited = w }) (each_waits w l)
waits_each w [] r among = absurd among
waits_each w (x ∷ l) r (inl first) = inl (ap (λ (y : Record). record { waiter = y.task; awaited = w }) first)
waits_each w (x ∷ l) r (inr later) = inr (waits_each w l r later)

-- fewer records, fewer waits
fewer_each : (w : ℕ) (few many : List Record) → ((r : Record) → IsAmong r few → IsAmong r many) → (fact : WaitFact) → IsAmong fact (each_waits w few) → IsAmong fact (each_waits w many)
fewer_each w few many more fact among =
    let one = wait_of w few fact among in
    subst (λ (x : WaitFact). IsAmong x (each_waits w many)) (sym one.2) (waits_each w many one.0 (more one.0 one.1))

-- those before the latest record of a task are some of all
led_each : (w : ℕ) (l : List Record) (fact : WaitFact) → IsAmong fact (led_to w l) → IsAmong fact (each_waits w l)
led_each w [] fact among = absurd among
led_each w (r ∷ l) fact among = by (led_each w l fact) (r.task == w) among
  where
    by : (IsAmong fact (led_to w l) → IsAmong fact (each_waits w l)) → (b : Bool) → IsAmong fact (if b then each_waits w l else led_to w l) → IsAmong fact (each_waits w (r ∷ l))
    by rest true found = inr found
    by rest false found = inr (rest found)

-- so they are if there is one record more
led_later : (w : ℕ) (r : Record) (l : List Record) (fact : WaitFact) → IsAmong fact (led_to w l) → IsAmong fact (led_to w (r ∷ l))
led_later w r l fact among = by (r.task == w)
  where
    by : (b : Bool) → IsAmong fact (if b then each_waits w l else led_to w l)
    by true = led_each w l fact among
    by false = among

-- without a record there are no more of them
pub led_without : (w : ℕ) (r : Record) (l : List Record) (fact : WaitFact) → IsAmong fact (led_to w (without_record r l)) → IsAmong fact (led_to w l)
led_without w r [] fact among = among
led_without w r (x ∷ xs) fact among = by (led_without w r xs fact) (same_record x r) among
  where
    others : (b : Bool) → IsAmong fact (if b then each_waits w (without_record r xs) else led_to w (without_record r xs)) → (IsAmong fact (led_to w (without_record r xs)) → IsAmong fact (led_to w xs)) → IsAmong fact (if b then each_waits w xs else led_to w xs)
    others true found rest = fewer_each w (without_record r xs) xs (λ y in_left. ((without_is r xs y).0 in_left).0) fact found
    others false found rest = rest found

    by : (IsAmong fact (led_to w (without_record r xs)) → IsAmong fact (led_to w xs)) → (b : Bool) → IsAmong fact (led_to w (if b then without_record r xs else x ∷ without_record r xs)) → IsAmong fact (led_to w (x ∷ xs))
    by rest true found = led_later w x xs fact (rest found)
    by rest false found = others (x.task == w) found rest

-- a record of another task in front does not count
pub led_other : (w : ℕ) (r : Record) (l : List Record) → r.task ≢ w → led_to w (r ∷ l) ≡ led_to w l
led_other w r l other = ap (λ (b : Bool). if b then each_waits w l else led_to w l) (ne_eqb r.task w other)

pub led_own : (w : ℕ) (r : Record) (l : List Record) → r.task ≡ w → led_to w (r ∷ l) ≡ each_waits w l
led_own w r l same = ap (λ (b : Bool). if b then each_waits w l else led_to w l) (eq-eqb r.task w same)

-- Contents.

-- node n had a content of which whatever is known of this one was known
abbrev pub ComesFrom : Tree → ℕ → List Record → Type 0
ComesFrom before n records = (old : List Record) × AreAt before n old × ((w : ℕ) (fact : WaitFact) → IsAmong fact (led_to w records) → IsAmong fact (led_to w old))

-- it had the same one
pub comes_same : (before : Tree) (n : ℕ) (records : List Record) → AreAt before n records → ComesFrom before n records
comes_same before n records there = (records, there, λ w fact among. among)

abbrev pub AllCome : Tree → Tree → Type 0
AllCome before after = (n : ℕ) (records : List Record) → AreAt after n records → ComesFrom before n records

-- the contents of nodes, but for one
pub contents_come : (before : Tree) (n : ℕ) (home : Option (List Record)) → ((records : List Record) → home ≡ Some records → ComesFrom before n records) → (m : ℕ) (records : List Record)
    → put before.contents n home m ≡ Some records → ComesFrom before m records
contents_come before n home own =
    put_all (λ (m : ℕ) (o : Option (List Record)). (records : List Record) → o ≡ Some records → ComesFrom before m records) before.contents n home own
    (λ m other records is. comes_same before m records (inl is))

-- those that seats have, but for one
pub kept_come : (before : Tree) (i n : ℕ) (mine : Option (List Record)) → ((records : List Record) → mine ≡ Some records → ComesFrom before n records) → (j m : ℕ) (records : List Record)
    → put_kept before.kept i n mine j m ≡ Some records → ComesFrom before m records
kept_come before i n mine own =
    put_all (λ (j : ℕ) (g : ℕ → Option (List Record)). (m : ℕ) (records : List Record) → g m ≡ Some records → ComesFrom before m records) before.kept i (put (before.kept i) n mine)
    (put_all (λ (m : ℕ) (o : Option (List Record)). (records : List Record) → o ≡ Some records → ComesFrom before m records) (before.kept i) n mine own
    (λ m other records is. comes_same before m records (inr (i, is))))
    (λ j other m records is. comes_same before m records (inr (j, is)))

-- both
pub all_come : (before after : Tree) → ((m : ℕ) (records : List Record) → after.contents m ≡ Some records → ComesFrom before m records)
    → ((j m : ℕ) (records : List Record) → after.kept j m ≡ Some records → ComesFrom before m records) → AllCome before after
all_come before after lying had n records (inl is) = lying n records is
all_come before after lying had n records (inr (i, is)) = had i n records is

-- a tree with the same contents
pub same_come : (before after : Tree) → after.contents ≡ before.contents → after.kept ≡ before.kept → AllCome before after
same_come before after contents kept =
    all_come before after (λ m records is. comes_same before m records (inl (sym (ap (λ (g : ℕ → Option (List Record)). g m) contents) ∙ is)))
    (λ j m records is. comes_same before m records (inr (j, sym (ap (λ (g : ℕ → ℕ → Option (List Record)). g j m) kept) ∙ is)))

-- The words.

pub deciders_stay : (p : Program) (lim : Bounds) (words next : List ℕ) (before after : Tree) (links later : List Link)
    → ((w : ℕ) → w < lim.tasks → get_elem? next (decider_place p lim w) ≡ get_elem? words (decider_place p lim w)) → AllCome before after
    → ((s u : ℕ) → WaitsOnUnlessDone links s u → WaitsOnUnlessDone later s u) → DecidersAreSo p lim words before links → DecidersAreSo p lim next after later
deciders_stay p lim words next before after links later same come on so w n records fact below is there among =
    let old = come n records there in
    on fact.waiter fact.awaited (so w n old.0 fact below (sym (same w below) ∙ is) old.1 (old.2 w fact among))
