-- What a transfer of 128 futures does to each of them.
use Rattle.std.proofs.Common.{◌≡◌, ◌<◌, ℕ, ◌+◌, Bool, true, false, ◌&&◌, ◌||◌, refl, ap, ◌∙◌}
use Rattle.std.specs.Prelude.{bit_and, bit_or}
use Rattle.twe_program.specs.Statement.{Statement, Block, If, While, Return, Make, Wait, Statements, no_more, statement, Arms, arm, otherwise, no_else}
use Rattle.cover_flow.specs.declared.facts.Fact.{Fact}
use Rattle.cover_flow.specs.declared.facts.Facts.{Facts}
use Rattle.cover_flow.specs.declared.transfer.Transfer.{Transfer}
use Rattle.cover_flow.specs.Flow.{is_set, fact_of}
use Rattle.cover_flow.specs.inner.After.{joined, after, after_all, after_one}
use Rattle.cover_flow.specs.inner.Words.{none_come, joined_words, put_out_words, taken_in_words, mask_of}
use Rattle.cover_flow.specs.inner.Transfers.{unchanged, nothing_passes, applied, entered, transfers_joined, transfers_put_out, transfers_taken_in, transfers_looped, passed, passed_all, passed_one}
use Rattle.cover_flow.proofs.WordLaws.{fact, halves, set-or, set-and, set-zero, set-ones, joined-assoc, fact-none, fact-joined, fact-put_out, fact-taken_in}
use Rattle.cover_flow.proofs.Linear.{mixed, mixed-all}

-- the facts from one of the two
abbrev part : Bool → Transfer → Facts
part true t = t.from_out
part false t = t.from_not_out

part-joined : (b : Bool) (t u : Transfer) → part b (transfers_joined t u) ≡ joined_words (part b t) (part b u)
part-joined true t u = refl
part-joined false t u = refl

part-put_out : (b : Bool) (mask : ℕ) (t : Transfer) → part b (transfers_put_out mask t) ≡ put_out_words mask (part b t)
part-put_out true mask t = refl
part-put_out false mask t = refl

part-taken_in : (b : Bool) (mask : ℕ) (t : Transfer) → part b (transfers_taken_in mask t) ≡ taken_in_words mask (part b t)
part-taken_in true mask t = refl
part-taken_in false mask t = refl

part-looped : (b : Bool) (turn t : Transfer) → part b (transfers_looped turn t) ≡ entered turn (part b t)
part-looped true turn t = refl
part-looped false turn t = refl

part-none : (b : Bool) → part b nothing_passes ≡ none_come
part-none true = refl
part-none false = refl

module _ (first k : ℕ) (within : k < 128) where
  abbrev one : Facts → Fact
  one facts = fact_of facts k

  mixed_bit : (x p y q : ℕ) → is_set (bit_or (bit_and x p) (bit_and y q)) k ≡ ((is_set x k && is_set p k) || (is_set y k && is_set q k))
  mixed_bit x p y q =
      set-or (bit_and x p) (bit_and y q) k ∙ ap (λ b. b || is_set (bit_and y q) k) (set-and x p k) ∙ ap (λ b. (is_set x k && is_set p k) || b) (set-and y q k)

  one-applied : (t : Transfer) (facts : Facts) → one (applied t facts) ≡ mixed (one t.from_out) (one t.from_not_out) (one facts)
  one-applied t facts =
      let p = t.from_out in
      let q = t.from_not_out in
      halves (is_set (bit_or (bit_and facts.out p.out) (bit_and facts.not_out q.out)) k)
      ((is_set facts.out k && is_set p.out k) || (is_set facts.not_out k && is_set q.out k))
      (is_set (bit_or (bit_and facts.out p.not_out) (bit_and facts.not_out q.not_out)) k)
      ((is_set facts.out k && is_set p.not_out k) || (is_set facts.not_out k && is_set q.not_out k))
      (mixed_bit facts.out p.out facts.not_out q.out) (mixed_bit facts.out p.not_out facts.not_out q.not_out)

  -- a turn with these facts, from all out and from none
  one-turn : (body : Statements) (turn : Transfer) → one turn.from_out ≡ after_all (first + k) body (fact true false)
      → one turn.from_not_out ≡ after_all (first + k) body (fact false true) → (facts : Facts) → one (applied turn facts) ≡ after_all (first + k) body (one facts)
  one-turn body turn e h facts =
      one-applied turn facts
      ∙ ap (λ p. mixed p (one turn.from_not_out) (one facts)) e
      ∙ ap (λ q. mixed (after_all (first + k) body (fact true false)) q (one facts)) h
      ∙ mixed-all (first + k) body (is_set facts.out k) (is_set facts.not_out k)

  one-all_out : one unchanged.from_out ≡ fact true false
  one-all_out = halves (is_set 340282366920938463463374607431768211455 k) true (is_set 0 k) false (set-ones k within) (set-zero k)

  one-none_out : one unchanged.from_not_out ≡ fact false true
  one-none_out = halves (is_set 0 k) false (is_set 340282366920938463463374607431768211455 k) true (set-zero k) (set-ones k within)

  mutual
    one-passed : (b : Bool) (s : Statement) (t : Transfer) → one (part b (passed first s t)) ≡ after (first + k) s (one (part b t))
    one-passed b (Block point body) t = one-passed_all b body t
    one-passed b (If point arms) t =
        one-passed_one b nothing_passes arms t
        ∙ ap (λ x. joined (one x) (after_one (first + k) arms (one (part b t)))) (part-none b)
        ∙ ap (λ x. joined x (after_one (first + k) arms (one (part b t)))) (fact-none k)
    one-passed b (While point condition body place) t =
        ap one (part-looped b (passed_all first body unchanged) t)
        ∙ fact-joined (part b t) (applied (passed_all first body unchanged) (part b t)) k
        ∙ ap (joined (one (part b t)))
        (one-turn body (passed_all first body unchanged)
        (one-passed_all true body unchanged ∙ ap (after_all (first + k) body) one-all_out)
        (one-passed_all false body unchanged ∙ ap (after_all (first + k) body) one-none_out) (part b t))
    one-passed b (Return point value) t = ap one (part-none b) ∙ fact-none k
    one-passed b (Make point future task args true future_place place) t =
        ap one (part-put_out b (mask_of first future) t) ∙ fact-put_out first future k within (part b t)
    one-passed b (Make point future task args false future_place place) t = refl
    one-passed b (Wait point future true into place) t =
        ap one (part-taken_in b (mask_of first future) t) ∙ fact-taken_in first future k within (part b t)
    one-passed b (Wait point future false into place) t = refl
    one-passed b s t = refl

    one-passed_all : (b : Bool) (body : Statements) (t : Transfer) → one (part b (passed_all first body t)) ≡ after_all (first + k) body (one (part b t))
    one-passed_all b no_more t = refl
    one-passed_all b (statement s others) t =
        one-passed_all b others (passed first s t) ∙ ap (after_all (first + k) others) (one-passed b s t)

    one-passed_one : (b : Bool) (before : Transfer) (arms : Arms) (t : Transfer)
        → one (part b (passed_one first before arms t)) ≡ joined (one (part b before)) (after_one (first + k) arms (one (part b t)))
    one-passed_one b before (arm condition body others) t =
        let here = passed_all first body t in
        let rest = after_one (first + k) others (one (part b t)) in
        one-passed_one b (transfers_joined before here) others t
        ∙ ap (λ x. joined (one x) rest) (part-joined b before here)
        ∙ ap (λ x. joined x rest) (fact-joined (part b before) (part b here) k)
        ∙ ap (λ x. joined (joined (one (part b before)) x) rest) (one-passed_all b body t)
        ∙ joined-assoc (one (part b before)) (after_all (first + k) body (one (part b t))) rest
    one-passed_one b before (otherwise body) t =
        let here = passed_all first body t in
        ap one (part-joined b before here)
        ∙ fact-joined (part b before) (part b here) k
        ∙ ap (joined (one (part b before))) (one-passed_all b body t)
    one-passed_one b before no_else t = ap one (part-joined b before t) ∙ fact-joined (part b before) (part b t) k

  -- a turn of a loop does what its body does
  pub turn-does : (body : Statements) (facts : Facts) → one (applied (passed_all first body unchanged) facts) ≡ after_all (first + k) body (one facts)
  turn-does body facts =
      one-turn body (passed_all first body unchanged)
      (one-passed_all true body unchanged ∙ ap (after_all (first + k) body) one-all_out)
      (one-passed_all false body unchanged ∙ ap (after_all (first + k) body) one-none_out) facts

  pub entered-is : (body : Statements) (facts : Facts)
      → one (entered (passed_all first body unchanged) facts) ≡ joined (one facts) (after_all (first + k) body (one facts))
  entered-is body facts = fact-joined facts (applied (passed_all first body unchanged) facts) k ∙ ap (joined (one facts)) (turn-does body facts)
