-- The facts of 128 futures in words are those of each of them.
use Rattle.std.proofs.Common.{◌≡◌, ◌<◌, ℕ, zero, suc, ◌+◌, true, false, List, [], ◌∷◌, ◌++◌, map, get_or, set, replicate, refl, sym, ap, ◌∙◌}
use Rattle.std.proofs.lemmas.List.{map-set}
use Rattle.twe_program.specs.declared.program.Body.{Body}
use Rattle.twe_program.specs.Statement.{Statement, Block, If, While, Return, Make, Wait, Statements, no_more, statement, Arms, arm, otherwise, no_else}
use Rattle.cover_flow.specs.declared.facts.Fact.{Fact}
use Rattle.cover_flow.specs.declared.facts.Facts.{Facts}
use Rattle.cover_flow.specs.ControlPath.{point_of, end_of}
use Rattle.cover_flow.specs.Flow.{fact_of}
use Rattle.cover_flow.specs.inner.After.{nowhere, at_start, joined, after, after_all, after_one}
use Rattle.cover_flow.specs.inner.Marked.{noted, marked, marked_all, marked_one, row_of}
use Rattle.cover_flow.specs.inner.Words.{none_come, start_words, joined_words}
use Rattle.cover_flow.specs.inner.Transfers.{Turns, unchanged, entered, passed_all, turns_of, turns_of_all, turns_of_one}
use Rattle.cover_flow.specs.inner.MarkedWords.{left, left_all, left_one, led, led_all, led_one, noted_words, marked_words, marked_words_all, marked_words_one, rows_of}
use Rattle.cover_flow.proofs.WordLaws.{joined-assoc, fact-none, fact-start, fact-joined, fact-put_out, fact-taken_in}
use Rattle.cover_flow.proofs.TransferLaws.{entered-is}

pub append-assoc : (xs ys zs : Turns) → (xs ++ ys) ++ zs ≡ xs ++ (ys ++ zs)
append-assoc [] ys zs = refl
append-assoc (x ∷ xs) ys zs = ap (λ (q : Turns). x ∷ q) (append-assoc xs ys zs)

append-none : (xs : Turns) → xs ++ [] ≡ xs
append-none [] = refl
append-none (x ∷ xs) = ap (λ (q : Turns). x ∷ q) (append-none xs)

module _ (first : ℕ) where
  -- the loops within take their own turns, and leave the others
  mutual
    left-own : (s : Statement) (more : Turns) → left s (turns_of first s ++ more) ≡ more
    left-own (Block point body) more = left_all-own body more
    left-own (If point arms) more = left_one-own arms more
    left-own (While point condition body place) more = left_all-own body more
    left-own (Return point value) more = refl
    left-own s more = refl

    left_all-own : (body : Statements) (more : Turns) → left_all body (turns_of_all first body ++ more) ≡ more
    left_all-own no_more more = refl
    left_all-own (statement s others) more =
        let rest = turns_of_all first others ++ more in
        ap (λ q. left_all others (left s q)) (append-assoc (turns_of first s) (turns_of_all first others) more)
        ∙ ap (left_all others) (left-own s rest)
        ∙ left_all-own others more

    left_one-own : (arms : Arms) (more : Turns) → left_one arms (turns_of_one first arms ++ more) ≡ more
    left_one-own (arm condition body others) more =
        let rest = turns_of_one first others ++ more in
        ap (λ q. left_one others (left_all body q)) (append-assoc (turns_of_all first body) (turns_of_one first others) more)
        ∙ ap (left_one others) (left_all-own body rest)
        ∙ left_one-own others more
    left_one-own (otherwise body) more = left_all-own body more
    left_one-own no_else more = refl

module _ (first k : ℕ) (within : k < 128) where
  -- the fact of the one
  abbrev pub lane : Facts → Fact
  lane facts = fact_of facts k

  two : (a b : Facts) (x y : Fact) → lane a ≡ x → lane b ≡ y → lane (joined_words a b) ≡ joined x y
  two a b x y e h = fact-joined a b k ∙ ap (λ z. joined z (lane b)) e ∙ ap (joined x) h

  mutual
    lane-led : (s : Statement) (facts : Facts) (more : Turns) → lane (led first s facts (turns_of first s ++ more)) ≡ after (first + k) s (lane facts)
    lane-led (Block point body) facts more = lane-led_all body facts more
    lane-led (If point arms) facts more =
        lane-led_one none_come arms facts more ∙ ap (λ z. joined z (after_one (first + k) arms (lane facts))) (fact-none k)
    lane-led (While point condition body place) facts more = entered-is first k within body facts
    lane-led (Return point value) facts more = fact-none k
    lane-led (Make point future task args true future_place place) facts more = fact-put_out first future k within facts
    lane-led (Make point future task args false future_place place) facts more = refl
    lane-led (Wait point future true into place) facts more = fact-taken_in first future k within facts
    lane-led (Wait point future false into place) facts more = refl
    lane-led s facts more = refl

    lane-led_all : (body : Statements) (facts : Facts) (more : Turns)
        → lane (led_all first body facts (turns_of_all first body ++ more)) ≡ after_all (first + k) body (lane facts)
    lane-led_all no_more facts more = refl
    lane-led_all (statement s others) facts more =
        let rest = turns_of_all first others ++ more in
        let own = turns_of first s ++ rest in
        ap (λ q. lane (led_all first others (led first s facts q) (left s q))) (append-assoc (turns_of first s) (turns_of_all first others) more)
        ∙ ap (λ q. lane (led_all first others (led first s facts own) q)) (left-own first s rest)
        ∙ lane-led_all others (led first s facts own) more
        ∙ ap (after_all (first + k) others) (lane-led s facts rest)

    lane-led_one : (before : Facts) (arms : Arms) (facts : Facts) (more : Turns)
        → lane (led_one first before arms facts (turns_of_one first arms ++ more)) ≡ joined (lane before) (after_one (first + k) arms (lane facts))
    lane-led_one before (arm condition body others) facts more =
        let rest = turns_of_one first others ++ more in
        let own = turns_of_all first body ++ rest in
        let here = led_all first body facts own in
        let fact = after_all (first + k) body (lane facts) in
        let after_rest = after_one (first + k) others (lane facts) in
        ap (λ q. lane (led_one first (joined_words before (led_all first body facts q)) others facts (left_all body q)))
        (append-assoc (turns_of_all first body) (turns_of_one first others) more)
        ∙ ap (λ q. lane (led_one first (joined_words before here) others facts q)) (left_all-own first body rest)
        ∙ lane-led_one (joined_words before here) others facts more
        ∙ ap (λ z. joined z after_rest) (two before here (lane before) fact refl (lane-led_all body facts rest))
        ∙ joined-assoc (lane before) fact after_rest
    lane-led_one before (otherwise body) facts more =
        two before (led_all first body facts (turns_of_all first body ++ more)) (lane before) (after_all (first + k) body (lane facts)) refl (lane-led_all body facts more)
    lane-led_one before no_else facts more = fact-joined before facts k

  -- the row of the one
  abbrev pub lanes : List Facts → List Fact
  lanes rows = map (λ facts. fact_of facts k) rows

  pub lanes-get : (rows : List Facts) (point : ℕ) → get_or (lanes rows) point nowhere ≡ lane (get_or rows point none_come)
  lanes-get [] point = sym (fact-none k)
  lanes-get (facts ∷ rows) zero = refl
  lanes-get (facts ∷ rows) (suc point) = lanes-get rows point

  lanes-noted : (rows : List Facts) (point : ℕ) (facts : Facts) (seen : Fact) → lane facts ≡ seen → lanes (noted_words rows point facts) ≡ noted (lanes rows) point seen
  lanes-noted rows point facts seen e =
      map-set (λ q. fact_of q k) rows point (joined_words (get_or rows point none_come) facts)
      ∙ ap (set (lanes rows) point) (two (get_or rows point none_come) facts (get_or (lanes rows) point nowhere) seen (sym (lanes-get rows point)) e)

  module _ (end : ℕ) where
    -- marks from equal facts and rows
    from_all : (body : Statements) (x y : Fact) (r q : List Fact) → x ≡ y → r ≡ q → marked_all (first + k) end body x r ≡ marked_all (first + k) end body y q
    from_all body x y r q e h = ap (λ z. marked_all (first + k) end body z r) e ∙ ap (marked_all (first + k) end body y) h

    mutual
      lanes-marked : (s : Statement) (facts : Facts) (more : Turns) (rows : List Facts)
          → lanes (marked_words first end s facts (turns_of first s ++ more) rows) ≡ marked (first + k) end s (lane facts) (lanes rows)
      lanes-marked (Block point body) facts more rows =
          lanes-marked_all body facts more (noted_words rows point facts) ∙ ap (marked_all (first + k) end body (lane facts)) (lanes-noted rows point facts (lane facts) refl)
      lanes-marked (If point arms) facts more rows =
          lanes-marked_one arms facts more (noted_words rows point facts) ∙ ap (marked_one (first + k) end arms (lane facts)) (lanes-noted rows point facts (lane facts) refl)
      lanes-marked (While point condition body place) facts more rows =
          let head = entered (passed_all first body unchanged) facts in
          let fact = joined (lane facts) (after_all (first + k) body (lane facts)) in
          let is : lane head ≡ fact = entered-is first k within body facts in
          lanes-marked_all body head more (noted_words rows point head)
          ∙ from_all body (lane head) fact (lanes (noted_words rows point head)) (noted (lanes rows) point fact) is (lanes-noted rows point head fact is)
      lanes-marked (Return point value) facts more rows =
          lanes-noted (noted_words rows point facts) end facts (lane facts) refl
          ∙ ap (λ r. noted r end (lane facts)) (lanes-noted rows point facts (lane facts) refl)
      lanes-marked s facts more rows = lanes-noted rows (point_of s) facts (lane facts) refl

      lanes-marked_all : (body : Statements) (facts : Facts) (more : Turns) (rows : List Facts)
          → lanes (marked_words_all first end body facts (turns_of_all first body ++ more) rows) ≡ marked_all (first + k) end body (lane facts) (lanes rows)
      lanes-marked_all no_more facts more rows = refl
      lanes-marked_all (statement s others) facts more rows =
          let rest = turns_of_all first others ++ more in
          let own = turns_of first s ++ rest in
          let next = led first s facts own in
          ap (λ q. lanes (marked_words_all first end others (led first s facts q) (left s q) (marked_words first end s facts q rows)))
          (append-assoc (turns_of first s) (turns_of_all first others) more)
          ∙ ap (λ q. lanes (marked_words_all first end others next q (marked_words first end s facts own rows))) (left-own first s rest)
          ∙ lanes-marked_all others next more (marked_words first end s facts own rows)
          ∙ from_all others (lane next) (after (first + k) s (lane facts)) (lanes (marked_words first end s facts own rows))
          (marked (first + k) end s (lane facts) (lanes rows)) (lane-led s facts rest) (lanes-marked s facts rest rows)

      lanes-marked_one : (arms : Arms) (facts : Facts) (more : Turns) (rows : List Facts)
          → lanes (marked_words_one first end arms facts (turns_of_one first arms ++ more) rows) ≡ marked_one (first + k) end arms (lane facts) (lanes rows)
      lanes-marked_one (arm condition body others) facts more rows =
          let rest = turns_of_one first others ++ more in
          let own = turns_of_all first body ++ rest in
          ap (λ q. lanes (marked_words_one first end others facts (left_all body q) (marked_words_all first end body facts q rows)))
          (append-assoc (turns_of_all first body) (turns_of_one first others) more)
          ∙ ap (λ q. lanes (marked_words_one first end others facts q (marked_words_all first end body facts own rows))) (left_all-own first body rest)
          ∙ lanes-marked_one others facts more (marked_words_all first end body facts own rows)
          ∙ ap (marked_one (first + k) end others (lane facts)) (lanes-marked_all body facts rest rows)
      lanes-marked_one (otherwise body) facts more rows = lanes-marked_all body facts more rows
      lanes-marked_one no_else facts more rows = refl

  lanes-empty : (n : ℕ) → lanes (replicate n none_come) ≡ replicate n nowhere
  lanes-empty zero = refl
  lanes-empty (suc n) = ap (λ (x : Fact). x ∷ lanes (replicate n none_come)) (fact-none k) ∙ ap (λ (xs : List Fact). nowhere ∷ xs) (lanes-empty n)

  -- the facts of the one at each point of a body
  pub lanes-row : (body : Body) → lanes (rows_of body first) ≡ row_of body (first + k)
  lanes-row body =
      let end = end_of body in
      let empty : List Facts = replicate body.points none_come in
      let turns : Turns = turns_of_all first body.block in
      let start : lane start_words ≡ at_start = fact-start k within in
      let last : lane (led_all first body.block start_words turns) ≡ after_all (first + k) body.block at_start =
      ap (λ q. lane (led_all first body.block start_words q)) (sym (append-none turns))
      ∙ lane-led_all body.block start_words [] ∙ ap (after_all (first + k) body.block) start in
      let inner : lanes (marked_words_all first end body.block start_words turns empty) ≡ marked_all (first + k) end body.block at_start (replicate body.points nowhere) =
      ap (λ q. lanes (marked_words_all first end body.block start_words q empty)) (sym (append-none turns))
      ∙ lanes-marked_all end body.block start_words [] empty
      ∙ from_all end body.block (lane start_words) at_start (lanes empty) (replicate body.points nowhere) start (lanes-empty body.points) in
      lanes-noted (marked_words_all first end body.block start_words turns empty) end (led_all first body.block start_words turns) (after_all (first + k) body.block at_start) last
      ∙ ap (λ r. noted r end (after_all (first + k) body.block at_start)) inner
