-- What each worker's ends become when there is one deck more.
use Rattle.std.proofs.Common.{◌≡◌, ℕ, ◌+◌, ◌<◌, ◌≤◌, ◌-◌, List, [], ◌∷◌, ◌++◌, length, get_or, set, map, take, drop, add_assoc, sym, ap, ◌∙◌, arith}
use Rattle.std.specs.List.{insert, All}
use Rattle.std.proofs.lemmas.List.{length-map, map-append, length-take, get_or-append_right, get_or-drop, take_more}
use Rattle.std.proofs.lemmas.List.Edits.{insert-append_left, get_or-insert_at, map_over_more}
use Rattle.steal_pool.specs.declared.law.Hand.{Hand}
use Rattle.steal_pool.specs.Hand.{sharing, guest_of}
use Rattle.steal_pool.specs.DeckEnds.{DeckId, DeckEnds, hand_at}
use Rattle.steal_pool.specs.inner.Single.{DeckEnd, ends_of}
use Rattle.steal_pool.specs.inner.Making.{met, end_on}
use Rattle.steal_pool.proofs.PlaceLemmas.{set-insert_here}

inserted : {X : Type 0} (f : DeckEnd → X) (others : List DeckEnd) (theirs : DeckEnd) (n : ℕ) (x : X) → n ≤ length others → insert (map f (others ++ theirs ∷ [])) n x ≡ insert (map f others) n x ++ f theirs ∷ []
inserted f others theirs n x within =
    ap (λ xs. insert xs n x) (map-append f others (theirs ∷ [])) ∙ insert-append_left (map f others) (f theirs ∷ []) n x (omega (arith, length-map others f))

-- a worker gets an end of the new deck, and its own deck has a taker more
pub meets : (n : ℕ) (own own' : DeckEnd) (others others' : List DeckEnd) (theirs : DeckEnd) (old : DeckEnds) (deck : DeckId) (bound : ℕ) → n ≤ length others → ends_of n own others ≡ old
    → others' ≡ others ++ theirs ∷ [] → theirs.deck ≡ deck → theirs.hand ≡ guest_of bound → own'.deck ≡ own.deck → own'.hand ≡ sharing own.hand
    → ends_of n own' others' ≡ met deck bound old
meets n own own' others others' theirs old deck bound within is longer theirs_is fresh same shares =
    let deck_of = λ (end : DeckEnd). end.deck in
    let hand_of = λ (end : DeckEnd). end.hand in
    let hands = map hand_of others in
    let long : n ≤ length hands = omega (arith, length-map others hand_of) in
    let here : hand_at (ends_of n own others) n ≡ own.hand = get_or-insert_at hands n own.hand (guest_of own.hand.bound) long in
    let decks : insert (map deck_of (others ++ theirs ∷ [])) n own'.deck ≡ insert (map deck_of others) n own.deck ++ deck ∷ [] =
    inserted deck_of others theirs n own'.deck within ∙ (λ i. insert (map deck_of others) n (same i) ++ theirs_is i ∷ []) in
    let own_now : insert hands n own'.hand ≡ set (insert hands n own.hand) n (sharing (hand_at (ends_of n own others) n)) =
    sym (set-insert_here hands n own.hand own'.hand long) ∙ ap (λ h. set (insert hands n own.hand) n h) (shares ∙ ap sharing (sym here)) in
    let now : insert (map hand_of (others ++ theirs ∷ [])) n own'.hand ≡ set (insert hands n own.hand) n (sharing (hand_at (ends_of n own others) n)) ++ guest_of bound ∷ [] =
    inserted hand_of others theirs n own'.hand within ∙ (λ i. own_now i ++ fresh i ∷ []) in
    let changed : ends_of n own' (others ++ theirs ∷ []) ≡ met deck bound (ends_of n own others) = λ i. record {
      number = n;
      bound = (shares i).bound;
      decks = decks i;
      hands = now i;
    } in
    ap (λ os. ends_of n own' os) longer ∙ (changed ∙ ap (λ e. met deck bound e) is)

-- an item that the loop has not come to is as it was
at_rest : (f : DeckEnds → DeckEnds) (before now : List DeckEnds) (i : ℕ) (x : DeckEnds) → i < length before → now ≡ map f (take i before) ++ drop i before → x ≡ get_or now i x → x ≡ get_or before i x
at_rest f before now i x less is here =
    let long : length (map f (take i before)) ≡ i = omega (arith, length-map (take i before) f, length-take i before) in
    let back : i + (i - i) ≡ i = omega arith in
    here
    ∙ (ap (λ l. get_or l i x) is
    ∙ (get_or-append_right (map f (take i before)) (drop i before) i i x long (omega arith)
    ∙ (get_or-drop i before (i - i) x ∙ ap (λ j. get_or before j x) back)))

-- one worker more has met the new deck
module _ (own : DeckEnd) (before now : List DeckEnds) (i : ℕ) (x : DeckEnds) (less : i < length before) (agree : All (λ ends. ends.bound ≡ own.hand.bound) before)
    (is : now ≡ map (met own.deck own.hand.bound) (take i before) ++ drop i before) (here : x ≡ get_or now i x) where
  first : x ≡ get_or before i x
  first = at_rest (met own.deck own.hand.bound) before now i x less is here

  bound_is : x.bound ≡ own.hand.bound
  bound_is = ap (λ (e : DeckEnds). e.bound) first ∙ agree i x less

  pub met_more : (deck : DeckId) (x' : DeckEnds) → deck ≡ own.deck → x' ≡ met deck (get_or now i x).bound (get_or now i x) → set now i x' ≡ map (met own.deck own.hand.bound) (take (i + 1) before) ++ drop (i + 1) before
  met_more deck x' same met_is =
      ap (λ e. set now i e) (met_is ∙ ((λ j. met (same j) (sym here j).bound (sym here j)) ∙ ap (λ b. met own.deck b x) bound_is)) ∙ map_over_more (met own.deck own.hand.bound) before now i x less is here

  pub ends_more : (others others' : List DeckEnd) (other : DeckEnd) → others ≡ map (end_on own.hand.bound) (take i before) → others' ≡ others ++ other ∷ [] → other ≡ end_on (get_or now i x).bound (get_or now i x) → others' ≡ map (end_on own.hand.bound) (take (i + 1) before)
  ends_more others others' other were longer other_is =
      let f = end_on own.hand.bound in
      let more : map f (take (i + 1) before) ≡ map f (take i before) ++ f x ∷ [] =
      ap (map f) (take_more before i x less) ∙ (map-append f (take i before) (get_or before i x ∷ []) ∙ ap (λ e. map f (take i before) ++ f e ∷ []) (sym first)) in
      longer ∙ ((λ j. were j ++ (other_is ∙ ((λ k. end_on (sym here k).bound (sym here k)) ∙ ap (λ b. end_on b x) bound_is)) j ∷ []) ∙ sym more)

-- and the new deck has a taker more
pub shared_more : (before now new : Hand) (i : ℕ) → now ≡ record before { takers = before.takers + i } → new ≡ sharing now → new ≡ record before { takers = before.takers + (i + 1) }
shared_more before now new i is shares = shares ∙ (ap sharing is ∙ ap (λ n. record before { takers = n }) (add_assoc before.takers i 1))
