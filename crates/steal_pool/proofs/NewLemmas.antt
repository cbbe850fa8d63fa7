-- The decks so far are new, and so are they with one deck more.
use Rattle.std.proofs.Common.{◌≡◌, ℕ, zero, suc, ◌+◌, ◌<◌, ◌≤◌, List, [], ◌∷◌, ◌++◌, length, get_or, set, map, take, drop, replicate, Some, refl, sym, ap, ◌∙◌, subst, ⊎_elim, length-append, arith}
use Rattle.std.specs.List.{All, insert, slice_get}
use Rattle.std.proofs.Math.Seq.{set-append_seam, take-append_seam}
use Rattle.std.proofs.lemmas.Bool.{cases_lt}
use Rattle.std.proofs.lemmas.Option.{none-some, same_Some, get_or_from_slice_get}
use Rattle.std.proofs.lemmas.List.{length-map, length-replicate, replicate_more, set-append_left, get_or-set_same, ext_get_or, get_or-map}
use Rattle.std.proofs.lemmas.Simd.{map-map}
use Rattle.std.proofs.lemmas.List.Edits.{insert_end}
use Rattle.steal_pool.specs.declared.law.Hand.{Hand}
use Rattle.steal_pool.specs.Hand.{sharing, owner_of, guest_of}
use Rattle.steal_pool.specs.DeckEnds.{DeckId, DeckEnds, new_ends, AreNew}
use Rattle.steal_pool.specs.inner.Single.{DeckEnd, ends_of, AgreeOnBound}
use Rattle.steal_pool.specs.inner.Making.{met, end_on}

map_there : {A B : Type 0} (f : A → B) (xs : List A) (more : List B) (i : ℕ) (x : A) → slice_get xs i ≡ Some x → slice_get (map f xs ++ more) i ≡ Some (f x)
map_there f [] more i x e = absurd (none-some x e)
map_there f (y ∷ xs) more zero x e = ap (λ z. Some (f z)) (same_Some y x e)
map_there f (y ∷ xs) more (suc i) x e = map_there f xs more i x e

last_there : {A : Type 0} (xs : List A) (x : A) (n : ℕ) → n ≡ length xs → slice_get (xs ++ x ∷ []) n ≡ Some x
last_there [] x n e = ap (λ k. slice_get (x ∷ []) k) e
last_there (y ∷ xs) x n e = ap (λ k. slice_get (y ∷ xs ++ x ∷ []) k) e ∙ last_there xs x (length xs) refl

all_same : {A B : Type 0} (f : A → B) (xs : List A) (y : B) → ((x : A) → f x ≡ y) → map f xs ≡ replicate (length xs) y
all_same f [] y h = refl
all_same f (x ∷ xs) y h = λ i. h x i ∷ all_same f xs y h i

set_again : {A : Type 0} (xs : List A) (i : ℕ) (x y : A) → set (set xs i x) i y ≡ set xs i y
set_again [] i x y = refl
set_again (z ∷ xs) zero x y = refl
set_again (z ∷ xs) (suc i) x y = ap (λ l. z ∷ l) (set_again xs i x y)

-- the worker of this number has met one deck more
met_new : (bound : ℕ) (decks : List DeckId) (deck : DeckId) (number : ℕ) → number < length decks → met deck bound (new_ends bound decks number) ≡ new_ends bound (decks ++ deck ∷ []) number
met_new bound decks deck number less =
    let n = length decks in
    let guest = guest_of bound in
    let guests = replicate n guest in
    let long : number < length guests = omega (arith, length-replicate n guest) in
    let own = owner_of bound n in
    let here : get_or (set guests number own) number guest ≡ own = get_or-set_same guests number own guest long in
    let count : length (decks ++ deck ∷ []) ≡ n + 1 = length-append decks (deck ∷ []) in
    let hands : set (set guests number own) number (sharing (get_or (set guests number own) number guest)) ++ guest ∷ [] ≡ set (replicate (n + 1) guest) number (owner_of bound (n + 1)) =
    ap (λ h. set (set guests number own) number (sharing h) ++ guest ∷ []) here
    ∙ (ap (λ l. l ++ guest ∷ []) (set_again guests number own (owner_of bound (n + 1)))
    ∙ (sym (set-append_left guests (guest ∷ []) number (owner_of bound (n + 1)) long)
    ∙ ap (λ l. set l number (owner_of bound (n + 1))) (replicate_more n guest))) in
    let all = hands ∙ ap (λ k. set (replicate k guest) number (owner_of bound k)) (sym count) in
    λ i. record {
      number = number;
      bound = bound;
      decks = decks ++ deck ∷ [];
      hands = all i;
    }

-- the bound that all workers know
pub bounds : (n bound : ℕ) (all : List DeckEnds) (known : ℕ) → AreNew n bound all → known ≡ bound → All (λ ends. ends.bound ≡ known) all
bounds n bound all known new same k d less =
    let many = new.many in
    ap (λ (e : DeckEnds). e.bound) (get_or_from_slice_get all k (new_ends bound new.decks k) d (new.each k (omega arith))) ∙ sym same

module _ (n bound : ℕ) (all : List DeckEnds) (new : AreNew n bound all) where
  abbrev deck_on : DeckEnds → DeckId
  deck_on ends = get_or ends.decks ends.number (0, 0)

  -- each worker's own deck is the one of its number
  own_decks : map deck_on all ≡ new.decks
  own_decks =
      let count = new.count in
      let many = new.many in
      ext_get_or (0, 0) (map deck_on all) new.decks (length-map all deck_on ∙ (many ∙ sym count)) (λ i less.
      let within : i < length all = omega (arith, length-map all deck_on) in
      get_or-map deck_on all i (new_ends bound new.decks i) (0, 0) within
      ∙ ap deck_on (get_or_from_slice_get all i (new_ends bound new.decks i) (new_ends bound new.decks i) (new.each i (omega arith))))

  -- a new deck's worker gets an end of each deck
  last_new : (own : DeckEnd) (others : List DeckEnd) → own.hand ≡ owner_of bound (n + 1) → others ≡ map (end_on bound) all → ends_of n own others ≡ new_ends bound (new.decks ++ own.deck ∷ []) n
  last_new own others hand is =
      let guest = guest_of bound in
      let count = new.count in
      let many = new.many in
      let deck_of = λ (end : DeckEnd). end.deck in
      let hand_of = λ (end : DeckEnd). end.hand in
      let decks : map deck_of others ≡ new.decks = ap (map deck_of) is ∙ (map-map deck_of (end_on bound) all ∙ own_decks) in
      let hands : map hand_of others ≡ replicate n guest = ap (map hand_of) is ∙ (map-map hand_of (end_on bound) all ∙ (all_same (λ (e : DeckEnds). guest) all guest (λ _. refl) ∙ ap (λ k. replicate k guest) many)) in
      let deck_list : insert (map deck_of others) n own.deck ≡ new.decks ++ own.deck ∷ [] =
      ap (λ l. insert l n own.deck) decks ∙ (ap (λ k. insert new.decks k own.deck) (sym count) ∙ insert_end new.decks own.deck) in
      let long = length-replicate n guest in
      let guests = replicate n guest in
      let own_last : insert guests n own.hand ≡ guests ++ own.hand ∷ [] = ap (λ k. insert guests k own.hand) (sym long) ∙ insert_end guests own.hand in
      let put_last : set (replicate (n + 1) guest) n own.hand ≡ guests ++ own.hand ∷ [] =
      ap (λ l. set l n own.hand) (sym (replicate_more n guest)) ∙ (ap (λ k. set (guests ++ guest ∷ []) k own.hand) (sym long) ∙ set-append_seam guests guest [] own.hand) in
      let total : length (new.decks ++ own.deck ∷ []) ≡ n + 1 = omega (arith, length-append new.decks (own.deck ∷ [])) in
      let hand_list : insert (map hand_of others) n own.hand ≡ set (replicate (length (new.decks ++ own.deck ∷ [])) guest) n (owner_of bound (length (new.decks ++ own.deck ∷ []))) =
      ap (λ l. insert l n own.hand) hands
      ∙ (own_last
      ∙ (sym put_last
      ∙ (ap (λ h. set (replicate (n + 1) guest) n h) hand ∙ ap (λ k. set (replicate k guest) n (owner_of bound k)) (sym total)))) in
      λ i. record {
        number = n;
        bound = (hand i).bound;
        decks = deck_list i;
        hands = hand_list i;
      }

  -- the decks with one more are new
  pub one_more : (own own' : DeckEnd) (others : List DeckEnd) (all' : List DeckEnds) → own.hand ≡ owner_of bound 1
      → own'.deck ≡ own.deck → own'.hand ≡ record own.hand { takers = own.hand.takers + length all }
      → others ≡ map (end_on own.hand.bound) all → all' ≡ map (met own.deck own.hand.bound) all ++ ends_of n own' others ∷ []
      → AreNew (n + 1) bound all'
  one_more own own' others all' hand same_deck shared is longer =
      let count = new.count in
      let many = new.many in
      let bound_is : own.hand.bound ≡ bound = ap (λ (h : Hand). h.bound) hand in
      let total : 1 + length all ≡ n + 1 = omega arith in
      let hand' : own'.hand ≡ owner_of bound (n + 1) = shared ∙ (ap (λ (h : Hand). record h { takers = h.takers + length all }) hand ∙ ap (owner_of bound) total) in
      let others_are : others ≡ map (end_on bound) all = is ∙ ap (λ b. map (end_on b) all) bound_is in
      let last : ends_of n own' others ≡ new_ends bound (new.decks ++ own.deck ∷ []) n =
      last_new own' others hand' others_are ∙ ap (λ d. new_ends bound (new.decks ++ d ∷ []) n) same_deck in
      let now : all' ≡ map (met own.deck bound) all ++ new_ends bound (new.decks ++ own.deck ∷ []) n ∷ [] =
      longer ∙ (λ i. map (met own.deck (bound_is i)) all ++ last i ∷ []) in
      let met_all = map (met own.deck bound) all in
      let met_long = length-map all (met own.deck bound) in
      record {
        decks = new.decks ++ own.deck ∷ [];
        count = omega (arith, length-append new.decks (own.deck ∷ []));
        many = ap length now ∙ omega (arith, length-append met_all (new_ends bound (new.decks ++ own.deck ∷ []) n ∷ []));
        each = λ number less.
            ap (λ l. slice_get l number) now
            ∙ ⊎_elim
            (λ (below : number < n).
            map_there (met own.deck bound) all (new_ends bound (new.decks ++ own.deck ∷ []) n ∷ []) number (new_ends bound new.decks number) (new.each number below)
            ∙ ap Some (met_new bound new.decks own.deck number (omega arith)))
            (λ (above : n ≤ number).
            let is_last : n ≡ number = omega arith in
            subst (λ (k : ℕ). slice_get (met_all ++ new_ends bound (new.decks ++ own.deck ∷ []) n ∷ []) k ≡ Some (new_ends bound (new.decks ++ own.deck ∷ []) k)) is_last
            (last_there met_all (new_ends bound (new.decks ++ own.deck ∷ []) n) n (omega arith)))
            (cases_lt number n);
      }

-- all passes of the new worker know one bound
pub agrees : (n bound : ℕ) (all : List DeckEnds) (own : DeckEnd) (others : List DeckEnd) → others ≡ map (end_on bound) all → n ≡ length all → own.hand.bound ≡ bound → AgreeOnBound n own others
agrees n bound all own others is count same =
    let long = ap length is ∙ length-map all (end_on bound) in (
      omega arith,
      λ k d less.
          let here = get_or-map (end_on bound) all k (new_ends 0 [] 0) d (omega arith) in
          ap (λ (end : DeckEnd). end.hand.bound) (ap (λ l. get_or l k d) is ∙ here) ∙ sym same,
    )

-- a slice of a whole vector, written back
pub written_back : (before now : List DeckEnds) (n : ℕ) → length now ≡ n → take n (now ++ drop (length now) before) ≡ now
written_back before now n count = ap (λ k. take k (now ++ drop (length now) before)) (sym count) ∙ take-append_seam now (drop (length now) before)
