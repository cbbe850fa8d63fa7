-- Links that are copied one by one.
use Rattle.std.proofs.Common.{◌≡◌, ◌<◌, ◌≤◌, ℕ, zero, suc, Bool, true, false, List, [], ◌∷◌, length, refl, sym, ap, ◌∙◌, arith, get_or-set_same}
use Rattle.std.specs.Prelude.{slice_set}
use Rattle.wait_graph.specs.declared.tasks.Link.{Link}
use Rattle.wait_graph.specs.Link.{link_of, new_link, with_done, with_joined, with_wait}
use Rattle.machine_state.proofs.tasks.Ended.{set_again}
use Rattle.state_copies.specs.inner.Links.{copied_to}

-- One link, of which only the parent is there.
module _ (links : List Link) (t : ℕ) (link : Link) (there : t < length links) (fresh : link_of links t ≡ new_link link.parent) where
  abbrev marked : Bool → Bool → Link
  marked joined done = record link { joined = joined; done = done }

  waits_set : with_wait links t link.waits ≡ slice_set links t (marked false false)
  waits_set = ap (λ (l : Link). slice_set links t (record l { waits = link.waits })) fresh

  at_place : (l : Link) → link_of (slice_set links t l) t ≡ l
  at_place l = get_or-set_same links t l (new_link _) there

  joined_set : (done : Bool) → with_joined (slice_set links t (marked false done)) t ≡ slice_set links t (marked true done)
  joined_set done =
      ap (λ (l : Link). slice_set (slice_set links t (marked false done)) t (record l { joined = true })) (at_place (marked false done))
      ∙ set_again links t (marked false done) (marked true done)

  done_set : (joined : Bool) → with_done (slice_set links t (marked joined false)) t ≡ slice_set links t (marked joined true)
  done_set joined =
      ap (λ (l : Link). slice_set (slice_set links t (marked joined false)) t (record l { done = true })) (at_place (marked joined false))
      ∙ set_again links t (marked joined false) (marked joined true)

  pub joined_whole : link.joined ≡ true → link.done ≡ false → with_joined (with_wait links t link.waits) t ≡ slice_set links t link
  joined_whole joined done =
      ap (λ (ls : List Link). with_joined ls t) waits_set ∙ (joined_set false ∙ (λ i. slice_set links t (record link { joined = sym joined i; done = sym done i })))

  pub done_whole : link.joined ≡ false → link.done ≡ true → with_done (with_wait links t link.waits) t ≡ slice_set links t link
  done_whole joined done =
      ap (λ (ls : List Link). with_done ls t) waits_set ∙ (done_set false ∙ (λ i. slice_set links t (record link { joined = sym joined i; done = sym done i })))

  pub both_whole : link.joined ≡ true → link.done ≡ true → with_done (with_joined (with_wait links t link.waits) t) t ≡ slice_set links t link
  both_whole joined done =
      ap (λ (ls : List Link). with_done (with_joined ls t) t) waits_set
      ∙ (ap (λ (ls : List Link). with_done ls t) (joined_set false) ∙ (done_set true ∙ (λ i. slice_set links t (record link { joined = sym joined i; done = sym done i }))))

-- All links.

pub copied_length : (n : ℕ) (links : List Link) → length (copied_to n links) ≡ length links
copied_length zero [] = refl
copied_length zero (link ∷ links) = ap suc (copied_length zero links)
copied_length (suc n) [] = refl
copied_length (suc n) (link ∷ links) = ap suc (copied_length n links)

-- the next link has nothing but its parent
pub fresh_next : (t : ℕ) (links : List Link) → t < length links → link_of (copied_to t links) t ≡ new_link (link_of links t).parent
fresh_next zero [] below = absurd (omega (arith, below))
fresh_next zero (link ∷ links) below = refl
fresh_next (suc t) [] below = absurd (omega (arith, below))
fresh_next (suc t) (link ∷ links) below = fresh_next t links (omega (arith, below))

pub set_next : (t : ℕ) (links : List Link) → t < length links → slice_set (copied_to t links) t (link_of links t) ≡ copied_to (suc t) links
set_next zero [] below = absurd (omega (arith, below))
set_next zero (link ∷ links) below = refl
set_next (suc t) [] below = absurd (omega (arith, below))
set_next (suc t) (link ∷ links) below = ap (λ (l : List Link). link ∷ l) (set_next t links (omega (arith, below)))

pub copied_whole : (n : ℕ) (links : List Link) → length links ≤ n → copied_to n links ≡ links
copied_whole zero [] past = refl
copied_whole zero (link ∷ links) past = absurd (omega (arith, past))
copied_whole (suc n) [] past = refl
copied_whole (suc n) (link ∷ links) past = ap (λ (l : List Link). link ∷ l) (copied_whole n links (omega (arith, past)))
