-- Who holds a node once a seat does something else, and what stays if nobody's hold on a node has changed.
use Rattle.std.proofs.Common.{◌≡◌, ◌≢◌, ℕ, List, Option, Some, None, sym, subst, ◌∙◌, ⊎_elim}
use Rattle.std.proofs.lemmas.Bool.{cases_eq}
use Rattle.floor_laws.specs.rule.Floors.{put}
use Rattle.floor_laws.proofs.rule.Puts.{put_all, put_else, put_here, some_one}
use Rattle.floor_laws.specs.admission.admission_core.States.{Activity, HoldsNode, IsAmong, Record, held}
use Rattle.floor_laws.specs.rule.nodes.Fitting.{Activities, AreRecordsAt, ContentFits, IsUnlocked, KeptFits, LockFits}
use Rattle.floor_laws.specs.rule.nodes.Trees.{LockWord, Unlocked, Locked, put_kept}

-- what a seat that does this holds
pub held_of : (activities : Activities) (i n : ℕ) (a : Activity) → activities i ≡ Some a → HoldsNode activities i n → IsAmong n (held a.stage)
held_of activities i n a active h = subst (λ (b : Activity). IsAmong n (held b.stage)) (some_one (sym h.1 ∙ active)) h.2

module _ (activities : Activities) (i : ℕ) (a : Activity) where
  pub holds_here : (n : ℕ) → IsAmong n (held a.stage) → HoldsNode (put activities i (Some a)) i n
  holds_here n among = (a, put_here activities i (Some a), among)

  pub here_holds : (n : ℕ) → HoldsNode (put activities i (Some a)) i n → IsAmong n (held a.stage)
  here_holds n h = held_of (put activities i (Some a)) i n a (put_here activities i (Some a)) h

  pub holds_else : (j n : ℕ) → j ≢ i → HoldsNode activities j n → HoldsNode (put activities i (Some a)) j n
  holds_else j n other h = (h.0, put_else activities i j (Some a) other ∙ h.1, h.2)

  pub else_holds : (j n : ℕ) → j ≢ i → HoldsNode (put activities i (Some a)) j n → HoldsNode activities j n
  else_holds j n other h = (h.0, sym (put_else activities i j (Some a) other) ∙ h.1, h.2)

  -- whoever held node n holds it still, if seat i does
  pub holds_still : (n : ℕ) → (HoldsNode activities i n → IsAmong n (held a.stage)) → (j : ℕ) → HoldsNode activities j n → HoldsNode (put activities i (Some a)) j n
  holds_still n own j h =
      ⊎_elim
      (λ (same : j ≡ i).
      subst (λ (x : ℕ). HoldsNode (put activities i (Some a)) x n) (sym same) (holds_here n (own (subst (λ (x : ℕ). HoldsNode activities x n) same h))))
      (λ (other : j ≢ i). holds_else j n other h)
      (cases_eq j i)

  -- whoever holds node n held it before, if seat i did
  pub held_before : (n : ℕ) → (IsAmong n (held a.stage) → HoldsNode activities i n) → (j : ℕ) → HoldsNode (put activities i (Some a)) j n → HoldsNode activities j n
  held_before n own j h =
      ⊎_elim
      (λ (same : j ≡ i).
      subst (λ (x : ℕ). HoldsNode activities x n) (sym same) (own (here_holds n (subst (λ (x : ℕ). HoldsNode (put activities i (Some a)) x n) same h))))
      (λ (other : j ≢ i). else_holds j n other h)
      (cases_eq j i)

-- What fits a node if everybody holds it who held it before, and nobody else.
module _ (before after : Activities) (n : ℕ) (there : (j : ℕ) → HoldsNode before j n → HoldsNode after j n) (back : (j : ℕ) → HoldsNode after j n → HoldsNode before j n) where
  pub lock_stays : (workers : ℕ → ℕ) (word : LockWord) → LockFits workers before n word → LockFits workers after n word
  lock_stays workers Unlocked free = λ j h. free j (back j h)
  lock_stays workers (Locked worker) by = (by.0, there by.0 by.1, by.2)

  pub content_stays : (standing : List Record) (content : Option (List Record)) → ContentFits standing before n content → ContentFits standing after n content
  content_stays standing None by = (by.0, there by.0 by.1)
  content_stays standing (Some records) h = (λ j x. h.0 j (back j x), h.1)

  pub kept_stays : (standing : List Record) (j : ℕ) (content : Option (List Record)) → KeptFits standing before j n content → KeptFits standing after j n content
  kept_stays standing j None h = λ x. h (back j x)
  kept_stays standing j (Some records) h = (there j h.0, h.1)

-- what holds of what seat i has of node n, and of all else that seats have
pub kept_all : (P : ℕ → ℕ → Option (List Record) → Type 0) (kept : ℕ → ℕ → Option (List Record)) (i n : ℕ) (x : Option (List Record)) → P i n x
    → ((j m : ℕ) → (j ≡ i → m ≢ n) → P j m (kept j m)) → (j m : ℕ) → P j m (put_kept kept i n x j m)
kept_all P kept i n x here others =
    put_all (λ (j : ℕ) (g : ℕ → Option (List Record)). (m : ℕ) → P j m (g m)) kept i (put (kept i) n x)
    (put_all (P i) (kept i) n x here (λ m other. others i m (λ same. other)))
    (λ j other m. others j m (λ same. absurd (other same)))

-- a node that nobody holds has its content
pub home_content : (standing : List Record) (activities : Activities) (n : ℕ) (content : Option (List Record)) → IsUnlocked activities n
    → ContentFits standing activities n content → (records : List Record) × (content ≡ Some records) × AreRecordsAt standing n records
home_content standing activities n None free by = absurd (free by.0 by.1)
home_content standing activities n (Some records) free h = (records, λ k. Some records, h.1)

-- a seat that holds a node has its content
pub kept_content : (standing : List Record) (activities : Activities) (i n : ℕ) (content : Option (List Record)) → HoldsNode activities i n
    → KeptFits standing activities i n content → (records : List Record) × (content ≡ Some records) × AreRecordsAt standing n records
kept_content standing activities i n None holds none = absurd (none holds)
kept_content standing activities i n (Some records) holds h = (records, λ k. Some records, h.1)
