-- Locks and contents fit once a seat has locked a node, has unlocked one, or does something else with the nodes that it holds.
use Rattle.std.proofs.Common.{◌≡◌, ◌≢◌, ◌↔◌, ℕ, List, ◌∷◌, Option, Some, None, refl, sym, subst, ◌∙◌, inl, inr, ⊎_elim}
use Rattle.std.proofs.lemmas.Bool.{cases_eq}
use Rattle.floor_laws.specs.rule.Floors.{put}
use Rattle.floor_laws.proofs.rule.Puts.{none_some, put_all, put_else, put_was, some_one}
use Rattle.floor_laws.specs.admission.admission_core.States.{Activity, HoldsNode, IsAmong, Record, held}
use Rattle.floor_laws.specs.rule.nodes.Fitting.{Activities, AreRecordsAt, ContentFits, ContentsFit, IsDistinct, IsUnlocked, KeptFits, LockFits, LocksFit}
use Rattle.floor_laws.specs.rule.nodes.Trees.{LockWord, Unlocked, Locked, put_kept}
use Rattle.floor_laws.proofs.rule.nodes.Holding.{content_stays, else_holds, held_before, here_holds, holds_here, holds_still, kept_all, kept_stays, lock_stays}

-- no activity holds a node twice, if the new one doesn't
once_put : (activities : Activities) (i : ℕ) (x : Option Activity) → ((j : ℕ) (b : Activity) → activities j ≡ Some b → IsDistinct (held b.stage))
    → ((b : Activity) → x ≡ Some b → IsDistinct (held b.stage)) → (j : ℕ) (b : Activity) → put activities i x j ≡ Some b → IsDistinct (held b.stage)
once_put activities i x once new j b is =
    ⊎_elim
    (λ (own : (j ≡ i) × (x ≡ Some b)). new b own.1)
    (λ (other : (j ≢ i) × (activities j ≡ Some b)). once j b other.1)
    (put_was activities i j x (Some b) is)

-- the nodes that seat i holds are these
abbrev pub HoldsAll : Activities → ℕ → List ℕ → Type 0
HoldsAll activities i nodes = (n : ℕ) → HoldsNode activities i n ↔ IsAmong n nodes

new_distinct : (a b : Activity) → IsDistinct (held a.stage) → Some a ≡ Some b → IsDistinct (held b.stage)
new_distinct a b distinct same = subst (λ (c : Activity). IsDistinct (held c.stage)) (some_one same) distinct

module _ (workers : ℕ → ℕ) (activities : Activities) (locks : ℕ → LockWord) (contents : ℕ → Option (List Record)) (kept : ℕ → ℕ → Option (List Record))
    (standing : List Record) (lock : LocksFit workers activities locks) (content : ContentsFit standing activities contents kept)
    (i : ℕ) (a : Activity) where
  abbrev after : Activities
  after = put activities i (Some a)

  -- Seat i holds what it held before.
  module _ (there : (n : ℕ) → HoldsNode activities i n → IsAmong n (held a.stage)) (back : (n : ℕ) → IsAmong n (held a.stage) → HoldsNode activities i n)
      (distinct : IsDistinct (held a.stage)) where
    pub locks_same : LocksFit workers (put activities i (Some a)) locks
    locks_same = record {
      words = λ n. lock_stays activities after n (holds_still activities i a n (there n)) (held_before activities i a n (back n)) workers (locks n) (lock.words n);
      once = once_put activities i (Some a) lock.once (λ b same. new_distinct a b distinct same);
    }

    pub contents_same : ContentsFit standing (put activities i (Some a)) contents kept
    contents_same = record {
      homes = λ n. content_stays activities after n (holds_still activities i a n (there n)) (held_before activities i a n (back n)) standing (contents n) (content.homes n);
      out = λ j n. kept_stays activities after n (holds_still activities i a n (there n)) (held_before activities i a n (back n)) standing j (kept j n) (content.out j n);
    }

  -- Seat i has locked node n, which was free, and holds it beside the nodes that it held before.
  module _ (n : ℕ) (before : List ℕ) (records : List Record) (free : locks n ≡ Unlocked) (at : AreRecordsAt standing n records)
      (old : HoldsAll activities i before) (grown : held a.stage ≡ n ∷ before) (distinct : IsDistinct before) where
    nobody : IsUnlocked activities n
    nobody = subst (LockFits workers activities n) free (lock.words n)

    now : IsAmong n (held a.stage)
    now = subst (λ (l : List ℕ). IsAmong n l) (sym grown) (inl refl)

    own_there : (m : ℕ) → HoldsNode activities i m → IsAmong m (held a.stage)
    own_there m h = subst (λ (l : List ℕ). IsAmong m l) (sym grown) (inr ((old m).0 h))

    own_back : (m : ℕ) → m ≢ n → IsAmong m (held a.stage) → HoldsNode activities i m
    own_back m other among =
        ⊎_elim
        (λ (same : m ≡ n). absurd (other same))
        (λ (rest : IsAmong m before). (old m).1 rest)
        (subst (λ (l : List ℕ). IsAmong m l) grown among)

    still : (m j : ℕ) → HoldsNode activities j m → HoldsNode (put activities i (Some a)) j m
    still m = holds_still activities i a m (own_there m)

    back_else : (m : ℕ) → m ≢ n → (j : ℕ) → HoldsNode (put activities i (Some a)) j m → HoldsNode activities j m
    back_else m other = held_before activities i a m (own_back m other)

    back_at : (j m : ℕ) → (j ≡ i → m ≢ n) → HoldsNode (put activities i (Some a)) j m → HoldsNode activities j m
    back_at j m apart h =
        ⊎_elim
        (λ (same : j ≡ i). back_else m (apart same) j h)
        (λ (other : j ≢ i). else_holds activities i a j m other h)
        (cases_eq j i)

    grown_distinct : IsDistinct (held a.stage)
    grown_distinct = subst IsDistinct (sym grown) (λ among. nobody i ((old n).1 among), distinct)

    pub locks_locked : LocksFit workers (put activities i (Some a)) (put locks n (Locked (workers i)))
    locks_locked = record {
      words = put_all (LockFits workers after) locks n (Locked (workers i)) (i, holds_here activities i a n now, refl)
          (λ m other. lock_stays activities after m (still m) (back_else m other) workers (locks m) (lock.words m));
      once = once_put activities i (Some a) lock.once (λ b same. new_distinct a b grown_distinct same);
    }

    pub contents_locked : ContentsFit standing (put activities i (Some a)) (put contents n None) (put_kept kept i n (Some records))
    contents_locked = record {
      homes = put_all (ContentFits standing after) contents n None (i, holds_here activities i a n now)
          (λ m other. content_stays activities after m (still m) (back_else m other) standing (contents m) (content.homes m));
      out = kept_all (KeptFits standing after) kept i n (Some records) (holds_here activities i a n now, at)
          (λ j m apart. kept_one j m apart (kept j m) (content.out j m));
    }
      where
        kept_one : (j m : ℕ) → (j ≡ i → m ≢ n) → (x : Option (List Record)) → KeptFits standing activities j m x → KeptFits standing (put activities i (Some a)) j m x
        kept_one j m apart None h = λ holds. h (back_at j m apart holds)
        kept_one j m apart (Some rs) h = (still m j h.0, h.1)

  -- Seat i has unlocked node n, and holds the other nodes that it held before.
  module _ (n : ℕ) (before : List ℕ) (records : List Record) (holds : HoldsNode activities i n) (alone : (j : ℕ) → HoldsNode activities j n → j ≡ i)
      (at : AreRecordsAt standing n records) (old : HoldsAll activities i before)
      (shrunk : (m : ℕ) → IsAmong m (held a.stage) ↔ (IsAmong m before × (m ≢ n))) (distinct : IsDistinct (held a.stage)) where
    gone : IsUnlocked (put activities i (Some a)) n
    gone j h =
        ⊎_elim
        (λ (same : j ≡ i). ((shrunk n).0 (here_holds activities i a n (subst (λ (x : ℕ). HoldsNode after x n) same h))).1 refl)
        (λ (other : j ≢ i). other (alone j (else_holds activities i a j n other h)))
        (cases_eq j i)

    rest_there : (m : ℕ) → m ≢ n → (j : ℕ) → HoldsNode activities j m → HoldsNode (put activities i (Some a)) j m
    rest_there m other = holds_still activities i a m (λ h. (shrunk m).1 ((old m).0 h, other))

    rest_back : (m j : ℕ) → HoldsNode (put activities i (Some a)) j m → HoldsNode activities j m
    rest_back m = held_before activities i a m (λ among. (old m).1 ((shrunk m).0 among).0)

    there_at : (j m : ℕ) → (j ≡ i → m ≢ n) → HoldsNode activities j m → HoldsNode (put activities i (Some a)) j m
    there_at j m apart h =
        rest_there m
        (λ (same : m ≡ n). apart (alone j (subst (λ (x : ℕ). HoldsNode activities j x) same h)) same)
        j h

    pub locks_unlocked : LocksFit workers (put activities i (Some a)) (put locks n Unlocked)
    locks_unlocked = record {
      words = put_all (LockFits workers after) locks n Unlocked gone
          (λ m other. lock_stays activities after m (rest_there m other) (rest_back m) workers (locks m) (lock.words m));
      once = once_put activities i (Some a) lock.once (λ b same. new_distinct a b distinct same);
    }

    pub contents_unlocked : ContentsFit standing (put activities i (Some a)) (put contents n (Some records)) (put_kept kept i n None)
    contents_unlocked = record {
      homes = put_all (ContentFits standing after) contents n (Some records) (gone, at)
          (λ m other. content_stays activities after m (rest_there m other) (rest_back m) standing (contents m) (content.homes m));
      out = kept_all (KeptFits standing after) kept i n None (gone i)
          (λ j m apart. kept_one j m apart (kept j m) (content.out j m));
    }
      where
        kept_one : (j m : ℕ) → (j ≡ i → m ≢ n) → (x : Option (List Record)) → KeptFits standing activities j m x → KeptFits standing (put activities i (Some a)) j m x
        kept_one j m apart None h = λ x. h (rest_back m j x)
        kept_one j m apart (Some rs) h = (there_at j m apart h.0, h.1)

-- Seat i does nothing any more, and held nothing.
module _ (workers : ℕ → ℕ) (activities : Activities) (locks : ℕ → LockWord) (contents : ℕ → Option (List Record)) (kept : ℕ → ℕ → Option (List Record))
    (standing : List Record) (lock : LocksFit workers activities locks) (content : ContentsFit standing activities contents kept)
    (i : ℕ) (nothing : (n : ℕ) → ¬ HoldsNode activities i n) where
  idle_there : (n j : ℕ) → HoldsNode activities j n → HoldsNode (put activities i None) j n
  idle_there n j h =
      ⊎_elim
      (λ (same : j ≡ i). absurd (nothing n (subst (λ (x : ℕ). HoldsNode activities x n) same h)))
      (λ (other : j ≢ i). (h.0, put_else activities i j None other ∙ h.1, h.2))
      (cases_eq j i)

  idle_back : (n j : ℕ) → HoldsNode (put activities i None) j n → HoldsNode activities j n
  idle_back n j h =
      ⊎_elim
      (λ (own : (j ≡ i) × (None ≡ Some h.0)). absurd (none_some own.1))
      (λ (other : (j ≢ i) × (activities j ≡ Some h.0)). (h.0, other.1, h.2))
      (put_was activities i j None (Some h.0) h.1)

  pub locks_idle : LocksFit workers (put activities i None) locks
  locks_idle = record {
    words = λ n. lock_stays activities (put activities i None) n (idle_there n) (idle_back n) workers (locks n) (lock.words n);
    once = once_put activities i None lock.once (λ b same. absurd (none_some same));
  }

  pub contents_idle : ContentsFit standing (put activities i None) contents kept
  contents_idle = record {
    homes = λ n. content_stays activities (put activities i None) n (idle_there n) (idle_back n) standing (contents n) (content.homes n);
    out = λ j n. kept_stays activities (put activities i None) n (idle_there n) (idle_back n) standing j (kept j n) (content.out j n);
  }
