-- How far a loop over an end has come.
use Rattle.std.proofs.Common.{◌≡◌, ℕ, ◌+◌, ◌-◌, ◌≤◌, ◌<◌, List, [], ◌++◌, Option, Some, Result, Ok, Err, OnErr, length, take, drop, refl, sym, ap, ◌∙◌, subst, arith, le_refl, length-drop, length-append, length-take-le, drop_at}
use Rattle.std.proofs.Math.Seq.{take-add}
use Rattle.std.proofs.lemmas.List.{take-append-le}
use Rattle.std.proofs.lemmas.Slice.{take-put_mid_below}
use Rattle.std.proofs.KnownBytes.{Appends-nil, Appends-trans, Consumes-nil, Consumes-trans}
use Rattle.std.specs.Io.KnownBytes.{Appends, Consumes}
use borrow.Rule.Slice.PartMut.{put_mid, post_of}
use Rattle.twe_io.specs.Runs.{Reads, ReadsThen, WriteCalls}

-- a buffer is filled with the bytes that a source gave since it was `first`
pub record Filled {S : Type 0} (faults : S → ℕ) (left : S → Option (List ℕ)) (gives : S → ℕ → Option (List ℕ) → S → Type 0)
    (first now : S) (buffer : List ℕ) (taken : ℕ) : Type 0 where
  pub within : taken ≤ length buffer
  pub given : Consumes (left first) (left now) (take taken buffer)
  pub counts : faults first ≤ faults now
  pub reads : Reads gives (length buffer) first (take taken buffer) now

-- a first part of a text is written to a sink since it was `first`
pub record Sent {S : Type 0} (faults : S → ℕ) (written : S → Option (List ℕ)) (gives : S → List ℕ → Option ℕ → S → Type 0)
    (first now : S) (text : List ℕ) (taken : ℕ) : Type 0 where
  pub within : taken ≤ length text
  pub appended : Appends (written first) (written now) (take taken text)
  pub counts : faults first ≤ faults now
  pub writes : WriteCalls gives text first taken now

module _ {S : Type 0} (faults : S → ℕ) (written : S → Option (List ℕ)) (gives : S → List ℕ → Option ℕ → S → Type 0) where
  -- nothing is written yet
  pub Sent-none : (first : S) (text : List ℕ) → Sent faults written gives first first text 0
  Sent-none first text = record {
    within = omega arith;
    appended = Appends-nil (written first);
    counts = le_refl _;
    writes = WriteCalls.none;
  }

  -- one write more
  pub Sent-more : (first now next : S) (text piece : List ℕ) (taken more : ℕ) → Sent faults written gives first now text taken
      → taken < length text → piece ≡ drop taken text → 0 < more → more ≤ length piece → Appends (written now) (written next) (take more piece)
      → faults now ≤ faults next → gives now piece (Some more) next
      → Sent faults written gives first next text (taken + more)
  Sent-more first now next text piece taken more sent less e some fits appended counts step = record {
    within = omega (arith, sent.within, subst (λ (p : List ℕ). more ≤ length p) e fits, length-drop taken text);
    appended = subst (Appends (written first) (written next))
        (ap (λ (p : List ℕ). take taken text ++ take more p) e ∙ sym (take-add taken more text))
        (Appends-trans _ _ _ _ _ sent.appended appended);
    counts = omega (arith, sent.counts, counts);
    writes = WriteCalls.write taken more sent.writes less some (subst (λ (p : List ℕ). gives now p (Some more) next) e step) refl;
  }

-- after a write to the rest of a buffer it is no shorter than its front and that part
length-put_mid : (buffer part : List ℕ) (taken room : ℕ) → taken ≤ length buffer → taken + length part ≤ length (put_mid taken room buffer part)
length-put_mid buffer part taken room within =
    omega (
      arith,
      length-append (take taken buffer) (part ++ post_of taken room buffer),
      length-append part (post_of taken room buffer),
      length-take-le taken buffer within,
    )

-- what was filled, and then the first bytes of the part written after it
take-put_mid_part : (buffer part : List ℕ) (taken room more : ℕ) → taken ≤ length buffer → more ≤ length part
    → take (taken + more) (put_mid taken room buffer part) ≡ take taken buffer ++ take more part
take-put_mid_part buffer part taken room more within fits =
    let after = post_of taken room buffer in
    let front : take taken (put_mid taken room buffer part) ≡ take taken buffer = take-put_mid_below taken room buffer part taken (le_refl _) within in
    let back : take more (drop taken (put_mid taken room buffer part)) ≡ take more part =
    ap (take more) (drop_at (take taken buffer) (part ++ after) taken (length-take-le taken buffer within)) ∙ take-append-le more part after fits in
    take-add taken more (put_mid taken room buffer part) ∙ cc (front, back)

module _ {S : Type 0} (faults : S → ℕ) (left : S → Option (List ℕ)) (gives : S → ℕ → Option (List ℕ) → S → Type 0) where
  -- nothing is read yet
  pub Filled-none : (first : S) (buffer : List ℕ) → Filled faults left gives first first buffer 0
  Filled-none first buffer = record {
    within = omega arith;
    given = Consumes-nil (left first);
    counts = le_refl _;
    reads = Reads.none;
  }

  -- the reads so far, and one read more
  Filled-read : (first now next : S) (buffer part : List ℕ) (taken room more asked : ℕ) → Filled faults left gives first now buffer taken
      → taken < length buffer → 0 < more → more ≤ length part → asked ≡ length buffer - taken → gives now asked (Some (take more part)) next
      → Reads gives (length buffer) first (take (taken + more) (put_mid taken room buffer part)) next
  Filled-read first now next buffer part taken room more asked filled less some fits room_left step =
      let had : length (take taken buffer) ≡ taken = length-take-le taken buffer filled.within in
      let got : length (take more part) ≡ more = length-take-le more part fits in
      let asked_is : asked ≡ length buffer - length (take taken buffer) = omega (arith, room_left, had) in
      Reads.read (take taken buffer) (take more part) filled.reads (omega (arith, less, had)) (omega (arith, some, got))
      (subst (λ (n : ℕ). gives now n (Some (take more part)) next) asked_is step) (sym (take-put_mid_part buffer part taken room more filled.within fits))

  -- one read more, into the rest of the buffer
  pub Filled-more : (first now next : S) (buffer part : List ℕ) (taken room more asked : ℕ) → Filled faults left gives first now buffer taken
      → taken < length buffer → 0 < more → more ≤ length part → Consumes (left now) (left next) (take more part) → faults now ≤ faults next
      → asked ≡ length buffer - taken → length (put_mid taken room buffer part) ≡ length buffer → gives now asked (Some (take more part)) next
      → Filled faults left gives first next (put_mid taken room buffer part) (taken + more)
  Filled-more first now next buffer part taken room more asked filled less some fits given counts room_left same step = record {
    within = omega (arith, fits, length-put_mid buffer part taken room filled.within);
    given = subst (Consumes (left first) (left next)) (sym (take-put_mid_part buffer part taken room more filled.within fits))
        (Consumes-trans _ _ _ _ _ filled.given given);
    counts = omega (arith, filled.counts, counts);
    reads = subst (λ (n : ℕ). Reads gives n first (take (taken + more) (put_mid taken room buffer part)) next) (sym same)
        (Filled-read first now next buffer part taken room more asked filled less some fits room_left step);
  }

-- the room has this size
pub in_room : {S : Type 0} (gives : S → ℕ → Option (List ℕ) → S → Type 0) (room size : ℕ) (first last : S) (text : List ℕ) (answer : Option (List ℕ)) → room ≡ size
    → ReadsThen gives room first text answer last → ReadsThen gives size first text answer last
in_room gives room size first last text answer same reads = subst (λ (k : ℕ). ReadsThen gives k first text answer last) same reads

-- a buffer was filled so far, and then a read gave nothing or failed
pub reads_then : {S : Type 0} (faults : S → ℕ) (left : S → Option (List ℕ)) (gives : S → ℕ → Option (List ℕ) → S → Type 0) (size : ℕ) (first before last : S) (buffer : List ℕ)
    (n asked : ℕ) (answer : Option (List ℕ)) → Filled faults left gives first before buffer n → length buffer ≡ size → n < size
    → asked ≡ size - n → gives before asked answer last → ReadsThen gives size first (take n buffer) answer last
reads_then faults left gives size first before last buffer n asked answer filled same less rest ends =
    let had : length (take n buffer) ≡ n = length-take-le n buffer filled.within in
    let asked_is : asked ≡ length buffer - length (take n buffer) = omega (arith, had, rest, same) in
    in_room gives (length buffer) size first last (take n buffer) answer same (record {
      before = before;
      less = omega (arith, had, less, same);
      reads = filled.reads;
      ends = subst (λ (k : ℕ). gives before k answer last) asked_is ends;
    })

-- a buffer was filled so far, and then a read gave nothing
pub reads_end : {S : Type 0} (faults : S → ℕ) (left : S → Option (List ℕ)) (gives : S → ℕ → Option (List ℕ) → S → Type 0) (size : ℕ) (first before last : S)
    (buffer part : List ℕ) (n room asked given : ℕ) → Filled faults left gives first before buffer n → length buffer ≡ size → n < size
    → asked ≡ size - n → given ≡ 0 → gives before asked (Some (take given part)) last
    → ReadsThen gives size first (take n (put_mid n room buffer part)) (Some []) last
reads_end faults left gives size first before last buffer part n room asked given filled same less rest nothing ends =
    let none : take given part ≡ [] = ap (λ (k : ℕ). take k part) nothing in
    let front : take n (put_mid n room buffer part) ≡ take n buffer = take-put_mid_below n room buffer part n (le_refl _) filled.within in
    subst (λ (text : List ℕ). ReadsThen gives size first text (Some []) last) (sym front)
    (reads_then faults left gives size first before last buffer n asked (Some []) filled same less rest
    (subst (λ (bytes : List ℕ). gives before asked (Some bytes) last) none ends))

pub on_err : {T E : Type 0} (P : Type 0) (answer : Result T E) → P → OnErr answer P
on_err P (Ok x) p = tt
on_err P (Err e) p = p
