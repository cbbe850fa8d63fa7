-- What went through a standard stream in reads and writes one after another.
use Rattle.std.proofs.Common.{◌≡◌, ℕ, List, [], ◌++◌, Option, Ok, take, drop, sym, ap, ◌∙◌, append-nil, append_assoc}
use Rattle.std.proofs.Math.Seq.{take-add}
use Rattle.twe_io.specs.Moved.{moved}
use Rattle.twe_io.specs.Runs.{Reads, ReadsWhole, WriteCalls}
use Rattle.twe_io.specs.Standard.{Through, through_after}

-- one piece more, after a first part
piece_more : (start given more text now next : List ℕ) → now ≡ start ++ given → next ≡ now ++ more → given ++ more ≡ text → next ≡ start ++ text
piece_more start given more text now next had adds makes =
    adds ∙ ap (λ (bytes : List ℕ). bytes ++ more) had ∙ append_assoc start given more ∙ ap (λ (bytes : List ℕ). start ++ bytes) makes

module _ {S : Type 0} (through_of : S → Through) where
  module _ (gives : S → ℕ → Option (List ℕ) → S → Type 0)
      (adds : (before : S) (room : ℕ) (given : Option (List ℕ)) (after : S) → gives before room given after → through_of after ≡ through_after (through_of before) given) where
    -- what reads gave
    reads_through : (first : S) {room : ℕ} {text : List ℕ} {last : S} → Reads gives room first text last → (through_of last).bytes ≡ (through_of first).bytes ++ text
    reads_through first Reads.none = sym (append-nil _)
    reads_through first (Reads.read {text} {before} {after} given more reads less some step e) =
        piece_more (through_of first).bytes given more text _ _ (reads_through first reads) (ap (λ (t : Through). t.bytes) (adds _ _ _ _ step)) e

    -- what the reading of a whole text gave
    pub text_through : (limit : ℕ) (first last : S) (text : List ℕ) → ReadsWhole gives limit first (Ok text) last → (through_of last).bytes ≡ (through_of first).bytes ++ text
    text_through limit first last text reads =
        piece_more (through_of first).bytes text [] text _ _ (reads_through first reads.reads) (ap (λ (t : Through). t.bytes) (adds _ _ _ _ reads.ends)) (append-nil text)

  -- what writes took
  pub writes_through : (gives : S → List ℕ → Option ℕ → S → Type 0)
      (adds : (before : S) (piece : List ℕ) (taken : Option ℕ) (after : S) → gives before piece taken after → through_of after ≡ through_after (through_of before) (moved taken piece))
      → {text : List ℕ} {first last : S} {n : ℕ} → WriteCalls gives text first n last → (through_of last).bytes ≡ (through_of first).bytes ++ take n text
  writes_through gives adds WriteCalls.none = sym (append-nil _)
  writes_through gives adds {text} {first} (WriteCalls.write {n} {before} {after} taken more writes less some step e) =
      piece_more (through_of first).bytes (take taken text) (take more (drop taken text)) (take n text) _ _ (writes_through gives adds writes)
      (ap (λ (t : Through). t.bytes) (adds _ _ _ _ step)) (sym (take-add taken more text) ∙ ap (λ (k : ℕ). take k text) e)
