use Rattle.std.proofs.Common.{◌≡◌, ◌≤◌, ◌<◌, ℕ, ◌+◌, take}
use Rattle.twe_lexer.specs.Places.{place_after}
use Rattle.refusal_causes.proofs.next_tokens.length_before.Given as goal

-- the place of this byte, and no byte before it is at the place that is looked for
abbrev pub invariant-loop-byte : goal.invariant-loop-byte
invariant-loop-byte l = record {
  count_is : l.count ≡ l.byte-index;
  lines : l.now.line ≤ 1 + l.byte-index;
  columns : l.now.col ≤ 1 + l.byte-index;
  now_is : l.now ≡ place_after (take l.byte-index l.text);
  none : (count : ℕ) → count < l.byte-index → ¬ (place_after (take count l.text) ≡ l.place);
}
