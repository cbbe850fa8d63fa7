-- A task still runs with its arguments once it has taken the value that it waits for.
use Rattle.std.proofs.Common.{◌≡◌, ℕ, ℤ, List, length, take, Option, None, Some, refl, sym, ◌∙◌, subst}
use Rattle.std.specs.Prelude.{slice_get}
use Rattle.std.proofs.lemmas.List.{take-set-le}
use Rattle.twe_program.specs.Fitting.{TakesArguments}
use Rattle.twe_program.specs.Program.{Program}
use Rattle.seg_meaning.specs.declared.frame.OpenBody.{OpenBody}
use Rattle.seg_meaning.specs.declared.frame.Frame.{Frame}
use Rattle.seg_meaning.specs.declared.frame.Next.{Next}
use Rattle.seg_meaning.specs.declared.frame.Next.TheVariants.{Go, Get, Join, Closing, Ended}
use Rattle.seg_meaning.specs.Giving.{body_with, given, given_by, vars_with}
use Rattle.isolation_laws.specs.soundness.RunsWith.{BeginWith, IntoFrom, NextFrom, RunsWith}

-- the declaration stays
decl_by : (next : Next) (frame : Frame) (value : ℤ) → (given_by next frame value).decl ≡ frame.decl
decl_by Go frame value = refl
decl_by (Get on into) frame value = refl
decl_by (Join on into) frame value = refl
decl_by (Closing on) frame value = refl
decl_by Ended frame value = refl

pub given_decl : (frame : Frame) (value : ℤ) → (given frame value).decl ≡ frame.decl
given_decl frame value = decl_by frame.next frame value

module _ (args : List ℤ) (value : ℤ) where
  vars_begin : (into : Option ℕ) (vars : List ℤ) → IntoFrom (length args) into → take (length args) vars ≡ args → take (length args) (vars_with into value vars) ≡ args
  vars_begin None vars after e = e
  vars_begin (Some var) vars after e = take-set-le (length args) vars var value after ∙ e

  body_begins : (into : Option ℕ) (body : Option OpenBody) → IntoFrom (length args) into → BeginWith args body → BeginWith args (body_with into value body)
  body_begins into None after begins = tt
  body_begins into (Some body) after begins = vars_begin into body.vars after begins

  given_begins : (next : Next) (frame : Frame) → NextFrom (length args) next → BeginWith args frame.body → BeginWith args (given_by next frame value).body
  given_begins Go frame after begins = begins
  given_begins (Get on into) frame after begins = body_begins into frame.body after begins
  given_begins (Join on into) frame after begins = body_begins into frame.body after begins
  given_begins (Closing on) frame after begins = begins
  given_begins Ended frame after begins = begins

  given_next : (next : Next) (frame : Frame) → NextFrom (length args) frame.next → NextFrom (length args) (given_by next frame value).next
  given_next Go frame after = after
  given_next (Get on into) frame after = tt
  given_next (Join on into) frame after = tt
  given_next (Closing on) frame after = tt
  given_next Ended frame after = after

pub given_runs : (p : Program) (args : List ℤ) (frame : Frame) → RunsWith p args frame → (value : ℤ) → RunsWith p args (given frame value)
given_runs p args frame runs value = record {
  count = subst (λ (n : ℕ). TakesArguments (slice_get p.tasks n) (length args)) (sym (given_decl frame value)) runs.count;
  params = given_begins args value frame.next frame runs.next runs.params;
  next = given_next args value frame.next frame runs.next;
}
