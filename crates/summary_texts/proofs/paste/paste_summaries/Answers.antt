use Rattle.std.proofs.Common.{◌<◌, ℕ, List, Option, sym, ap, ◌∙◌, subst}
use Rattle.twe_base.specs.Language.{max_text_bytes}
use Rattle.twe_program.specs.Program.{Program}
use Rattle.twe_frontend.specs.declared.meaning.read.Meaning.{Meaning}
use Rattle.summary_texts.specs.Written.{HasSummaries}
use Rattle.summary_texts.specs.Pasted.{IsTooLong, PasteHasCause}
use Rattle.summary_texts.proofs.Causes.{from-again, from-settled, has-of, passed-on}
use Rattle.summary_texts.proofs.paste.paste_summaries.Goals as goal

-- all of its bytes are too many
pub returns-then-len-gt-MAX_TEXT_BYTES-clause-refused : goal.returns-then-len-gt-MAX_TEXT_BYTES-clause-refused
returns-then-len-gt-MAX_TEXT_BYTES-clause-refused c =
    let regions = c.as_slice-regions.ensures ∙ ap (λ (m : Meaning). m.program.regions) c.meaning.view_is ∙ ap (λ (q : Program). q.regions) c.requires.meaning in
    let items = c.as_slice.ensures ∙ ap (λ (m : Meaning). m.tree.items) c.meaning.view_is in
    let news = c.as_slice-2.ensures ∙ c.in_ok-news.ensures.made in
    let has = has-of c.args.each.now c.args.meaning.tree c.args.text.now c.as_slice-regions.result.now c.as_slice.result.now regions items c.as_slice-2.result.now c.in_ok-written.written
    c.args.meaning.tree news c.in_ok-written.ensures in
    IsTooLong.all c.in_ok-written.written has (subst (λ (n : ℕ). max_text_bytes < n) c.len.ensures c.if-len-gt-MAX_TEXT_BYTES.true)

-- it is read otherwise
pub returns-in_err-read_again-clause-refused : goal.returns-in_err-read_again-clause-refused
returns-in_err-read_again-clause-refused c =
    let regions = c.as_slice-regions.ensures ∙ ap (λ (m : Meaning). m.program.regions) c.meaning.view_is ∙ ap (λ (q : Program). q.regions) c.requires.meaning in
    let items = c.as_slice.ensures ∙ ap (λ (m : Meaning). m.tree.items) c.meaning.view_is in
    let news = c.as_slice-2.ensures ∙ c.in_ok-news.ensures.made in
    let has = subst (λ (t : List ℕ). HasSummaries c.as_slice-2.result.now c.args.text.now t) (sym c.as_slice-3.ensures) c.in_ok-written.ensures in
    passed-on c.from_residual-in_err-read_again.result c.in_err-read_again.field-0.0 (PasteHasCause c.args.each.now c.args.meaning.tree c.args.text.now) c.from_residual-in_err-read_again.ensures.1
    (from-again c.args.each.now c.args.meaning.tree c.args.text.now c.as_slice-regions.result.now c.as_slice.result.now regions items c.as_slice-2.result.now c.as_slice-3.result.now
    c.in_ok-pasted.pasted news has c.in_ok-pasted.ensures c.in_err-read_again.field-0.0 c.in_err-read_again.ensures.refused)

-- it changes when it is written again
pub returns-in_err-write_again-clause-refused : goal.returns-in_err-write_again-clause-refused
returns-in_err-write_again-clause-refused c =
    let regions = c.as_slice-regions.ensures ∙ ap (λ (m : Meaning). m.program.regions) c.meaning.view_is ∙ ap (λ (q : Program). q.regions) c.requires.meaning in
    let items = c.as_slice.ensures ∙ ap (λ (m : Meaning). m.tree.items) c.meaning.view_is in
    let news = c.as_slice-5.ensures ∙ c.in_ok-news.ensures.made in
    let same = c.as_slice-2.ensures ∙ sym c.as_slice-5.ensures in
    let wrote = subst (λ (t : List ℕ). HasSummaries c.as_slice-2.result.now c.args.text.now t) (sym c.as_slice-4.ensures) c.in_ok-written.ensures in
    let has = subst (λ (its : List (Option (List ℕ))). HasSummaries its c.args.text.now c.as_slice-4.result.now) same wrote in
    passed-on c.from_residual-in_err-write_again.result c.in_err-write_again.field-0.0 (PasteHasCause c.args.each.now c.args.meaning.tree c.args.text.now) c.from_residual-in_err-write_again.ensures.1
    (from-settled c.args.each.now c.args.meaning.tree c.args.text.now c.as_slice-regions.result.now c.as_slice.result.now regions items c.as_slice-5.result.now c.as_slice-4.result.now
    c.in_ok-pasted.pasted news has c.in_err-write_again.field-0.0 c.in_err-write_again.ensures.refused)
