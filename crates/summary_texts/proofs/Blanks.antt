-- The clauses of a line are, but for blanks, what is printed of the clauses that are pasted.
use Rattle.std.proofs.Common.{◌≡◌, ℕ, pos, negsuc, Bool, true, false, not, List, [], ◌∷◌, ◌++◌, map, codes, refl, sym, ap, ◌∙◌, append-nil}
use Rattle.std.specs.List.{AllByRecursion}
use Rattle.std.proofs.lemmas.Bool.{cond-false}
use Rattle.std.proofs.lemmas.List.Elements.{filter-append}
use Rattle.region_paths.specs.declared.elements.Elem.{Elem}
use Rattle.region_paths.specs.declared.elements.Elem.TheVariants.{Name, Index, Var, AnyIndex}
use Rattle.effect_sets.specs.declared.effects.Effect.{Effect}
use Rattle.effect_sets.specs.declared.effects.Summary.{Summary}
use Rattle.twe_ast.specs.declared.name.Name as written
use Rattle.twe_lexer.specs.declared.fixed.Fixed.TheVariants as fixed
use Rattle.twe_lexer.specs.declared.token.TokenKind.{TokenKind}
use Rattle.twe_lexer.specs.declared.token.TokenKind.TheVariants as kinds
use Rattle.ast_printer.specs.Text.{bytes_of, gap_after, text_of}
use Rattle.ast_printer.specs.PathTokens.{elem_tokens, elems_tokens, path_tokens}
use Rattle.ast_printer.specs.ItemTokens.{paths_tokens, effects_tokens}
use Rattle.ast_printer.proofs.Texts.{append_text}
use Rattle.twe_base.proofs.Members.{all-front, all-back}
use Rattle.summary_texts.specs.paste_laws.Clauses.{name_at, texts_of, clause_kind_of, elem_of, clause_path_of, clause_of, reads_of, writes_of, clauses_of, IsWritable, CanBeWritten}
use Rattle.summary_texts.specs.Order.{summary_paths_of}
use Rattle.twe_frontend.specs.meaning.PathTexts.{in_brackets, element_text, more_elements, path_text}
use Rattle.summary_texts.specs.Texts.{more_paths, paths_text, clauses_text, summary_text}
use Rattle.summary_texts.specs.Pasting.{effect_on, in_line, is_blank_byte, without_blanks}

abbrev keeps : ℕ → Bool
keeps code = not (is_blank_byte code)

parts : (one other : List ℕ) → without_blanks (one ++ other) ≡ without_blanks one ++ without_blanks other
parts one other = filter-append keeps one other

gap-dropped : (word : TokenKind) → keeps (gap_after word) ≡ false
gap-dropped (kinds.Fixed fixed.OpenBrace) = refl
gap-dropped (kinds.Fixed fixed.CloseBrace) = refl
gap-dropped (kinds.Fixed fixed.Semicolon) = refl
gap-dropped _ = refl

-- a word, and words
one-word : (word : TokenKind) (words : List TokenKind) → without_blanks (text_of (word ∷ words)) ≡ without_blanks (bytes_of word) ++ without_blanks (text_of words)
one-word word words =
    parts (bytes_of word) (gap_after word ∷ text_of words)
    ∙ ap (λ more. without_blanks (bytes_of word) ++ more) (cond-false (keeps (gap_after word)) (gap_after word ∷ without_blanks (text_of words)) (without_blanks (text_of words)) (gap-dropped word))

both-words : (one other : List TokenKind) → without_blanks (text_of (one ++ other)) ≡ without_blanks (text_of one) ++ without_blanks (text_of other)
both-words one other = ap without_blanks (append_text one other) ∙ parts (text_of one) (text_of other)

in-brackets : (inside : TokenKind) → without_blanks (in_brackets (bytes_of inside)) ≡ without_blanks (text_of (kinds.Fixed fixed.OpenBracket ∷ inside ∷ kinds.Fixed fixed.CloseBracket ∷ []))
in-brackets inside =
    ap (λ (more : List ℕ). 91 ∷ more) (parts (bytes_of inside) (codes "]") ∙ sym (one-word inside (kinds.Fixed fixed.CloseBracket ∷ [])))

module _ (regions : List (List ℕ)) (params : List written.Name) where
  abbrev texts : List (List ℕ)
  texts = texts_of params

  elem-same : (e : Elem) → IsWritable e → without_blanks (element_text regions params e) ≡ without_blanks (text_of (elem_tokens (clause_kind_of regions texts e)))
  elem-same (Name n) h = sym (one-word (kinds.Name (name_at regions n)) [] ∙ append-nil (without_blanks (name_at regions n)))
  elem-same (Index (pos i)) h = in-brackets (kinds.Literal i)
  elem-same (Index (negsuc i)) h = absurd h
  elem-same (Var k) h = in-brackets (kinds.Name (name_at texts k))
  elem-same AnyIndex h = refl

  more-same : (es : List Elem) → AllByRecursion IsWritable es → without_blanks (more_elements regions params es) ≡ without_blanks (text_of (elems_tokens true (map (elem_of regions texts) es)))
  more-same [] h = refl
  more-same (e ∷ es) h =
      ap (λ (more : List ℕ). 58 ∷ more)
      (parts (element_text regions params e) (more_elements regions params es) ∙ (λ i. elem-same e h.0 i ++ more-same es h.1 i)
      ∙ sym (both-words (elem_tokens (clause_kind_of regions texts e)) (elems_tokens true (map (elem_of regions texts) es))))

  rooted : (es : List Elem) → AllByRecursion IsWritable es
      → without_blanks (codes "Root" ++ more_elements regions params es) ≡ without_blanks (text_of (kinds.Fixed fixed.Root ∷ elems_tokens true (map (elem_of regions texts) es)))
  rooted es h = ap (λ (more : List ℕ). 82 ∷ 111 ∷ 111 ∷ 116 ∷ more) (more-same es h)

  path-same : (write : Bool) (es : List Elem) → AllByRecursion IsWritable es
      → without_blanks (path_text regions params es) ≡ without_blanks (text_of (path_tokens (clause_path_of regions texts (effect_on write es))))
  path-same write [] h = refl
  path-same write (Name n ∷ es) h =
      parts (element_text regions params (Name n)) (more_elements regions params es) ∙ (λ i. elem-same (Name n) h.0 i ++ more-same es h.1 i)
      ∙ sym (both-words (elem_tokens (clause_kind_of regions texts (Name n))) (elems_tokens true (map (elem_of regions texts) es)))
  path-same write (Index i ∷ es) h = rooted (Index i ∷ es) h
  path-same write (Var k ∷ es) h = rooted (Var k ∷ es) h
  path-same write (AnyIndex ∷ es) h = rooted (AnyIndex ∷ es) h

  more_paths-same : (write : Bool) (paths : List (List Elem)) → AllByRecursion (λ (es : List Elem). AllByRecursion IsWritable es) paths
      → without_blanks (more_paths regions params paths) ≡ without_blanks (text_of (paths_tokens true (map (clause_path_of regions texts) (map (effect_on write) paths))))
  more_paths-same write [] h = refl
  more_paths-same write (es ∷ paths) h =
      ap (λ (more : List ℕ). 44 ∷ more)
      (parts (path_text regions params es) (more_paths regions params paths) ∙ (λ i. path-same write es h.0 i ++ more_paths-same write paths h.1 i)
      ∙ sym (both-words (path_tokens (clause_path_of regions texts (effect_on write es))) (paths_tokens true (map (clause_path_of regions texts) (map (effect_on write) paths)))))

  paths-same : (write : Bool) (es : List Elem) (paths : List (List Elem)) → AllByRecursion IsWritable es → AllByRecursion (λ (es : List Elem). AllByRecursion IsWritable es) paths
      → without_blanks (paths_text regions params (es ∷ paths)) ≡ without_blanks (text_of (paths_tokens false (map (clause_path_of regions texts) (map (effect_on write) (es ∷ paths)))))
  paths-same write es paths h k =
      parts (path_text regions params es) (more_paths regions params paths) ∙ (λ i. path-same write es h i ++ more_paths-same write paths k i)
      ∙ sym (both-words (path_tokens (clause_path_of regions texts (effect_on write es))) (paths_tokens true (map (clause_path_of regions texts) (map (effect_on write) paths))))

  -- the clauses of these reads and these writes
  clauses-same : (reads writes : List (List Elem)) → AllByRecursion (λ (es : List Elem). AllByRecursion IsWritable es) reads → AllByRecursion (λ (es : List Elem). AllByRecursion IsWritable es) writes
      → without_blanks (clauses_text regions params reads writes)
      ≡ without_blanks (text_of (effects_tokens (clause_of regions texts false (map (effect_on false) reads) ++ clause_of regions texts true (map (effect_on true) writes))))
  clauses-same [] [] h k = refl
  clauses-same (r ∷ reads) [] h k =
      let tokens : List TokenKind = paths_tokens false (map (clause_path_of regions texts) (map (effect_on false) (r ∷ reads))) in
      ap (λ (more : List ℕ). 114 ∷ 101 ∷ 97 ∷ 100 ∷ 115 ∷ more) (paths-same false r reads h.0 h.1 ∙ ap (λ (t : List TokenKind). without_blanks (text_of t)) (sym (append-nil tokens)))
  clauses-same [] (w ∷ writes) h k =
      let tokens : List TokenKind = paths_tokens false (map (clause_path_of regions texts) (map (effect_on true) (w ∷ writes))) in
      ap (λ (more : List ℕ). 119 ∷ 114 ∷ 105 ∷ 116 ∷ 101 ∷ 115 ∷ more) (paths-same true w writes k.0 k.1 ∙ ap (λ (t : List TokenKind). without_blanks (text_of t)) (sym (append-nil tokens)))
  clauses-same (r ∷ reads) (w ∷ writes) h k =
      let read_tokens : List TokenKind = paths_tokens false (map (clause_path_of regions texts) (map (effect_on false) (r ∷ reads))) in
      let tokens : List TokenKind = paths_tokens false (map (clause_path_of regions texts) (map (effect_on true) (w ∷ writes))) in
      let write_part : without_blanks (codes " writes " ++ paths_text regions params (w ∷ writes)) ≡ without_blanks (text_of (kinds.Fixed fixed.Writes ∷ (tokens ++ []))) =
      ap (λ (more : List ℕ). 119 ∷ 114 ∷ 105 ∷ 116 ∷ 101 ∷ 115 ∷ more) (paths-same true w writes k.0 k.1 ∙ ap (λ (t : List TokenKind). without_blanks (text_of t)) (sym (append-nil tokens))) in
      ap (λ (more : List ℕ). 114 ∷ 101 ∷ 97 ∷ 100 ∷ 115 ∷ more)
      (parts (paths_text regions params (r ∷ reads)) (codes " writes " ++ paths_text regions params (w ∷ writes))
      ∙ (λ i. paths-same false r reads h.0 h.1 i ++ write_part i)
      ∙ sym (both-words read_tokens (kinds.Fixed fixed.Writes ∷ (tokens ++ []))))

-- what a line has first is only read, and the others are written
pub only-reads : (reads writes : List (List Elem)) → reads_of (map (effect_on false) reads ++ map (effect_on true) writes) ≡ map (effect_on false) reads
only-reads [] [] = refl
only-reads [] (w ∷ writes) = only-reads [] writes
only-reads (r ∷ reads) writes = ap (λ (more : List Effect). effect_on false r ∷ more) (only-reads reads writes)

pub only-writes : (reads writes : List (List Elem)) → writes_of (map (effect_on false) reads ++ map (effect_on true) writes) ≡ map (effect_on true) writes
only-writes [] [] = refl
only-writes [] (w ∷ writes) = ap (λ (more : List Effect). effect_on true w ∷ more) (only-writes [] writes)
only-writes (r ∷ reads) writes = only-writes reads writes

writable : (write : Bool) (paths : List (List Elem)) → AllByRecursion (λ (effect : Effect). AllByRecursion IsWritable effect.path.elems) (map (effect_on write) paths)
    → AllByRecursion (λ (es : List Elem). AllByRecursion IsWritable es) paths
writable write [] h = tt
writable write (es ∷ paths) h = (h.0, writable write paths h.1)

-- the clauses of a line, and those that are pasted
pub line-clauses : (regions : List (List ℕ)) (params : List written.Name) (summary : Summary) → CanBeWritten (in_line summary)
    → without_blanks (summary_text regions params summary) ≡ without_blanks (text_of (effects_tokens (clauses_of regions (texts_of params) (in_line summary))))
line-clauses regions params summary can =
    let reads = summary_paths_of false summary.effects in
    let writes = summary_paths_of true summary.effects in
    let front = all-front (λ (effect : Effect). AllByRecursion IsWritable effect.path.elems) (map (effect_on false) reads) (map (effect_on true) writes) can.literals in
    let back = all-back (λ (effect : Effect). AllByRecursion IsWritable effect.path.elems) (map (effect_on false) reads) (map (effect_on true) writes) can.literals in
    clauses-same regions params reads writes (writable false reads front) (writable true writes back)
    ∙ (λ i. without_blanks (text_of (effects_tokens (clause_of regions (texts_of params) false (sym (only-reads reads writes) i)
    ++ clause_of regions (texts_of params) true (sym (only-writes reads writes) i)))))
