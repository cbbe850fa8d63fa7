-- What the words after the program's name ask for.
use Rattle.std.specs.Prelude.{ℕ, List, [], ◌∷◌, Option, None, Some, codes, bytes_eq, if◌then◌else◌}
use Rattle.twe_annotate.specs.declared.words.AnnotateRequest.{AnnotateRequest}
use Rattle.twe_annotate.specs.declared.words.AnnotateRequest.TheVariants.{Matrix, Write, Compare, Explain}

-- what a word asks for
abbrev pub request_of : List ℕ → Option AnnotateRequest
request_of word =
    if bytes_eq word (codes "matrix") then Some Matrix
    else if bytes_eq word (codes "write") then Some Write
    else if bytes_eq word (codes "compare") then Some Compare
    else None

-- what a word with a name after it asks for
abbrev pub request_on : List ℕ → List ℕ → Option AnnotateRequest
request_on word name = if bytes_eq word (codes "compare") then Some (Explain name) else None

-- one word asks for something, and so does `compare` with a name; no word, other two and more ask for nothing
abbrev pub requested_by : List (List ℕ) → Option AnnotateRequest
requested_by [] = None
requested_by (word ∷ []) = request_of word
requested_by (word ∷ name ∷ []) = request_on word name
requested_by (word ∷ name ∷ next ∷ others) = None
