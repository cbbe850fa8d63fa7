-- How the logic stores names.
use Rattle.std.specs.Prelude.{◌≡◌, ℕ, List, [], ◌∷◌, refl}
use Rattle.twe_base.specs.inner.Codec.{Codec, codec_place, number_in, first_in, second_in}
use Rattle.twe_ast.specs.declared.name.Name.{Name}
use base.Stored.{Gv, gnil, gnum, gcons}

-- bytes are stored as a chain of pairs, each with one byte and what is stored for the others
abbrev encode_bytes : List ℕ → Gv
encode_bytes [] = gnil
encode_bytes (byte ∷ bytes) = gcons (gnum byte) (encode_bytes bytes)

-- the bytes of a chain of pairs
abbrev decode_bytes : Gv → List ℕ
decode_bytes gnil = []
decode_bytes (gnum n) = []
decode_bytes (gcons a b) = number_in a ∷ decode_bytes b

-- decoding gives back the bytes that were encoded
pub bytes_again : (bytes : List ℕ) → decode_bytes (encode_bytes bytes) ≡ bytes
bytes_again [] = refl
bytes_again (byte ∷ bytes) = λ i. byte ∷ bytes_again bytes i

-- a name is stored as the pair of its text and its place
abbrev pub codec_name : Codec Name
codec_name = record {
  encode = λ name. gcons (encode_bytes name.text) (codec_place.encode name.place);
  decode = λ g. record { text = decode_bytes (first_in g); place = codec_place.decode (second_in g) };
  again = λ name. λ i. record { text = bytes_again name.text i; place = name.place };
}
