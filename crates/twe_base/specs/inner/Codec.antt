-- How the logic stores the values of trees. A decoder reads each value back from what is stored.
use Rattle.std.specs.Prelude.{◌≡◌, ◌==◌, ℕ, ℤ, pos, negsuc, Bool, true, false, Option, None, Some, if◌then◌else◌, refl}
use Rattle.std.proofs.Common.{sym, ap, ◌∙◌}
use Rattle.std.specs.Coded.{Coded}
use Rattle.twe_base.specs.declared.place.Place.{Place}
use base.Stored.{Gv, gnil, gnum, gcons}

-- an encoder, a decoder, and the fact that decoding undoes encoding
pub record Codec (A : Type 0) : Type 0 where
  pub encode : A → Gv
  pub decode : Gv → A
  pub again : (x : A) → decode (encode x) ≡ x

-- so different values are stored differently
abbrev pub coded_of : {A : Type 0} → Codec A → Coded A
coded_of codec = record { code = codec.encode; inj = λ x y p. sym (codec.again x) ∙ (ap codec.decode p ∙ codec.again y) }

-- the number that is stored here, or 0 if what is stored is no number
abbrev pub number_in : Gv → ℕ
number_in gnil = 0
number_in (gnum n) = n
number_in (gcons a b) = 0

-- the first half of a stored pair, or nothing if no pair is stored
abbrev pub first_in : Gv → Gv
first_in gnil = gnil
first_in (gnum n) = gnil
first_in (gcons a b) = a

-- the second half of a stored pair, or nothing if no pair is stored
abbrev pub second_in : Gv → Gv
second_in gnil = gnil
second_in (gnum n) = gnil
second_in (gcons a b) = b

-- a number is stored as itself
abbrev pub codec_ℕ : Codec ℕ
codec_ℕ = record { encode = gnum; decode = number_in; again = λ x. refl }

-- a truth value is stored as 0 or 1
abbrev encode_bool : Bool → Gv
encode_bool false = gnum 0
encode_bool true = gnum 1

-- 1 stands for true, and everything else for false
abbrev decode_bool : Gv → Bool
decode_bool g = number_in g == 1

-- decoding gives back the truth value that was encoded
pub bool_again : (b : Bool) → decode_bool (encode_bool b) ≡ b
bool_again false = refl
bool_again true = refl

-- how a truth value is stored
abbrev pub codec_bool : Codec Bool
codec_bool = record { encode = encode_bool; decode = decode_bool; again = bool_again }

-- an integer is stored as its sign, 0 or 1, and a number: `n` for the integer n, and for the integer -(n + 1)
abbrev encode_ℤ : ℤ → Gv
encode_ℤ (pos n) = gcons (gnum 0) (gnum n)
encode_ℤ (negsuc n) = gcons (gnum 1) (gnum n)

-- the sign 0 stands for an integer that is not negative, and every other for a negative one
abbrev decode_ℤ : Gv → ℤ
decode_ℤ g = if number_in (first_in g) == 0 then pos (number_in (second_in g)) else negsuc (number_in (second_in g))

-- decoding gives back the integer that was encoded
pub ℤ_again : (z : ℤ) → decode_ℤ (encode_ℤ z) ≡ z
ℤ_again (pos n) = refl
ℤ_again (negsuc n) = refl

-- how an integer is stored
abbrev pub codec_ℤ : Codec ℤ
codec_ℤ = record { encode = encode_ℤ; decode = decode_ℤ; again = ℤ_again }

module _ {A : Type 0} (codec : Codec A) where
  -- no value is stored as nothing, and a value as a pair of a mark and what is stored for the value
  abbrev encode_option : Option A → Gv
  encode_option None = gnil
  encode_option (Some x) = gcons (gnum 1) (codec.encode x)

  -- a pair stands for the value in its second half, and everything else for no value
  abbrev decode_option : Gv → Option A
  decode_option gnil = None
  decode_option (gnum n) = None
  decode_option (gcons a b) = Some (codec.decode b)

  -- decoding gives back the value that was encoded, or that there was none
  pub option_again : (o : Option A) → decode_option (encode_option o) ≡ o
  option_again None = refl
  option_again (Some x) = ap Some (codec.again x)

  -- how a value that may be missing is stored, by a codec for the value
  abbrev pub codec_option : Codec (Option A)
  codec_option = record { encode = encode_option; decode = decode_option; again = option_again }

-- a place in a text is stored as the pair of its line and its column
abbrev pub codec_place : Codec Place
codec_place = record {
  encode = λ place. gcons (gnum place.line) (gnum place.col);
  decode = λ g. record { line = number_in (first_in g); col = number_in (second_in g) };
  again = λ place. refl;
}
