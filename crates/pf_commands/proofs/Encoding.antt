-- Each command that has a body below 2^10 has one encoding.
use Rattle.std.proofs.Common.{◌≡◌, ℕ, zero, suc, ◌<◌, List, [], ◌∷◌, ◌++◌, length, refl, sym, ap, ◌∙◌, arith}
use Rattle.std.specs.Int.{byte_at, bytes_high_first}
use Rattle.std.proofs.lemmas.List.{length-append}
use Rattle.std.proofs.Math.Nat.{mod-eq_of_lt}
use Rattle.byteorder.specs.Numbers.{big_number-reads_back}
use Rattle.pf_commands.specs.Frame.{Fields, IsBytes, IsFrameable, Encodes, frame_fields, fields_in, bytes_in, encoding}
use Rattle.pf_commands.specs.declared.payload.Command.{Command}
use Rattle.pf_commands.proofs.Digits.{same_bytes}
use Rattle.pf_commands.proofs.Fields.{AreFields, worth, fields_in-fit, big_number_parts, frame_number-parts}
use Rattle.pf_commands.proofs.Frames.{ok_is, encoded_decodes}

-- ---- the bytes of fields

byte_below : (k n : ℕ) → byte_at k n < 256
byte_below zero n = omega arith
byte_below (suc k) n = omega arith

IsBytes-of_number : (k n : ℕ) → IsBytes (bytes_high_first k n)
IsBytes-of_number zero n i = omega arith
IsBytes-of_number (suc k) n zero = byte_below k n
IsBytes-of_number (suc k) n (suc i) = IsBytes-of_number k n i

IsBytes-append : (xs ys : List ℕ) → IsBytes xs → IsBytes ys → IsBytes (xs ++ ys)
IsBytes-append [] ys fits-xs fits-ys i = fits-ys i
IsBytes-append (x ∷ xs) ys fits-xs fits-ys zero = fits-xs zero
IsBytes-append (x ∷ xs) ys fits-xs fits-ys (suc i) = IsBytes-append xs ys (λ k. fits-xs (suc k)) fits-ys i

-- a number behind other bytes
IsBytes-with : (xs : List ℕ) (k n : ℕ) → IsBytes xs → IsBytes (xs ++ bytes_high_first k n)
IsBytes-with xs k n fits = IsBytes-append xs (bytes_high_first k n) fits (IsBytes-of_number k n)

bytes_in-fit : (f : Fields) → IsBytes (bytes_in f)
unfolding bytes_in
bytes_in-fit f = search (IsBytes-with, IsBytes-of_number) depth 12

length-bytes_in : (f : Fields) → length (bytes_in f) ≡ 27
unfolding bytes_in
length-bytes_in f = refl

-- fields come back from their bytes
fields_again : (f : Fields) → AreFields f → frame_fields (bytes_in f) ≡ f
unfolding frame_fields bytes_in
fields_again f fits =
    let version = mod-eq_of_lt fits.version in
    let tick = big_number-reads_back 4 f.tick [] fits.tick in
    let player = mod-eq_of_lt fits.player in
    let number = big_number-reads_back 2 f.number [] fits.number in
    let kind = mod-eq_of_lt fits.kind in
    let body = big_number-reads_back 2 f.body [] fits.body in
    let x = big_number-reads_back 8 f.x [] fits.x in
    let y = big_number-reads_back 8 f.y [] fits.y in
    rw (version, tick, player, number, kind, body, x, y) refl

pub encoding_encodes : (c : Command) → IsFrameable c → Encodes (encoding c) c
encoding_encodes c framed = record {
  long = length-bytes_in (fields_in c);
  are_bytes = bytes_in-fit (fields_in c);
  framed = framed;
  same = big_number_parts (encoding c) ∙ ap worth (fields_again (fields_in c) (fields_in-fit c framed)) ∙ sym (frame_number-parts c);
}

-- ---- one encoding of a command, one command of an encoding

pub same_spelling : (a b : List ℕ) (c : Command) → Encodes a c → Encodes b c → a ≡ b
same_spelling a b c first second =
    same_bytes 27 a b first.long second.long first.are_bytes second.are_bytes (first.same ∙ sym second.same)

pub same_command : (a : List ℕ) (c d : Command) → Encodes a c → Encodes a d → c ≡ d
same_command a c d first second = ok_is c d (sym (encoded_decodes a c first) ∙ encoded_decodes a d second)

empty_rest : (rest : List ℕ) → length rest ≡ 0 → rest ≡ []
empty_rest [] none = refl
empty_rest (b ∷ rest) none = absurd (omega arith)

pub no_beginning : (a rest : List ℕ) (c d : Command) → Encodes a c → Encodes (a ++ rest) d → rest ≡ []
no_beginning a rest c d first second = empty_rest rest (omega (arith, length-append a rest, first.long, second.long))
