-- The fields of a frame: its number is the sum of its shifted fields, and of no others.
use Rattle.std.proofs.Common.{◌≡◌, ℕ, ◌+◌, ◌*◌, ◌^◌, ◌<◌, List, drop, refl, arith}
use Rattle.std.specs.Prelude.{ℤ}
use Rattle.std.specs.Int.{w64, cast_signed, cast_unsigned}
use Rattle.std.proofs.lemmas.List.{get_or-drop}
use Rattle.std.proofs.lemmas.Int.{to_z-of_z, fits_signed_from_abs}
use Rattle.byteorder.specs.Endian.{big_number}
use Rattle.byteorder.specs.Numbers.{big_from-lt}
use Rattle.pf_num.specs.Fx.{IsRaw}
use Rattle.pf_commands.specs.Frame.{Fields, IsBytes, IsFrameable, frame_fields, fields_in, version_of, frame_number}
use Rattle.pf_commands.specs.declared.payload.Command.{Command}
use Rattle.pf_commands.specs.declared.payload.Payload.{Payload}
use Rattle.pf_commands.specs.declared.payload.Payload.TheVariants.{Push, Turn, Stop, Place}
use Rattle.pf_commands.specs.Payload.{kind_of, x_of, y_of, weight}
use Rattle.pf_commands.proofs.WeightOrder.{raw_fits}

-- fields shifted to their bits in one number
unfoldable pub worth : Fields → ℕ
worth f =
    f.version * 2 ^ 208 + f.tick * 2 ^ 176 + f.player * 2 ^ 168 + f.number * 2 ^ 152
    + f.kind * 2 ^ 144 + f.body * 2 ^ 128 + f.x * 2 ^ 64 + f.y

-- fields no wider than their bits
pub record AreFields (f : Fields) : Type 0 where
  pub version : f.version < 256
  pub tick : f.tick < 2 ^ 32
  pub player : f.player < 256
  pub number : f.number < 2 ^ 16
  pub kind : f.kind < 256
  pub body : f.body < 2 ^ 16
  pub x : f.x < 2 ^ 64
  pub y : f.y < 2 ^ 64

IsBytes-drop : (n : ℕ) (bytes : List ℕ) → IsBytes bytes → IsBytes (drop n bytes)
IsBytes-drop n bytes fits i = rw get_or-drop (fits (n + i))

pub frame_fields-fit : (bytes : List ℕ) → IsBytes bytes → AreFields (frame_fields bytes)
unfolding frame_fields
frame_fields-fit bytes fits = record {
  version = fits 0;
  tick = big_from-lt 0 4 (drop 1 bytes) (IsBytes-drop 1 bytes fits);
  player = fits 5;
  number = big_from-lt 0 2 (drop 6 bytes) (IsBytes-drop 6 bytes fits);
  kind = fits 8;
  body = big_from-lt 0 2 (drop 9 bytes) (IsBytes-drop 9 bytes fits);
  x = big_from-lt 0 8 (drop 11 bytes) (IsBytes-drop 11 bytes fits);
  y = big_from-lt 0 8 (drop 19 bytes) (IsBytes-drop 19 bytes fits);
}

kind_below : (p : Payload) → kind_of p < 256
kind_below (Push body x y) = omega arith
kind_below (Turn body x) = omega arith
kind_below (Stop body) = omega arith
kind_below (Place body x y) = omega arith

version_below : (p : Payload) → version_of p < 256
version_below (Push body x y) = omega arith
version_below (Turn body x) = omega arith
version_below (Stop body) = omega arith
version_below (Place body x y) = omega arith

-- a fixed-point number comes back from its bits
pub raw_again : (z : ℤ) → IsRaw z → cast_signed w64 (cast_unsigned w64 z) ≡ z
raw_again z raw = to_z-of_z w64 z (fits_signed_from_abs w64 z (omega arith))

pub fields_in-fit : (c : Command) → IsFrameable c → AreFields (fields_in c)
unfolding fields_in
fields_in-fit c framed = record {
  version = version_below c.payload;
  tick = omega (arith, framed.name.tick);
  player = omega (arith, framed.name.player);
  number = framed.name.number;
  kind = kind_below c.payload;
  body = framed.payload.body;
  x = raw_fits (x_of c.payload) framed.payload.x;
  y = raw_fits (y_of c.payload) framed.payload.y;
}

-- 27 digits are eight fields
pub big_number_parts : (bytes : List ℕ) → big_number 27 bytes ≡ worth (frame_fields bytes)
unfolding frame_fields worth
big_number_parts bytes = simp get_or-drop (omega arith)

pub frame_number-parts : (c : Command) → frame_number c ≡ worth (fields_in c)
unfolding frame_number worth fields_in weight
frame_number-parts c = omega arith

abbrev made : ℕ → ℕ → ℕ → ℕ → ℕ → ℕ → ℕ → ℕ → Fields
made version tick player number kind body x y = record { version = version; tick = tick; player = player; number = number; kind = kind; body = body; x = x; y = y }

-- equal sums of fields have equal fields
pub same_fields : (f g : Fields) → AreFields f → AreFields g → worth f ≡ worth g → f ≡ g
unfolding worth
same_fields f g fits-f fits-g same =
    let version : f.version ≡ g.version = omega arith in
    let tick : f.tick ≡ g.tick = omega arith in
    let player : f.player ≡ g.player = omega arith in
    let number : f.number ≡ g.number = omega arith in
    let kind : f.kind ≡ g.kind = omega arith in
    let body : f.body ≡ g.body = omega arith in
    let x : f.x ≡ g.x = omega arith in
    let y : f.y ≡ g.y = omega arith in
    let fields : made f.version f.tick f.player f.number f.kind f.body f.x f.y ≡ made g.version g.tick g.player g.number g.kind g.body g.x g.y =
    rw (version, tick, player, number, kind, body, x, y) refl in
    fields
