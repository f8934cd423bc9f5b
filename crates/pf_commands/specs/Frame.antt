-- Commands as 27 bytes on the wire: which bytes encode a command, and why others encode none.
use Rattle.std.specs.Prelude.{◌≡◌, ℕ, zero, suc, ◌+◌, ◌*◌, ◌^◌, ◌<◌, Bool, true, not, ◌&&◌, ◌||◌, List, ◌++◌, length, drop, slice_index, Result, Ok, Err, nat_lt, nat_le, ◌==◌, if◌then◌else◌, ℤ}
use Rattle.std.specs.Int.{w64, cast_signed, cast_unsigned}
use Rattle.std.specs.Int.RustNames.{unsigned_abs}
use Rattle.byteorder.specs.Endian.{big_number, big_bytes}
use Rattle.pf_commands.specs.declared.fault.FrameFault.{FrameFault}
use Rattle.pf_commands.specs.declared.fault.FrameFault.TheVariants.{Short, Long, BadVersion, BadKind, NotCanonical, OutOfRange}
use Rattle.pf_commands.specs.declared.payload.Command.{Command}
use Rattle.pf_commands.specs.declared.payload.Payload.{Payload}
use Rattle.pf_commands.specs.declared.payload.Payload.TheVariants.{Push, Turn, Stop, Place}
use Rattle.pf_num.specs.Fx.{max_raw}
use Rattle.pf_commands.specs.Coordinate.{is_coordinate}
use Rattle.pf_commands.specs.Name.{IsName}
use Rattle.pf_commands.specs.Payload.{IsPayload, kind_of, body_of, x_of, y_of, weight}

-- a list of bytes
abbrev pub IsBytes : List ℕ → Type 0
IsBytes bytes = (i : ℕ) → slice_index bytes i < 256

-- what has an encoding: a command in the ranges that its type keeps, with a body below 2^10
pub record IsFrameable (c : Command) : Type 0 where
  pub name : IsName c.name
  pub payload : IsPayload c.payload
  pub body : body_of c.payload < 2 ^ 10

-- the version of a payload's frame: a place has version 2, the others version 1
abbrev pub version_of : Payload → ℕ
version_of (Push body x y) = 1
version_of (Turn body x) = 1
version_of (Stop body) = 1
version_of (Place body x y) = 2

-- the fields of a command, each shifted to its bits: version, tick, player, number, and the
-- payload's 19 bytes
unfoldable pub frame_number : Command → ℕ
frame_number c =
    version_of c.payload * 2 ^ 208 + c.name.tick * 2 ^ 176 + c.name.player * 2 ^ 168
    + c.name.number * 2 ^ 152 + weight c.payload

-- The bytes encode the command: they are 27, and as one big-endian number they are the sum of its
-- shifted fields.
pub record Encodes (bytes : List ℕ) (c : Command) : Type 0 where
  pub long : length bytes ≡ 27
  pub are_bytes : IsBytes bytes
  pub framed : IsFrameable c
  pub same : big_number 27 bytes ≡ frame_number c

-- ---- the fields of a frame

-- the fields of 27 bytes, x and y in two's complement
pub record Fields : Type 0 where
  pub version : ℕ
  pub tick : ℕ
  pub player : ℕ
  pub number : ℕ
  pub kind : ℕ
  pub body : ℕ
  pub x : ℕ
  pub y : ℕ

-- the big-endian number in n bytes from index i
abbrev pub number_at : ℕ → ℕ → List ℕ → ℕ
number_at n i bytes = big_number n (drop i bytes)

-- the fields of a list of bytes, of which there are to be 27
unfoldable pub frame_fields : List ℕ → Fields
frame_fields bytes = record {
  version = slice_index bytes 0;
  tick = number_at 4 1 bytes;
  player = slice_index bytes 5;
  number = number_at 2 6 bytes;
  kind = slice_index bytes 8;
  body = number_at 2 9 bytes;
  x = number_at 8 11 bytes;
  y = number_at 8 19 bytes;
}

-- the fields of a command's frame
unfoldable pub fields_in : Command → Fields
fields_in c = record {
  version = version_of c.payload;
  tick = c.name.tick;
  player = c.name.player;
  number = c.name.number;
  kind = kind_of c.payload;
  body = body_of c.payload;
  x = cast_unsigned w64 (x_of c.payload);
  y = cast_unsigned w64 (y_of c.payload);
}

-- the bytes of fields, in their order
unfoldable pub bytes_in : Fields → List ℕ
bytes_in f =
    big_bytes 1 f.version ++ big_bytes 4 f.tick ++ big_bytes 1 f.player ++ big_bytes 2 f.number
    ++ big_bytes 1 f.kind ++ big_bytes 2 f.body ++ big_bytes 8 f.x ++ big_bytes 8 f.y

-- the one encoding of a command that has one
abbrev pub encoding : Command → List ℕ
encoding c = bytes_in (fields_in c)

-- ---- decoding

-- the versions of frames
abbrev pub is_version : ℕ → Bool
is_version version = version == 1 || version == 2

-- version 1 has the kinds 0 to 2, version 2 only the kind 3
abbrev pub has_kind : ℕ → ℕ → Bool
has_kind version kind = if version == 1 then nat_lt kind 3 else kind == 3

-- a turn has no y, a stop neither x nor y
abbrev pub is_canonical : ℕ → ℕ → ℕ → Bool
is_canonical zero x y = true
is_canonical (suc zero) x y = y == 0
is_canonical (suc (suc zero)) x y = x == 0 && y == 0
is_canonical (suc (suc (suc kind))) x y = true

-- a fixed-point number: from -(2^55 - 1) to 2^55 - 1
abbrev pub is_raw : ℤ → Bool
is_raw z = nat_le (unsigned_abs z) (unsigned_abs max_raw)

-- 64 bits in two's complement that are an x or a y of the kind: a coordinate for a place, which is
-- kind 3, and a fixed-point number for the kinds below
abbrev pub is_component : ℕ → ℕ → Bool
is_component kind bits =
    let z = cast_signed w64 bits in if nat_lt kind 3 then is_raw z else is_coordinate z

-- the ranges of the fields
unfoldable pub is_in_range : Fields → Bool
is_in_range f =
    nat_lt f.tick (2 ^ 20) && nat_lt f.player 8 && nat_lt f.body (2 ^ 10)
    && is_component f.kind f.x && is_component f.kind f.y

-- the payload of a kind
abbrev pub payload_of : ℕ → ℕ → ℤ → ℤ → Payload
payload_of zero body x y = Push body x y
payload_of (suc zero) body x y = Turn body x
payload_of (suc (suc zero)) body x y = Stop body
payload_of (suc (suc (suc kind))) body x y = Place body x y

-- the payload that fields in their ranges name
abbrev pub payload_in : Fields → Payload
payload_in f = payload_of f.kind f.body (cast_signed w64 f.x) (cast_signed w64 f.y)

-- the command that fields in their ranges name
unfoldable pub command_in : Fields → Command
command_in f = record {
  name = record { tick = f.tick; player = f.player; number = f.number };
  payload = payload_in f;
}

-- the command of fields, or the first of four errors
unfoldable pub command_of : Fields → Result Command FrameFault
command_of f =
    if not (is_version f.version) then Err BadVersion
    else (if not (has_kind f.version f.kind) then Err BadKind
    else (if not (is_canonical f.kind f.x f.y) then Err NotCanonical
    else (if not (is_in_range f) then Err OutOfRange
    else Ok (command_in f))))

-- the command that bytes encode, or the first of the six errors
unfoldable pub decode : List ℕ → Result Command FrameFault
decode bytes =
    if nat_lt (length bytes) 27 then Err Short
    else (if nat_lt 27 (length bytes) then Err Long
    else command_of (frame_fields bytes))
