-- Bytes decode to the command that they encode, and to no other.
use Rattle.std.proofs.Common.{◌≡◌, ℕ, zero, suc, ◌^◌, ◌<◌, ◌≤◌, Bool, true, false, cond, eqb, List, length, Result, Ok, Err, refl, sym, ap, subst, ◌∙◌, arith}
use Rattle.std.specs.Prelude.{ℤ, ◌&&◌, nat_lt, not}
use Rattle.std.specs.Int.{w64, cast_signed, cast_unsigned}
use Rattle.std.specs.Int.RustNames.{unsigned_abs}
use Rattle.std.proofs.lemmas.Bool.{and_parts, not-false, lt-ltb, le-leb, ltb-true, ltb-false, leb-true, eqb-true}
use Rattle.std.proofs.lemmas.Int.{of_z-to_z}
use Rattle.std.proofs.lemmas.Bool.Decides.{nat_tests}
use Rattle.pf_num.specs.Fx.{IsRaw, max_raw}
use Rattle.pf_shapes.specs.declared.scene.TheConstants.{MAX_POSITION}
use Rattle.pf_commands.specs.Coordinate.{IsCoordinate, is_coordinate}
use Rattle.pf_commands.specs.declared.fault.FrameFault.{FrameFault}
use Rattle.pf_commands.specs.declared.fault.FrameFault.TheVariants.{Short, Long, BadVersion, BadKind, NotCanonical, OutOfRange}
use Rattle.pf_commands.specs.Frame.{Fields, IsBytes, IsFrameable, Encodes, version_of, frame_fields, fields_in, is_version, has_kind, is_raw, is_component, is_canonical, is_in_range, payload_of, command_in, command_of, decode}
use Rattle.pf_commands.specs.declared.payload.Command.{Command}
use Rattle.pf_commands.specs.declared.payload.Payload.{Payload}
use Rattle.pf_commands.specs.declared.payload.Payload.TheVariants.{Push, Turn, Stop, Place}
use Rattle.pf_commands.specs.Payload.{IsPayload, HasCoordinates, kind_of, body_of, x_of, y_of}
use Rattle.pf_commands.proofs.Fields.{AreFields, worth, raw_again, frame_fields-fit, fields_in-fit, big_number_parts, frame_number-parts, same_fields}

-- ---- encoded commands are decoded

raw_passes : (z : ℤ) → IsRaw z → is_raw (cast_signed w64 (cast_unsigned w64 z)) ≡ true
raw_passes z raw = rw (raw_again z raw) (le-leb (unsigned_abs z) (unsigned_abs max_raw) raw)

coordinate_passes : (z : ℤ) → IsRaw z → IsCoordinate z → is_coordinate (cast_signed w64 (cast_unsigned w64 z)) ≡ true
coordinate_passes z raw small = rw (raw_again z raw) (le-leb (unsigned_abs z) (unsigned_abs MAX_POSITION) small)

x_passes : (p : Payload) → IsPayload p → is_component (kind_of p) (cast_unsigned w64 (x_of p)) ≡ true
x_passes (Push body x y) fits = raw_passes x fits.x
x_passes (Turn body x) fits = raw_passes x fits.x
x_passes (Stop body) fits = refl
x_passes (Place body x y) fits = coordinate_passes x fits.x (fits.coordinates refl).0

y_passes : (p : Payload) → IsPayload p → is_component (kind_of p) (cast_unsigned w64 (y_of p)) ≡ true
y_passes (Push body x y) fits = raw_passes y fits.y
y_passes (Turn body x) fits = refl
y_passes (Stop body) fits = refl
y_passes (Place body x y) fits = coordinate_passes y fits.y (fits.coordinates refl).1

range_again : (c : Command) → IsFrameable c → is_in_range (fields_in c) ≡ true
unfolding is_in_range fields_in
range_again c framed =
    let tick = lt-ltb c.name.tick (2 ^ 20) framed.name.tick in
    let player = lt-ltb c.name.player 8 framed.name.player in
    let body = lt-ltb (body_of c.payload) (2 ^ 10) framed.body in
    let x = x_passes c.payload framed.payload in
    let y = y_passes c.payload framed.payload in
    rw (tick, player, body, x, y) refl

payload_again : (p : Payload) → IsPayload p → payload_of (kind_of p) (body_of p) (cast_signed w64 (cast_unsigned w64 (x_of p))) (cast_signed w64 (cast_unsigned w64 (y_of p))) ≡ p
payload_again (Push body x y) fits = rw (raw_again x fits.x, raw_again y fits.y) refl
payload_again (Turn body x) fits = rw (raw_again x fits.x) refl
payload_again (Stop body) fits = refl
payload_again (Place body x y) fits = rw (raw_again x fits.x, raw_again y fits.y) refl

command_in-again : (c : Command) → IsFrameable c → command_in (fields_in c) ≡ c
unfolding command_in fields_in
command_in-again c framed = let payload = payload_again c.payload framed.payload in rw payload refl

version_passes : (p : Payload) → is_version (version_of p) ≡ true
version_passes (Push body x y) = refl
version_passes (Turn body x) = refl
version_passes (Stop body) = refl
version_passes (Place body x y) = refl

kind_passes : (p : Payload) → has_kind (version_of p) (kind_of p) ≡ true
kind_passes (Push body x y) = refl
kind_passes (Turn body x) = refl
kind_passes (Stop body) = refl
kind_passes (Place body x y) = refl

canonical_passes : (p : Payload) → is_canonical (kind_of p) (cast_unsigned w64 (x_of p)) (cast_unsigned w64 (y_of p)) ≡ true
canonical_passes (Push body x y) = refl
canonical_passes (Turn body x) = refl
canonical_passes (Stop body) = refl
canonical_passes (Place body x y) = refl

pub command_again : (c : Command) → IsFrameable c → command_of (fields_in c) ≡ Ok c
unfolding command_of
command_again c framed =
    let version : is_version (fields_in c).version ≡ true = unfold fields_in in version_passes c.payload in
    let kind : has_kind (fields_in c).version (fields_in c).kind ≡ true = unfold fields_in in kind_passes c.payload in
    let canonical : is_canonical (fields_in c).kind (fields_in c).x (fields_in c).y ≡ true = unfold fields_in in canonical_passes c.payload in
    let range = range_again c framed in
    let command = command_in-again c framed in
    rw (version, kind, canonical, range, command) refl

-- the fields of bytes that encode a command are the command's
pub fields_spelled : (bytes : List ℕ) (c : Command) → Encodes bytes c → frame_fields bytes ≡ fields_in c
fields_spelled bytes c spelled =
    same_fields (frame_fields bytes) (fields_in c) (frame_fields-fit bytes spelled.are_bytes) (fields_in-fit c spelled.framed)
    (sym (big_number_parts bytes) ∙ spelled.same ∙ frame_number-parts c)

pub encoded_decodes : (bytes : List ℕ) (c : Command) → Encodes bytes c → decode bytes ≡ Ok c
unfolding decode
encoded_decodes bytes c spelled =
    let long = spelled.long in
    let fields = fields_spelled bytes c spelled in
    rw (long, fields) (command_again c spelled.framed)

-- ---- decoded commands are encoded

-- a test that passed
guard_ok : (refused : Bool) (fault : FrameFault) (others : Result Command FrameFault) (c : Command) → cond refused (Err fault) others ≡ Ok c → (refused ≡ false) × (others ≡ Ok c)
guard_ok true fault others c is = absurd cc
guard_ok false fault others c is = (refl, is)

-- Ok at its type
abbrev pub done : Command → Result Command FrameFault
done c = Ok c

pub ok_is : (c d : Command) → done c ≡ done d → c ≡ d
ok_is c d same = cc

-- which kinds a version has, and which version a kind
kinds_few : (v k : ℕ) → has_kind v k ≡ true → k ≤ 3
kinds_few v k has = grind (arith, nat_tests)

first_version : (v k : ℕ) → has_kind v k ≡ true → k ≤ 2 → v ≡ 1
first_version v k has low = grind (arith, nat_tests)

second_version : (v k : ℕ) → is_version v ≡ true → has_kind v k ≡ true → k ≡ 3 → v ≡ 2
second_version v k is has place = grind (arith, nat_tests)

raw_back : (z : ℤ) → is_raw z ≡ true → IsRaw z
raw_back z passed = leb-true (unsigned_abs z) (unsigned_abs max_raw) passed

coordinate_back : (z : ℤ) → is_coordinate z ≡ true → IsCoordinate z
coordinate_back z passed = leb-true (unsigned_abs z) (unsigned_abs MAX_POSITION) passed

-- a payload that was read from canonical fields has these fields
record ReadsBack (p : Payload) (v k b m n : ℕ) : Type 0 where
  version : version_of p ≡ v
  kind : kind_of p ≡ k
  body : body_of p ≡ b
  x : cast_unsigned w64 (x_of p) ≡ m
  y : cast_unsigned w64 (y_of p) ≡ n
  raw_x : IsRaw (x_of p)
  raw_y : IsRaw (y_of p)
  coordinates : HasCoordinates p

payload_of-back : (version kind body x y : ℕ) → is_version version ≡ true → has_kind version kind ≡ true → is_canonical kind x y ≡ true → x < 2 ^ 64 → y < 2 ^ 64
    → is_component kind x ≡ true → is_component kind y ≡ true → ReadsBack (payload_of kind body (cast_signed w64 x) (cast_signed w64 y)) version kind body x y
payload_of-back version zero body x y is has canonical x-lt y-lt part_x part_y = record {
  version = sym (first_version version 0 has (omega arith));
  kind = refl;
  body = refl;
  x = of_z-to_z w64 x x-lt;
  y = of_z-to_z w64 y y-lt;
  raw_x = raw_back (cast_signed w64 x) part_x;
  raw_y = raw_back (cast_signed w64 y) part_y;
  coordinates = λ is. absurd (omega (arith, is));
}
payload_of-back version (suc zero) body x y is has canonical x-lt y-lt part_x part_y = record {
  version = sym (first_version version 1 has (omega arith));
  kind = refl;
  body = refl;
  x = of_z-to_z w64 x x-lt;
  y = sym (eqb-true y 0 canonical);
  raw_x = raw_back (cast_signed w64 x) part_x;
  raw_y = omega arith;
  coordinates = λ is. absurd (omega (arith, is));
}
payload_of-back version (suc (suc zero)) body x y is has canonical x-lt y-lt part_x part_y =
    let parts = and_parts (eqb x 0) (eqb y 0) canonical in
    record {
      version = sym (first_version version 2 has (omega arith));
      kind = refl;
      body = refl;
      x = sym (eqb-true x 0 parts.0);
      y = sym (eqb-true y 0 parts.1);
      raw_x = omega arith;
      raw_y = omega arith;
      coordinates = λ is. absurd (omega (arith, is));
    }
payload_of-back version (suc (suc (suc zero))) body x y is has canonical x-lt y-lt part_x part_y =
    let in_x = coordinate_back (cast_signed w64 x) part_x in
    let in_y = coordinate_back (cast_signed w64 y) part_y in
    record {
      version = sym (second_version version 3 is has refl);
      kind = refl;
      body = refl;
      x = of_z-to_z w64 x x-lt;
      y = of_z-to_z w64 y y-lt;
      raw_x = omega arith;
      raw_y = omega arith;
      coordinates = λ _. (in_x, in_y);
    }
payload_of-back version (suc (suc (suc (suc kind)))) body x y is has canonical x-lt y-lt part_x part_y =
    absurd (let few = kinds_few version (suc (suc (suc (suc kind)))) has in omega arith)

-- the ranges that the fields were found in
record IsInRange (f : Fields) : Type 0 where
  tick : f.tick < 2 ^ 20
  player : f.player < 8
  body : f.body < 2 ^ 10
  x : is_component f.kind f.x ≡ true
  y : is_component f.kind f.y ≡ true

in_range : (f : Fields) → is_in_range f ≡ true → IsInRange f
unfolding is_in_range
in_range f passed =
    let y = and_parts (nat_lt f.tick (2 ^ 20) && nat_lt f.player 8 && nat_lt f.body (2 ^ 10) && is_component f.kind f.x) (is_component f.kind f.y) passed in
    let x = and_parts (nat_lt f.tick (2 ^ 20) && nat_lt f.player 8 && nat_lt f.body (2 ^ 10)) (is_component f.kind f.x) y.0 in
    let body = and_parts (nat_lt f.tick (2 ^ 20) && nat_lt f.player 8) (nat_lt f.body (2 ^ 10)) x.0 in
    let both = and_parts (nat_lt f.tick (2 ^ 20)) (nat_lt f.player 8) body.0 in
    record {
      tick = ltb-true f.tick (2 ^ 20) both.0;
      player = ltb-true f.player 8 both.1;
      body = ltb-true f.body (2 ^ 10) body.1;
      x = x.1;
      y = y.1;
    }

-- a command in range whose frame has these fields
record Names (f : Fields) (c : Command) : Type 0 where
  framed : IsFrameable c
  same : fields_in c ≡ f

command_in-names : (f : Fields) → AreFields f → is_version f.version ≡ true → has_kind f.version f.kind ≡ true → is_canonical f.kind f.x f.y ≡ true → IsInRange f → Names f (command_in f)
unfolding command_in fields_in
command_in-names f fits version kind canonical range =
    let back = payload_of-back f.version f.kind f.body f.x f.y version kind canonical fits.x fits.y range.x range.y in
    record {
      framed = record {
        name = record { tick = range.tick; player = range.player; number = fits.number };
        payload = record { body = rw back.body fits.body; x = back.raw_x; y = back.raw_y; coordinates = back.coordinates };
        body = rw back.body range.body;
      };
      same = rw (back.version, back.kind, back.body, back.x, back.y) refl;
    }

command_of-names : (f : Fields) (c : Command) → AreFields f → command_of f ≡ Ok c → Names f c
unfolding command_of
command_of-names f c fits is =
    let version = guard_ok (not (is_version f.version)) BadVersion _ c is in
    let kind = guard_ok (not (has_kind f.version f.kind)) BadKind _ c version.1 in
    let canonical = guard_ok (not (is_canonical f.kind f.x f.y)) NotCanonical _ c kind.1 in
    let range = guard_ok (not (is_in_range f)) OutOfRange _ c canonical.1 in
    let names = command_in-names f fits (not-false _ version.0) (not-false _ kind.0) (not-false _ canonical.0) (in_range f (not-false _ range.0)) in
    subst (Names f) (ok_is (command_in f) c range.1) names

pub decoded_encodes : (bytes : List ℕ) (c : Command) → IsBytes bytes → decode bytes ≡ Ok c → Encodes bytes c
unfolding decode
decoded_encodes bytes c fits is =
    let short = guard_ok (nat_lt (length bytes) 27) Short _ c is in
    let long = guard_ok (nat_lt 27 (length bytes)) Long _ c short.1 in
    let names = command_of-names (frame_fields bytes) c (frame_fields-fit bytes fits) long.1 in
    record {
      long = omega (arith, ltb-false (length bytes) 27 short.0, ltb-false 27 (length bytes) long.0);
      are_bytes = fits;
      framed = names.framed;
      same = big_number_parts bytes ∙ sym (ap worth names.same) ∙ sym (frame_number-parts c);
    }
