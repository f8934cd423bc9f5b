-- The fields of an event parse as that event.
use Rattle.std.proofs.Common.{◌≡◌, ℕ, ◌<◌, ◌^◌, ℤ, pos, neg_ℤ, ◌≤ℤ◌, ◌-ℤ◌, ◌≤◌, true, ◌&&◌, ◌∷◌, Some, Ok, Err, refl, ap, ◌∙◌, arith}
use Rattle.std.specs.Prelude.{int_le}
use Rattle.std.specs.Fmt.{decimal, signed_decimal}
use Rattle.std.specs.Int.RustNames.{unsigned_abs}
use Rattle.std.proofs.lemmas.Bool.Decides.{nat_tests}
use Rattle.std.proofs.lemmas.Int.{ints}
use Rattle.hex.specs.Hex.{encode_lower}
use Rattle.hex.proofs.HexLemmas.{decode_of-encode_lower}
use Rattle.pf_num.specs.Fx.{max_raw, IsRaw}
use Rattle.pf_text.specs.Numbers.{whole_of, integer}
use Rattle.pf_text.proofs.DecimalText.{whole-signed_decimal}
use Rattle.pf_shapes.specs.declared.fixture.TheConstants.{PLAYERS}
use Rattle.pf_shapes.specs.declared.scene.TheConstants.{MAX_POSITION}
use Rattle.pf_commands.specs.Coordinate.{IsCoordinate}
use Rattle.pf_commands.specs.declared.payload.Command.{Command}
use Rattle.pf_commands.specs.declared.payload.Payload.{Payload}
use Rattle.pf_commands.specs.declared.payload.Payload.TheVariants.{Push, Turn, Stop, Place}
use Rattle.pf_commands.specs.Payload.{IsPayload}
use Rattle.pf_commands.specs.Frame.{IsFrameable, encoding}
use Rattle.pf_commands.proofs.Encoding.{encoding_encodes}
use Rattle.pf_commands.proofs.Frames.{encoded_decodes}
use Rattle.pf_events.specs.declared.event.Event.{Event}
use Rattle.pf_events.specs.declared.event.Event.TheVariants.{Issue, Take, Merge, Advance, Settle, Show, Seal}
use Rattle.pf_console.specs.Digits.{frame_or_error, bytes_or_error, frame_of_digits}
use Rattle.pf_console.specs.Grammar.{peer_number, tick_of, body_number, real_of, coordinate_field, event_of, issue_of, push_event, turn_event, stop_event, place_event, take_of, merge_event, advance_of, settle_of, show_of, seal_of}
use Rattle.pf_console.specs.EventEncoding.{payload_fields, event_fields, IsEncodable}

-- ---- numbers

within_range : (low high z : ℤ) → low ≤ℤ z → z ≤ℤ high → integer low high (Some z) ≡ Ok z
within_range low high z h k =
    let e : (int_le low z && int_le z high) ≡ true = grind (arith, ints, nat_tests) in rw e refl

read_number : (low high z : ℤ) → unsigned_abs z < 2 ^ 64 → low ≤ℤ z → z ≤ℤ high → integer low high (whole_of (signed_decimal z)) ≡ Ok z
read_number low high z small h k = ap (integer low high) (whole-signed_decimal z small) ∙ within_range low high z h k

read_peer : (peers peer : ℕ) → peers ≤ PLAYERS → peer < peers → peer_number peers (decimal peer) ≡ Ok peer
read_peer peers peer few h =
    rw (read_number (pos 0) (pos peers -ℤ pos 1) (pos peer) (omega arith) (omega (arith, ints)) (omega (arith, ints))) refl

read_tick : (tick : ℕ) → tick < 2 ^ 32 → tick_of (decimal tick) ≡ Ok tick
read_tick tick small = rw (read_number (pos 0) (pos 4294967295) (pos tick) (omega arith) (omega (arith, ints)) (omega (arith, ints))) refl

read_body : (body : ℕ) → body < 2 ^ 16 → body_number (decimal body) ≡ Ok body
read_body body small = rw (read_number (pos 0) (pos 65535) (pos body) (omega arith) (omega (arith, ints)) (omega (arith, ints))) refl

read_real : (z : ℤ) → IsRaw z → real_of (signed_decimal z) ≡ Ok z
read_real z raw = read_number (neg_ℤ max_raw) max_raw z (omega arith) (omega (arith, ints)) (omega (arith, ints))

read_coordinate : (z : ℤ) → IsCoordinate z → coordinate_field (signed_decimal z) ≡ Ok z
read_coordinate z small = read_number (neg_ℤ MAX_POSITION) MAX_POSITION z (omega arith) (omega (arith, ints)) (omega (arith, ints))

-- ---- frames

pub read_frame : (c : Command) → IsFrameable c → frame_of_digits (encode_lower (encoding c)) ≡ Ok (Ok c)
read_frame c h =
    let spells = encoding_encodes c h in
    ap (λ bytes. frame_or_error (bytes_or_error bytes)) (decode_of-encode_lower (encoding c) spells.are_bytes) ∙ ap Ok (encoded_decodes (encoding c) c spells)

-- ---- events

read_issue : (peers peer : ℕ) (payload : Payload) → peers ≤ PLAYERS → peer < peers → IsPayload payload
    → issue_of peers (decimal peer ∷ payload_fields payload) ≡ Ok (Issue peer payload)
unfolding issue_of push_event turn_event stop_event place_event
read_issue peers peer (Push body x y) few e h =
    rw (read_peer peers peer few e, read_body body h.body, read_real x h.x, read_real y h.y) refl
read_issue peers peer (Turn body x) few e h = rw (read_peer peers peer few e, read_body body h.body, read_real x h.x) refl
read_issue peers peer (Stop body) few e h = rw (read_peer peers peer few e, read_body body h.body) refl
read_issue peers peer (Place body x y) few e h =
    rw (read_peer peers peer few e, read_body body h.body, read_coordinate x (h.coordinates refl).0, read_coordinate y (h.coordinates refl).1) refl

pub read_event : (peers : ℕ) (event : Event) → peers ≤ PLAYERS → IsEncodable peers event
    → event_of peers (event_fields event) ≡ Ok event
unfolding event_of take_of merge_event advance_of settle_of show_of seal_of
read_event peers (Issue peer payload) few h = read_issue peers peer payload few h.0 h.1
read_event peers (Take peer (Ok c)) few h = rw (read_peer peers peer few h.0, read_frame c h.1) refl
read_event peers (Take peer (Err fault)) few h = elim h [ ]
read_event peers (Merge peer other) few h = rw (read_peer peers peer few h.0, read_peer peers other few h.1) refl
read_event peers (Advance peer ticks) few h = rw (read_peer peers peer few h.0, read_tick ticks h.1) refl
read_event peers (Settle peer) few h = rw (read_peer peers peer few h) refl
read_event peers (Show peer tick) few h = rw (read_peer peers peer few h.0, read_tick tick h.1) refl
read_event peers (Seal peer tick) few h = rw (read_peer peers peer few h.0, read_tick tick h.1) refl
