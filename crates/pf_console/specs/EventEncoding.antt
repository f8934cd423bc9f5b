-- The lines that encode events, as docs/FORMATS.md shows them: the fields of each event, joined by
-- single spaces.
use Rattle.std.specs.Prelude.{ℕ, ◌^◌, ◌<◌, List, [], ◌∷◌, Ok, Err, codes, decimal}
use Rattle.std.specs.Fmt.{signed_decimal}
use Rattle.std.specs.List.{join_with_byte}
use Rattle.hex.specs.Hex.{encode_lower}
use Rattle.pf_commands.specs.declared.payload.Payload.{Payload}
use Rattle.pf_commands.specs.declared.payload.Payload.TheVariants.{Push, Turn, Stop, Place}
use Rattle.pf_commands.specs.Payload.{IsPayload}
use Rattle.pf_commands.specs.Frame.{IsFrameable, encoding}
use Rattle.pf_events.specs.declared.event.Event.{Event}
use Rattle.pf_events.specs.declared.event.Event.TheVariants.{Issue, Take, Merge, Advance, Settle, Show, Seal}

-- what is issued: its kind, its body and its numbers
abbrev pub payload_fields : Payload → List (List ℕ)
payload_fields (Push body x y) =
    codes "push" ∷ decimal body ∷ signed_decimal x ∷ signed_decimal y ∷ []
payload_fields (Turn body x) = codes "turn" ∷ decimal body ∷ signed_decimal x ∷ []
payload_fields (Stop body) = codes "stop" ∷ decimal body ∷ []
payload_fields (Place body x y) =
    codes "place" ∷ decimal body ∷ signed_decimal x ∷ signed_decimal y ∷ []

-- the fields of an event; bytes that encode no command have no line here
abbrev pub event_fields : Event → List (List ℕ)
event_fields (Issue peer payload) = codes "issue" ∷ decimal peer ∷ payload_fields payload
event_fields (Take peer (Ok c)) = codes "take" ∷ decimal peer ∷ encode_lower (encoding c) ∷ []
event_fields (Take peer (Err fault)) = []
event_fields (Merge peer other) = codes "merge" ∷ decimal peer ∷ decimal other ∷ []
event_fields (Advance peer ticks) = codes "advance" ∷ decimal peer ∷ decimal ticks ∷ []
event_fields (Settle peer) = codes "settle" ∷ decimal peer ∷ []
event_fields (Show peer tick) = codes "show" ∷ decimal peer ∷ decimal tick ∷ []
event_fields (Seal peer tick) = codes "seal" ∷ decimal peer ∷ decimal tick ∷ []

-- the line of an event
abbrev pub event_line : Event → List ℕ
event_line event = join_with_byte 32 (event_fields event)

-- the peers are of so many, and the numbers of the event are in the ranges of its line
abbrev pub IsEncodable : ℕ → Event → Type 0
IsEncodable peers (Issue peer payload) = (peer < peers) × IsPayload payload
IsEncodable peers (Take peer (Ok c)) = (peer < peers) × IsFrameable c
IsEncodable peers (Take peer (Err fault)) = ⊥
IsEncodable peers (Merge peer other) = (peer < peers) × (other < peers)
IsEncodable peers (Advance peer ticks) = (peer < peers) × (ticks < 2 ^ 32)
IsEncodable peers (Settle peer) = peer < peers
IsEncodable peers (Show peer tick) = (peer < peers) × (tick < 2 ^ 32)
IsEncodable peers (Seal peer tick) = (peer < peers) × (tick < 2 ^ 32)
