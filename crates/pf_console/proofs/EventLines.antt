-- The line of an event is plain, is not skipped, and has the event's fields.
use Rattle.std.proofs.Common.{◌≡◌, ◌==◌, ℕ, zero, suc, ◌*◌, ◌<◌, ◌≤◌, ◌^◌, ℤ, pos, negsuc, Bool, true, false, not, ◌&&◌, List, [], ◌∷◌, ◌++◌, length, length-append, Ok, Err, refl, arith, nat_lt, nat_le, ◌/◌, ◌%◌}
use Rattle.std.specs.Char.{is_ascii_digit}
use Rattle.std.specs.Fmt.{decimal, signed_decimal}
use Rattle.std.specs.List.{list_all, join_with_byte, slice_index}
use Rattle.std.specs.Prelude.{codes, map, All}
use Rattle.std.proofs.lemmas.List.Elements.{All-head, All-tail}
use Rattle.std.proofs.lemmas.Bool.{and_parts}
use Rattle.std.proofs.lemmas.Bool.Decides.{nat_tests}
use Rattle.std.proofs.lemmas.Fmt.{length-decimal-le, decimal_nonempty}
use Rattle.hex.specs.Hex.{encode_lower, encode_with, lower_digits}
use Rattle.hex.proofs.HexLemmas.{length-encode_with}
use Rattle.pf_text.specs.Driver.{is_ascii, is_plain, is_skipped}
use Rattle.pf_text.specs.Laws.{lacks_space, is_field}
use Rattle.pf_text.proofs.Joined.{joined_fields}
use Rattle.pf_text.proofs.DecimalText.{decimal_digits}
use Rattle.pf_num.specs.Fx.{IsRaw}
use Rattle.pf_shapes.specs.declared.fixture.TheConstants.{PLAYERS}
use Rattle.pf_commands.specs.declared.payload.Payload.{Payload}
use Rattle.pf_commands.specs.declared.payload.Payload.TheVariants.{Push, Turn, Stop, Place}
use Rattle.pf_commands.specs.Payload.{IsPayload}
use Rattle.pf_commands.specs.Frame.{encoding}
use Rattle.pf_commands.proofs.Encoding.{encoding_encodes}
use Rattle.pf_events.specs.declared.event.Event.{Event}
use Rattle.pf_events.specs.declared.event.Event.TheVariants.{Issue, Take, Merge, Advance, Settle, Show, Seal}
use Rattle.pf_console.specs.Grammar.{IsLineOf}
use Rattle.pf_console.specs.Laws.{AreLinesOf}
use Rattle.pf_console.specs.EventEncoding.{payload_fields, event_fields, event_line, IsEncodable}
use Rattle.pf_console.proofs.EventFields.{read_event}

-- ---- words: ASCII bytes without a space, at most 54 of them

abbrev is_word_byte : ℕ → Bool
is_word_byte byte = nat_lt byte 128 && not (byte == 32)

record IsWord (word : List ℕ) : Type 0 where
  bytes : list_all is_word_byte word ≡ true
  some : 0 < length word
  short : length word ≤ 54

word_lacks_space : (word : List ℕ) → list_all is_word_byte word ≡ true → lacks_space word ≡ true
word_lacks_space [] e = refl
word_lacks_space (byte ∷ bytes) e =
    let tests = and_parts (is_word_byte byte) (list_all is_word_byte bytes) e in
    rw ((and_parts (nat_lt byte 128) (not (byte == 32)) tests.0).1, word_lacks_space bytes tests.1) refl

word_is_ascii : (word : List ℕ) → list_all is_word_byte word ≡ true → is_ascii word ≡ true
word_is_ascii [] e = refl
word_is_ascii (byte ∷ bytes) e =
    let tests = and_parts (is_word_byte byte) (list_all is_word_byte bytes) e in
    rw ((and_parts (nat_lt byte 128) (not (byte == 32)) tests.0).0, word_is_ascii bytes tests.1) refl

-- digits
digit_is_word_byte : (digit : ℕ) → is_ascii_digit digit ≡ true → is_word_byte digit ≡ true
digit_is_word_byte digit e = grind (arith, nat_tests)

digits_are_word : (ds : List ℕ) → list_all is_ascii_digit ds ≡ true → list_all is_word_byte ds ≡ true
digits_are_word [] e = refl
digits_are_word (digit ∷ ds) e =
    let tests = and_parts (is_ascii_digit digit) (list_all is_ascii_digit ds) e in
    rw (digit_is_word_byte digit tests.0, digits_are_word ds tests.1) refl

decimal_word : (n : ℕ) → n < 2 ^ 64 → IsWord (decimal n)
decimal_word n small = record {
  bytes = digits_are_word (decimal n) (decimal_digits n small);
  some = decimal_nonempty n small;
  short = omega (arith, length-decimal-le 20 n (omega arith) (omega arith) small);
}

signed_word : (z : ℤ) → IsRaw z → IsWord (signed_decimal z)
signed_word (pos n) raw = decimal_word n (omega arith)
signed_word (negsuc n) raw =
    let word = decimal_word (suc n) (omega arith) in
    record { bytes = word.bytes; some = omega arith; short = omega (arith, length-decimal-le 20 (suc n) (omega arith) (omega arith) (omega arith)) }

-- digits of a table without spaces; past its end they are 0
entry_is_word_byte : (table : List ℕ) → list_all is_word_byte table ≡ true → (k : ℕ) → is_word_byte (slice_index table k) ≡ true
entry_is_word_byte [] e k = refl
entry_is_word_byte (byte ∷ bytes) e zero = (and_parts (is_word_byte byte) (list_all is_word_byte bytes) e).0
entry_is_word_byte (byte ∷ bytes) e (suc k) = entry_is_word_byte bytes ((and_parts (is_word_byte byte) (list_all is_word_byte bytes) e).1) k

encoded_bytes : (table bytes : List ℕ) → list_all is_word_byte table ≡ true → list_all is_word_byte (encode_with table bytes) ≡ true
unfolding encode_with
encoded_bytes table [] e = refl
encoded_bytes table (byte ∷ bytes) e =
    rw (entry_is_word_byte table e (byte / 16), entry_is_word_byte table e (byte % 16), encoded_bytes table bytes e) refl

frame_word : (bytes : List ℕ) → length bytes ≡ 27 → IsWord (encode_lower bytes)
frame_word bytes long = record {
  bytes = encoded_bytes lower_digits bytes refl;
  some = omega (arith, long, length-encode_with lower_digits bytes);
  short = omega (arith, long, length-encode_with lower_digits bytes);
}

-- ---- words joined by spaces

abbrev AreWords : List (List ℕ) → Type 0
AreWords [] = Unit {0}
AreWords (word ∷ words) = IsWord word × AreWords words

some_bytes : (word : List ℕ) → 0 < length word → not (length word == 0) ≡ true
some_bytes word some = grind (arith, nat_tests)

words_are_fields : (words : List (List ℕ)) → AreWords words → list_all is_field words ≡ true
words_are_fields [] h = refl
words_are_fields (word ∷ words) h =
    rw (some_bytes word h.0.some, word_lacks_space word h.0.bytes, words_are_fields words h.1) refl

ascii_append : (front back : List ℕ) → is_ascii front ≡ true → is_ascii back ≡ true → is_ascii (front ++ back) ≡ true
ascii_append [] back e f = f
ascii_append (byte ∷ bytes) back e f =
    let tests = and_parts (nat_lt byte 128) (is_ascii bytes) e in rw (tests.0, ascii_append bytes back tests.1 f) refl

joined_ascii : (words : List (List ℕ)) → AreWords words → is_ascii (join_with_byte 32 words) ≡ true
joined_ascii [] h = refl
joined_ascii (word ∷ []) h = word_is_ascii word h.0.bytes
joined_ascii (word ∷ next ∷ words) h =
    ascii_append word (32 ∷ join_with_byte 32 (next ∷ words)) (word_is_ascii word h.0.bytes) (joined_ascii (next ∷ words) h.1)

joined_length : (words : List (List ℕ)) → AreWords words → length (join_with_byte 32 words) ≤ 55 * length words
joined_length [] h = omega arith
joined_length (word ∷ []) h = omega (arith, h.0.short)
joined_length (word ∷ next ∷ words) h =
    omega (arith, h.0.short, length-append word (32 ∷ join_with_byte 32 (next ∷ words)), joined_length (next ∷ words) h.1)

joined_plain : (words : List (List ℕ)) → AreWords words → length words ≤ 74 → is_plain (join_with_byte 32 words) ≡ true
joined_plain words h few =
    let short : nat_le (length (join_with_byte 32 words)) 4096 ≡ true = (let long = joined_length words h in grind (arith, nat_tests)) in
    rw (short, joined_ascii words h) refl

-- ---- events

peer_word : (peers peer : ℕ) → peers ≤ PLAYERS → peer < peers → IsWord (decimal peer)
peer_word peers peer few h = decimal_word peer (omega arith)

word : (text : List ℕ) → list_all is_word_byte text ≡ true → 0 < length text → length text ≤ 54 → IsWord text
word text bytes some short = record { bytes = bytes; some = some; short = short }

payload_words : (payload : Payload) → IsPayload payload → AreWords (payload_fields payload)
payload_words (Push body x y) h =
    (word (codes "push") refl (omega arith) (omega arith), (decimal_word body (omega (arith, h.body)), (signed_word x h.x, (signed_word y h.y, tt))))
payload_words (Turn body x) h =
    (word (codes "turn") refl (omega arith) (omega arith), (decimal_word body (omega (arith, h.body)), (signed_word x h.x, tt)))
payload_words (Stop body) h =
    (word (codes "stop") refl (omega arith) (omega arith), (decimal_word body (omega (arith, h.body)), tt))
payload_words (Place body x y) h =
    (word (codes "place") refl (omega arith) (omega arith), (decimal_word body (omega (arith, h.body)), (signed_word x h.x, (signed_word y h.y, tt))))

event_words : (peers : ℕ) (event : Event) → peers ≤ PLAYERS → IsEncodable peers event → AreWords (event_fields event)
event_words peers (Issue peer payload) few h =
    (word (codes "issue") refl (omega arith) (omega arith), (peer_word peers peer few h.0, payload_words payload h.1))
event_words peers (Take peer (Ok c)) few h =
    (word (codes "take") refl (omega arith) (omega arith), (peer_word peers peer few h.0, (frame_word (encoding c) (encoding_encodes c h.1).long, tt)))
event_words peers (Take peer (Err fault)) few h = elim h [ ]
event_words peers (Merge peer other) few h =
    (word (codes "merge") refl (omega arith) (omega arith), (peer_word peers peer few h.0, (peer_word peers other few h.1, tt)))
event_words peers (Advance peer ticks) few h =
    (word (codes "advance") refl (omega arith) (omega arith), (peer_word peers peer few h.0, (decimal_word ticks (omega (arith, h.1)), tt)))
event_words peers (Settle peer) few h =
    (word (codes "settle") refl (omega arith) (omega arith), (peer_word peers peer few h, tt))
event_words peers (Show peer tick) few h =
    (word (codes "show") refl (omega arith) (omega arith), (peer_word peers peer few h.0, (decimal_word tick (omega (arith, h.1)), tt)))
event_words peers (Seal peer tick) few h =
    (word (codes "seal") refl (omega arith) (omega arith), (peer_word peers peer few h.0, (decimal_word tick (omega (arith, h.1)), tt)))

payload_count : (payload : Payload) → length (payload_fields payload) ≤ 4
payload_count (Push body x y) = omega arith
payload_count (Turn body x) = omega arith
payload_count (Stop body) = omega arith
payload_count (Place body x y) = omega arith

event_count : (peers : ℕ) (event : Event) → peers ≤ PLAYERS → IsEncodable peers event → (0 < length (event_fields event)) × (length (event_fields event) ≤ 6)
event_count peers (Issue peer payload) few h = (omega arith, omega (arith, payload_count payload))
event_count peers (Take peer (Ok c)) few h = (omega arith, omega arith)
event_count peers (Take peer (Err fault)) few h = elim h [ ]
event_count peers (Merge peer other) few h = (omega arith, omega arith)
event_count peers (Advance peer ticks) few h = (omega arith, omega arith)
event_count peers (Settle peer) few h = (omega arith, omega arith)
event_count peers (Show peer tick) few h = (omega arith, omega arith)
event_count peers (Seal peer tick) few h = (omega arith, omega arith)

event_not_skipped : (peers : ℕ) (event : Event) → peers ≤ PLAYERS → IsEncodable peers event → is_skipped (event_line event) ≡ false
event_not_skipped peers (Issue peer (Push body x y)) few h = refl
event_not_skipped peers (Issue peer (Turn body x)) few h = refl
event_not_skipped peers (Issue peer (Stop body)) few h = refl
event_not_skipped peers (Issue peer (Place body x y)) few h = refl
event_not_skipped peers (Take peer (Ok c)) few h = refl
event_not_skipped peers (Take peer (Err fault)) few h = elim h [ ]
event_not_skipped peers (Merge peer other) few h = refl
event_not_skipped peers (Advance peer ticks) few h = refl
event_not_skipped peers (Settle peer) few h = refl
event_not_skipped peers (Show peer tick) few h = refl
event_not_skipped peers (Seal peer tick) few h = refl

pub line_of_event : (peers : ℕ) (event : Event) → peers ≤ PLAYERS → IsEncodable peers event
    → IsLineOf peers (event_line event) event
line_of_event peers event few h =
    let words = event_words peers event few h in
    let count = event_count peers event few h in
    record {
      plain = joined_plain (event_fields event) words (omega (arith, count.1));
      not_skipped = event_not_skipped peers event few h;
      fields = event_fields event;
      fields_are = joined_fields (event_line event) (event_fields event) (count.0, words_are_fields (event_fields event) words, refl);
      event_is = read_event peers event few h;
    }

-- the lines of events
pub lines_of_events : (peers : ℕ) (events : List Event) → peers ≤ PLAYERS → All (IsEncodable peers) events
    → AreLinesOf peers (map event_line events) events
lines_of_events peers [] few h = tt
lines_of_events peers (event ∷ events) few h = (
  line_of_event peers event few (All-head (IsEncodable peers) event events h),
  lines_of_events peers events few (All-tail (IsEncodable peers) event events h),
)
