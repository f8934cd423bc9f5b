-- The lines of events: the event that each encodes. The word and the count of fields are checked
-- first, then the fields from the left.
use Rattle.std.specs.Prelude.{◌≡◌, ℕ, true, false, ℤ, pos, ◌-ℤ◌, neg_ℤ, List, [], ◌∷◌, Option, Some, None, Result, Ok, Err, codes, if◌then◌else◌}
use Rattle.std.specs.Int.RustNames.{unsigned_abs}
use Rattle.std.specs.Str.{bytes_eq}
use Rattle.pf_num.specs.Fx.{max_raw}
use Rattle.pf_text.specs.declared.fault.LineFault.{LineFault}
use Rattle.pf_text.specs.declared.fault.LineFault.TheVariants.{BadLine}
use Rattle.pf_text.specs.Driver.{is_plain, is_skipped}
use Rattle.pf_text.specs.Fault.{◌>>=◌}
use Rattle.pf_text.specs.Fields.{fields_of}
use Rattle.pf_text.specs.Numbers.{whole_of, integer}
use Rattle.pf_rot.specs.Vector.{V2}
use Rattle.pf_shapes.specs.declared.scene.TheConstants.{MAX_POSITION}
use Rattle.pf_events.specs.declared.event.Event.{Event}
use Rattle.pf_commands.specs.declared.payload.Payload.TheVariants.{Push, Turn, Stop, Place}
use Rattle.pf_events.specs.declared.event.Event.TheVariants.{Issue, Take, Merge, Advance, Settle, Show, Seal}
use Rattle.pf_console.specs.declared.fields.EventWord.{EventWord}
use Rattle.pf_console.specs.declared.fields.EventWord.TheVariants as words
use Rattle.pf_console.specs.declared.fields.Kind.{Kind}
use Rattle.pf_console.specs.declared.fields.Kind.TheVariants as kinds
use Rattle.pf_console.specs.Digits.{frame_of_digits}

abbrev pub as_natural : Result ℤ LineFault → Result ℕ LineFault
as_natural (Ok z) = Ok (unsigned_abs z)
as_natural (Err fault) = Err fault

-- the number of one of so many peers
abbrev pub peer_number : ℕ → List ℕ → Result ℕ LineFault
peer_number peers field = as_natural (integer (pos 0) (pos peers -ℤ pos 1) (whole_of field))

-- a tick, or a count of ticks: below 2^32
abbrev pub tick_of : List ℕ → Result ℕ LineFault
tick_of field = as_natural (integer (pos 0) (pos 4294967295) (whole_of field))

-- the first field of an event's line
abbrev pub event_word : List ℕ → Option EventWord
event_word field =
    if bytes_eq field (codes "issue") then Some words.Issue
    else (if bytes_eq field (codes "take") then Some words.Take
    else (if bytes_eq field (codes "merge") then Some words.Merge
    else (if bytes_eq field (codes "advance") then Some words.Advance
    else (if bytes_eq field (codes "settle") then Some words.Settle
    else (if bytes_eq field (codes "show") then Some words.Show
    else (if bytes_eq field (codes "seal") then Some words.Seal
    else None))))))

-- the kind of a command
abbrev pub named_kind : List ℕ → Option Kind
named_kind field =
    if bytes_eq field (codes "push") then Some kinds.Push
    else (if bytes_eq field (codes "turn") then Some kinds.Turn
    else (if bytes_eq field (codes "stop") then Some kinds.Stop
    else (if bytes_eq field (codes "place") then Some kinds.Place
    else None)))

-- the number of a body
abbrev pub body_number : List ℕ → Result ℕ LineFault
body_number field = as_natural (integer (pos 0) (pos 65535) (whole_of field))

-- a number of physics
abbrev pub real_of : List ℕ → Result ℤ LineFault
real_of field = integer (neg_ℤ max_raw) max_raw (whole_of field)

-- an impulse
abbrev pub impulse_of : List ℕ → List ℕ → Result V2 LineFault
impulse_of x y = do
  x ← real_of x
  y ← real_of y
  Ok (record { x = x; y = y })

-- a coordinate of a position, in the range of those of scenes
abbrev pub coordinate_field : List ℕ → Result ℤ LineFault
coordinate_field field = integer (neg_ℤ MAX_POSITION) MAX_POSITION (whole_of field)

-- a position
abbrev pub position_of : List ℕ → List ℕ → Result (ℤ × ℤ) LineFault
position_of x y = do
  x ← coordinate_field x
  y ← coordinate_field y
  Ok (x, y)

-- `issue P push B X Y`
unfoldable pub push_event : ℕ → List ℕ → List (List ℕ) → Result Event LineFault
push_event peers peer (body ∷ x ∷ y ∷ []) = do
  peer ← peer_number peers peer
  body ← body_number body
  impulse ← impulse_of x y
  Ok (Issue peer (Push body impulse.x impulse.y))
push_event peers peer args = Err BadLine

-- `issue P turn B X`
unfoldable pub turn_event : ℕ → List ℕ → List (List ℕ) → Result Event LineFault
turn_event peers peer (body ∷ x ∷ []) = do
  peer ← peer_number peers peer
  body ← body_number body
  x ← real_of x
  Ok (Issue peer (Turn body x))
turn_event peers peer args = Err BadLine

-- `issue P stop B`
unfoldable pub stop_event : ℕ → List ℕ → List (List ℕ) → Result Event LineFault
stop_event peers peer (body ∷ []) = do
  peer ← peer_number peers peer
  body ← body_number body
  Ok (Issue peer (Stop body))
stop_event peers peer args = Err BadLine

-- `issue P place B X Y`
unfoldable pub place_event : ℕ → List ℕ → List (List ℕ) → Result Event LineFault
place_event peers peer (body ∷ x ∷ y ∷ []) = do
  peer ← peer_number peers peer
  body ← body_number body
  position ← position_of x y
  Ok (Issue peer (Place body position.0 position.1))
place_event peers peer args = Err BadLine

abbrev pub issue_by_kind : ℕ → Option Kind → List ℕ → List (List ℕ) → Result Event LineFault
issue_by_kind peers (Some kinds.Push) peer args = push_event peers peer args
issue_by_kind peers (Some kinds.Turn) peer args = turn_event peers peer args
issue_by_kind peers (Some kinds.Stop) peer args = stop_event peers peer args
issue_by_kind peers (Some kinds.Place) peer args = place_event peers peer args
issue_by_kind peers None peer args = Err BadLine

-- `issue P` and what is issued
unfoldable pub issue_of : ℕ → List (List ℕ) → Result Event LineFault
issue_of peers (peer ∷ kind ∷ args) = issue_by_kind peers (named_kind kind) peer args
issue_of peers args = Err BadLine

-- `take P HEX`
unfoldable pub take_of : ℕ → List (List ℕ) → Result Event LineFault
take_of peers (peer ∷ digits ∷ []) = do
  peer ← peer_number peers peer
  decoded ← frame_of_digits digits
  Ok (Take peer decoded)
take_of peers args = Err BadLine

-- `merge P Q`
unfoldable pub merge_event : ℕ → List (List ℕ) → Result Event LineFault
merge_event peers (peer ∷ other ∷ []) = do
  peer ← peer_number peers peer
  other ← peer_number peers other
  Ok (Merge peer other)
merge_event peers args = Err BadLine

-- `advance P K`
unfoldable pub advance_of : ℕ → List (List ℕ) → Result Event LineFault
advance_of peers (peer ∷ ticks ∷ []) = do
  peer ← peer_number peers peer
  ticks ← tick_of ticks
  Ok (Advance peer ticks)
advance_of peers args = Err BadLine

-- `settle P`
unfoldable pub settle_of : ℕ → List (List ℕ) → Result Event LineFault
settle_of peers (peer ∷ []) = do
  peer ← peer_number peers peer
  Ok (Settle peer)
settle_of peers args = Err BadLine

-- `show P T`
unfoldable pub show_of : ℕ → List (List ℕ) → Result Event LineFault
show_of peers (peer ∷ tick ∷ []) = do
  peer ← peer_number peers peer
  tick ← tick_of tick
  Ok (Show peer tick)
show_of peers args = Err BadLine

-- `seal P H`
unfoldable pub seal_of : ℕ → List (List ℕ) → Result Event LineFault
seal_of peers (peer ∷ tick ∷ []) = do
  peer ← peer_number peers peer
  tick ← tick_of tick
  Ok (Seal peer tick)
seal_of peers args = Err BadLine

abbrev pub event_by_word : ℕ → Option EventWord → List (List ℕ) → Result Event LineFault
event_by_word peers (Some words.Issue) args = issue_of peers args
event_by_word peers (Some words.Take) args = take_of peers args
event_by_word peers (Some words.Merge) args = merge_event peers args
event_by_word peers (Some words.Advance) args = advance_of peers args
event_by_word peers (Some words.Settle) args = settle_of peers args
event_by_word peers (Some words.Show) args = show_of peers args
event_by_word peers (Some words.Seal) args = seal_of peers args
event_by_word peers None args = Err BadLine

-- the event that a line's fields encode, on one of so many peers
unfoldable pub event_of : ℕ → List (List ℕ) → Result Event LineFault
event_of peers [] = Err BadLine
event_of peers (word ∷ args) = event_by_word peers (event_word word) args

-- a line encodes an event on one of so many peers
pub record IsLineOf (peers : ℕ) (line : List ℕ) (event : Event) : Type 0 where
  pub plain : is_plain line ≡ true
  pub not_skipped : is_skipped line ≡ false
  pub fields : List (List ℕ)
  pub fields_are : fields_of line ≡ Ok fields
  pub event_is : event_of peers fields ≡ Ok event
