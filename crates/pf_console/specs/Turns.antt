-- The lines of turns: what each says of a script.
use Rattle.std.specs.Prelude.{ℕ, List, [], ◌∷◌, Result, Ok, Err, Vec, codes, map, if◌then◌else◌}
use Rattle.std.specs.Global.{Global}
use Rattle.std.specs.Str.{bytes_eq}
use Rattle.pf_text.specs.declared.fault.LineFault.{LineFault}
use Rattle.pf_text.specs.declared.fault.LineFault.TheVariants.{BadLine}
use Rattle.pf_text.specs.Fault.{◌>>=◌}
use Rattle.pf_links.specs.Link.{Frame}
use Rattle.pf_scripts.specs.Script.{frames_in}
use Rattle.pf_scripts.specs.declared.turn.Turn as rust
use Rattle.pf_sessions.specs.Session.{turns_of}
use Rattle.pf_console.specs.Digits.{bytes_of}
use Rattle.pf_console.specs.Grammar.{peer_number, tick_of}

-- what a turn says: the bytes of its frames, and its ticks
pub record Turn : Type 0 where
  pub frames : List Frame
  pub ticks : ℕ

-- the same of a turn in memory
abbrev pub said_by : rust.Turn → Turn
said_by turn = record { frames = frames_in turn; ticks = turn.ticks }

-- the same of all turns of scripts in memory
abbrev pub said : List (Vec rust.Turn Global) → List (List Turn)
said scripts = map (map said_by) (turns_of scripts)

-- the bytes of each field of digits, or the first error
abbrev pub turn_frames : List (List ℕ) → Result (List Frame) LineFault
turn_frames [] = Ok []
turn_frames (digits ∷ fields) = do
  bytes ← bytes_of digits
  frames ← turn_frames fields
  Ok (bytes ∷ frames)

-- `turn P K HEX HEX ..`: a turn of one of so many peers
unfoldable pub turn_of : ℕ → List (List ℕ) → Result (ℕ × Turn) LineFault
turn_of peers (word ∷ peer ∷ ticks ∷ fields) =
    if bytes_eq word (codes "turn") then (do
      peer ← peer_number peers peer
      ticks ← tick_of ticks
      frames ← turn_frames fields
      Ok (peer, record { frames = frames; ticks = ticks }))
    else Err BadLine
turn_of peers fields = Err BadLine
