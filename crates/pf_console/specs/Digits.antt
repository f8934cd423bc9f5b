-- Frames in hexadecimal digits.
use Rattle.std.specs.Prelude.{ℕ, List, Result, Ok, Err}
use Rattle.hex.specs.Hex.{decode_of as hex_bytes}
use Rattle.hex.specs.declared.error.FromHexError.{FromHexError}
use Rattle.pf_commands.specs.declared.fault.FrameFault.{FrameFault}
use Rattle.pf_commands.specs.declared.payload.Command.{Command}
use Rattle.pf_commands.specs.Frame.{decode}
use Rattle.pf_text.specs.declared.fault.LineFault.{LineFault}
use Rattle.pf_text.specs.declared.fault.LineFault.TheVariants.{BadNumber}

abbrev pub bytes_or_error : Result (List ℕ) FromHexError → Result (List ℕ) LineFault
bytes_or_error (Ok bytes) = Ok bytes
bytes_or_error (Err error) = Err BadNumber

-- the bytes that digits of either case encode, two digits a byte
abbrev pub bytes_of : List ℕ → Result (List ℕ) LineFault
bytes_of digits = bytes_or_error (hex_bytes digits)

abbrev pub frame_or_error : Result (List ℕ) LineFault → Result (Result Command FrameFault) LineFault
frame_or_error (Ok bytes) = Ok (decode bytes)
frame_or_error (Err fault) = Err fault

-- the command that these bytes encode, or why they encode none
abbrev pub frame_of_digits : List ℕ → Result (Result Command FrameFault) LineFault
frame_of_digits digits = frame_or_error (bytes_of digits)

-- bytes that encode no command
abbrev pub invalid_frame
    : Result FrameFault LineFault → Result (Result Command FrameFault) LineFault
invalid_frame (Ok fault) = Ok (Err fault)
invalid_frame (Err fault) = Err fault
