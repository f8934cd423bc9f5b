-- What the program does with the digits of one frame.
use Rattle.std.specs.Prelude.{◌≡◌, ℕ, List, ◌++◌, Some, Result, Ok, Err, IsOk}
use Rattle.pf_text.specs.declared.fault.LineFault.{LineFault}
use Rattle.pf_commands.specs.declared.fault.FrameFault.{FrameFault}
use Rattle.pf_commands.specs.declared.payload.Command.{Command}
use Rattle.pf_console.specs.declared.error.DigitsFault.{DigitsFault}
use Rattle.pf_console.specs.declared.error.DigitsFault.TheVariants.{BadNumber, Refused}
use Rattle.pf_console.specs.declared.error.ProgramError.{ProgramError}
use Rattle.pf_console.specs.declared.error.ProgramError.TheVariants.{Frame, Memory, Write}
use Rattle.pf_console.specs.Digits.{frame_of_digits}
use Rattle.pf_console.specs.Print.{line_of_command}
use Rattle.pf_text.specs.Streams.{Written}

abbrev pub command_or_error : Result Command FrameFault → Result Command DigitsFault
command_or_error (Ok command) = Ok command
command_or_error (Err fault) = Err (Refused fault)

abbrev pub digits_result : Result (Result Command FrameFault) LineFault → Result Command DigitsFault
digits_result (Ok frame) = command_or_error frame
digits_result (Err fault) = Err BadNumber

-- the command that digits encode, or why they encode none
abbrev pub digits_command : List ℕ → Result Command DigitsFault
digits_command digits = digits_result (frame_of_digits digits)

-- The line of the digits' command was written; or their error was returned and nothing written.
-- Memory runs out only for digits that encode a command, and nothing is written then; where the
-- writer failed, a part of the line was.
abbrev pub PrintsFrame : List ℕ → Written → Result (Unit {0}) ProgramError → Type 0
PrintsFrame digits w (Ok done) =
    (command : Command) × (digits_command digits ≡ Ok command)
    × (w.after ≡ Some (w.before ++ line_of_command command))
PrintsFrame digits w (Err (Frame fault)) =
    (digits_command digits ≡ Err fault) × (w.after ≡ Some w.before)
PrintsFrame digits w (Err Memory) = IsOk (digits_command digits) × (w.after ≡ Some w.before)
PrintsFrame digits w (Err Write) =
    (command : Command) × (part : List ℕ) × (rest : List ℕ) × (digits_command digits ≡ Ok command)
    × (part ++ rest ≡ line_of_command command) × (w.after ≡ Some (w.before ++ part))
PrintsFrame digits w (Err other) = ⊥
