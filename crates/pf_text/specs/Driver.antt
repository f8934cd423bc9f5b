-- What a machine that takes a text's lines one by one writes, and how its run ends.
use Rattle.std.specs.Prelude.{◌≡◌, ◌≢◌, ◌⊎◌, ℕ, ◌+◌, ◌-◌, ◌<◌, ◌^◌, Bool, true, false, ◌&&◌, List, [], ◌∷◌, ◌++◌, length, Option, Some, Result, Ok, Err, IsOk, ◌==◌, nat_lt, nat_le, if◌then◌else◌, String, string_bytes}
use Rattle.std.specs.List.{list_all}
use Rattle.std.specs.Global.{Global}
use Rattle.pf_text.specs.declared.fault.LineFault.{LineFault}
use Rattle.pf_text.specs.declared.fault.LineFault.TheVariants.{BadLine}
use Rattle.pf_text.specs.declared.driver.TakeError.{TakeError}
use Rattle.pf_text.specs.declared.driver.TakeError.TheVariants as take_errors
use Rattle.pf_text.specs.declared.driver.DriveError.{DriveError}
use Rattle.pf_text.specs.declared.driver.DriveError.TheVariants as errors
use Rattle.pf_text.specs.declared.lines.Taken.{Taken}
use Rattle.pf_text.specs.declared.lines.Taken.TheVariants.{End}
use Rattle.pf_text.specs.declared.lines.TheConstants.{MAX_LINE}
use Rattle.pf_text.specs.Fields.{fields_of}
use Rattle.pf_text.specs.Lines.{lines_of, is_line, AreLines, Takes}
use Rattle.pf_text.specs.Streams.{Streams, Transfer, IfExposed}

-- all bytes are of ASCII
abbrev pub is_ascii : List ℕ → Bool
is_ascii bytes = list_all (λ byte. nat_lt byte 128) bytes

-- a line has at most `MAX_LINE` bytes, all of ASCII
abbrev pub is_plain : List ℕ → Bool
is_plain line = nat_le (length line) MAX_LINE && is_ascii line

-- an empty line, or one that begins with `#`
abbrev pub is_skipped : List ℕ → Bool
is_skipped [] = true
is_skipped (byte ∷ bytes) = byte == 35

-- what a machine does: its output for the fields of a line and its next state, or its error; its
-- error for a line that has no fields; the fields for which it may take memory; and those for which
-- it may change what the line is lent
pub record Rules (S F : Type 0) : Type 0 where
  pub transition : S → List (List ℕ) → Result (List ℕ × S) F
  pub line_error : LineFault → F
  pub allocates : S → List (List ℕ) → Bool
  pub changes_lent : S → List (List ℕ) → Bool

-- a transition that writes nothing
abbrev pub without_output : {S F : Type 0} → Result S F → Result (List ℕ × S) F
without_output (Ok state) = Ok ([], state)
without_output (Err fault) = Err fault

-- the transition for the fields of a line, where it has any
abbrev pub fields_step : {S F : Type 0} → Rules S F → S → Result (List (List ℕ)) LineFault
    → Result (List ℕ × S) F
fields_step rules state (Ok fields) = rules.transition state fields
fields_step rules state (Err fault) = Err (rules.line_error fault)

-- the output for a line, and the next state
unfoldable pub line_step : {S F : Type 0} → Rules S F → S → List ℕ → Result (List ℕ × S) F
line_step rules state line =
    if is_plain line
    then (if is_skipped line then Ok ([], state) else fields_step rules state (fields_of line))
    else Err (rules.line_error BadLine)

abbrev pub fields_pass : Result (List (List ℕ)) LineFault → (List (List ℕ) → Bool) → Bool
fields_pass (Ok fields) test = test fields
fields_pass (Err fault) test = false

-- the line is not skipped and has fields, which pass a test
abbrev pub line_passes : List ℕ → (List (List ℕ) → Bool) → Bool
line_passes line test = if is_skipped line then false else fields_pass (fields_of line) test

-- the machine may take memory for this line
abbrev pub line_allocates : {S F : Type 0} → Rules S F → S → List ℕ → Bool
line_allocates rules state line = line_passes line (rules.allocates state)

-- the machine may change what this line is lent
abbrev pub line_changes_lent : {S F : Type 0} → Rules S F → S → List ℕ → Bool
line_changes_lent rules state line = line_passes line (rules.changes_lent state)

-- what is written, and how it ends: with the number of the next line, or with that of the invalid
-- line
pub record Output (S F : Type 0) : Type 0 where
  pub text : List ℕ
  pub ending : Result (ℕ × S) (ℕ × F)

-- the output for a line, and for the lines behind it where it is valid
abbrev pub and_then : {S F : Type 0} → ℕ → Result (List ℕ × S) F → (S → Output S F) → Output S F
and_then number (Err fault) others = record { text = []; ending = Err (number, fault) }
and_then number (Ok reply) others =
    record { text = reply.0 ++ (others reply.1).text; ending = (others reply.1).ending }

-- the output for lines, the first of which has this number
unfoldable pub lines_output : {S F : Type 0} → Rules S F → ℕ → S → List (List ℕ) → Output S F
lines_output rules number state [] = record { text = []; ending = Ok (number, state) }
lines_output rules number state (line ∷ lines) =
    and_then number (line_step rules state line)
    (λ next. lines_output rules (number + 1) next lines)

-- the output for a text
abbrev pub text_output : {S F : Type 0} → Rules S F → S → List ℕ → Output S F
text_output rules start input = lines_output rules 1 start (lines_of input)

-- these lines were taken from the input, then this one, of whose bytes at most 4,097 were taken,
-- and this is left
pub record TakesLine (input : List ℕ) (lines : List (List ℕ)) (line : List ℕ)
    (left : Option (List ℕ)) : Type 0 where
  pub bytes : List ℕ
  pub taken : Taken
  pub lines_are : AreLines input lines bytes
  pub line_is : Takes bytes line left (Ok taken)
  pub is_there : taken ≢ End

-- the lines are valid: they lead from the start to this state, and this is their output
abbrev pub LeadTo : {S F : Type 0} → Rules S F → S → List (List ℕ) → List ℕ → S → Type 0
LeadTo rules start lines text state =
    lines_output rules 1 start lines ≡ record { text = text; ending = Ok (length lines + 1, state) }

module _ {S F : Type 0} (rules : Rules S F) (start : S) (t : Transfer) where
  -- all of the input was taken, and all of its output written
  pub record Completes (ended : ℕ × S) : Type 0 where
    pub left_is : t.left ≡ Some []
    pub after_is : t.after ≡ Some (t.before ++ (text_output rules start t.input).text)
    pub ending_is : (text_output rules start t.input).ending ≡ Ok ended

  -- the invalid line was taken, and no line behind it
  pub record StopsAtLine (number : ℕ) (fault : F) : Type 0 where
    pub lines : List (List ℕ)
    pub line : List ℕ
    pub number_is : number ≡ length lines + 1
    pub takes : TakesLine t.input lines line t.left
    pub after_is : t.after ≡ Some (t.before ++ (text_output rules start t.input).text)
    pub ending_is : (text_output rules start t.input).ending ≡ Err (number, fault)

  -- a valid line for which the machine may take memory was taken behind these lines
  pub record StopsAtValidLine (lines : List (List ℕ)) (state : S) : Type 0 where
    pub line : List ℕ
    pub takes : TakesLine t.input lines line t.left
    pub allocates : line_allocates rules state line ≡ true
    pub valid : IsOk (line_step rules state line)

  -- so many lines were taken that no number is left for the next, and none behind them
  pub record SpendsNumbers (lines : List (List ℕ)) : Type 0 where
    pub rest : List ℕ
    pub lines_are : AreLines t.input lines rest
    pub left_is : t.left ≡ Some rest
    pub count_is : length lines ≡ 2 ^ 64 - 2

  -- A machine ran out of memory at a valid line for which it may take memory, behind lines that are
  -- valid, and whose output was written. A run of 2^64 - 2 valid lines ends so too.
  pub record StopsForMemory : Type 0 where
    pub lines : List (List ℕ)
    pub text : List ℕ
    pub state : S
    pub valid : LeadTo rules start lines text state
    pub after_is : t.after ≡ Some (t.before ++ text)
    pub cause : StopsAtValidLine lines state ⊎ SpendsNumbers lines

  -- a machine ran out of memory at a valid line, and may have changed what the line was lent
  pub record StopsAtChange : Type 0 where
    pub stops : StopsForMemory
    pub stop : StopsAtValidLine stops.lines stops.state
    pub changes : line_changes_lent rules stops.state stop.line ≡ true

  -- The reader failed behind valid lines, whose output was written, in a part of the next line.
  pub record StopsForRead : Type 0 where
    pub lines : List (List ℕ)
    pub text : List ℕ
    pub state : S
    pub valid : LeadTo rules start lines text state
    pub after_is : t.after ≡ Some (t.before ++ text)
    pub part : List ℕ
    pub rest : List ℕ
    pub lines_are : AreLines t.input lines (part ++ rest)
    pub part_is : is_line part ≡ true
    pub left_is : t.left ≡ Some rest

  -- The writer failed at the output of a valid line that has some: a part of it was written behind
  -- that of the valid lines before.
  pub record StopsForWrite : Type 0 where
    pub lines : List (List ℕ)
    pub text : List ℕ
    pub state : S
    pub valid : LeadTo rules start lines text state
    pub line : List ℕ
    pub takes : TakesLine t.input lines line t.left
    pub part : List ℕ
    pub unwritten : List ℕ
    pub next : S
    pub some : 0 < length (part ++ unwritten)
    pub reply : line_step rules state line ≡ Ok (part ++ unwritten, next)
    pub after_is : t.after ≡ Some (t.before ++ text ++ part)
    pub rest : List ℕ
    pub output_is : text ++ part ++ rest ≡ (text_output rules start t.input).text

  -- how a run ended, and what it read and wrote
  abbrev pub Drives : Result (ℕ × S) (DriveError F) → Type 0
  Drives (Ok ended) = Completes ended
  Drives (Err (errors.Line number fault)) = StopsAtLine number fault
  Drives (Err errors.Memory) = StopsForMemory
  Drives (Err errors.Read) = StopsForRead
  Drives (Err errors.Write) = StopsForWrite

-- What the lines of a run were lent is as it was, unless a machine ran out of memory at a line that
-- may change it.
abbrev pub RunKeepsLent
    : {S F T L : Type 0} → Rules S F → S → Streams → Result T (DriveError F) → L → L → Type 0
RunKeepsLent rules start s (Err errors.Memory) before after =
    (after ≡ before) ⊎ IfExposed s (λ transfer. StopsAtChange rules start transfer)
RunKeepsLent rules start s result before after = after ≡ before

-- a run that ends because its reader failed counts one failure of it, and any other run none
abbrev pub CountsReads : {T F : Type 0} → ℕ → Result T (DriveError F) → ℕ → Type 0
CountsReads before (Err errors.Read) after = after ≡ before + 1
CountsReads before result after = after ≡ before

-- the same of its writer
abbrev pub CountsWrites : {T F : Type 0} → ℕ → Result T (DriveError F) → ℕ → Type 0
CountsWrites before (Err errors.Write) after = after ≡ before + 1
CountsWrites before result after = after ≡ before

-- the error of a run whose machine took no line
abbrev pub fault_at : {F : Type 0} → ℕ → TakeError F → DriveError F
fault_at number take_errors.Memory = errors.Memory
fault_at number (take_errors.Fault fault) = errors.Line number fault

-- a machine returns the transition of its rules; it runs out of memory only where that is no error
abbrev pub Produces : {S F : Type 0} → Result (String Global × S) (TakeError F)
    → Result (List ℕ × S) F → Type 0
Produces (Ok reply) transition = transition ≡ Ok (string_bytes reply.0, reply.1)
Produces (Err take_errors.Memory) transition = IsOk transition
Produces (Err (take_errors.Fault fault)) transition = transition ≡ Err fault

-- What a line is lent is as it was, unless the machine ran out of memory at fields for which it may
-- change that.
abbrev pub KeepsLent : {T F L : Type 0} → Result T (TakeError F) → Bool → L → L → Type 0
KeepsLent (Err take_errors.Memory) true before after = Unit {0}
KeepsLent result may_change before after = after ≡ before
