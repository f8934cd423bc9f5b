-- How the words of the command line are parsed. `clap` says which errors words have, a request for
-- help or the version among them, and which subcommand they enter. The texts of help and of
-- mistakes are its own.
use Rattle.std.specs.Prelude.{◌≡◌, ◌⊎◌, ◌<◌, ◌≤◌, ℕ, Bool, true, false, List, [], Option, Some, None, IfSome, unwrap_or, codes, Result, Ok, Err, if◌then◌else◌}
use Rattle.std.specs.Str.{bytes_eq}
use Rattle.std.specs.Str.Parse.{digits_value, without_leading_plus}
use Rattle.clap.specs.Words.{App, IsAmong, Kinds, Row, Rule, Text, first_of, new_app, new_rule, with_rule, with_subcommand}
use Rattle.clap.specs.Simple.{new_shape}
use Rattle.clap.specs.ValueTests.{is_unsigned_in}
use Rattle.clap.specs.declared.builder.value_parser.ValueParser.TheVariants.{Unsigned}
use Rattle.clap.specs.declared.error.kind.ErrorKind.{ErrorKind}
use Rattle.clap.specs.declared.error.kind.ErrorKind.TheVariants as kind
use Rattle.pf_console.specs.declared.request.Request.{Request}
use Rattle.pf_console.specs.declared.request.Request.TheVariants.{Run, Session, Frame, Help, Version}
use Rattle.pf_console.specs.declared.error.ProgramError.{ProgramError}
use Rattle.pf_console.specs.declared.error.ProgramError.TheVariants.{Words, Memory}
use Rattle.pf_pool.specs.declared.pool.TheConstants.{MAX_WORKERS}

-- the flags `--help` and `--version`, and a subcommand, which has to be there
abbrev pub own_words : App
own_words = record {
  top = record (new_shape (codes "pf_play")) {
    has_version = true;
    disable_help_subcommand = true;
    subcommand_required = true;
  };
  subs = [];
}

-- the option `--crew N`, whose word spells a number from 1 to 16
abbrev pub crew_option : Rule
crew_option = record (new_rule (codes "crew")) {
  long = Some (codes "crew");
  value_names = 1;
  parser = Some (Unsigned 1 MAX_WORKERS);
}

-- the subcommand `run` has that option
abbrev pub run_words : App
run_words = with_rule (new_app (codes "run")) crew_option

-- the subcommand `session` has it too
abbrev pub session_words : App
session_words = with_rule (new_app (codes "session")) crew_option

-- the subcommand `frame` has one word, which has to be there
abbrev pub frame_words : App
frame_words =
    with_rule (new_app (codes "frame")) (record (new_rule (codes "HEX")) { required = true })

-- what a command line may hold: the subcommand `run`, `session` or `frame`
abbrev pub command_line : App
command_line =
    with_subcommand (with_subcommand (with_subcommand own_words run_words.top) session_words.top)
    frame_words.top

-- a request for help or the version is no mistake, nor is a lack of memory
abbrev pub is_mistake : ErrorKind → Bool
is_mistake kind.OutOfMemory = false
is_mistake kind.DisplayHelp = false
is_mistake kind.DisplayVersion = false
is_mistake other = true

-- the word behind `frame`, where that is the subcommand that was entered
abbrev pub digits_in : Option (Text × List Row) → Option Text
digits_in None = None
digits_in (Some entered) =
    if bytes_eq entered.0 (codes "frame")
    then Some (unwrap_or (first_of (codes "HEX") entered.1) []) else None

-- the crew size that a word spells, in decimal digits, if it is 1 to 16
abbrev pub crew_size : Text → Option ℕ
crew_size word =
    if is_unsigned_in 1 MAX_WORKERS word then Some (digits_value 10 (without_leading_plus word))
    else None

abbrev pub crew_size_of : Option Text → Option ℕ
crew_size_of (Some word) = crew_size word
crew_size_of None = None

-- the crew size behind `--crew`, where this is the subcommand that was entered
abbrev pub crew_size_in : Text → Option (Text × List Row) → Option ℕ
crew_size_in name None = None
crew_size_in name (Some entered) =
    if bytes_eq entered.0 name then crew_size_of (first_of (codes "crew") entered.1) else None

-- `session` is the subcommand that was entered
abbrev pub is_session : Option (Text × List Row) → Bool
is_session None = false
is_session (Some entered) = bytes_eq entered.0 (codes "session")

-- the crews of a run or a session have 1 to 16 workers, if there are any
abbrev pub HasCrewSize : Request → Type 0
HasCrewSize (Run crew) = IfSome crew (λ size. (0 < size) × (size ≤ MAX_WORKERS))
HasCrewSize (Session crew) = IfSome crew (λ size. (0 < size) × (size ≤ MAX_WORKERS))
HasCrewSize (Frame digits) = Unit {0}
HasCrewSize (Help text) = Unit {0}
HasCrewSize Version = Unit {0}

-- what valid words ask for, by the subcommand that they enter
abbrev pub AsksFor : Option (Text × List Row) → Request → Type 0
AsksFor entered (Run crew) =
    (digits_in entered ≡ None) × (is_session entered ≡ false)
    × (crew ≡ crew_size_in (codes "run") entered)
AsksFor entered (Session crew) =
    (is_session entered ≡ true) × (crew ≡ crew_size_in (codes "session") entered)
AsksFor entered (Frame digits) = digits_in entered ≡ Some digits.now
AsksFor entered (Help text) = ⊥
AsksFor entered Version = ⊥

-- words that have one of these errors, or none where the list is empty, and enter this subcommand
-- are parsed as that
abbrev pub ParsesAs : Kinds → Option (Text × List Row) → Result Request ProgramError → Type 0
ParsesAs errors entered (Ok (Help text)) = IsAmong kind.DisplayHelp errors
ParsesAs errors entered (Ok Version) = IsAmong kind.DisplayVersion errors
ParsesAs errors entered (Ok request) = (errors ≡ []) × AsksFor entered request
ParsesAs errors entered (Err (Words text)) =
    (error : ErrorKind) × IsAmong error errors × (is_mistake error ≡ true)
ParsesAs errors entered (Err Memory) = Unit {0}
ParsesAs errors entered (Err other) = ⊥

abbrev pub RunsUnlessMemory : Result Request ProgramError → Type 0
RunsUnlessMemory r = (r ≡ Ok (Run None)) ⊎ (r ≡ Err Memory)

-- words that could not be read are no text, or memory ran out
abbrev pub FailsByWordsOrMemory : {X : Type 0} → Result X ProgramError → Type 0
FailsByWordsOrMemory (Ok words) = Unit {0}
FailsByWordsOrMemory (Err (Words text)) = Unit {0}
FailsByWordsOrMemory (Err Memory) = Unit {0}
FailsByWordsOrMemory (Err other) = ⊥
