-- Which commands a scene allows: a player moves the bodies that it owns and that are not static.
use Rattle.std.specs.Prelude.{◌≡◌, ℕ, Bool, false, ◌++◌, All, Option, Some, None, List, [], ◌∷◌, Result, Ok, Err, ◌==◌, slice_get, if◌then◌else◌}
use Rattle.pf_shapes.specs.Fixture.{Fixture, is_static}
use Rattle.pf_shapes.specs.Scene.{Scene}
use Rattle.pf_commands.specs.declared.checking.CheckFault.{CheckFault}
use Rattle.pf_commands.specs.declared.checking.CheckFault.TheVariants.{UnknownBody, StaticBody, NotOwner}
use Rattle.pf_commands.specs.declared.payload.Payload.{Payload}
use Rattle.pf_commands.specs.Name.{Name}
use Rattle.pf_commands.specs.Payload.{body_of}

-- a body of nobody has no owner
abbrev pub owns : ℕ → Option ℕ → Bool
owns player None = false
owns player (Some owner) = owner == player

-- whether a player may move a body, if there is one with this number
abbrev pub allowed : ℕ → Option Fixture → Result (Unit {0}) CheckFault
allowed player None = Err UnknownBody
allowed player (Some f) =
    if is_static f then Err StaticBody else (if owns player f.owner then Ok tt else Err NotOwner)

-- whether the scene allows the command
abbrev pub check : Scene → Name → Payload → Result (Unit {0}) CheckFault
check s name payload = allowed name.player (slice_get s.fixtures (body_of payload))

-- the first failure of two checks, one after the other
abbrev pub first_failure
    : Result (Unit {0}) CheckFault → Result (Unit {0}) CheckFault → Result (Unit {0}) CheckFault
first_failure (Ok done) later = later
first_failure (Err fault) later = Err fault

-- whether the scene allows each command: the first error, in order
abbrev pub check_all : Scene → List (Name × Payload) → Result (Unit {0}) CheckFault
check_all s [] = Ok tt
check_all s (e ∷ es) = first_failure (check s e.0 e.1) (check_all s es)

-- the scene allows the command of this entry
abbrev pub IsAllowed : Scene → Name × Payload → Type 0
IsAllowed s e = check s e.0 e.1 ≡ Ok tt

-- the first of the commands that the scene does not allow has this error
pub record IsFirstError
    (s : Scene) (es : List (Name × Payload)) (fault : CheckFault) : Type 0 where
  pub before : List (Name × Payload)
  pub first : Name × Payload
  pub after : List (Name × Payload)
  pub commands_are : es ≡ before ++ first ∷ after
  pub allowed : All (IsAllowed s) before
  pub refused : check s first.0 first.1 ≡ Err fault
