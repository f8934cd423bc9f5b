-- What commands do, and which of two that have one name outweighs the other.
use Rattle.std.specs.Prelude.{◌≡◌, ℕ, ◌+◌, ◌*◌, ◌^◌, ◌<◌, ℤ, pos}
use Rattle.std.specs.Int.{w64, cast_unsigned}
use Rattle.pf_num.specs.Fx.{IsRaw}
use Rattle.pf_commands.specs.Coordinate.{IsCoordinate}
use Rattle.pf_commands.specs.declared.payload.Payload.{Payload}
use Rattle.pf_commands.specs.declared.payload.Payload.TheVariants.{Push, Turn, Stop, Place}

-- the number of a payload's kind in a frame
abbrev pub kind_of : Payload → ℕ
kind_of (Push body x y) = 0
kind_of (Turn body x) = 1
kind_of (Stop body) = 2
kind_of (Place body x y) = 3

-- the body that a payload moves
abbrev pub body_of : Payload → ℕ
body_of (Push body x y) = body
body_of (Turn body x) = body
body_of (Stop body) = body
body_of (Place body x y) = body

-- the two numbers of a payload, 0 where it has none
abbrev pub x_of : Payload → ℤ
x_of (Push body x y) = x
x_of (Turn body x) = x
x_of (Stop body) = pos 0
x_of (Place body x y) = x

abbrev pub y_of : Payload → ℤ
y_of (Push body x y) = y
y_of (Turn body x) = pos 0
y_of (Stop body) = pos 0
y_of (Place body x y) = y

-- a payload's 19 bytes in a frame as one unsigned number: kind, body, x and y in two's complement
unfoldable pub weight : Payload → ℕ
weight p =
    kind_of p * 2 ^ 144 + body_of p * 2 ^ 128
    + cast_unsigned w64 (x_of p) * 2 ^ 64 + cast_unsigned w64 (y_of p)

-- x and y of a place, which is kind 3, are coordinates
abbrev pub HasCoordinates : Payload → Type 0
HasCoordinates p = kind_of p ≡ 3 → IsCoordinate (x_of p) × IsCoordinate (y_of p)

-- the ranges of a payload, which its type keeps
pub record IsPayload (p : Payload) : Type 0 where
  pub body : body_of p < 2 ^ 16
  pub x : IsRaw (x_of p)
  pub y : IsRaw (y_of p)
  pub coordinates : HasCoordinates p
