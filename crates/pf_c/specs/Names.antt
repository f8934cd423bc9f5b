-- The name of each code, and a sentence that says what it means.
use Rattle.std.specs.Prelude.{◌==◌, ◌≡◌, ◌<◌, ◌≤◌, ◌+◌, ◌++◌, ◌∷◌, ℕ, List, [], codes, drop, if◌then◌else◌, length}
use Rattle.pf_c.specs.declared.codes.TheConstants.{PF_OK, PF_SMALL_BUFFER}

-- the name of a code, as the header has it; a number that is no code has an empty one
unfoldable pub code_name : ℕ → List ℕ
code_name code =
    if code == 0 then codes "PF_OK" else (
    if code == 1 then codes "PF_OUT_OF_MEMORY" else (
    if code == 2 then codes "PF_BAD_ROUNDING" else (
    if code == 3 then codes "PF_CLOSED" else (
    if code == 4 then codes "PF_BAD_KEY" else (
    if code == 5 then codes "PF_SMALL_BUFFER" else (
    if code == 6 then codes "PF_BAD_PLAYER" else (
    if code == 7 then codes "PF_BAD_RING" else (
    if code == 8 then codes "PF_BAD_NUMBER" else (
    if code == 9 then codes "PF_STILL_OPEN" else (
    if code == 10 then codes "PF_FULL" else (
    if code == 16 then codes "PF_SCENE_BAD_LINE" else (
    if code == 17 then codes "PF_SCENE_BAD_NUMBER" else (
    if code == 18 then codes "PF_SCENE_TOO_MANY" else (
    if code == 19 then codes "PF_SCENE_BAD_MASS" else (
    if code == 20 then codes "PF_SCENE_BAD_SIZE" else (
    if code == 32 then codes "PF_TICK_LIMIT" else (
    if code == 33 then codes "PF_NUMBERS_SPENT" else (
    if code == 34 then codes "PF_NOT_REACHED" else (
    if code == 35 then codes "PF_TOO_OLD" else (
    if code == 36 then codes "PF_HORIZONS_DIFFER" else (
    if code == 37 then codes "PF_BASES_DIFFER" else (
    if code == 48 then codes "PF_FRAME_SHORT" else (
    if code == 49 then codes "PF_FRAME_LONG" else (
    if code == 50 then codes "PF_FRAME_BAD_VERSION" else (
    if code == 51 then codes "PF_FRAME_BAD_KIND" else (
    if code == 52 then codes "PF_FRAME_NOT_CANONICAL" else (
    if code == 53 then codes "PF_FRAME_OUT_OF_RANGE" else (
    if code == 64 then codes "PF_UNKNOWN_BODY" else (
    if code == 65 then codes "PF_STATIC_BODY" else (
    if code == 66 then codes "PF_NOT_OWNER" else ([])))))))))))))))))))))))))))))))

-- what a code means; a number that is no code has an empty text
unfoldable pub code_text : ℕ → List ℕ
code_text code =
    if code == 0 then codes "done" else (
    if code == 1 then codes "out of memory" else (
    if code == 2 then codes "the processor does not round to the nearest double" else (
    if code == 3 then codes "the context is closed" else (
    if code == 4 then codes "the key names nothing" else (
    if code == 5 then codes "a buffer is too small" else (
    if code == 6 then codes "the number of a player is not below 8" else (
    if code == 7 then codes "the number of settled worlds to keep is not from 1 to 64" else (
    if code == 8 then codes "a number is out of its range: within 2^31, of a place 2^20" else (
    if code == 9 then codes "the context is open already" else (
    if code == 10 then codes "the context has no key left" else (
    if code == 16 then codes "no such line may stand here" else (
    if code == 17
    then codes "a number is not whole, or out of its range: friction is 0 to 4,"
    ++ codes " gravity within 1,024, a position within 2^20,"
    ++ codes " a direction within 1, an owner 0 to 7" else (
    if code == 18 then codes "the scene has 1,024 bodies already" else (
    if code == 19 then codes "a mass is neither 0 nor from 1/16 to 1,024 (2^20 to 2^34 raw)" else (
    if code == 20
    then codes "a radius or a half extent is not from 1/16 to 1,024 (2^20 to 2^34 raw)" else (
    if code == 32 then codes "the last tick, 1,048,576, leaves no tick for this" else (
    if code == 33
    then codes "the player has no number left for a command at the reached tick" else (
    if code == 34 then codes "the tick is above the reached tick" else (
    if code == 35 then codes "the tick is before the horizon: what came before it is sealed" else (
    if code == 36 then codes "the horizons differ" else (
    if code == 37 then codes "the other peer has another world at the horizon" else (
    if code == 48 then codes "the frame has fewer than 27 bytes" else (
    if code == 49 then codes "the frame has more than 27 bytes" else (
    if code == 50 then codes "the frame begins with neither 1 nor 2" else (
    if code == 51
    then codes "the kind is none of its version: 0 to 2 of version 1, 3 of version 2" else (
    if code == 52 then codes "a field that the command does not use is not 0" else (
    if code == 53
    then codes "a field is out of its range: the tick is below 2^20, the player below 8,"
    ++ codes " the body below 1,024, a number within 2^31, or of a place within 2^20" else (
    if code == 64 then codes "the scene has no body of this number" else (
    if code == 65 then codes "the body is static" else (
    if code == 66 then codes "the body belongs to another player, or to nobody"
    else ([])))))))))))))))))))))))))))))))

-- a text with a zero behind it is written where it fits, and else nothing
pub record WritesText (text old new : List ℕ) (code : ℕ) : Type 0 where
  pub fits : length text < length old
      → (code ≡ PF_OK) × (new ≡ text ++ 0 ∷ drop (length text + 1) old)
  pub small : length old ≤ length text → (code ≡ PF_SMALL_BUFFER) × (new ≡ old)
