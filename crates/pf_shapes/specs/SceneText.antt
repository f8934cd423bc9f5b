-- The lines of a scene. The first error from the left is the line's: first the word and the count
-- of fields, then a body too many, then the fields one after the other.
use Rattle.std.specs.Prelude.{◌≡◌, ℕ, ℤ, Bool, true, false, pos, List, [], ◌∷◌, length, Option, Some, None, Result, Ok, Err, IsOk, ◌==◌, nat_lt, codes, if◌then◌else◌}
use Rattle.std.specs.Int.RustNames.{unsigned_abs}
use Rattle.std.specs.Option.{option_map}
use Rattle.std.specs.Str.{bytes_eq}
use Rattle.pf_text.specs.declared.numbers.ParsedNumber.{ParsedNumber}
use Rattle.pf_text.specs.declared.numbers.ParsedNumber.TheVariants.{InRange, OutOfRange, NotANumber}
use Rattle.pf_text.specs.declared.driver.TakeError.{TakeError}
use Rattle.pf_text.specs.declared.driver.TakeError.TheVariants as take_errors
use Rattle.pf_text.specs.Fault.{◌>>=◌}
use Rattle.pf_text.specs.Numbers.{clamp_whole, whole_of, number}
use Rattle.pf_rot.specs.Vector.{V2}
use Rattle.pf_rot.specs.Rotation.{Rot}
use Rattle.pf_shapes.specs.declared.fault.SceneFault.{SceneFault}
use Rattle.pf_shapes.specs.declared.fault.SceneFault.TheVariants.{BadLine, BadNumber, TooMany}
use Rattle.pf_shapes.specs.declared.words.SceneWord.{SceneWord}
use Rattle.pf_shapes.specs.declared.words.SceneWord.TheVariants as words
use Rattle.pf_shapes.specs.declared.words.BodyWord.{BodyWord}
use Rattle.pf_shapes.specs.declared.words.BodyWord.TheVariants as bodies
use Rattle.pf_shapes.specs.declared.scene.TheConstants.{MAX_GRAVITY}
use Rattle.pf_shapes.specs.Fixture.{Fixture}
use Rattle.pf_shapes.specs.Numbers.{checked_body, checked_box, checked_circle, checked_fixture, checked_vector, turned_transform, upright_transform}
use Rattle.pf_shapes.specs.declared.reader.Progress.{Progress}
use Rattle.pf_shapes.specs.declared.reader.Progress.TheVariants.{More, Ended}
use Rattle.pf_shapes.specs.SceneReader.{SceneReader}
use Rattle.pf_shapes.specs.Scene.{Scene, empty_scene, with_body}

-- a function's result is the expected one; it runs out of memory only where that is no error
abbrev pub Reads : {X F : Type 0} → Result X (TakeError F) → Result X F → Type 0
Reads (Ok x) expected = expected ≡ Ok x
Reads (Err take_errors.Memory) expected = IsOk expected
Reads (Err (take_errors.Fault fault)) expected = expected ≡ Err fault

-- ---- fields

-- the number that a field encodes; one beyond 2^56 in magnitude, which no range reaches, counts as
-- that
abbrev pub field_number : List ℕ → Option ℤ
field_number field = option_map clamp_whole (whole_of field)

abbrev pub player_of : ParsedNumber → Result (Option ℕ) SceneFault
player_of (InRange z) = Ok (Some (unsigned_abs z))
player_of OutOfRange = Err BadNumber
player_of NotANumber = Err BadNumber

-- `-` for nobody, or a player from 0 to 7
abbrev pub owner_of : List ℕ → Result (Option ℕ) SceneFault
owner_of field =
    if bytes_eq field (codes "-") then Ok None
    else player_of (number (pos 0) (pos 7) (whole_of field))

-- the first field of a line of a scene
abbrev pub word_of : List ℕ → Option SceneWord
word_of field =
    if bytes_eq field (codes "gravity") then Some words.Gravity else
    (if bytes_eq field (codes "circle") then Some (words.Body bodies.Circle) else
    (if bytes_eq field (codes "box") then Some (words.Body bodies.Box)
    else (if bytes_eq field (codes "end") then Some words.End else None)))

-- `gravity GX GY`
abbrev pub gravity_of : List ℕ → List ℕ → Result V2 SceneFault
gravity_of x y = checked_vector MAX_GRAVITY (field_number x) (field_number y)

-- `circle OWNER MASS FRICTION R X Y`
unfoldable pub circle_parts : List (List ℕ) → Result (Fixture × (V2 × Rot)) SceneFault
circle_parts (owner ∷ mass ∷ friction ∷ r ∷ x ∷ y ∷ []) =
    let shape = checked_circle (field_number r) in
    checked_body
    (checked_fixture (owner_of owner) (field_number mass) (field_number friction) shape)
    (upright_transform (field_number x) (field_number y))
circle_parts args = Err BadLine

-- `box OWNER MASS FRICTION HX HY X Y C S`
unfoldable pub box_parts : List (List ℕ) → Result (Fixture × (V2 × Rot)) SceneFault
box_parts (owner ∷ mass ∷ friction ∷ hx ∷ hy ∷ x ∷ y ∷ c ∷ s ∷ []) =
    let shape = checked_box (field_number hx) (field_number hy) in
    checked_body
    (checked_fixture (owner_of owner) (field_number mass) (field_number friction) shape)
    (turned_transform (field_number x) (field_number y) (field_number c) (field_number s))
box_parts args = Err BadLine

-- the fields of a body behind its word
abbrev pub body_parts : BodyWord → List (List ℕ) → Result (Fixture × (V2 × Rot)) SceneFault
body_parts bodies.Circle args = circle_parts args
body_parts bodies.Box args = box_parts args

-- how many fields a body has behind its word
abbrev pub field_count : BodyWord → ℕ
field_count bodies.Circle = 6
field_count bodies.Box = 9

-- ---- lines

-- the scene so far, of which more is to come
abbrev pub scene_in_progress : ℕ → Scene → Progress
scene_in_progress limit s = More (record { max_bodies = limit; scene = Some s })

-- gravity comes first, and once
unfoldable pub gravity_line : ℕ → Option Scene → List (List ℕ) → Result Progress SceneFault
gravity_line limit None (x ∷ y ∷ []) = do
  gravity ← gravity_of x y
  Ok (scene_in_progress limit (empty_scene gravity))
gravity_line limit scene args = Err BadLine

abbrev pub with_read_body : ℕ → Scene → Result (Fixture × (V2 × Rot)) SceneFault
    → Result Progress SceneFault
with_read_body limit s (Ok body) =
    Ok (scene_in_progress limit (with_body s body.0 body.1.0 body.1.1))
with_read_body limit s (Err fault) = Err fault

-- the scene with the body of a line, where it may have one body more
abbrev pub with_body_line : ℕ → Scene → BodyWord → List (List ℕ) → Result Progress SceneFault
with_body_line limit s word args =
    if length args == field_count word
    then (
    if nat_lt (length s.fixtures) limit then with_read_body limit s (body_parts word args)
    else Err TooMany
    )
    else Err BadLine

-- bodies come after gravity
abbrev pub body_line : ℕ → Option Scene → BodyWord → List (List ℕ) → Result Progress SceneFault
body_line limit None word args = Err BadLine
body_line limit (Some s) word args = with_body_line limit s word args

unfoldable pub end_line : Option Scene → List (List ℕ) → Result Progress SceneFault
end_line (Some s) [] = Ok (Ended s)
end_line scene args = Err BadLine

-- a line by its word
abbrev pub line_by_word : SceneReader → Option SceneWord → List (List ℕ)
    → Result Progress SceneFault
line_by_word reader (Some words.Gravity) args = gravity_line reader.max_bodies reader.scene args
line_by_word reader (Some (words.Body word)) args =
    body_line reader.max_bodies reader.scene word args
line_by_word reader (Some words.End) args = end_line reader.scene args
line_by_word reader None args = Err BadLine

-- the scene after one line more
unfoldable pub line_of : SceneReader → List (List ℕ) → Result Progress SceneFault
line_of reader [] = Err BadLine
line_of reader (word ∷ args) = line_by_word reader (word_of word) args

-- the word of a line that adds a body
abbrev pub is_body_word : Option SceneWord → Bool
is_body_word (Some (words.Body word)) = true
is_body_word word = false

-- a line that adds a body: no other takes memory
abbrev pub is_body_line : List (List ℕ) → Bool
is_body_line [] = false
is_body_line (word ∷ args) = is_body_word (word_of word)
