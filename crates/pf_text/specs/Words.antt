-- Text of words and numbers.
use Rattle.std.specs.Prelude.{ℕ, ℤ, List, [], ◌∷◌, ◌++◌}
use Rattle.std.specs.List.{flat_map}
use Rattle.std.specs.Fmt.{signed_decimal}

-- a field with the space before it
abbrev pub spaced : ℤ → List ℕ
spaced z = 32 ∷ signed_decimal z

-- a word and numbers
abbrev pub words_text : List ℕ → List ℤ → List ℕ
words_text word numbers = word ++ flat_map spaced numbers

-- a word, numbers and the line's end
unfoldable pub line_text : List ℕ → List ℤ → List ℕ
line_text word numbers = words_text word numbers ++ 10 ∷ []
