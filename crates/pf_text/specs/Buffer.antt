-- The bytes of a buffer that were read from a reader and not yet taken.
use Rattle.std.specs.Prelude.{ℕ, ◌-◌, List, take, drop}

-- the bytes from start to end
abbrev pub unread : ℕ → ℕ → List ℕ → List ℕ
unread start end buffer = take (end - start) (drop start buffer)
