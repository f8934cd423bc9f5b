-- What the reader and the writer of a call hold before and after it.
use Rattle.std.specs.Prelude.{◌≡◌, ℕ, List, Option, Some}

-- the bytes that a reader has still to give and those that a writer has taken, or `None` where they
-- are not known
pub record Streams : Type 0 where
  pub unread : Option (List ℕ)
  pub left : Option (List ℕ)
  pub before : Option (List ℕ)
  pub after : Option (List ℕ)

-- the same where the bytes before the call are known: the input, what is left of it, the bytes
-- written before and all that are written after
pub record Transfer : Type 0 where
  pub input : List ℕ
  pub left : Option (List ℕ)
  pub before : List ℕ
  pub after : Option (List ℕ)

-- a fact of every call whose reader and writer expose their bytes
abbrev pub IfExposed : Streams → (Transfer → Type 0) → Type 0
IfExposed s P = (input before : List ℕ) → s.unread ≡ Some input → s.before ≡ Some before
    → P (record { input = input; left = s.left; before = before; after = s.after })

-- what a writer has taken, before a call and after it
pub record Written : Type 0 where
  pub before : List ℕ
  pub after : Option (List ℕ)

abbrev pub written : Transfer → Written
written t = record { before = t.before; after = t.after }

-- what a sink has taken, or `None` where that is not known, and how often it has failed, before a
-- call and after it
pub record SinkCall : Type 0 where
  pub before : Option (List ℕ)
  pub after : Option (List ℕ)
  pub failures_before : ℕ
  pub failures_after : ℕ
