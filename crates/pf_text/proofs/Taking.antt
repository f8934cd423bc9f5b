-- What was taken from a source and appended to a sink, where the bytes are known.
use Rattle.std.proofs.Common.{◌≡◌, ℕ, Option, None, Some, List, [], ◌++◌, refl, sym, ap, ◌∙◌}
use Rattle.std.specs.Io.KnownBytes.{Consumes, Appends, Keeps}
use Rattle.std.proofs.KnownBytes.{Appends-nil}
use Rattle.pf_text.specs.Lines.{AppendsPrefix}
pub use Rattle.std.proofs.KnownBytes.{Appends-nil as appends_none, Appends-kept as appends_kept, Appends-trans as appends_more, Keeps-refl as keeps_same, Keeps-trans as keeps_more}

-- what was appended to known bytes stands behind them
pub appends_known : (a b : Option (List ℕ)) (before text : List ℕ) → a ≡ Some before → Appends a b text → b ≡ Some (before ++ text)
appends_known None b before text is p = absurd cc
appends_known (Some xs) None before text is p = absurd p
appends_known (Some xs) (Some ys) before text is p = let same : xs ≡ before = cc in ap (λ bytes. Some bytes) (p ∙ ap (λ bytes. bytes ++ text) same)

-- a writer that took nothing yet, or fails at once, has taken the empty prefix
abbrev pub appends_prefix_none : (a : Option (List ℕ)) (bytes : List ℕ) → AppendsPrefix a a bytes
appends_prefix_none a bytes = record { prefix = []; rest = bytes; bytes_are = refl; appended = Appends-nil a }

-- ---- a call after others that kept what is known

-- a call that takes
pub consumes_after : (a b c : Option (List ℕ)) (next : List ℕ) → Keeps a b → Consumes b c next → Consumes a c next
consumes_after None b c next p q = tt
consumes_after (Some xs) None c next p q = absurd p
consumes_after (Some xs) (Some ys) None next p q = absurd q
consumes_after (Some xs) (Some ys) (Some zs) next p q = sym p ∙ q

-- a call that appends
pub appends_after : (a b c : Option (List ℕ)) (next : List ℕ) → Keeps a b → Appends b c next → Appends a c next
appends_after None b c next p q = tt
appends_after (Some xs) None c next p q = absurd p
appends_after (Some xs) (Some ys) None next p q = absurd q
appends_after (Some xs) (Some ys) (Some zs) next p q = q ∙ ap (λ bytes. bytes ++ next) p

-- for a reader that is asked again after an interrupt
pub ruleset reads = (keeps_same, keeps_more, consumes_after)
