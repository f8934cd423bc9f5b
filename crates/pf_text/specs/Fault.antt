-- Steps that may give an error, and what a function returns that may run out of memory, beside a
-- definition that cannot.
use Rattle.std.specs.Prelude.{◌≡◌, Result, Ok, Err, IsOk}
use Rattle.pf_text.specs.declared.fault.LineFault.{LineFault}
use Rattle.pf_text.specs.declared.fault.LineError.{LineError}
use Rattle.pf_text.specs.declared.fault.LineError.TheVariants.{Memory, Fault}

-- the next step, where the one before it gave a value
infixl 10 ◌>>=◌
abbrev pub ◌>>=◌ : {A B F : Type 0} → Result A F → (A → Result B F) → Result B F
(Ok x) >>= f = f x
(Err fault) >>= f = Err fault

-- the result, seen by view, is the expected one; memory runs out only where that is a value
abbrev pub Returns : {X Y : Type 0} → (X → Y) → Result X LineError → Result Y LineFault → Type 0
Returns view (Ok x) expected = expected ≡ Ok (view x)
Returns view (Err Memory) expected = IsOk expected
Returns view (Err (Fault fault)) expected = expected ≡ Err fault
