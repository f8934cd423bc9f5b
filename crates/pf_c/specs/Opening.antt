-- What becomes of a context that C opens or closes.
use Rattle.std.specs.Prelude.{◌≡◌, ◌⊎◌, ℕ, Option, None, Some}
use Rattle.pf_context.specs.Context.{Context, empty_context}
use Rattle.pf_c.specs.declared.codes.TheConstants.{PF_CLOSED, PF_OK, PF_OUT_OF_MEMORY, PF_STILL_OPEN}

-- a closed context is open, and has nothing in it; or there is no memory for it, and it stays
-- closed. An open one stays as it is.
abbrev pub Opens : Option Context → Option Context → ℕ → Type 0
Opens None new code =
    ((code ≡ PF_OK) × (new ≡ Some empty_context)) ⊎ ((code ≡ PF_OUT_OF_MEMORY) × (new ≡ None))
Opens (Some context) new code = (code ≡ PF_STILL_OPEN) × (new ≡ Some context)

-- an open context is closed, and a closed one stays so
abbrev pub Closes : Option Context → Option Context → ℕ → Type 0
Closes None new code = (code ≡ PF_CLOSED) × (new ≡ None)
Closes (Some context) new code = (code ≡ PF_OK) × (new ≡ None)
