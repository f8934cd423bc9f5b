-- What an export does through the context that C holds.
use Rattle.std.specs.Prelude.{◌≡◌, ℕ, MatchOption, Option, None, Some, Result, Ok, Err}
use Rattle.pf_context.specs.declared.error.ContextError.{ContextError}
use Rattle.pf_context.specs.Context.{Context}
use Rattle.pf_c.specs.declared.codes.TheConstants.{PF_CLOSED}
use Rattle.pf_c.specs.Codes.{code_of}

-- an output tells what a call returned, and stays as it was where the call failed
abbrev pub Tells : {A B : Type 0} → (A → B) → B → B → Result A ContextError → Type 0
Tells value old new (Ok answer) = new ≡ value answer
Tells value old new (Err error) = new ≡ old

-- an output is written from what a call returned, and stays as it was where there is nothing
abbrev pub WritesOutput : {A B : Type 0} → (A → B → Type 0) → B → B → Option (Result A ContextError)
    → Type 0
WritesOutput Value old new (Some (Ok answer)) = Value answer new
WritesOutput Value old new (Some (Err error)) = new ≡ old
WritesOutput Value old new None = new ≡ old

module _ {A : Type 0} (Call : Context → Context → Result A ContextError → Type 0)
    (old new : Option Context) (result : Option (Result A ContextError)) where
  -- a call of the context inside, from before to after, and what it returned
  pub record CallsInside (before : Context) : Type 0 where
    pub after : Context
    pub answer : Result A ContextError
    pub call : Call before after answer
    pub context : new ≡ Some after
    pub returns : result ≡ Some answer

  -- an open context is called; a closed one is not, and stays closed
  abbrev pub CallsOpen : Type 0
  CallsOpen = MatchOption old ((result ≡ None) × (new ≡ None)) CallsInside

module _ {A : Type 0} (Call : Context → Context → Result A ContextError → Type 0)
    (Outputs : Result A ContextError → Type 0) (old new : Option Context) (code : ℕ) where
  -- an export carries a call of the context inside, from before to after: the code is that of what
  -- the call returned, and the outputs tell it
  pub record Carries (before : Context) : Type 0 where
    pub after : Context
    pub answer : Result A ContextError
    pub call : Call before after answer
    pub context : new ≡ Some after
    pub code_is : code ≡ code_of answer
    pub outputs : Outputs answer

  -- and so it does where the context is open; a closed one stays closed, and no output changes
  abbrev pub Answers : Type 0 → Type 0
  Answers Same = MatchOption old ((code ≡ PF_CLOSED) × (new ≡ None) × Same) Carries
