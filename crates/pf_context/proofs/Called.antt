-- Calls of what a key names.
use Rattle.std.proofs.Common.{◌≡◌, ◌≢◌, List, arith, refl, subst, sym}
use Rattle.std.proofs.lemmas.Grind.{common_steps}
use Rattle.std.specs.Prelude.{IsSome, MatchOption, Option, None, Result, Err, Some}
use Rattle.pf_context.specs.declared.key.Key.{Key}
use Rattle.pf_context.specs.declared.table.Slot.{Slot}
use Rattle.pf_context.specs.Table.{value_at, with_value_out}
use Rattle.pf_context.specs.declared.error.ContextError.{ContextError}
use Rattle.pf_context.specs.declared.error.ContextError.TheVariants.{BadKey}
use Rattle.pf_context.specs.Context.{Context}
use Rattle.pf_context.specs.Errors.{returned}
use Rattle.pf_context.specs.Calls.{Calls, CallsOne}

module _ {V : Type 0} where
  -- while a value is out, each other key names what it named
  pub others_out : (slots : List (Slot V)) (key other : Key) → IsSome (value_at slots key) → other ≢ key → value_at (with_value_out slots key) other ≡ value_at slots other
  others_out slots key other some apart = grind (arith, common_steps)

module _ {V A E : Type 0} (value_of : Context → Key → Option V) (with_one : Context → Key → V → Context) (error : E → ContextError) (old new : Context) (key : Key) (result : Result A ContextError) where
  call_of : (Call : V → V → Result A E → Type 0) (answer : Result A E) (value : Option V) → value_of old key ≡ value → IsSome value
      → ((before : V) → value_of old key ≡ Some before → (after : V) × Call before after answer × (new ≡ with_one old key after))
      → result ≡ returned error answer
      → MatchOption value ((result ≡ Err BadKey) × (new ≡ old)) (λ before. CallsOne value_of with_one error old new key result (Call before))
  call_of Call answer None is some step returns = let no : ⊥ = cc in absurd no
  call_of Call answer (Some before) is some step returns =
      let whole = step before is in
      record { after = whole.0; answer = answer; call = whole.1; context = whole.2; returns = returns }

  -- what a call did to the value that a key names
  pub called : (Call : V → V → Result A E → Type 0) (answer : Result A E) → IsSome (value_of old key)
      → ((before : V) → value_of old key ≡ Some before → (after : V) × Call before after answer × (new ≡ with_one old key after))
      → result ≡ returned error answer → Calls value_of with_one error old new key result Call
  called Call answer some step returns = call_of Call answer (value_of old key) refl some step returns

  -- the same, with the value before and after
  pub made : (Call : V → V → Result A E → Type 0) (before after : V) (answer : Result A E) → value_of old key ≡ Some before → Call before after answer → new ≡ with_one old key after
      → result ≡ returned error answer → Calls value_of with_one error old new key result Call
  made Call before after answer named call context returns =
      subst (λ (value : Option V). MatchOption value ((result ≡ Err BadKey) × (new ≡ old)) (λ first. CallsOne value_of with_one error old new key result (Call first))) (sym named)
      (record { after = after; answer = answer; call = call; context = context; returns = returns })
