-- What a key names over the history of a table.
use Rattle.std.proofs.Common.{◌≡◌, [], ◌∷◌, All, List, arith}
use Rattle.std.proofs.lemmas.List.Elements.{All-cons, All-nil, All-weaker}
use Rattle.std.specs.Prelude.{None}
use Rattle.pf_context.specs.declared.key.Key.{Key}
use Rattle.pf_context.specs.declared.table.Slot.{Slot}
use Rattle.pf_context.specs.Table.{IsHistory, IsPast, value_at}

module _ {A : Type 0} where
  -- a past key is past at every later time
  pub past_later : (slots : List (Slot A)) (later : List (List (Slot A))) (key : Key) → IsPast slots key → IsHistory slots later → All (λ next. IsPast next key) later
  past_later slots [] key past history = All-nil (λ next. IsPast next key)
  past_later slots (next ∷ later) key past history =
      let still : IsPast next key = history.0 key past in
      All-cons (λ at. IsPast at key) next later still (past_later next later key still history.1)

  -- a past key names nothing
  pub past_is_none : (slots : List (Slot A)) (key : Key) → IsPast slots key → value_at slots key ≡ None
  past_is_none slots key past = grind arith

  -- nor does it at any later time
  pub none_later : (slots : List (Slot A)) (later : List (List (Slot A))) (key : Key) → IsPast slots key → IsHistory slots later → All (λ next. value_at next key ≡ None) later
  none_later slots later key past history =
      All-weaker (λ next. IsPast next key) (λ next. value_at next key ≡ None) (λ next. past_is_none next key) later (past_later slots later key past history)
