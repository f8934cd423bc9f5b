-- What a table ends as, where a `&mut` to one of its values was lent.
use Rattle.std.specs.Prelude.{List, Option}
use Rattle.std.specs.Borrow.{Fml, Lends, LendsIf, MutBor, RattleType}
use Rattle.pf_context.specs.declared.key.Key.{Key}
use Rattle.pf_context.specs.declared.table.Slot.{Slot}
use Rattle.pf_context.specs.Table.{with_value}
use Rattle.pf_context.specs.contracts.table.Table.{the_row}

module _ (T : RattleType) (table : MutBor (List (Slot T.Denot))) (key : Key) where
  -- when the loan ends, the key names the value that was left
  abbrev pub LendsValue : MutBor T.Denot → Fml
  LendsValue loan = Lends (the_row T) T table loan (with_value table.now key)

  -- the same where there is a loan, and else the table is as it was
  abbrev pub LendsValueIf : Option (MutBor T.Denot) → Fml
  LendsValueIf loan = LendsIf (the_row T) T table loan (with_value table.now key) table.now
