use Rattle.std.proofs.Common.{◌≡◌, ◌+◌, ◌*◌, ◌≤◌, length}
use Rattle.std.specs.List.{list_any}
use Rattle.pf_text.specs.Fields.{is_empty, parts_of}
use Rattle.pf_text.proofs.fields.field_count.Given as goal

abbrev pub invariant-loop-part : goal.invariant-loop-part
invariant-loop-part l = record {
  bounded : 2 * l.count + length l.rest ≤ length l.fn.line;
  counted : l.count + length (parts_of l.rest) ≡ length (parts_of l.fn.line);
  none_empty : list_any is_empty (parts_of l.rest) ≡ list_any is_empty (parts_of l.fn.line);
}

abbrev pub decreases-loop-part : goal.decreases-loop-part
decreases-loop-part l = length l.rest
