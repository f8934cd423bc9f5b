use Rattle.std.proofs.Common.{◌≡◌, nat_lt, take}
use Rattle.pf_text.specs.Driver.{is_ascii}
use Rattle.pf_text.proofs.driver.is_ascii.Given as goal

abbrev pub invariant-loop-byte : goal.invariant-loop-byte
invariant-loop-byte l = nat_lt l.greatest 128 ≡ is_ascii (take l.byte-index l.line)
