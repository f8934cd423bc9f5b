use Rattle.std.proofs.Common.{◌≡◌, ◌++◌, map, take}
use Rattle.std.specs.List.{flat_map}
use Rattle.std.specs.String.{string_bytes}
use Rattle.pf_sessions.specs.Session.{shown_by}
use Rattle.pf_console.specs.Blocks.{result_block}
use Rattle.pf_console.proofs.scripts.push_blocks.Given as goal

abbrev pub invariant-loop-peer : goal.invariant-loop-peer
invariant-loop-peer l =
    string_bytes l.text
    ≡ string_bytes l.initial.text ++ flat_map (result_block l.fixtures) (map shown_by (take l.peer-index l.results))
