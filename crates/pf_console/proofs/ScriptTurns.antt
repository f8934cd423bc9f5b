-- A script with one turn more.
use Rattle.std.proofs.Common.{◌≡◌, ℕ, zero, suc, ◌<◌, List, [], ◌∷◌, ◌++◌, length, get_or, map, refl, ap, arith}
use Rattle.std.proofs.lemmas.List.{map-append}
use Rattle.std.specs.Prelude.{Vec, slice_set}
use Rattle.std.specs.Global.{Global}
use Rattle.pf_scripts.specs.declared.turn.Turn.{Turn}
use Rattle.pf_console.specs.Scripts.{with_turn}
use Rattle.pf_console.specs.Turns.{said, said_by}
use Rattle.pf_console.specs.Turns as texts

pub said_more : (scripts : List (Vec Turn Global)) (place : ℕ) (script : Vec Turn Global) (turn : Turn) → place < length scripts
    → script.items ≡ (get_or scripts place script).items ++ turn ∷ []
    → said (slice_set scripts place script) ≡ with_turn (said scripts) (place, said_by turn)
said_more [] place script turn low is = absurd (omega arith)
said_more (first ∷ scripts) zero script turn low is = rw (is, map-append) refl
said_more (first ∷ scripts) (suc place) script turn low is =
    ap (λ (others : List (List texts.Turn)). map said_by first.items ∷ others) (said_more scripts place script turn (omega arith) is)
