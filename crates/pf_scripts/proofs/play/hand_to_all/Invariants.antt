use Rattle.std.proofs.Common.{[], ◌∷◌}
use Rattle.pf_scripts.specs.Peer.{WereHanded}
use Rattle.pf_scripts.proofs.Each.{AreChanged}
use Rattle.pf_scripts.proofs.play.hand_to_all.Given as goal

abbrev pub invariant-loop-number : goal.invariant-loop-number
invariant-loop-number l = AreChanged (WereHanded (l.frame ∷ [])) l.number l.fn.outputs l.outputs
