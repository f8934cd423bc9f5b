use Rattle.std.proofs.lemmas.Map.Entries.{entries_from_clone}
use Rattle.pf_commands.proofs.map.CommandMap.try_clone.Goals as goal

pub invariant_of-result : goal.invariant_of-result
invariant_of-result c =
    rw (entries_from_clone _ _ (λ x y same. same) (λ v w same. same) _ _ c.in_ok-commands.ensures.cases) c.self.invariant

pub returns : goal.returns
returns c =
    rw (entries_from_clone _ _ (λ x y same. same) (λ v w same. same) _ _ c.in_ok-commands.ensures.cases) c.self.view_is
