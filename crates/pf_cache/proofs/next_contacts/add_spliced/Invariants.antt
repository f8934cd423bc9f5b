use Rattle.std.proofs.Common.{◌++◌, drop}
use Rattle.std.specs.Prelude.{vec_capacity, vec_len}
use Rattle.pf_cache.specs.Contact.{contacts_of_keys}
use Rattle.pf_cache.specs.KeySplices.{keys_after}
use Rattle.pf_cache.proofs.Splicing.{Walked, keys_of}
use Rattle.pf_cache.proofs.next_contacts.add_spliced.Given as goal

abbrev pub invariant-loop-splice : goal.invariant-loop-splice
invariant-loop-splice l =
    Walked l.old l.added (l.initial.list.items ++ contacts_of_keys l.old (keys_after l.splices l.added (keys_of l.old)))
    l.list.items (vec_len l.list) (vec_capacity l.list) (drop l.splice-index l.splices) l.from l.end l.done l.last
