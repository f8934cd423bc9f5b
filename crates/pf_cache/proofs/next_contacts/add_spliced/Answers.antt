use Rattle.std.proofs.Common.{refl, arith}
use Rattle.std.specs.Prelude.{vec_capacity, vec_len}
use Rattle.pf_cache.specs.declared.key_splices.KeySplice.{KeySplice}
use Rattle.pf_cache.proofs.Splicing.{at_splice, at_end, front_are_contacts, joined_step, last_are_keys, last_room, last_step, run_are_keys, run_room, run_step, walk_starts}
use Rattle.pf_cache.proofs.Restoring.{rest_are_contacts}
use Rattle.pf_cache.proofs.next_contacts.add_spliced.Goals as goal
use Rattle.pf_cache.proofs.next_contacts.add_spliced.Goals.{then-splice-gt0, else-splice-gt0}

abbrev no_splice : KeySplice
no_splice = record { kept = 0; dropped = 0; added = 0 }

pub loop-splice-init : goal.loop-splice-init
loop-splice-init c =
    walk_starts c.args.old.now c.args.added.now c.args.list.now.items (vec_len c.args.list.now) (vec_capacity c.args.list.now) c.args.splices.now
    c.requires.within c.requires.added c.requires.keys c.requires.room

pub add_run-requires-clause-dropped : goal.add_run-requires-clause-dropped
add_run-requires-clause-dropped c = front_are_contacts _ _ (rest_are_contacts _ _ c.requires.old)

pub add_run-requires-clause-keys : goal.add_run-requires-clause-keys
add_run-requires-clause-keys c =
    let walked = at_splice _ _ _ _ _ _ c.args.splices.now c.loop-splice.splice-index _ _ _ _ no_splice c.loop-splice-test.true c.loop-splice.invariant in
    run_are_keys _ _ _ _ _ _ _ _ _ _ _ _ _ _ walked refl refl

pub add_run-requires-clause-room : goal.add_run-requires-clause-room
add_run-requires-clause-room c =
    let walked = at_splice _ _ _ _ _ _ c.args.splices.now c.loop-splice.splice-index _ _ _ _ no_splice c.loop-splice-test.true c.loop-splice.invariant in
    run_room _ _ _ _ _ _ _ _ _ _ _ _ _ _ walked refl refl

pub loop-splice-preserved : goal.loop-splice-preserved
loop-splice-preserved c =
    let walked = at_splice _ _ _ _ _ _ c.args.splices.now c.loop-splice.splice-index _ _ _ _ no_splice c.loop-splice-test.true c.loop-splice.invariant in
    elim c.if-splice-gt0.branch [
      | then-splice-gt0 w ↦
          rw (w.list-is, w.from-is, w.done-is)
          (run_step _ _ _ _ _ _ _ _ _ _ _ _ _ _ walked refl refl w.add_run.new.list.items (vec_len w.add_run.new.list)
          (vec_capacity w.add_run.new.list) c.requires.old w.if-splice-gt0.true w.add_run.ensures.items w.add_run.ensures.len
          w.add_run.ensures.capacity)
      | else-splice-gt0 w ↦
          rw (w.list-is, w.from-is, w.done-is)
          (joined_step _ _ _ _ _ _ _ _ _ _ _ _ _ _ walked refl refl (omega (arith, w.if-splice-gt0.false)))
    ]

pub add_run-requires-2-clause-dropped : goal.add_run-requires-2-clause-dropped
add_run-requires-2-clause-dropped c = front_are_contacts _ _ (rest_are_contacts _ _ c.requires.old)

pub add_run-requires-2-clause-keys : goal.add_run-requires-2-clause-keys
add_run-requires-2-clause-keys c =
    last_are_keys _ _ _ _ _ _ _ _ _ _ (at_end _ _ _ _ _ _ c.args.splices.now c.loop-splice.splice-index _ _ _ _ c.loop-splice-test.false c.loop-splice.invariant)

pub add_run-requires-2-clause-room : goal.add_run-requires-2-clause-room
add_run-requires-2-clause-room c =
    last_room _ _ _ _ _ _ _ _ _ _ (at_end _ _ _ _ _ _ c.args.splices.now c.loop-splice.splice-index _ _ _ _ c.loop-splice-test.false c.loop-splice.invariant)

pub returns : goal.returns
returns c =
    last_step _ _ _ _ _ _ _ _ _ _ (at_end _ _ _ _ _ _ c.args.splices.now c.loop-splice.splice-index _ _ _ _ c.loop-splice-test.false c.loop-splice.invariant)
    _ c.requires.old c.add_run-2.ensures.items
