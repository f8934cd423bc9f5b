use Rattle.std.proofs.Common.{◌≡◌, ◌<◌, ◌++◌, ◌∷◌, [], ap, arith, length, length-append, map, nat_le, rules, sym, true, ◌∙◌}
use Rattle.std.specs.FinMap.{entries}
use Rattle.std.specs.Map.Iter.{deref_pair}
use Rattle.std.proofs.lemmas.List.{length-map, map-append}
use Rattle.std.proofs.lemmas.Map.Iter.{iter_end, rest_so_far}
use Rattle.pf_context.specs.Frames.{command_frame, later_commands}
use Rattle.pf_context.proofs.Buffers.{front_more}
use Rattle.pf_context.proofs.Later.{allowed_between, later_before, later_more}
use Rattle.pf_context.proofs.frames.write_frames.Goals as goal

pub frame-requires : goal.frame-requires
frame-requires c =
    let e = deref_pair (c.in-Some.name, c.in-Some.payload) in
    let done = map deref_pair c.loop-name.yielded in
    let whole : entries c.args.commands.now ≡ done ++ e ∷ c.next.new.self =
    sym (c.into_iter-name-iterator.ensures.into_iter_gives ∙ c.iter-name-items.ensures.entries)
    ∙ rest_so_far deref_pair c.loop-name.yielded _ _ c.loop-name.yielded_by
    ∙ ap (λ t. done ++ t) c.in-Some.ensures.steps in
    allowed_between c.args.scene.now c.args.commands.now done c.next.new.self e c.requires.allowed whole

pub bounds-frames-place : goal.bounds-frames-place
bounds-frames-place c =
    let e = deref_pair (c.in-Some.name, c.in-Some.payload) in
    let done = map deref_pair c.loop-name.yielded in
    let es = entries c.args.commands.now in
    let whole : es ≡ done ++ e ∷ c.next.new.self =
    sym (c.into_iter-name-iterator.ensures.into_iter_gives ∙ c.iter-name-items.ensures.entries)
    ∙ rest_so_far deref_pair c.loop-name.yielded _ _ c.loop-name.yielded_by
    ∙ ap (λ t. done ++ t) c.in-Some.ensures.steps in
    let late : nat_le c.args.tick e.0.tick ≡ true = search rules in
    let before = later_before c.args.tick es done c.next.new.self e whole late in
    omega (arith, before, c.requires.room, c.loop-name.invariant.0, c.loop-name.auto.frames)

pub loop-name-preserved-then-tick : goal.loop-name-preserved-then-tick
loop-name-preserved-then-tick c =
    let e = deref_pair (c.in-Some.name, c.in-Some.payload) in
    let done = map deref_pair c.loop-name.yielded in
    let front = later_commands c.args.tick done in
    let es = entries c.args.commands.now in
    let whole : es ≡ done ++ e ∷ c.next.new.self =
    sym (c.into_iter-name-iterator.ensures.into_iter_gives ∙ c.iter-name-items.ensures.entries)
    ∙ rest_so_far deref_pair c.loop-name.yielded _ _ c.loop-name.yielded_by
    ∙ ap (λ t. done ++ t) c.in-Some.ensures.steps in
    let late : nat_le c.args.tick e.0.tick ≡ true = search rules in
    let before = later_before c.args.tick es done c.next.new.self e whole late in
    let more : later_commands c.args.tick (map deref_pair (c.loop-name.yielded ++ (c.in-Some.name, c.in-Some.payload) ∷ [])) ≡ front ++ e ∷ [] =
    ap (later_commands c.args.tick) (map-append deref_pair c.loop-name.yielded ((c.in-Some.name, c.in-Some.payload) ∷ [])) ∙ later_more c.args.tick done e late in
    let long : length (map command_frame front) ≡ c.loop-name.place = length-map front command_frame ∙ sym c.loop-name.invariant.0 in
    let room : c.loop-name.place < length c.args.frames.now = omega (arith, before, c.requires.room, c.loop-name.invariant.0) in
    let stored = front_more (map command_frame front) c.args.frames.now (command_frame e) c.loop-name.place long room in
    let shown : map command_frame (front ++ e ∷ []) ≡ map command_frame front ++ command_frame e ∷ [] = map-append command_frame front (e ∷ []) in
    let item : c.frame.result ≡ command_frame e = c.frame.ensures in (
      rw more (omega (arith, length-append front (e ∷ []), c.loop-name.invariant.0)),
      rw (more, shown, item, c.loop-name.invariant.1) stored,
    )

pub returns : goal.returns
returns c =
    let es = entries c.args.commands.now in
    let start = c.into_iter-name-iterator.ensures.into_iter_gives ∙ c.iter-name-items.ensures.entries in
    let whole = iter_end deref_pair es c.loop-name.yielded _ _ _ _ start c.loop-name.yielded_by c.in-None.is c.next.ensures.steps in
    rw (← whole.0, ← c.loop-name.invariant.0) c.loop-name.invariant.1
