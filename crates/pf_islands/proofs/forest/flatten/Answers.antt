use Rattle.std.proofs.Common.{rules, ◌<◌, inl, get_or, length, set, arith}
use Rattle.std.proofs.lemmas.List.FromFn.{fill_by_all}
use Rattle.std.proofs.Math.ListN.{get_or-eq_default}
use Rattle.pf_cache.proofs.ChosenNumbers.{at_first, at_next, at_number, number_low}
use Rattle.pf_islands.proofs.Flattened.{AreFlat, flat_next, flat_other, none_flat}
use Rattle.pf_islands.proofs.Roots.{downward_halved, forest_halved}
use Rattle.pf_islands.proofs.forest.flatten.Goals as goal

pub loop-number-init : goal.loop-number-init
loop-number-init c =
    let parents = c.args.parents.now in
    record {
      down = c.requires.down;
      kept = λ root start. start;
      flat = λ root start others.
          at_first others.is_listed (length parents) c.args.numbers.now others.listed (AreFlat others.is_listed root parents)
          (λ j below other h. flat_other others.is_listed root parents j other h)
          (none_flat others.is_listed root parents start others.others);
    }

pub offset_bounds-parents-number : goal.offset_bounds-parents-number
offset_bounds-parents-number c =
    let low = number_low c.requires.others.is_listed (length c.args.parents.now) c.args.numbers.now c.requires.others.listed
    c.loop-number.number-index 0 c.loop-number-test.true in
    search (rules, low)

pub bounds-parents-number : goal.bounds-parents-number
bounds-parents-number c =
    let low = number_low c.requires.others.is_listed (length c.args.parents.now) c.args.numbers.now c.requires.others.listed
    c.loop-number.number-index 0 c.loop-number-test.true in
    omega (arith, low)

pub offset_bounds-parents-number-in-loop-number : goal.offset_bounds-parents-number-in-loop-number
offset_bounds-parents-number-in-loop-number c =
    let low = number_low c.requires.others.is_listed (length c.args.parents.now) c.args.numbers.now c.requires.others.listed
    c.loop-number.number-index 0 c.loop-number-test.true in
    search (rules, low)

pub bounds-parents-number-in-loop-number : goal.bounds-parents-number-in-loop-number
bounds-parents-number-in-loop-number c =
    let low = number_low c.requires.others.is_listed (length c.args.parents.now) c.args.numbers.now c.requires.others.listed
    c.loop-number.number-index 0 c.loop-number-test.true in
    omega (arith, low)

pub loop-number-preserved : goal.loop-number-preserved
loop-number-preserved c =
    let parents = c.loop-number.parents in
    let numbers = c.args.numbers.now in
    let i = c.loop-number.number-index in
    let place = get_or numbers i 0 in
    let test = c.loop-number-test.true in
    let down = c.loop-number.invariant.down in
    let low = number_low c.requires.others.is_listed (length c.args.parents.now) numbers c.requires.others.listed i 0 test in
    let within : place < length parents = omega (arith, low) in
    record {
      down = downward_halved parents place within down;
      kept = λ root start. forest_halved parents place within down root (c.loop-number.invariant.kept root start);
      flat = λ root start others.
          let limit = length c.args.parents.now in
          let after = set parents place (get_or parents (get_or parents place 0) 0) in
          at_next others.is_listed limit numbers others.listed (AreFlat others.is_listed root after)
          (λ j below other h. flat_other others.is_listed root after j other h) i test
          (flat_next others.is_listed root parents place within down (c.loop-number.invariant.kept root start)
          (at_number others.is_listed limit numbers others.listed (AreFlat others.is_listed root parents) i test
          (c.loop-number.invariant.flat root start others)));
    }

pub returns : goal.returns
returns c =
    λ root start.
    let limit = length c.args.parents.now in
    let end = get_or-eq_default c.args.numbers.now limit c.loop-number-test.false in
    fill_by_all root c.loop-number.parents limit 0 (omega arith)
    (λ i small. c.loop-number.invariant.flat root start c.requires.others i (omega (arith, small)) (inl (omega (arith, small, end))))
