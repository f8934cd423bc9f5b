use Rattle.std.proofs.Common.{rules, ◌≡◌, ◌∙◌, ◌+◌, ◌==◌, ◌&&◌, false, not, get_or, length, set, take, ap, arith, subst, sym, take_all}
use Rattle.std.proofs.lemmas.List.{get_or_read, length-set}
use Rattle.std.proofs.lemmas.List.FromFn.{fill_by_all}
use Rattle.std.proofs.lemmas.List.Folds.{list_any_more}
use Rattle.pf_shapes.specs.Fixture.{is_static}
use Rattle.pf_shapes.specs.Scene.{is_static_at, no_fixture}
use Rattle.pf_broad.specs.Partners.{has_body}
use Rattle.pf_cache.proofs.ChosenNumbers.{number_low}
use Rattle.pf_islands.specs.Rows.{is_awake_at, is_simulated_at}
use Rattle.pf_islands.proofs.Listed.{flag_after, flag_more, flag_of_all}
use Rattle.pf_islands.proofs.Noted.{AreNoted, noted_set}
use Rattle.pf_islands.proofs.awake.simulated_flags.Goals as goal

pub offset_bounds-fixtures-number : goal.offset_bounds-fixtures-number
offset_bounds-fixtures-number c =
    let bodies = c.args.bodies.now in
    let low = number_low (is_awake_at bodies) (length bodies) c.args.numbers.now c.requires.numbers c.loop-number.number-index 0
    c.loop-number-test.true in
    search (rules, arith, low)

pub bounds-fixtures-number : goal.bounds-fixtures-number
bounds-fixtures-number c =
    let bodies = c.args.bodies.now in
    let low = number_low (is_awake_at bodies) (length bodies) c.args.numbers.now c.requires.numbers c.loop-number.number-index 0
    c.loop-number-test.true in
    omega (arith, low, c.requires.bodies, ap length c.fixtures-fixtures.ensures.value)

pub index_mut-requires : goal.index_mut-requires
index_mut-requires c =
    let bodies = c.args.bodies.now in
    let low = number_low (is_awake_at bodies) (length bodies) c.args.numbers.now c.requires.numbers c.loop-number.number-index 0
    c.loop-number-test.true in
    search (rules, arith, low)

pub loop-number-preserved : goal.loop-number-preserved
loop-number-preserved c =
    let s = c.args.scene.now in
    let bodies = c.args.bodies.now in
    let numbers = c.args.numbers.now in
    let fixtures = c.fixtures-fixtures.result.now in
    let i = c.loop-number.number-index in
    let x = get_or numbers i 0 in
    let flags = c.loop-number.simulated.items in
    let low = number_low (is_awake_at bodies) (length bodies) numbers c.requires.numbers i 0 c.loop-number-test.true in
    let written : not c.is_static.result ≡ not (is_static_at s x) =
    ap not (c.is_static.ensures
    ∙ ap is_static (get_or_read fixtures x c.index-fixtures-number.result
    (omega (arith, low, c.requires.bodies, ap length c.fixtures-fixtures.ensures.value)) c.index-fixtures-number.is no_fixture
    ∙ ap (λ fs. get_or fs x no_fixture) c.fixtures-fixtures.ensures.value)) in
    record {
      count = length-set flags x (not c.is_static.result) ∙ c.loop-number.invariant.count;
      flags = subst (λ v. AreNoted (length bodies) (set flags x v) (flag_after s (take (i + 1) numbers))) (sym written)
          (noted_set (length bodies) flags (flag_after s (take i numbers)) (flag_after s (take (i + 1) numbers)) x
          (not (is_static_at s x)) c.loop-number.invariant.count low
          (λ label.
          ap (λ b. b && not (is_static_at s label)) (list_any_more (λ m. m == label) numbers i 0 c.loop-number-test.true)
          ∙ flag_more s (has_body (take i numbers) label) x label)
          c.loop-number.invariant.flags);
    }

pub returns-clause-value : goal.returns-clause-value
returns-clause-value c =
    let s = c.args.scene.now in
    let bodies = c.args.bodies.now in
    let numbers = c.args.numbers.now in
    fill_by_all (is_simulated_at s bodies) c.loop-number.simulated.items (length bodies) false c.loop-number.invariant.count
    (λ k small.
    c.loop-number.invariant.flags k small
    ∙ ap (λ ns. flag_after s ns k) (take_all c.loop-number.number-index numbers c.loop-number-test.false)
    ∙ flag_of_all s bodies numbers c.requires.numbers k small)
