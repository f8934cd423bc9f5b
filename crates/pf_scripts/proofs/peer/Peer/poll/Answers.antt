use Rattle.std.proofs.Common.{rules, ◌≡◌, ◌∙◌, ◌+◌, ◌++◌, ◌∷◌, [], ap, ap₂, arith, get_or, length, refl, set, sym, subst}
use Rattle.std.proofs.lemmas.List.{get_or_default}
use Rattle.std.specs.Option.{option_to_list}
use Rattle.std.proofs.lemmas.Bool.{true≢false}
use Rattle.std.specs.Prelude.{IsSome, All, ◌<◌}
use Rattle.pf_commands.specs.Merge.{IsCommand}
use Rattle.pf_links.specs.Link.{SameIn, got, known}
use Rattle.pf_scripts.specs.Frames.{commands_in, refused_count, with_frames}
use Rattle.pf_scripts.specs.Peer.{kept_of, scripted_player, setting_of}
use Rattle.pf_scripts.proofs.Polls.{ArePolled, later_none, later_one, nothing_polled, polled_more, polled_none, same_at, stops}
use Rattle.pf_scripts.proofs.peer.Peer.poll.Goals as goal
use Rattle.pf_scripts.proofs.peer.Peer.poll.Goals.{in-Some+in_ok-take_or_keep, in-Some-look+in_ok-take_or_keep-2, in_default, in_default-look}

pub returns-in_err-take_or_keep-clause-polled : goal.returns-in_err-take_or_keep-clause-polled
returns-in_err-take_or_keep-clause-polled c =
    let e = c.in_err-take_or_keep.ensures in
    ([], nothing_polled c.args.self.now c.take_or_keep.new.self c.in-Some.frame e.err e.inputs e.outputs c.in-Some.is e.again e.ranges, search rules)

pub loop-number-init : goal.loop-number-init
loop-number-init c =
    let old = c.args.self.now in
    let s = setting_of old in
    let olds = old.inputs.items in
    elim c.match-self.branch [
      | in-Some+in_ok-take_or_keep w ↦
          let e = w.in_ok-take_or_keep.ensures in
          let start : kept_of old ≡ w.in-Some.frame ∷ [] = ap option_to_list w.in-Some.is in
          rw (w.self-is, w.polled-is) (record {
            polled = subst (λ ls. ArePolled s (scripted_player old) (kept_of old) olds 0 (scripted_player w.take_or_keep.new.self) ls.items w.take_or_keep.new.polled)
                (sym e.inputs)
                (polled_none s (scripted_player old) (kept_of old) olds (scripted_player w.take_or_keep.new.self) w.take_or_keep.new.polled
                (e.peer ∙ ap (with_frames s (scripted_player old)) (sym start))
                (omega (arith, e.taken, ap length start))
                (omega (arith, e.refused, ap (refused_count s) start))
                (omega (arith, ap length start))
                (subst (λ fs. All IsCommand (commands_in s fs)) (sym start) e.ranges));
            setting = e.setting;
            kept = e.kept;
            outputs = e.outputs;
          })
      | in_default w ↦
          let start : kept_of old ≡ [] = ap option_to_list w.in_default.is in
          rw (w.self-is, w.polled-is) (record {
            polled = polled_none s (scripted_player old) (kept_of old) olds (scripted_player old) (record { taken = 0; refused = 0 })
                (sym (ap (with_frames s (scripted_player old)) start))
                (sym (ap length start))
                (sym (ap (refused_count s) start))
                (omega (arith, ap length start))
                (subst (λ fs. All IsCommand (commands_in s fs)) (sym start) (λ i d low. absurd (omega (arith, low))));
            setting = refl;
            kept = w.in_default.is;
            outputs = refl;
          })
    ]

pub returns-in_err-take_or_keep-2-clause-polled : goal.returns-in_err-take_or_keep-2-clause-polled
returns-in_err-take_or_keep-2-clause-polled c =
    let old = c.args.self.now in
    let many : c.len-links.result ≡ length old.inputs.items = search rules in
    let now = c.loop-number.self in
    let is = c.loop-number.invariant in
    let k = c.loop-number.number in
    let l = c.look.new.self in
    let olds = old.inputs.items in
    let news = now.inputs.items in
    let low : k < length olds = omega (arith, c.loop-number-test.true, many) in
    let at : c.index_mut.result.now ≡ get_or olds k l =
    c.index_mut.ensures.value ∙ get_or_default news k _ l (omega (arith, low, is.polled.long))
    ∙ same_at (setting_of old) (scripted_player old) (kept_of old) olds k news l low is.polled.long is.polled.rest in
    let later = later_one (get_or olds k l) l c.in-Some-look.frame (subst (λ x. SameIn x l) at c.look.ensures.same)
    (subst (λ x. got l ≡ got x ++ c.in-Some-look.frame ∷ []) at c.in-Some-look.ensures.some) in
    let e = c.in_err-take_or_keep-2.ensures in
    let inputs : c.take_or_keep-in-Some-look.new.self.inputs.items ≡ set news k l = search rules in (
      _,
      stops old now c.take_or_keep-in-Some-look.new.self k l c.loop-number.polled c.in-Some-look.frame low is.polled later.0 later.1
          is.setting is.outputs (search rules) inputs (search rules) e.again (subst (λ z. All IsCommand (commands_in z (c.in-Some-look.frame ∷ []))) is.setting e.ranges),
      search rules,
    )

pub loop-number-preserved : goal.loop-number-preserved
loop-number-preserved c =
    let old = c.args.self.now in
    let s = setting_of old in
    let many : c.len-links.result ≡ length old.inputs.items = search rules in
    let now = c.loop-number.self in
    let is = c.loop-number.invariant in
    let k = c.loop-number.number in
    let l = c.look.new.self in
    let olds = old.inputs.items in
    let news = now.inputs.items in
    let low : k < length olds = omega (arith, c.loop-number-test.true, many) in
    let at : c.index_mut.result.now ≡ get_or olds k l =
    c.index_mut.ensures.value ∙ get_or_default news k _ l (omega (arith, low, is.polled.long))
    ∙ same_at s (scripted_player old) (kept_of old) olds k news l low is.polled.long is.polled.rest in
    let same = subst (λ x. SameIn x l) at c.look.ensures.same in
    let seen = subst (λ x. 0 < length (known x) → IsSome c.look.result) at c.look.ensures.known in
    elim c.match-look.branch [
      | in-Some-look+in_ok-take_or_keep-2 w ↦
          let e = w.in_ok-take_or_keep-2.ensures in
          let new = w.take_or_keep-in-Some-look.new.self in
          let counted = w.take_or_keep-in-Some-look.new.polled in
          let frame = w.in-Some-look.frame in
          let later = later_one (get_or olds k l) l frame same (subst (λ x. got l ≡ got x ++ frame ∷ []) at w.in-Some-look.ensures.some) in
          let came = sym later.1 in
          let inputs : set news k l ≡ new.inputs.items = search rules in
          rw (w.self-is, w.polled-is) (record {
            polled = subst (λ ls. ArePolled s (scripted_player old) (kept_of old) olds (k + 1) (scripted_player new) ls counted) inputs
                (polled_more s (scripted_player old) (kept_of old) olds k (scripted_player now) (scripted_player new) news l c.loop-number.polled counted low is.polled later.0
                (λ some. ap length later.1)
                (e.peer ∙ ap₂ (λ z fs. with_frames z (scripted_player now) fs) is.setting came)
                (omega (arith, e.taken, ap length later.1))
                (e.refused ∙ ap₂ (λ z fs. c.loop-number.polled.refused + refused_count z fs) is.setting came)
                (subst (λ fs. All IsCommand (commands_in s fs)) came (subst (λ z. All IsCommand (commands_in z (frame ∷ []))) is.setting e.ranges)));
            setting = e.setting ∙ is.setting;
            kept = e.kept;
            outputs = e.outputs ∙ is.outputs;
          })
      | in_default-look w ↦
          let later = later_none (get_or olds k l) l same (subst (λ x. got l ≡ got x) at (w.in_default-look.ensures.none)) in
          let came = sym later.1 in
          rw (w.self-is, w.polled-is) (record {
            polled = polled_more s (scripted_player old) (kept_of old) olds k (scripted_player now) (scripted_player now) news l c.loop-number.polled c.loop-number.polled low is.polled later.0
                (λ some. absurd (true≢false (sym (subst IsSome w.in_default-look.is (seen some)))))
                (ap (with_frames s (scripted_player now)) came)
                (omega (arith, ap length later.1))
                (omega (arith, ap (refused_count s) later.1))
                (subst (λ fs. All IsCommand (commands_in s fs)) came (λ i d none. absurd (omega (arith, none))));
            setting = is.setting;
            kept = is.kept;
            outputs = is.outputs;
          })
    ]
