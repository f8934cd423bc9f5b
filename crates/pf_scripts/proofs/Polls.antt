-- A poll, link by link.
use Rattle.std.proofs.Common.{◌≡◌, ◌∙◌, ℕ, ◌+◌, ◌<◌, ◌≤◌, List, [], ◌∷◌, ◌++◌, Some, append-nil, ap, ap₂, arith, drop, get_or, length, refl, set, subst, sym, take}
use Rattle.std.proofs.lemmas.Grind.{flat_map-append}
use Rattle.std.proofs.lemmas.List.{append_assoc, drop-set-lt, drop_all, drop_more, length-append, length-take, length-set, take-append-drop, take_more, take_more_set}
use Rattle.std.proofs.Math.Seq.{drop-append_seam}
use Rattle.std.proofs.lemmas.List.Elements.{AllZip-push}
use Rattle.std.proofs.lemmas.List.Sums.{sum_by-append}
use Rattle.std.specs.List.{AllZip}
use Rattle.std.specs.Option.{option_to_list}
use Rattle.std.specs.Prelude.{All, is_some, if◌then◌else◌}
use Rattle.pf_commands.specs.Merge.{IsCommand, put_all}
use Rattle.pf_links.specs.Link.{Frame, SameIn, got}
use Rattle.pf_links.specs.declared.input.LinkIn.{LinkIn}
use Rattle.pf_rollback.specs.Peer.{Peer}
use Rattle.pf_scripts.specs.Frames.{AreCounts, Setting, commands_in, core_setting, refusal_of, refused_count, with_frames}
use Rattle.pf_scripts.specs.Peer.{HasLooked, HasPolled, IsLaterByOne, all_fresh, fresh, kept_of, scripted_player, setting_of}
use Rattle.pf_scripts.specs.declared.peer.Peer.{Peer as LinkedPeer}
use Rattle.pf_scripts.specs.declared.peer.Polled.{Polled}
use Rattle.pf_scripts.proofs.Fresh.{all_fresh-append, all_fresh_same, fresh_same}
use Rattle.pf_scripts.proofs.Maps.{all_append, put_all-append}

-- frames that were taken, and more
pub frames_then : (s : Setting) (p : Peer) (fs gs : List Frame) → with_frames s (with_frames s p fs) gs ≡ with_frames s p (fs ++ gs)
frames_then s p fs gs =
    ap (λ commands. record p { commands = commands })
    (put_all-append p.commands (commands_in s fs) (commands_in s gs) ∙ ap (put_all p.commands) (sym (flat_map-append _ fs gs)))

pub refused_then : (s : Setting) (fs gs : List Frame) → refused_count s (fs ++ gs) ≡ refused_count s fs + refused_count s gs
refused_then s fs gs = sum_by-append (λ f. if is_some (refusal_of s f) then 1 else 0) fs gs

-- of links that were not polled nothing was taken
later_same : (l : LinkIn) → IsLaterByOne l l
later_same l = ((search, sym (ap (λ fs. got l ++ fs) (fresh_same l) ∙ append-nil (got l))), omega (arith, ap length (fresh_same l)))

pub all_later_same : (links : List LinkIn) → AllZip IsLaterByOne links links
all_later_same [] = tt
all_later_same (l ∷ links) = (later_same l, all_later_same links)

zip_append : {X Y : Type 0} (R : X → Y → Type 0) (xs : List X) (ys : List Y) (us : List X) (vs : List Y) → AllZip R xs ys → AllZip R us vs
    → AllZip R (xs ++ us) (ys ++ vs)
zip_append R [] [] us vs p q = q
zip_append R [] (y ∷ ys) us vs p q = absurd p
zip_append R (x ∷ xs) [] us vs p q = absurd p
zip_append R (x ∷ xs) (y ∷ ys) us vs p q = (p.0, zip_append R xs ys us vs p.1 q)

-- the kept frame finds no memory again
pub nothing_polled : (old new : LinkedPeer) (frame : Frame) → new.core ≡ old.core → new.inputs ≡ old.inputs → new.outputs ≡ old.outputs
    → old.kept ≡ Some frame → new.kept ≡ Some frame → All IsCommand (commands_in (setting_of old) (frame ∷ [])) → HasPolled old new []
nothing_polled old new frame core inputs outputs kept again ranges = record {
  peer = ap (λ c. c.peer) core;
  setting = ap core_setting core;
  all = ap option_to_list (again ∙ sym kept)
      ∙ sym (append-nil (kept_of old))
      ∙ ap (λ fs. kept_of old ++ fs) (sym (ap (λ l. all_fresh old.inputs.items l.items) inputs ∙ all_fresh_same old.inputs.items));
  ranges = subst (λ fs. All IsCommand (commands_in (setting_of old) fs)) (sym (ap option_to_list again)) ranges;
  inputs = subst (λ l. AllZip IsLaterByOne old.inputs.items l.items) (sym inputs) (all_later_same old.inputs.items);
  outputs = outputs;
}

module _ (s : Setting) (first : Peer) (start : List Frame) (olds : List LinkIn) where
  abbrev pub taken_by : ℕ → List LinkIn → List Frame
  taken_by k news = start ++ all_fresh (take k olds) (take k news)

  -- the links below number k were polled
  pub record ArePolled (k : ℕ) (now : Peer) (news : List LinkIn) (polled : Polled) : Type 0 where
    pub peer : now ≡ with_frames s first (taken_by k news)
    pub inputs : AllZip IsLaterByOne (take k olds) (take k news)
    pub looked : AllZip HasLooked (take k olds) (take k news)
    pub rest : drop k news ≡ drop k olds
    pub long : length news ≡ length olds
    pub counts : AreCounts s (taken_by k news) polled
    pub few : length (taken_by k news) ≤ k + 1
    pub ranges : All IsCommand (commands_in s (taken_by k news))

  -- no link was polled
  pub polled_none : (now : Peer) (polled : Polled) → now ≡ with_frames s first start → polled.taken ≡ length start
      → polled.refused ≡ refused_count s start → length start ≤ 1 → All IsCommand (commands_in s start) → ArePolled 0 now olds polled
  polled_none now polled now_is taken refused few ranges =
      let none : taken_by 0 olds ≡ start = append-nil start in record {
        peer = now_is ∙ ap (with_frames s first) (sym none);
        inputs = tt;
        looked = tt;
        rest = refl;
        long = refl;
        counts = record { taken = taken ∙ ap length (sym none); refused = refused ∙ ap (refused_count s) (sym none) };
        few = omega (arith, few, ap length none);
        ranges = subst (λ fs. All IsCommand (commands_in s fs)) (sym none) ranges;
      }

  -- the frames of one more link
  pub taken_more : (k : ℕ) (news : List LinkIn) (l : LinkIn) → k < length olds → length news ≡ length olds
      → taken_by (k + 1) (set news k l) ≡ taken_by k news ++ fresh (get_or olds k l) l
  taken_more k news l low long =
      let before : length (take k olds) ≡ length (take k news) = omega (arith, length-take k olds, length-take k news, long) in
      ap (λ fs. start ++ fs)
      (ap₂ all_fresh (take_more olds k l low) (take_more_set news k l (omega (arith, low, long)))
      ∙ all_fresh-append (take k olds) (take k news) (get_or olds k l ∷ []) (l ∷ []) before
      ∙ ap (λ fs. all_fresh (take k olds) (take k news) ++ fs) (append-nil (fresh (get_or olds k l) l)))
      ∙ sym (append_assoc start (all_fresh (take k olds) (take k news)) (fresh (get_or olds k l) l))

  -- of a link that was not polled yet nothing was taken
  pub same_at : (k : ℕ) (news : List LinkIn) (l : LinkIn) → k < length olds → length news ≡ length olds → drop k news ≡ drop k olds
      → get_or news k l ≡ get_or olds k l
  same_at k news l low long rest =
      let head : List LinkIn → LinkIn = λ xs. get_or xs 0 l in
      ap head (sym (drop_more news k l (omega (arith, low, long))) ∙ rest ∙ drop_more olds k l low)

  pub rest_more : (k : ℕ) (news : List LinkIn) (l : LinkIn) → k < length olds → length news ≡ length olds → drop k news ≡ drop k olds
      → drop (k + 1) (set news k l) ≡ drop (k + 1) olds
  rest_more k news l low long rest =
      let tail : List LinkIn → List LinkIn = λ xs. drop 1 xs in
      drop-set-lt (k + 1) news k l (omega arith)
      ∙ ap tail (sym (drop_more news k l (omega (arith, low, long))) ∙ rest ∙ drop_more olds k l low)

  -- one more link was polled
  pub polled_more : (k : ℕ) (now after : Peer) (news : List LinkIn) (l : LinkIn) (polled more : Polled)
      → k < length olds → ArePolled k now news polled → IsLaterByOne (get_or olds k l) l → HasLooked (get_or olds k l) l
      → after ≡ with_frames s now (fresh (get_or olds k l) l)
      → more.taken ≡ polled.taken + length (fresh (get_or olds k l) l)
      → more.refused ≡ polled.refused + refused_count s (fresh (get_or olds k l) l)
      → All IsCommand (commands_in s (fresh (get_or olds k l) l))
      → ArePolled (k + 1) after (set news k l) more
  polled_more k now after news l polled more low is later looked after_is taken refused ranges =
      let new = fresh (get_or olds k l) l in
      let all = taken_more k news l low is.long in record {
        peer = after_is ∙ ap (λ p. with_frames s p new) is.peer ∙ frames_then s first (taken_by k news) new ∙ ap (with_frames s first) (sym all);
        inputs = subst (λ xs. AllZip IsLaterByOne xs (take (k + 1) (set news k l))) (sym (take_more olds k l low))
            (subst (AllZip IsLaterByOne (take k olds ++ get_or olds k l ∷ [])) (sym (take_more_set news k l (omega (arith, low, is.long))))
            (AllZip-push IsLaterByOne (take k olds) (take k news) (get_or olds k l) l is.inputs later));
        looked = subst (λ xs. AllZip HasLooked xs (take (k + 1) (set news k l))) (sym (take_more olds k l low))
            (subst (AllZip HasLooked (take k olds ++ get_or olds k l ∷ [])) (sym (take_more_set news k l (omega (arith, low, is.long))))
            (AllZip-push HasLooked (take k olds) (take k news) (get_or olds k l) l is.looked looked));
        rest = rest_more k news l low is.long is.rest;
        long = length-set news k l ∙ is.long;
        counts = record {
          taken = taken ∙ ap (λ n. n + length new) is.counts.taken ∙ sym (length-append (taken_by k news) new) ∙ ap length (sym all);
          refused = refused ∙ ap (λ n. n + refused_count s new) is.counts.refused ∙ sym (refused_then s (taken_by k news) new)
              ∙ ap (refused_count s) (sym all);
        };
        few = omega (arith, is.few, later.1, ap length all, length-append (taken_by k news) new);
        ranges = subst (λ fs. All IsCommand (commands_in s fs)) (sym all)
            (subst (All IsCommand) (sym (flat_map-append _ (taken_by k news) new))
            (all_append IsCommand (commands_in s (taken_by k news)) (commands_in s new) is.ranges ranges));
      }

  -- where one more frame was taken from a link, and the links behind it were not polled
  pub stopped : (k : ℕ) (now : Peer) (news : List LinkIn) (l : LinkIn) (polled : Polled) (frame : Frame)
      → k < length olds → ArePolled k now news polled → IsLaterByOne (get_or olds k l) l → fresh (get_or olds k l) l ≡ frame ∷ []
      → taken_by k news ++ frame ∷ [] ≡ start ++ all_fresh olds (set news k l)
  stopped k now news l polled frame low is later came =
      let new = set news k l in
      let before : length (take (k + 1) olds) ≡ length (take (k + 1) new) =
      omega (arith, length-take (k + 1) olds, length-take (k + 1) new, length-set news k l, is.long) in
      sym (ap (λ f. taken_by k news ++ f) came)
      ∙ sym (taken_more k news l low is.long)
      ∙ ap (λ fs. start ++ fs)
      (sym (append-nil (all_fresh (take (k + 1) olds) (take (k + 1) new)))
      ∙ ap (λ fs. all_fresh (take (k + 1) olds) (take (k + 1) new) ++ fs)
      (sym (ap (all_fresh (drop (k + 1) olds)) (rest_more k news l low is.long is.rest) ∙ all_fresh_same (drop (k + 1) olds)))
      ∙ sym (all_fresh-append (take (k + 1) olds) (take (k + 1) new) (drop (k + 1) olds) (drop (k + 1) new) before)
      ∙ ap₂ all_fresh (take-append-drop (k + 1) olds) (take-append-drop (k + 1) new))

  pub stopped_inputs : (k : ℕ) (now : Peer) (news : List LinkIn) (l : LinkIn) (polled : Polled)
      → k < length olds → ArePolled k now news polled → IsLaterByOne (get_or olds k l) l → AllZip IsLaterByOne olds (set news k l)
  stopped_inputs k now news l polled low is later =
      let new = set news k l in
      let low_too : k < length news = omega (arith, low, is.long) in
      let front : AllZip IsLaterByOne (take (k + 1) olds) (take (k + 1) new) =
      subst (λ xs. AllZip IsLaterByOne xs (take (k + 1) new)) (sym (take_more olds k l low))
      (subst (AllZip IsLaterByOne (take k olds ++ get_or olds k l ∷ [])) (sym (take_more_set news k l low_too))
      (AllZip-push IsLaterByOne (take k olds) (take k news) (get_or olds k l) l is.inputs later)) in
      let back : AllZip IsLaterByOne (drop (k + 1) olds) (drop (k + 1) new) =
      subst (AllZip IsLaterByOne (drop (k + 1) olds)) (sym (rest_more k news l low is.long is.rest)) (all_later_same (drop (k + 1) olds)) in
      subst (λ xs. AllZip IsLaterByOne xs new) (take-append-drop (k + 1) olds)
      (subst (AllZip IsLaterByOne (take (k + 1) olds ++ drop (k + 1) olds)) (take-append-drop (k + 1) new)
      (zip_append IsLaterByOne (take (k + 1) olds) (take (k + 1) new) (drop (k + 1) olds) (drop (k + 1) new) front back))

-- a poll that stops at a link, whose frame it keeps
pub stops : (old now new : LinkedPeer) (k : ℕ) (l : LinkIn) (polled : Polled) (frame : Frame)
    → k < length old.inputs.items
    → ArePolled (setting_of old) (scripted_player old) (kept_of old) old.inputs.items k (scripted_player now) now.inputs.items polled
    → IsLaterByOne (get_or old.inputs.items k l) l → fresh (get_or old.inputs.items k l) l ≡ frame ∷ []
    → setting_of now ≡ setting_of old → now.outputs ≡ old.outputs
    → new.core ≡ now.core → new.inputs.items ≡ set now.inputs.items k l → new.outputs ≡ now.outputs → new.kept ≡ Some frame
    → All IsCommand (commands_in (setting_of old) (frame ∷ []))
    → HasPolled old new (taken_by (setting_of old) (scripted_player old) (kept_of old) old.inputs.items k now.inputs.items)
stops old now new k l polled frame low is later came setting outputs core inputs out kept ranges =
    let s = setting_of old in
    let olds = old.inputs.items in
    let start = kept_of old in record {
      peer = ap (λ c. c.peer) core ∙ is.peer;
      setting = ap core_setting core ∙ setting;
      all = ap (λ fs. taken_by s (scripted_player old) start olds k now.inputs.items ++ fs) (ap option_to_list kept)
          ∙ stopped s (scripted_player old) start olds k (scripted_player now) now.inputs.items l polled frame low is later came
          ∙ ap (λ ls. start ++ all_fresh olds ls) (sym inputs);
      ranges = subst (λ fs. All IsCommand (commands_in s (taken_by s (scripted_player old) start olds k now.inputs.items ++ fs))) (sym (ap option_to_list kept))
          (subst (All IsCommand) (sym (flat_map-append _ (taken_by s (scripted_player old) start olds k now.inputs.items) (frame ∷ [])))
          (all_append IsCommand (commands_in s (taken_by s (scripted_player old) start olds k now.inputs.items)) (commands_in s (frame ∷ [])) is.ranges ranges));
      inputs = subst (AllZip IsLaterByOne olds) (sym inputs)
          (stopped_inputs s (scripted_player old) start olds k (scripted_player now) now.inputs.items l polled low is later);
      outputs = out ∙ outputs;
    }

-- a link of which one frame was taken, or none
pub later_one : (old new : LinkIn) (frame : Frame) → SameIn old new → got new ≡ got old ++ frame ∷ []
    → IsLaterByOne old new × (fresh old new ≡ frame ∷ [])
later_one old new frame same more =
    let came : fresh old new ≡ frame ∷ [] = ap (drop (length (got old))) more ∙ drop-append_seam (got old) (frame ∷ []) in
    (((same, more ∙ ap (λ fs. got old ++ fs) (sym came)), omega (arith, ap length came)), came)

pub later_none : (old new : LinkIn) → SameIn old new → got new ≡ got old → IsLaterByOne old new × (fresh old new ≡ [])
later_none old new same more =
    let came : fresh old new ≡ [] = ap (drop (length (got old))) more ∙ drop_all (length (got old)) (got old) (omega arith) in
    (((same, more ∙ sym (append-nil (got old)) ∙ ap (λ fs. got old ++ fs) (sym came)), omega (arith, ap length came)), came)
