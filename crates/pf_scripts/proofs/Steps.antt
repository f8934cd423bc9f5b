-- How each step of a turn moves a peer.
use Rattle.std.proofs.Common.{◌≡◌, ◌≢◌, ◌∙◌, ℕ, ◌+◌, Bool, true, false, None, Some, Result, Ok, Err, List, [], ◌∷◌, ◌++◌, ap, ap₂, arith, refl, subst, sym}
use Rattle.std.proofs.lemmas.Grind.{flat_map-append}
use Rattle.std.proofs.lemmas.List.Elements.{All-contains}
use Rattle.std.specs.List.{AllZip}
use Rattle.std.specs.Option.{option_to_list}
use Rattle.std.specs.Prelude.{All, IsErr, if◌then◌else◌, nat_le}
use Rattle.std.proofs.lemmas.Bool.{true≢false}
use Rattle.pf_commands.specs.declared.name.TheConstants.{MAX_TICK}
use Rattle.pf_rollback.specs.Calls.{Refines}
use Rattle.pf_rollback.specs.Core.{PeerCore}
use Rattle.pf_rollback.specs.Settling.{IsSettle}
use Rattle.pf_rollback.specs.declared.error.PeerError.{PeerError}
use Rattle.pf_rollback.specs.declared.error.PeerError.TheVariants.{Refused, OutOfMemory}
use Rattle.pf_rollback.specs.declared.error.Refusal.{Refusal}
use Rattle.pf_rollback.specs.declared.error.Refusal.TheVariants.{TickLimit}
use Rattle.pf_scripts.specs.Script.{tick_fault}
use Rattle.pf_scripts.specs.declared.error.SessionError.TheVariants as errors
use Rattle.pf_commands.specs.Merge.{IsCommand, IsCommandMap, put_all}
use Rattle.pf_commands.proofs.Lists.{put_all-same}
use Rattle.pf_links.specs.Link.{Frame}
use Rattle.pf_rollback.specs.Peer.{Peer as Player, advance}
use Rattle.pf_scripts.specs.Frames.{Setting, commands_in, core_setting, with_frames}
use Rattle.pf_scripts.specs.Peer.{HasPolled, IsLater, WereHanded, all_fresh, commands_of, kept_of, scripted_player, setting_of}
use Rattle.pf_scripts.specs.Play.{HasMoved}
use Rattle.pf_scripts.specs.declared.peer.Peer.{Peer}
use Rattle.pf_scripts.proofs.Fresh.{all_fresh_same}
use Rattle.pf_scripts.proofs.Maps.{all_append, all_right, put_all-append}
use Rattle.pf_scripts.proofs.Members.{members_swap}
use Rattle.pf_scripts.proofs.Moves.{all_handed_same, all_later}
use Rattle.pf_scripts.proofs.Polls.{all_later_same}

-- a poll
pub moved_polled : (old new : Peer) (frames : List Frame) → HasPolled old new frames → HasMoved [] 0 old new
moved_polled old new frames is =
    let s = setting_of old in
    let m = (scripted_player old).commands in
    let cs = commands_in s in
    let fresh = all_fresh old.inputs.items new.inputs.items in
    let split : (xs ys : List Frame) → cs (xs ++ ys) ≡ cs xs ++ cs ys = λ xs ys. flat_map-append _ xs ys in record {
      setting = is.setting;
      base = ap (λ (p : Player). p.base) is.peer;
      player = ap (λ (p : Player). p.player) is.peer;
      reached = omega (arith, ap (λ (p : Player). p.reached) is.peer);
      commands = ap₂ (λ (p : Player) z. put_all p.commands (commands_in z (kept_of new))) is.peer is.setting
          ∙ put_all-append m (cs frames) (cs (kept_of new))
          ∙ ap (put_all m) (sym (split frames (kept_of new)) ∙ ap cs is.all ∙ split (kept_of old) fresh)
          ∙ sym (put_all-append m (cs (kept_of old)) (cs fresh));
      ranges = all_right IsCommand (cs (kept_of old)) (cs fresh)
          (subst (All IsCommand) (ap cs is.all ∙ split (kept_of old) fresh) is.ranges);
      inputs = all_later old.inputs.items new.inputs.items is.inputs;
      outputs = subst (λ l. AllZip (WereHanded []) old.outputs.items l.items) (sym is.outputs) (all_handed_same old.outputs.items);
    }

-- a step that leaves commands and links as they are
pub moved_alone : (old new : Peer) (ticks : ℕ) → setting_of new ≡ setting_of old
    → scripted_player new ≡ record (scripted_player old) { reached = (scripted_player old).reached + ticks }
    → new.kept ≡ old.kept → new.inputs ≡ old.inputs → new.outputs ≡ old.outputs → HasMoved [] ticks old new
moved_alone old new ticks setting peer kept inputs outputs =
    let none : all_fresh old.inputs.items new.inputs.items ≡ [] =
    ap (λ l. all_fresh old.inputs.items l.items) inputs ∙ all_fresh_same old.inputs.items in record {
      setting = setting;
      base = ap (λ (p : Player). p.base) peer;
      player = ap (λ (p : Player). p.player) peer;
      reached = ap (λ (p : Player). p.reached) peer;
      commands = ap₂ (λ (p : Player) z. put_all p.commands (commands_in z (kept_of new))) peer setting
          ∙ ap (λ k. put_all (scripted_player old).commands (commands_in (setting_of old) (option_to_list k))) kept
          ∙ ap (λ fs. put_all (commands_of old) (commands_in (setting_of old) fs)) (sym none);
      ranges = subst (λ fs. All IsCommand (commands_in (setting_of old) fs)) (sym none) (λ i d low. absurd (omega (arith, low)));
      inputs = subst (λ l. AllZip IsLater old.inputs.items l.items) (sym inputs) (all_later old.inputs.items old.inputs.items (all_later_same old.inputs.items));
      outputs = subst (λ l. AllZip (WereHanded []) old.outputs.items l.items) (sym outputs) (all_handed_same old.outputs.items);
    }

-- going on by some ticks
module _ (p : Player) (ticks : ℕ) where
  abbrev on : Result (ℕ × Player) Refusal
  on = Ok (p.reached + ticks, record p { reached = p.reached + ticks })

  abbrev after : Result (ℕ × Player) Refusal → Player
  after (Ok answer) = answer.1
  after (Err refusal) = p

  pub advanced : (reached : ℕ) (q : Player) → advance p ticks ≡ Ok (reached, q)
      → (q ≡ record p { reached = p.reached + ticks }) × (tick_fault p.player p.reached ticks ≡ None)
  unfolding advance
  advanced reached q = by (nat_le (p.reached + ticks) MAX_TICK)
    where
      by : (b : Bool) → (if b then on else Err TickLimit) ≡ Ok (reached, q)
          → (q ≡ record p { reached = p.reached + ticks }) × ((if b then None else Some (errors.TickLimit p.player)) ≡ None)
      by true same = (sym (ap after same), refl)
      by false same = absurd cc

  pub passed_last : (refusal : Refusal) → advance p ticks ≡ Err refusal → tick_fault p.player p.reached ticks ≡ Some (errors.TickLimit p.player)
  unfolding advance
  passed_last refusal = by (nat_le (p.reached + ticks) MAX_TICK)
    where
      by : (b : Bool) → (if b then on else Err TickLimit) ≡ Err refusal
          → (if b then None else Some (errors.TickLimit p.player)) ≡ Some (errors.TickLimit p.player)
      by true same = absurd cc
      by false same = refl

  pub not_advanced : (q : Player) (outcome : Result ℕ PeerError) → Refines outcome p q (advance p ticks) → outcome ≢ Err OutOfMemory → IsErr outcome
      → tick_fault p.player p.reached ticks ≡ Some (errors.TickLimit p.player)
  not_advanced q (Ok reached) refines memory err = absurd (true≢false (sym err))
  not_advanced q (Err (Refused refusal)) refines memory err = passed_last refusal refines.0
  not_advanced q (Err OutOfMemory) refines memory err = absurd (memory refl)

-- a frame of its own, which is taken before the one that is kept
pub moved_own : (old new : Peer) (frame : Frame) → IsCommandMap (scripted_player old).commands
    → All IsCommand (commands_in (setting_of old) (kept_of old)) → All IsCommand (commands_in (setting_of old) (frame ∷ []))
    → setting_of new ≡ setting_of old → scripted_player new ≡ with_frames (setting_of old) (scripted_player old) (frame ∷ [])
    → new.kept ≡ old.kept → new.inputs ≡ old.inputs → AllZip (WereHanded (frame ∷ [])) old.outputs.items new.outputs.items
    → HasMoved (frame ∷ []) 0 old new
moved_own old new frame map kept_ranges ranges setting peer kept inputs outputs =
    let s = setting_of old in
    let m = (scripted_player old).commands in
    let cs = commands_in s in
    let own = frame ∷ [] in
    let none : all_fresh old.inputs.items new.inputs.items ≡ [] =
    ap (λ l. all_fresh old.inputs.items l.items) inputs ∙ all_fresh_same old.inputs.items in
    let all : own ++ all_fresh old.inputs.items new.inputs.items ≡ own = ap (λ fs. own ++ fs) none in record {
      setting = setting;
      base = ap (λ (p : Player). p.base) peer;
      player = ap (λ (p : Player). p.player) peer;
      reached = omega (arith, ap (λ (p : Player). p.reached) peer);
      commands = ap₂ (λ (p : Player) z. put_all p.commands (commands_in z (kept_of new))) peer setting
          ∙ ap (λ k. put_all (put_all m (cs own)) (cs (option_to_list k))) kept
          ∙ put_all-append m (cs own) (cs (kept_of old))
          ∙ put_all-same m (cs own ++ cs (kept_of old)) (cs (kept_of old) ++ cs own) map
          (λ d has. All-contains IsCommand (cs own ++ cs (kept_of old)) d (all_append IsCommand (cs own) (cs (kept_of old)) ranges kept_ranges) has)
          (members_swap (cs own) (cs (kept_of old)))
          ∙ sym (put_all-append m (cs (kept_of old)) (cs own))
          ∙ ap (λ fs. put_all (commands_of old) (cs fs)) (sym all);
      ranges = subst (λ fs. All IsCommand (cs fs)) (sym all) ranges;
      inputs = subst (λ l. AllZip IsLater old.inputs.items l.items) (sym inputs) (all_later old.inputs.items old.inputs.items (all_later_same old.inputs.items));
      outputs = outputs;
    }

-- ---- what calls of a core leave

-- going on leaves the scene and the horizon
pub setting_advanced : (old new : PeerCore) (ticks : ℕ) (outcome : Result ℕ PeerError) → Refines outcome old.peer new.peer (advance old.peer ticks)
    → new ≡ record old { peer = new.peer } → core_setting new ≡ core_setting old
setting_advanced old new ticks outcome refines rest =
    ap core_setting rest ∙ ap (λ (h : ℕ). let z : Setting = record { scene = old.scene; horizon = h } in z) (same outcome refines)
  where
    same : (o : Result ℕ PeerError) → Refines o old.peer new.peer (advance old.peer ticks) → new.peer.horizon ≡ old.peer.horizon
    same (Ok reached) is = ap (λ (p : Player). p.horizon) (advanced old.peer ticks reached new.peer is).0
    same (Err (Refused refusal)) is = ap (λ (p : Player). p.horizon) is.1
    same (Err OutOfMemory) is = ap (λ (p : Player). p.horizon) is.1

-- so does a settle
pub setting_settled : {E : Type 0} (old new : PeerCore) (outcome : Result ℕ E) → IsSettle old new outcome → core_setting new ≡ core_setting old
setting_settled old new (Ok reached) is = ap core_setting is.ok.rest
setting_settled old new (Err error) is = ap core_setting is.err.2.rest
