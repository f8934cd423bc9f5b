-- What a peer holds that has played: its own frames, and those that came over its links.
use Rattle.std.proofs.Common.{◌≡◌, ◌∙◌, ℕ, zero, suc, ◌+◌, List, [], ◌∷◌, ◌++◌, None, ap, ap₂, arith, drop, length, refl, subst, sym}
use Rattle.std.proofs.lemmas.List.Elements.{All-head, All-tail}
use Rattle.std.specs.FinMap.{empty}
use Rattle.std.specs.List.{AllZip, flat_map, range_with_len}
use Rattle.std.specs.Option.{option_to_list}
use Rattle.std.specs.Prelude.{All}
use Rattle.pf_shapes.specs.Scene.{Scene}
use Rattle.pf_commands.specs.Merge.{IsCommand, put_all}
use Rattle.pf_links.specs.Link.{Frame, got, handed}
use Rattle.pf_links.specs.declared.input.LinkIn.{LinkIn}
use Rattle.pf_rollback.specs.Core.{PeerCore}
use Rattle.pf_step.specs.World.{start_world}
use Rattle.pf_scripts.specs.Frames.{commands_in, core_setting}
use Rattle.pf_scripts.specs.Peer.{IsLater, WereHanded, all_fresh, commands_of, scripted_player, setting_of}
use Rattle.pf_scripts.specs.Play.{HasPlayed}
use Rattle.pf_scripts.specs.Script.{script_frames, script_ticks}
use Rattle.pf_scripts.specs.declared.peer.Peer.{Peer}
use Rattle.pf_scripts.specs.declared.turn.Turn.{Turn}
use Rattle.pf_sessions.specs.Session.{HasCarried}
use Rattle.pf_sessions.specs.Playing.{AllPlayed, IsNewPeer}
use Rattle.pf_sessions.specs.Session.{unsealed}
use Rattle.pf_sessions.proofs.Linked.{HasGotNothing, HasSentNothing}
use Rattle.pf_sessions.proofs.Zips.{all_on}

-- a peer of the scene that has played this script as its first
pub record IsPlayed (s : Scene) (player : ℕ) (script : List Turn) (p : Peer) : Type 0 where
  pub setting : setting_of p ≡ unsealed s
  pub base : (scripted_player p).base ≡ start_world s
  pub player_is : (scripted_player p).player ≡ player
  pub reached : (scripted_player p).reached ≡ script_ticks script
  pub kept : p.kept ≡ None
  pub commands : (scripted_player p).commands ≡ put_all empty (commands_in (unsealed s) (script_frames script ++ flat_map got p.inputs.items))
  pub ranges : All IsCommand (commands_in (unsealed s) (script_frames script ++ flat_map got p.inputs.items))
  pub sent : All (HasCarried (script_frames script)) p.outputs.items

abbrev pub ArePlayed : Scene → ℕ → List (List Turn) → List Peer → Type 0
ArePlayed s first [] [] = Unit {0}
ArePlayed s first [] (p ∷ peers) = ⊥
ArePlayed s first (script ∷ scripts) [] = ⊥
ArePlayed s first (script ∷ scripts) (p ∷ peers) = IsPlayed s first script p × ArePlayed s (first + 1) scripts peers

-- what came over new links is all that was taken from them
pub all_came : (olds news : List LinkIn) → All (λ i. got i ≡ []) olds → AllZip IsLater olds news → all_fresh olds news ≡ flat_map got news
all_came [] [] none each = refl
all_came [] (n ∷ news) none each = absurd each
all_came (o ∷ olds) [] none each = absurd each
all_came (o ∷ olds) (n ∷ news) none each =
    let P : LinkIn → Type 0 = λ i. got i ≡ [] in
    ap₂ (λ a b. a ++ b) (ap (λ (l : List Frame). drop (length l) (got n)) (All-head P o olds none)) (all_came olds news (All-tail P o olds none) each.1)

module _ (s : Scene) (player : ℕ) (script : List Turn) (old new : Peer) (is : IsNewPeer s player old) (got_none : HasGotNothing old) (sent_none : HasSentNothing old)
    (has : HasPlayed script old new) where
  kept_none : new.kept ≡ None
  kept_none = by script has
    where
      by : (turns : List Turn) → HasPlayed turns old new → new.kept ≡ None
      by [] played = ap (λ (p : Peer). p.kept) (played.idle refl) ∙ is.kept
      by (turn ∷ turns) played = (played.done (omega arith)).0

  setting_old : setting_of old ≡ unsealed s
  setting_old = ap core_setting is.core

  came : all_fresh old.inputs.items new.inputs.items ≡ flat_map got new.inputs.items
  came = all_came old.inputs.items new.inputs.items got_none has.moved.inputs

  -- the frames that it took, as the play counts them and as they are counted here
  frames_same : commands_in (setting_of old) (script_frames script ++ all_fresh old.inputs.items new.inputs.items)
      ≡ commands_in (unsealed s) (script_frames script ++ flat_map got new.inputs.items)
  frames_same = ap₂ (λ z (fs : List Frame). commands_in z (script_frames script ++ fs)) setting_old came

  pub has_played : IsPlayed s player script new
  has_played =
      let none_old : commands_of old ≡ empty =
      ap₂ (λ (c : PeerCore) k. put_all c.peer.commands (commands_in (core_setting c) (option_to_list k))) is.core is.kept in
      let none_new : commands_of new ≡ (scripted_player new).commands =
      ap (λ k. put_all (scripted_player new).commands (commands_in (setting_of new) (option_to_list k))) kept_none in
      let zero_old : (scripted_player old).reached ≡ 0 = ap (λ (c : PeerCore). c.peer.reached) is.core in record {
        setting = has.moved.setting ∙ setting_old;
        base = has.moved.base ∙ ap (λ (c : PeerCore). c.peer.base) is.core;
        player_is = has.moved.player ∙ ap (λ (c : PeerCore). c.peer.player) is.core;
        reached = omega (arith, has.moved.reached, zero_old);
        kept = kept_none;
        commands = sym none_new ∙ has.moved.commands ∙ ap₂ (λ m cs. put_all m cs) none_old frames_same;
        ranges = subst (All IsCommand) frames_same has.moved.ranges;
        sent = all_on (HasCarried []) (WereHanded (script_frames script)) (HasCarried (script_frames script))
            (λ o p none more. record {
              handed = more.1 ∙ ap (λ l. l ++ script_frames script) none.handed;
              capacity = more.0.1 ∙ none.capacity;
            })
            old.outputs.items new.outputs.items sent_none has.moved.outputs;
      }

pub all_have_played : (s : Scene) (first n : ℕ) (scripts : List (List Turn)) (olds news : List Peer) → AllZip (IsNewPeer s) (range_with_len first n) olds
    → All HasGotNothing olds → All HasSentNothing olds → AllPlayed scripts olds news → ArePlayed s first scripts news
all_have_played s first n [] [] [] are got_none sent_none all = tt
all_have_played s first n [] [] (p ∷ news) are got_none sent_none all = absurd all
all_have_played s first n [] (o ∷ olds) news are got_none sent_none all = absurd all
all_have_played s first n (script ∷ scripts) [] news are got_none sent_none all = absurd all
all_have_played s first n (script ∷ scripts) (o ∷ olds) [] are got_none sent_none all = absurd all
all_have_played s first zero (script ∷ scripts) (o ∷ olds) (p ∷ news) are got_none sent_none all = absurd are
all_have_played s first (suc n) (script ∷ scripts) (o ∷ olds) (p ∷ news) are got_none sent_none all = (
  has_played s first script o p are.0 (All-head HasGotNothing o olds got_none) (All-head HasSentNothing o olds sent_none) all.0,
  all_have_played s (first + 1) n scripts olds news are.1 (All-tail HasGotNothing o olds got_none) (All-tail HasSentNothing o olds sent_none) all.1,
)
