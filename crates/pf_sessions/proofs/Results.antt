-- What the peers of a session hold and show at its end.
use Rattle.std.proofs.Common.{◌≡◌, ◌∙◌, ℕ, ◌+◌, List, [], ◌∷◌, ◌++◌, ap, ap₂, arith, map, refl, subst, sym}
use Rattle.std.proofs.lemmas.Grind.{flat_map-append}
use Rattle.std.proofs.lemmas.List.{append_assoc}
use Rattle.std.proofs.lemmas.List.Elements.{All-cons, All-contains, All-head, All-map, All-tail}
use Rattle.std.specs.FinMap.{empty}
use Rattle.std.specs.List.{AllZip, flat_map}
use Rattle.std.specs.Prelude.{All}
use Rattle.pf_shapes.specs.Scene.{Scene}
use Rattle.pf_commands.specs.Merge.{IsCommand, put_all}
use Rattle.pf_commands.proofs.Lists.{put_all-same}
use Rattle.pf_commands.proofs.Ranges.{AreCommands-empty}
use Rattle.pf_links.specs.Link.{Frame, got, handed}
use Rattle.pf_links.specs.declared.input.LinkIn.{LinkIn}
use Rattle.pf_links.specs.declared.output.LinkOut.{LinkOut}
use Rattle.pf_rollback.specs.Peer.{Peer as Player, world_of}
use Rattle.pf_rollback.proofs.Simulation.{sim_at_start}
use Rattle.pf_scripts.specs.Frames.{Setting, commands_in, core_setting}
use Rattle.pf_scripts.specs.Peer.{scripted_player}
use Rattle.pf_scripts.specs.Script.{script_frames, script_ticks}
use Rattle.pf_scripts.specs.declared.peer.Peer.{Peer}
use Rattle.pf_scripts.specs.declared.turn.Turn.{Turn}
use Rattle.pf_scripts.proofs.Maps.{all_append, put_all-append}
use Rattle.pf_scripts.proofs.Members.{SameMembers, members_append, members_exchange, members_refl, members_then}
use Rattle.pf_step.specs.World.{World, start_world}
use Rattle.pf_sessions.specs.Ending.{AllFinished, AreEnded, HasFinished, IsTakenOrLeft, ShowsLast, receiver_of}
use Rattle.pf_sessions.specs.Links.{inputs_of, outputs_of}
use Rattle.pf_sessions.specs.Playing.{AllPlayed, AreNewPeers}
use Rattle.pf_sessions.specs.Rest.{KeepsHanded, all_left, left_on}
use Rattle.pf_sessions.specs.Session.{unsealed, HasCarried, HasEnded, HasSent, PeerResult, all_commands, result_of, results_from, session_results, shown_by}
use Rattle.pf_sessions.specs.Table.{IsTable, transpose}
use Rattle.pf_sessions.proofs.Columns.{HasFor, columns_complete, members_joined}
use Rattle.pf_sessions.proofs.Linked.{linked_on, nothing_got, nothing_sent, senders_new, table_on}
use Rattle.pf_sessions.proofs.Played.{ArePlayed, IsPlayed, all_have_played}
use Rattle.pf_sessions.proofs.Transposes.{zip-transpose}
use Rattle.pf_sessions.proofs.Zips.{all_on}

abbrev pub CarriesFrames : LinkOut → List Frame → Type 0
CarriesFrames link frames = handed link ≡ frames

-- ---- what was taken and what was left is all that was handed in

pub taken_and_left : (senders : List LinkOut) (inputs : List LinkIn) (column : List (List Frame)) → AllZip IsTakenOrLeft senders inputs
    → AllZip CarriesFrames senders column → SameMembers (flat_map got inputs ++ all_left senders inputs) (flat_map (λ frames. frames) column)
taken_and_left [] [] [] all carried = members_refl [] [] refl
taken_and_left [] [] (c ∷ column) all carried = absurd carried
taken_and_left [] (i ∷ inputs) column all carried = absurd all
taken_and_left (o ∷ senders) [] column all carried = absurd all
taken_and_left (o ∷ senders) (i ∷ inputs) [] all carried = absurd carried
taken_and_left (o ∷ senders) (i ∷ inputs) (c ∷ column) all carried =
    let later = flat_map got inputs in
    let left = all_left senders inputs in
    let joined = flat_map (λ (frames : List Frame). frames) column in
    members_then ((got i ++ later) ++ (left_on o i ++ left)) ((got i ++ left_on o i) ++ (later ++ left)) (c ++ joined)
    (members_exchange (got i) later (left_on o i) left)
    (members_append (got i ++ left_on o i) c (later ++ left) joined (members_refl (got i ++ left_on o i) c (sym all.0 ∙ carried.0))
    (taken_and_left senders inputs column all.1 carried.1))

-- ---- one peer

abbrev pair_of : Player → World → PeerResult
pair_of q w = record { peer = q; world = w }

module _ (s : Scene) (scripts : List (List Turn)) where
  frames_joined : (all : List (List Turn)) → flat_map (λ frames. frames) (map script_frames all) ≡ flat_map script_frames all
  frames_joined [] = refl
  frames_joined (script ∷ all) = ap (λ l. script_frames script ++ l) (frames_joined all)

  module _ (player : ℕ) (script : List Turn) (played : Peer) (senders : List LinkOut) (column : List (List Frame)) (e : Peer × World)
      (is : IsPlayed s player script played) (finished : HasFinished (receiver_of played) senders (receiver_of e.0)) (shown : ShowsLast e)
      (carried : AllZip CarriesFrames senders column) (complete : SameMembers (script_frames script ∷ column) (map script_frames scripts)) where
    abbrev z : Setting
    z = unsealed s

    -- the frames that it had taken when it ended, and those that were left for it
    had : List Frame
    had = script_frames script ++ flat_map got played.inputs.items

    left : List Frame
    left = all_left senders played.inputs.items

    every : List Frame
    every = flat_map script_frames scripts

    frames_same : SameMembers (had ++ left) every
    unfolding had left every
    frames_same =
        let f = script_frames script in
        let later = flat_map got played.inputs.items in
        let joined = flat_map (λ (frames : List Frame). frames) column in
        members_then ((f ++ later) ++ left) (f ++ joined) every
        (members_then ((f ++ later) ++ left) (f ++ (later ++ left)) (f ++ joined)
        (members_refl ((f ++ later) ++ left) (f ++ (later ++ left)) (append_assoc f later left))
        (members_append f f (later ++ left) joined (members_refl f f refl) (taken_and_left senders played.inputs.items column finished.all carried)))
        (members_then (f ++ joined) (flat_map (λ (frames : List Frame). frames) (map script_frames scripts)) every
        (members_joined (λ (frames : List Frame). frames) (f ∷ column) (map script_frames scripts) complete)
        (members_refl (flat_map (λ (frames : List Frame). frames) (map script_frames scripts)) every (frames_joined scripts)))

    commands_same : SameMembers (commands_in z had ++ commands_in z left) (commands_in z every)
    commands_same =
        members_then (commands_in z had ++ commands_in z left) (commands_in z (had ++ left)) (commands_in z every)
        (members_refl (commands_in z had ++ commands_in z left) (commands_in z (had ++ left)) (sym (flat_map-append _ had left)))
        (members_joined _ (had ++ left) every frames_same)

    setting_same : core_setting (receiver_of played).core ≡ z
    setting_same = is.setting

    ranges : All IsCommand (commands_in z had ++ commands_in z left)
    unfolding had left
    ranges = all_append IsCommand (commands_in z had) (commands_in z left) is.ranges (subst (λ x. All IsCommand (commands_in x left)) setting_same finished.ranges)

    -- the peer holds the commands of all scripts
    commands_are : (scripted_player e.0).commands ≡ all_commands s scripts
    unfolding had left every
    commands_are =
        ap (λ (p : Player). p.commands) finished.peer
        ∙ ap₂ (λ m x. put_all m (commands_in x left)) is.commands setting_same
        ∙ put_all-append empty (commands_in z had) (commands_in z left)
        ∙ put_all-same empty (commands_in z had ++ commands_in z left) (commands_in z every) AreCommands-empty
        (λ c has. All-contains IsCommand (commands_in z had ++ commands_in z left) c ranges has) commands_same

    pub has_ended : HasEnded s e.0
    has_ended = record { setting = finished.setting ∙ is.setting; kept = shown.kept; settled = finished.settled }

    pub result_is : shown_by e ≡ result_of s (all_commands s scripts) player script
    result_is =
        let who : (scripted_player e.0).player ≡ player = ap (λ (p : Player). p.player) finished.peer ∙ is.player_is in
        let when : (scripted_player e.0).reached ≡ script_ticks script = ap (λ (p : Player). p.reached) finished.peer ∙ is.reached in
        let from : (scripted_player e.0).horizon ≡ 0 = ap (λ (x : Setting). x.horizon) (finished.setting ∙ is.setting) in
        let base : (scripted_player e.0).base ≡ start_world s = ap (λ (p : Player). p.base) finished.peer ∙ is.base in
        let peer : scripted_player e.0 ≡ (result_of s (all_commands s scripts) player script).peer = λ i. record {
          player = who i;
          horizon = from i;
          base = base i;
          commands = commands_are i;
          reached = when i;
        } in
        ap₂ pair_of peer
        (shown.world
        ∙ ap (λ (of : Scene). world_of of (scripted_player e.0) (scripted_player e.0).reached) (ap (λ (x : Setting). x.scene) (finished.setting ∙ is.setting))
        ∙ ap (λ (p : Player). world_of s p p.reached) peer
        ∙ sim_at_start s (all_commands s scripts) (script_ticks script))

  -- ---- all peers

  pub results_are : (first : ℕ) (rest : List (List Turn)) (played : List Peer) (rows : List (List LinkOut)) (ended : List (Peer × World)) (columns : List (List (List Frame)))
      → ArePlayed s first rest played → AllFinished (map receiver_of played) rows (map (λ e. receiver_of e.0) ended) → All ShowsLast ended
      → AllZip (AllZip CarriesFrames) rows columns → AllZip (λ f column. SameMembers (f ∷ column) (map script_frames scripts)) (map script_frames rest) columns
      → (map shown_by ended ≡ results_from s (all_commands s scripts) first rest) × All (λ e. HasEnded s e.0) ended
  unfolding results_from
  results_are first [] [] [] [] columns are finished shown carried complete = (refl, λ k d low. absurd (omega (arith, low)))
  results_are first [] [] [] (e ∷ ended) columns are finished shown carried complete = absurd finished
  results_are first [] [] (row ∷ rows) ended columns are finished shown carried complete = absurd finished
  results_are first [] (p ∷ played) rows ended columns are finished shown carried complete = absurd are
  results_are first (script ∷ rest) [] rows ended columns are finished shown carried complete = absurd are
  results_are first (script ∷ rest) (p ∷ played) [] ended columns are finished shown carried complete = absurd finished
  results_are first (script ∷ rest) (p ∷ played) (row ∷ rows) [] columns are finished shown carried complete = absurd finished
  results_are first (script ∷ rest) (p ∷ played) (row ∷ rows) (e ∷ ended) [] are finished shown carried complete = absurd carried
  results_are first (script ∷ rest) (p ∷ played) (row ∷ rows) (e ∷ others) (column ∷ columns) are finished shown carried complete =
      let here = All-head ShowsLast e others shown in
      let later = results_are (first + 1) rest played rows others columns are.1 finished.1 (All-tail ShowsLast e others shown) carried.1 complete.1 in (
        ap₂ (λ r rs. r ∷ rs) (result_is first script p row column e are.0 finished.0 here carried.0 complete.0) later.0,
        All-cons (λ (x : Peer × World). HasEnded s x.0) e others (has_ended first script p row column e are.0 finished.0 here carried.0 complete.0) later.1,
      )

-- ---- what was handed in

abbrev pub frames_handed : List Peer → List (List (List Frame))
frames_handed peers = map (λ row. map handed row) (outputs_of peers)

carried_row : (row : List LinkOut) → AllZip CarriesFrames row (map handed row)
carried_row [] = tt
carried_row (o ∷ row) = (refl, carried_row row)

carried_rows : (rows : List (List LinkOut)) → AllZip (AllZip CarriesFrames) rows (map (λ row. map handed row) rows)
carried_rows [] = tt
carried_rows (row ∷ rows) = (carried_row row, carried_rows rows)

-- each peer's row carries its script
rows_carry : (s : Scene) (first : ℕ) (scripts : List (List Turn)) (played : List Peer) → ArePlayed s first scripts played
    → AllZip HasFor (map script_frames scripts) (frames_handed played)
rows_carry s first [] [] are = tt
rows_carry s first [] (p ∷ played) are = absurd are
rows_carry s first (script ∷ scripts) [] are = absurd are
rows_carry s first (script ∷ scripts) (p ∷ played) are =
    (All-map (λ (frames : List Frame). frames ≡ script_frames script) handed p.outputs.items (λ k d low. (are.0.sent k d low).handed), rows_carry s (first + 1) scripts played are.1)

-- and so it does at the end
pub sent_still : (s : Scene) (first : ℕ) (scripts : List (List Turn)) (played ended : List Peer) → ArePlayed s first scripts played
    → AllZip (AllZip KeepsHanded) (outputs_of played) (outputs_of ended) → AllZip HasSent scripts ended
sent_still s first [] [] [] are kept = tt
sent_still s first [] [] (e ∷ ended) are kept = absurd kept
sent_still s first [] (p ∷ played) ended are kept = absurd are
sent_still s first (script ∷ scripts) [] ended are kept = absurd are
sent_still s first (script ∷ scripts) (p ∷ played) [] are kept = absurd kept
sent_still s first (script ∷ scripts) (p ∷ played) (e ∷ ended) are kept = (
  all_on (HasCarried (script_frames script)) KeepsHanded (HasCarried (script_frames script))
      (λ o q is keeps. record { handed = keeps.handed ∙ is.handed; capacity = keeps.same.1 ∙ is.capacity }) p.outputs.items e.outputs.items are.0.sent kept.0,
  sent_still s (first + 1) scripts played ended are.1 kept.1,
)

-- ---- a session

module _ (s : Scene) (count : ℕ) (scripts : List (List Turn)) (peers played : List Peer) (ended : List (Peer × World)) (new : AreNewPeers s count peers)
    (all : AllPlayed scripts peers played) (end : AreEnded played ended) where
  are : ArePlayed s 0 scripts played
  are =
      all_have_played s 0 count scripts peers played new.each (nothing_got (transpose (outputs_of peers)) peers new.links.each)
      (nothing_sent (transpose (inputs_of peers)) peers (senders_new (outputs_of peers) (inputs_of peers) new.links)) all

  table : IsTable (frames_handed played)
  table =
      table_on CarriesFrames (outputs_of played) (frames_handed played) (carried_rows (outputs_of played))
      (linked_on scripts peers played new.links all).table

  pub of_all : (map shown_by ended ≡ session_results s scripts) × All (λ e. HasEnded s e.0) ended
  of_all =
      results_are s scripts 0 scripts played (transpose (outputs_of played)) ended (transpose (frames_handed played)) are end.finished end.shown
      (zip-transpose CarriesFrames (outputs_of played) (frames_handed played) (carried_rows (outputs_of played)))
      (columns_complete (map script_frames scripts) (frames_handed played) table (rows_carry s 0 scripts played are))

  pub all_sent : AllZip HasSent scripts (map (λ e. e.0) ended)
  all_sent = sent_still s 0 scripts played (map (λ e. e.0) ended) are end.handed
