-- Whose fault ends a session.
use Rattle.std.proofs.Common.{◌≡◌, ◌∙◌, ℕ, zero, suc, ◌+◌, ◌<◌, Bool, List, [], ◌∷◌, ◌++◌, None, Option, Some, ap, arith, inl, inr, length, refl, subst, sym, take}
use Rattle.std.proofs.lemmas.List.{take_at}
use Rattle.std.specs.List.{AllZip, range_with_len}
use Rattle.std.specs.Prelude.{◌⊎◌, Err, IfErr, IfOk, Ok, Result}
use Rattle.pf_shapes.specs.Scene.{Scene}
use Rattle.pf_rollback.specs.Core.{PeerCore}
use Rattle.pf_scripts.specs.Peer.{scripted_player, setting_of}
use Rattle.pf_scripts.specs.Play.{HasPlayed, IsCrewErrorOfPlay, IsPeerError}
use Rattle.pf_scripts.specs.Frames.{core_setting}
use Rattle.pf_scripts.specs.Script.{first_fault, script_fault}
use Rattle.pf_scripts.specs.declared.error.SessionError.{SessionError}
use Rattle.pf_scripts.specs.declared.error.SessionError.TheVariants as errors
use Rattle.pf_scripts.specs.declared.peer.Peer.{Peer}
use Rattle.pf_scripts.specs.declared.turn.Turn.{Turn}
use Rattle.pf_sessions.specs.Playing.{AllPlayed, IsNewPeer, IsPlayError, IsPlayOutcome, IsPlayersError, LeastFails, own_fault}
use Rattle.pf_sessions.specs.Session.{unsealed, IsSessionError, session_fault}

abbrev pub HasNoFault : List Turn → Peer → Type 0
HasNoFault script p = own_fault script p ≡ None

-- ---- peers that played

pub played_push : (scripts : List (List Turn)) (olds news : List Peer) (script : List Turn) (old new : Peer) → AllPlayed scripts olds news
    → HasPlayed script old new → AllPlayed (scripts ++ script ∷ []) (olds ++ old ∷ []) (news ++ new ∷ [])
played_push [] [] [] script old new all last = (last, tt)
played_push [] [] (n ∷ news) script old new all last = absurd all
played_push [] (o ∷ olds) news script old new all last = absurd all
played_push (s ∷ scripts) [] news script old new all last = absurd all
played_push (s ∷ scripts) (o ∷ olds) [] script old new all last = absurd all
played_push (s ∷ scripts) (o ∷ olds) (n ∷ news) script old new all last = (all.0, played_push scripts olds news script old new all.1 last)

pub played_long : (scripts : List (List Turn)) (olds news : List Peer) → AllPlayed scripts olds news → length news ≡ length olds
played_long [] [] [] all = refl
played_long [] [] (n ∷ news) all = absurd all
played_long [] (o ∷ olds) news all = absurd all
played_long (s ∷ scripts) [] news all = absurd all
played_long (s ∷ scripts) (o ∷ olds) [] all = absurd all
played_long (s ∷ scripts) (o ∷ olds) (n ∷ news) all = ap suc (played_long scripts olds news all.1)

pub played_faultless : (scripts : List (List Turn)) (olds news : List Peer) → AllPlayed scripts olds news → AllZip HasNoFault scripts olds
played_faultless [] [] [] all = tt
played_faultless [] [] (n ∷ news) all = absurd all
played_faultless [] (o ∷ olds) news all = absurd all
played_faultless (s ∷ scripts) [] news all = absurd all
played_faultless (s ∷ scripts) (o ∷ olds) [] all = absurd all
played_faultless (s ∷ scripts) (o ∷ olds) (n ∷ news) all = (all.0.no_fault, played_faultless scripts olds news all.1)

-- ---- what a play returns

-- It is stated by cases of the result, since a thread promises it of its result.
pub outcome_of : (always : Bool) (crew : Option ℕ) (script : List Turn) (p : Peer) (result : Result Peer SessionError)
    → IfOk result (HasPlayed script p)
    → IfErr result (λ fault.
    IsPeerError (IsCrewErrorOfPlay always crew) (scripted_player p).player fault
    ⊎ (script_fault (setting_of p) (scripted_player p).player 0 (scripted_player p).reached script ≡ Some fault))
    → IsPlayOutcome always crew script p result
outcome_of always crew script p (Ok played) has_played fails = has_played
outcome_of always crew script p (Err fault) has_played fails = fails

-- ---- the fault of a session

module _ (s : Scene) where
  -- scripts without a fault; the peer of the first has this number
  abbrev pub AreFaultless : ℕ → List (List Turn) → Type 0
  AreFaultless first [] = Unit {0}
  AreFaultless first (script ∷ scripts) = (script_fault (unsealed s) first 0 0 script ≡ None) × AreFaultless (first + 1) scripts

  pub no_fault : (first : ℕ) (scripts : List (List Turn)) → AreFaultless first scripts → session_fault s first scripts ≡ None
  unfolding session_fault
  no_fault first [] none = refl
  no_fault first (script ∷ scripts) none =
      ap (λ f. first_fault f (session_fault s (first + 1) scripts)) none.0 ∙ no_fault (first + 1) scripts none.1

  pub fault_at : (first : ℕ) (lesser : List (List Turn)) (script : List Turn) (others : List (List Turn)) (fault : SessionError) → AreFaultless first lesser
      → script_fault (unsealed s) (first + length lesser) 0 0 script ≡ Some fault → session_fault s first (lesser ++ script ∷ others) ≡ Some fault
  unfolding session_fault
  fault_at first [] script others fault none is =
      let here : first + 0 ≡ first = omega arith in
      ap (λ f. first_fault f (session_fault s (first + 1) others)) (ap (λ n. script_fault (unsealed s) n 0 0 script) (sym here) ∙ is)
  fault_at first (l ∷ lesser) script others fault none is =
      let there : (first + 1) + length lesser ≡ first + suc (length lesser) = omega arith in
      ap (λ f. first_fault f (session_fault s (first + 1) (lesser ++ script ∷ others))) none.0
      ∙ fault_at (first + 1) lesser script others fault none.1 (ap (λ n. script_fault (unsealed s) n 0 0 script) there ∙ is)

  -- what a new peer's own fault is
  own_is : (player : ℕ) (script : List Turn) (p : Peer) → IsNewPeer s player p → own_fault script p ≡ script_fault (unsealed s) player 0 0 script
  own_is player script p is = ap (λ (core : PeerCore). script_fault (core_setting core) core.peer.player 0 core.peer.reached script) is.core

  pub all_faultless : (first n : ℕ) (scripts : List (List Turn)) (peers : List Peer) → AllZip (IsNewPeer s) (range_with_len first n) peers
      → AllZip HasNoFault scripts peers → AreFaultless first scripts
  all_faultless first n [] peers are none = tt
  all_faultless first n (script ∷ scripts) [] are none = absurd none
  all_faultless first zero (script ∷ scripts) (p ∷ peers) are none = absurd are
  all_faultless first (suc n) (script ∷ scripts) (p ∷ peers) are none =
      (sym (own_is first script p are.0) ∙ none.0, all_faultless (first + 1) n scripts peers are.1 none.1)

  -- the first of these peers that fails
  record Failing (first n : ℕ) (lesser : List (List Turn)) (peer : Peer) : Type 0 where
    faultless : AreFaultless first lesser
    is_new : IsNewPeer s (first + length lesser) peer
    among : length lesser < n

  failing : (first n : ℕ) (lesser : List (List Turn)) (lesser_peers : List Peer) (peer : Peer) (others : List Peer)
      → AllZip (IsNewPeer s) (range_with_len first n) (lesser_peers ++ peer ∷ others) → AllZip HasNoFault lesser lesser_peers → Failing first n lesser peer
  failing first zero [] [] peer others are none = absurd are
  failing first (suc n) [] [] peer others are none =
      let here : first + 0 ≡ first = omega arith in
      record { faultless = tt; is_new = subst (λ k. IsNewPeer s k peer) (sym here) are.0; among = omega arith }
  failing first n [] (p ∷ lesser_peers) peer others are none = absurd none
  failing first n (l ∷ lesser) [] peer others are none = absurd none
  failing first zero (l ∷ lesser) (p ∷ lesser_peers) peer others are none = absurd are
  failing first (suc n) (l ∷ lesser) (p ∷ lesser_peers) peer others are none =
      let rest = failing (first + 1) n lesser lesser_peers peer others are.1 none.1 in
      let there : (first + 1) + length lesser ≡ first + suc (length lesser) = omega arith in record {
        faultless = (sym (own_is first l p are.0) ∙ none.0, rest.faultless);
        is_new = subst (λ k. IsNewPeer s k peer) there rest.is_new;
        among = omega (arith, rest.among);
      }

module _ (always : Bool) (crew : Option ℕ) (s : Scene) (count : ℕ) (scripts : List (List Turn)) (peers : List Peer)
    (are : AllZip (IsNewPeer s) (range_with_len 0 count) peers) (many : count ≡ length scripts) where
  of_least : (fault : SessionError) → LeastFails always crew scripts peers fault → IsSessionError always crew s scripts fault
  of_least fault least =
      let lesser = least.lesser_scripts in
      let n = length lesser in
      let here : Failing s 0 count lesser least.peer =
      failing s 0 count lesser least.lesser_peers least.peer least.other_peers (subst (AllZip (IsNewPeer s) (range_with_len 0 count)) least.peers_are are) least.lesser in
      let number : 0 + n ≡ n = omega arith in
      let new : IsNewPeer s n least.peer = subst (λ k. IsNewPeer s k least.peer) number here.is_new in
      by n lesser least.script least.other_scripts least.peer new refl least.scripts_are here.faultless (omega (arith, here.among, many)) least.fails
    where
      by : (n : ℕ) (lesser : List (List Turn)) (script : List Turn) (others : List (List Turn)) (peer : Peer) → IsNewPeer s n peer → n ≡ length lesser
          → scripts ≡ lesser ++ script ∷ others → AreFaultless s 0 lesser → n < length scripts → IsPlayError always crew script peer fault
          → IsSessionError always crew s scripts fault
      by n lesser script others peer new n_is split none low (inl alone) =
          inr (inl (record {
            player = n;
            error = alone.0;
            fault_is = alone.2 ∙ ap (λ (core : PeerCore). errors.Peer core.peer.player alone.0) new.core;
            among = low;
            may_be = alone.1;
            lesser = ap (session_fault s 0) (ap (take n) split ∙ take_at lesser (script ∷ others) n (sym n_is)) ∙ no_fault s 0 lesser none;
          }))
      by n lesser script others peer new n_is split none low (inr own) =
          let number : n ≡ 0 + length lesser = omega (arith, n_is) in
          inl (ap (session_fault s 0) split
          ∙ fault_at s 0 lesser script others fault none (ap (λ k. script_fault (unsealed s) k 0 0 script) (sym number) ∙ sym (own_is s n script peer new) ∙ own))

  pub session_fault_of : (fault : SessionError) → IsPlayersError always crew scripts peers fault → IsSessionError always crew s scripts fault
  session_fault_of fault (inl least) = of_least fault least
  session_fault_of fault (inr other) = inr (inr other)

  pub no_session_fault : (played : List Peer) → AllPlayed scripts peers played → session_fault s 0 scripts ≡ None
  no_session_fault played all = no_fault s 0 scripts (all_faultless s 0 count scripts peers are (played_faultless scripts peers played all))

-- ---- one peer more, behind the others

module _ (always : Bool) (crew : Option ℕ) (scripts : List (List Turn)) (peers : List Peer) (script : List Turn) (peer : Peer) (fault : SessionError) where
  pub fails_still : IsPlayersError always crew scripts peers fault → IsPlayersError always crew (scripts ++ script ∷ []) (peers ++ peer ∷ []) fault
  fails_still (inr other) = inr other
  fails_still (inl least) = inl (record {
    lesser_scripts = least.lesser_scripts;
    script = least.script;
    other_scripts = least.other_scripts ++ script ∷ [];
    scripts_are = ap (λ l. l ++ script ∷ []) least.scripts_are ∙ append_behind least.lesser_scripts least.script least.other_scripts (script ∷ []);
    lesser_peers = least.lesser_peers;
    peer = least.peer;
    other_peers = least.other_peers ++ peer ∷ [];
    peers_are = ap (λ l. l ++ peer ∷ []) least.peers_are ∙ append_behind least.lesser_peers least.peer least.other_peers (peer ∷ []);
    lesser = least.lesser;
    fails = least.fails;
  })
    where
      append_behind : {X : Type 0} (xs : List X) (x : X) (ys zs : List X) → (xs ++ x ∷ ys) ++ zs ≡ xs ++ x ∷ (ys ++ zs)
      append_behind [] x ys zs = refl
      append_behind (y ∷ xs) x ys zs = ap (λ l. y ∷ l) (append_behind xs x ys zs)

  pub last_fails : (played : List Peer) → AllPlayed scripts peers played → IsPlayError always crew script peer fault
      → IsPlayersError always crew (scripts ++ script ∷ []) (peers ++ peer ∷ []) fault
  last_fails played all fails = inl (record {
    lesser_scripts = scripts;
    script = script;
    other_scripts = [];
    scripts_are = refl;
    lesser_peers = peers;
    peer = peer;
    other_peers = [];
    peers_are = refl;
    lesser = played_faultless scripts peers played all;
    fails = fails;
  })

-- the same of lists that are these with one more
module _ (always : Bool) (crew : Option ℕ) (scripts : List (List Turn)) (peers : List Peer) (script : List Turn) (peer : Peer) (all_scripts : List (List Turn))
    (all_peers : List Peer) (scripts_are : all_scripts ≡ scripts ++ script ∷ []) (peers_are : all_peers ≡ peers ++ peer ∷ []) where
  of_all : (fault : SessionError) → IsPlayersError always crew (scripts ++ script ∷ []) (peers ++ peer ∷ []) fault → IsPlayersError always crew all_scripts all_peers fault
  of_all fault is =
      subst (λ l. IsPlayersError always crew l all_peers fault) (sym scripts_are)
      (subst (λ l. IsPlayersError always crew (scripts ++ script ∷ []) l fault) (sym peers_are) is)

  pub lesser_fault : (fault : SessionError) → IsPlayersError always crew scripts peers fault → IsPlayersError always crew all_scripts all_peers fault
  lesser_fault fault is = of_all fault (fails_still always crew scripts peers script peer fault is)

  pub last_fault : (fault : SessionError) (played : List Peer) → AllPlayed scripts peers played → IsPlayError always crew script peer fault
      → IsPlayersError always crew all_scripts all_peers fault
  last_fault fault played all fails = of_all fault (last_fails always crew scripts peers script peer fault played all fails)

  pub all_played : (played news : List Peer) (last : Peer) → AllPlayed scripts peers played → HasPlayed script peer last → news ≡ played ++ last ∷ []
      → AllPlayed all_scripts all_peers news
  all_played played news last all done news_are =
      subst (λ l. AllPlayed l all_peers news) (sym scripts_are)
      (subst (λ l. AllPlayed (scripts ++ script ∷ []) l news) (sym peers_are)
      (subst (AllPlayed (scripts ++ script ∷ []) (peers ++ peer ∷ [])) (sym news_are) (played_push scripts peers played script peer last all done)))
