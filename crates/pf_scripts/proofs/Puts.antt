-- A peer that takes a frame.
use Rattle.std.proofs.Common.{◌≡◌, zero, suc, arith, Bool, true, false, if◌then◌else◌, nat_lt, ◌∷◌, [], ◌++◌, ℕ, List, length, Option, None, Some, Result, Ok, Err, ap, refl, subst, sym, ◌∙◌}
use Rattle.std.proofs.lemmas.Bool.{true≢false}
use Rattle.std.specs.FinMap.{get}
use Rattle.std.specs.Prelude.{All, IsOk}
use Rattle.pf_commands.specs.Check.{check}
use Rattle.pf_commands.specs.Frame.{IsBytes, decode}
use Rattle.pf_commands.specs.declared.frame.TheConstants.{FRAME_LEN}
use Rattle.pf_commands.specs.Merge.{IsCommand, put_all}
use Rattle.pf_commands.specs.News.{put_outcome}
use Rattle.pf_commands.specs.declared.checking.CheckFault.{CheckFault}
use Rattle.pf_commands.specs.declared.fault.FrameFault.{FrameFault}
use Rattle.pf_commands.specs.declared.outcome.Put.{Put}
use Rattle.pf_commands.specs.declared.payload.Command.{Command}
use Rattle.pf_commands.proofs.Frames.{decoded_encodes}
use Rattle.pf_rollback.specs.Calls.{Refines}
use Rattle.pf_rollback.specs.declared.error.PeerError.{PeerError}
use Rattle.pf_rollback.specs.declared.error.PeerError.TheVariants.{OutOfMemory, Refused}
use Rattle.pf_rollback.specs.Peer.{Peer, if_allowed as answer_if_allowed, put, take, with_command}
use Rattle.pf_rollback.specs.declared.error.Refusal.{Refusal}
use Rattle.pf_rollback.specs.declared.error.Refusal.TheVariants.{TooOld}
use Rattle.pf_scripts.specs.Frames.{Setting, commands_of_decoded, allowed_commands, check_refusal, refusal_of_decoded}

module _ (s : Setting) (p : Peer) (c : Command) (here : p.horizon ≡ s.horizon) where
  -- the peer after a call that was not refused
  abbrev after : Result (Put × Peer) Refusal → Peer
  after (Ok answer) = answer.1
  after (Err refusal) = p

  -- the call on a command that was checked, where `early` is whether it is before the horizon
  abbrev call : Result (Unit {0}) CheckFault → Bool → Result (Put × Peer) Refusal
  call checked early =
      answer_if_allowed {A = Put × Peer} checked
      (if early then Err (TooOld p.horizon) else Ok (put_outcome (get p.commands c.name) c.payload, with_command p c))

  abbrev refusal_at : Result (Unit {0}) CheckFault → Bool → Option Refusal
  refusal_at checked early = check_refusal checked (if early then Some (TooOld s.horizon) else None)

  abbrev commands_at : Result (Unit {0}) CheckFault → Bool → List Command
  commands_at (Ok done) early = if early then [] else c ∷ []
  commands_at (Err fault) early = []

  same_commands : (checked : Result (Unit {0}) CheckFault) → commands_at checked (nat_lt c.name.tick s.horizon) ≡ allowed_commands checked s.horizon c
  same_commands (Ok done) = refl
  same_commands (Err fault) = refl

  -- what is known of each such call is known of the one that is made
  put_is : (P : Result (Put × Peer) Refusal → Option Refusal → List Command → Type 0)
      → ((checked : Result (Unit {0}) CheckFault) (early : Bool) → P (call checked early) (refusal_at checked early) (commands_at checked early))
      → P (put s.scene p c) (refusal_of_decoded s (Ok c)) (commands_of_decoded s (Ok c))
  unfolding put
  put_is P each =
      let checked = check s.scene c.name c.payload in
      subst (λ cs. P (call checked (nat_lt c.name.tick p.horizon)) (refusal_at checked (nat_lt c.name.tick s.horizon)) cs) (same_commands checked)
      (subst (λ h. P (call checked (nat_lt c.name.tick h)) (refusal_at checked (nat_lt c.name.tick s.horizon)) (commands_at checked (nat_lt c.name.tick s.horizon))) (sym here)
      (each checked (nat_lt c.name.tick s.horizon)))

  -- what is put was not refused, and the peer holds it
  taken : (outcome : Put) (q : Peer) → put s.scene p c ≡ Ok (outcome, q)
      → (refusal_of_decoded s (Ok c) ≡ None) × (q ≡ record p { commands = put_all p.commands (commands_of_decoded s (Ok c) ++ []) })
  taken outcome q =
      put_is (λ r refusal cs. r ≡ Ok (outcome, q) → (refusal ≡ None) × (q ≡ record p { commands = put_all p.commands (cs ++ []) })) by
    where
      by : (checked : Result (Unit {0}) CheckFault) (early : Bool) → call checked early ≡ Ok (outcome, q)
          → (refusal_at checked early ≡ None) × (q ≡ record p { commands = put_all p.commands (commands_at checked early ++ []) })
      by (Ok done) false same = (refl, sym (ap after same))
      by (Ok done) true same = absurd cc
      by (Err fault) early same = absurd cc

  refused_by : (refusal : Refusal) → put s.scene p c ≡ Err refusal
      → (refusal_of_decoded s (Ok c) ≡ Some refusal) × (commands_of_decoded s (Ok c) ≡ [])
  refused_by refusal =
      put_is (λ r why cs. r ≡ Err refusal → (why ≡ Some refusal) × (cs ≡ [])) by
    where
      by : (checked : Result (Unit {0}) CheckFault) (early : Bool) → call checked early ≡ Err refusal
          → (refusal_at checked early ≡ Some refusal) × (commands_at checked early ≡ [])
      by (Ok done) false same = absurd cc
      by (Ok done) true same = (cc, refl)
      by (Err fault) early same = (cc, refl)

  -- what is refused changes nothing
  refused : (refusal : Refusal) (q : Peer) (outcome : Result Put PeerError) → outcome ≡ Err (Refused refusal) → Refines outcome p q (put s.scene p c)
      → (refusal_of_decoded s (Ok c) ≡ Some refusal) × (q ≡ record p { commands = put_all p.commands (commands_of_decoded s (Ok c) ++ []) })
  refused refusal q outcome is refines =
      let both : (put s.scene p c ≡ Err refusal) × (q ≡ p) = subst (λ (r : Result Put PeerError). Refines r p q (put s.scene p c)) is refines in
      let nothing = refused_by refusal both.0 in
      (nothing.0, both.1 ∙ ap (λ cs. record p { commands = put_all p.commands (cs ++ []) }) (sym nothing.1))

  -- what found no memory was not refused
  not_refused : (q : Peer) (outcome : Result Put PeerError) → outcome ≡ Err OutOfMemory → Refines outcome p q (put s.scene p c)
      → refusal_of_decoded s (Ok c) ≡ None
  not_refused q outcome is refines =
      let both : IsOk (put s.scene p c) × (q ≡ p) = subst (λ (r : Result Put PeerError). Refines r p q (put s.scene p c)) is refines in
      put_is (λ r why cs. IsOk r → why ≡ None) by both.0
    where
      by : (checked : Result (Unit {0}) CheckFault) (early : Bool) → IsOk (call checked early) → refusal_at checked early ≡ None
      by (Ok done) false ok = refl
      by (Ok done) true ok = absurd (true≢false (sym ok))
      by (Err fault) early ok = absurd (true≢false (sym ok))

-- ---- a frame, which encodes a command, or none

module _ (s : Setting) (p : Peer) (here : p.horizon ≡ s.horizon) where
  abbrev with_decoded : Result Command FrameFault → Peer
  with_decoded d = record p { commands = put_all p.commands (commands_of_decoded s d ++ []) }

  pub frame_taken : (d : Result Command FrameFault) (outcome : Put) (q : Peer) → take s.scene p d ≡ Ok (outcome, q)
      → (refusal_of_decoded s d ≡ None) × (q ≡ with_decoded d)
  frame_taken (Ok c) outcome q same = taken s p c here outcome q same
  frame_taken (Err fault) outcome q same = absurd cc

  pub frame_refused : (d : Result Command FrameFault) (refusal : Refusal) (q : Peer) (outcome : Result Put PeerError) → outcome ≡ Err (Refused refusal)
      → Refines outcome p q (take s.scene p d) → (refusal_of_decoded s d ≡ Some refusal) × (q ≡ with_decoded d)
  frame_refused (Ok c) refusal q outcome is refines = refused s p c here refusal q outcome is refines
  frame_refused (Err fault) refusal q outcome is refines =
      let both : (take s.scene p (Err fault) ≡ Err refusal) × (q ≡ p) = subst (λ (r : Result Put PeerError). Refines r p q (take s.scene p (Err fault))) is refines in
      let why = both.0 in (cc, both.1)

  pub frame_not_refused : (d : Result Command FrameFault) (q : Peer) (outcome : Result Put PeerError) → outcome ≡ Err OutOfMemory
      → Refines outcome p q (take s.scene p d) → refusal_of_decoded s d ≡ None
  frame_not_refused (Ok c) q outcome is refines = not_refused s p c here q outcome is refines
  frame_not_refused (Err fault) q outcome is refines =
      let both : IsOk (take s.scene p (Err fault)) × (q ≡ p) = subst (λ (r : Result Put PeerError). Refines r p q (take s.scene p (Err fault))) is refines in
      absurd (true≢false (sym both.0))

  pub frame_long : (frame : List ℕ) → IsBytes frame → (outcome : Put) (q : Peer) → take s.scene p (decode frame) ≡ Ok (outcome, q) → length frame ≡ FRAME_LEN
  frame_long frame bytes outcome q = of (decode frame) refl
    where
      of : (decoded : Result Command FrameFault) → decode frame ≡ decoded → take s.scene p decoded ≡ Ok (outcome, q) → length frame ≡ FRAME_LEN
      of (Ok c) is same = (decoded_encodes frame c bytes is).long
      of (Err fault) is same = absurd cc

-- the command of a frame is in the ranges of its types
frame_fits : (frame : List ℕ) (c : Command) → IsBytes frame → decode frame ≡ Ok c → IsCommand c
frame_fits frame c bytes is =
    let encodes = decoded_encodes frame c bytes is in record { name = encodes.framed.name; payload = encodes.framed.payload }

pub frame_ranges : (s : Setting) (frame : List ℕ) → IsBytes frame → All IsCommand (commands_of_decoded s (decode frame) ++ [])
frame_ranges s frame bytes = of (decode frame) refl
  where
    none : All IsCommand []
    none i d low = absurd (omega (arith, low))

    one : (c : Command) → IsCommand c → All IsCommand (c ∷ [])
    one c fits zero d low = fits
    one c fits (suc i) d low = absurd (omega (arith, low))

    if_late : (c : Command) → IsCommand c → (early : Bool) → All IsCommand ((if early then [] else c ∷ []) ++ [])
    if_late c fits true = none
    if_late c fits false = one c fits

    by : (c : Command) → IsCommand c → (checked : Result (Unit {0}) CheckFault) → All IsCommand (allowed_commands checked s.horizon c ++ [])
    by c fits (Ok done) = if_late c fits (nat_lt c.name.tick s.horizon)
    by c fits (Err fault) = none

    of : (decoded : Result Command FrameFault) → decode frame ≡ decoded → All IsCommand (commands_of_decoded s decoded ++ [])
    of (Ok c) is = by c (frame_fits frame c bytes is) (check s.scene c.name c.payload)
    of (Err fault) is = none
