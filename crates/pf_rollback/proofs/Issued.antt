-- What a peer issues is encoded by the frame that it returns, and taken by every peer of its scene whose
-- horizon is not after it.
use Rattle.std.proofs.Common.{◌≡◌, ℕ, ◌<◌, ◌≤◌, Bool, true, false, List, Option, Some, None, Result, Ok, Err, refl, ap, sym, ◌∙◌, arith, nat_le, nat_lt, if◌then◌else◌}
use Rattle.std.specs.Prelude.{IsOk, slice_get}
use Rattle.std.specs.FinMap.{get}
use Rattle.std.proofs.lemmas.Bool.Decides.{nat_tests}
use Rattle.std.proofs.lemmas.Option.{slice_get_within}
use Rattle.pf_shapes.specs.Fixture.{Fixture}
use Rattle.pf_shapes.specs.Scene.{Scene, IsScene}
use Rattle.pf_commands.specs.declared.checking.CheckFault.{CheckFault}
use Rattle.pf_commands.specs.declared.name.TheConstants.{MAX_TICK, NUMBERS}
use Rattle.pf_commands.specs.declared.payload.Command.{Command}
use Rattle.pf_commands.specs.declared.payload.Payload.{Payload}
use Rattle.pf_commands.specs.Check.{check, allowed}
use Rattle.pf_commands.specs.Frame.{IsFrameable, encoding, decode}
use Rattle.pf_commands.specs.News.{put_outcome}
use Rattle.pf_commands.specs.Payload.{IsPayload, body_of}
use Rattle.pf_commands.proofs.Frames.{encoded_decodes}
use Rattle.pf_commands.proofs.Encoding.{encoding_encodes}
use Rattle.pf_rollback.specs.declared.error.Refusal.TheVariants.{TickLimit, NumbersSpent, TooOld}
use Rattle.pf_rollback.specs.Peer.{Peer, IsPeer, if_allowed, next_number, next_command, with_command, with_frame, put, take, issue}

-- what holds where a command was issued
record IsIssued (s : Scene) (p : Peer) (payload : Payload) (frame : List ℕ) : Type 0 where
  tick : p.reached < MAX_TICK
  number : next_number p.commands p.reached p.player < NUMBERS
  checked : check s (next_command p payload).name payload ≡ Ok tt
  encoded : encoding (next_command p payload) ≡ frame

is_issued : (s : Scene) (p after : Peer) (payload : Payload) (frame : List ℕ)
    → issue s p payload ≡ Ok (frame, after) → IsIssued s p payload frame
unfolding issue put
is_issued s p after payload frame e =
    let c = next_command p payload in
    by (nat_le MAX_TICK p.reached) refl (nat_le NUMBERS (next_number p.commands p.reached p.player)) refl (check s c.name payload) refl (nat_lt p.reached p.horizon) e
  where
    by : (t : Bool) → nat_le MAX_TICK p.reached ≡ t → (n : Bool) → nat_le NUMBERS (next_number p.commands p.reached p.player) ≡ n
        → (r : Result (Unit {0}) CheckFault) → check s (next_command p payload).name payload ≡ r → (old : Bool)
        → (if t then Err TickLimit else (if n then Err NumbersSpent else with_frame (next_command p payload)
        (if_allowed r (if old then Err (TooOld p.horizon)
        else Ok (put_outcome (get p.commands (next_command p payload).name) payload, with_command p (next_command p payload)))))) ≡ Ok (frame, after)
        → IsIssued s p payload frame
    by true t n u r checked old e = absurd cc
    by false t true u r checked old e = absurd cc
    by false t false u (Err fault) checked old e = absurd cc
    by false t false u (Ok done) checked true e = absurd cc
    by false t false u (Ok done) checked false e =
        let c = next_command p payload in
        let same : ◌≡◌ {A = List ℕ × Peer} (encoding c, with_command p c) (frame, after) = cc in
        record {
          tick = grind (arith, nat_tests);
          number = grind (arith, nat_tests);
          checked = checked;
          encoded = ap (λ (answer : List ℕ × Peer). answer.0) same;
        }

-- a body that a scene allows is one of its bodies
allowed_body : (s : Scene) (player i : ℕ) → allowed player (slice_get s.fixtures i) ≡ Ok tt → IsScene s → i < 1024
allowed_body s player i e h = by (slice_get s.fixtures i) refl e
  where
    by : (fixture : Option Fixture) → slice_get s.fixtures i ≡ fixture → allowed player fixture ≡ Ok tt → i < 1024
    by None is e = absurd cc
    by (Some f) is e = omega (arith, slice_get_within s.fixtures i f is, h.few)

pub issued_decodes : (s : Scene) (p after : Peer) (payload : Payload) (frame : List ℕ)
    → IsScene s → IsPeer p → IsPayload payload
    → issue s p payload ≡ Ok (frame, after) → decode frame ≡ Ok (next_command p payload)
issued_decodes s p after payload frame scene peer fits e =
    let issued = is_issued s p after payload frame e in
    let c = next_command p payload in
    let frameable : IsFrameable c = record {
      name = record { tick = issued.tick; player = peer.player; number = issued.number };
      payload = fits;
      body = omega (arith, allowed_body s p.player (body_of payload) issued.checked scene);
    } in
    ap decode (sym issued.encoded) ∙ encoded_decodes (encoding c) c (encoding_encodes c frameable)

-- a command that the scene allows, and that is not before the horizon, is put
put_is_ok : (s : Scene) (q : Peer) (c : Command) → check s c.name c.payload ≡ Ok tt → q.horizon ≤ c.name.tick → IsOk (put s q c)
unfolding put
put_is_ok s q c checked late = let test : nat_lt c.name.tick q.horizon ≡ false = grind (arith, nat_tests) in rw (checked, test) refl

pub issued_taken : (s : Scene) (p after q : Peer) (payload : Payload) (frame : List ℕ)
    → issue s p payload ≡ Ok (frame, after) → q.horizon ≤ p.reached → IsOk (take s q (Ok (next_command p payload)))
issued_taken s p after q payload frame e late =
    let issued = is_issued s p after payload frame e in
    put_is_ok s q (next_command p payload) issued.checked late
