use Rattle.std.proofs.Common.{rules, ◌≡◌, ◌∙◌, Err, Global, Vec, length, refl, subst, sym}
use Rattle.std.proofs.lemmas.List.{length-map}
use Rattle.std.proofs.lemmas.List.FromFn.{length-range_with_len}
use Rattle.std.proofs.lemmas.Result.{err_from_is_err_and}
use Rattle.std.specs.List.{range_with_len}
use Rattle.std.specs.Prelude.{IfErr}
use Rattle.pf_scripts.specs.declared.turn.Turn.{Turn}
use Rattle.pf_sessions.specs.Playing.{IsNewPeer}
use Rattle.pf_sessions.specs.Session.{IsSessionError, turns_of}
use Rattle.pf_sessions.proofs.Faults.{no_session_fault, session_fault_of}
use Rattle.pf_sessions.proofs.Linked.{linked_on}
use Rattle.pf_sessions.proofs.Results.{all_sent, of_all}
use Rattle.pf_sessions.proofs.Zips.{zip_long}
use Rattle.pf_sessions.proofs.session.run_session.Goals as goal

pub play_all-requires-clause-peers : goal.play_all-requires-clause-peers
play_all-requires-clause-peers g c κs within =
    let count = length c.args.scripts.now in
    sym (zip_long (IsNewPeer c.args.scene.now) (range_with_len 0 count) c.in_ok-peers.peers.items c.in_ok-peers.ensures.peers.each) ∙ length-range_with_len 0 count

pub returns-in_err-played-clause-fault : goal.returns-in_err-played-clause-fault
returns-in_err-played-clause-fault g c =
    let always = g.G.Gate.ALWAYS in
    let scene = c.args.scene.now in
    let scripts = turns_of c.args.scripts.now in
    let count = length c.args.scripts.now in
    let many : count ≡ length scripts = sym (length-map c.args.scripts.now (λ (v : Vec Turn Global). v.items)) in
    let error = err_from_is_err_and c.from_residual-in_err-played.result c.from_residual-in_err-played.ensures.1 in
    let fault = c.in_err-played.field-0.0 in
    let outcome : c.from_residual-in_err-played.result ≡ Err fault = rw (error.1, error.2) refl in
    subst (λ r. IfErr r (IsSessionError always c.args.crew scene scripts)) (sym outcome)
    (session_fault_of always c.args.crew scene count scripts c.in_ok-peers.peers.items c.in_ok-peers.ensures.peers.each many fault c.in_err-played.ensures.fault)

pub end_session-requires : goal.end_session-requires
end_session-requires g c = (
  search rules,
  linked_on (turns_of c.args.scripts.now) c.in_ok-peers.peers.items c.in_ok-played.played.items c.in_ok-peers.ensures.peers.links c.in_ok-played.ensures.played,
)

pub returns-clause-no_fault : goal.returns-clause-no_fault
returns-clause-no_fault g c =
    let scripts = turns_of c.args.scripts.now in
    let count = length c.args.scripts.now in
    let many : count ≡ length scripts = sym (length-map c.args.scripts.now (λ (v : Vec Turn Global). v.items)) in
    no_session_fault g.G.Gate.ALWAYS c.args.crew c.args.scene.now count scripts c.in_ok-peers.peers.items c.in_ok-peers.ensures.peers.each many c.in_ok-played.played.items
    c.in_ok-played.ensures.played

pub returns-clause-results : goal.returns-clause-results
returns-clause-results g c =
    (of_all c.args.scene.now (length c.args.scripts.now) (turns_of c.args.scripts.now) c.in_ok-peers.peers.items c.in_ok-played.played.items c.in_ok-end_session.field-0.items
    c.in_ok-peers.ensures.peers c.in_ok-played.ensures.played c.in_ok-end_session.ensures).0

pub returns-clause-ended : goal.returns-clause-ended
returns-clause-ended g c =
    (of_all c.args.scene.now (length c.args.scripts.now) (turns_of c.args.scripts.now) c.in_ok-peers.peers.items c.in_ok-played.played.items c.in_ok-end_session.field-0.items
    c.in_ok-peers.ensures.peers c.in_ok-played.ensures.played c.in_ok-end_session.ensures).1

pub returns-clause-sent : goal.returns-clause-sent
returns-clause-sent g c =
    all_sent c.args.scene.now (length c.args.scripts.now) (turns_of c.args.scripts.now) c.in_ok-peers.peers.items c.in_ok-played.played.items c.in_ok-end_session.field-0.items
    c.in_ok-peers.ensures.peers c.in_ok-played.ensures.played c.in_ok-end_session.ensures
