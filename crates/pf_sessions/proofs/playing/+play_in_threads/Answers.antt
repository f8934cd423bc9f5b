use Rattle.std.proofs.Common.{◌≡◌, ◌∙◌, ◌++◌, ◌∷◌, [], Err, Global, Vec, ap, refl, subst, sym}
use Rattle.std.proofs.lemmas.List.{map-append}
use Rattle.std.proofs.lemmas.Result.{err_from_is_err_and}
use Rattle.std.specs.Prelude.{IfErr}
use Rattle.pf_scripts.specs.declared.turn.Turn.{Turn}
use Rattle.pf_sessions.specs.Playing.{IsPlayersError}
use Rattle.pf_sessions.specs.Session.{turns_of}
use Rattle.pf_sessions.proofs.Faults.{all_played, last_fault, lesser_fault}
use Rattle.pf_sessions.proofs.playing.+play_in_threads.Goals as goal

pub returns-in_err-all-clause-fault : goal.returns-in_err-all-clause-fault
returns-in_err-all-clause-fault g t c =
    let always = g.G.Gate.ALWAYS in
    let crew = c.args.crew in
    let scripts = turns_of c.args.scripts.now in
    let others = c.in-Some.others.now in
    let script = c.in-Some.script.now in
    let peers = c.args.peers.items in
    let split : scripts ≡ turns_of others ++ script.items ∷ [] =
    ap turns_of c.in-Some.ensures.cases.0 ∙ map-append (λ (v : Vec Turn Global). v.items) others (script ∷ []) in
    let error = err_from_is_err_and c.from_residual.result c.from_residual.ensures.1 in
    let fault = c.in_err-all.field-0.0 in
    let outcome : c.from_residual.result ≡ Err fault = rw (error.1, error.2) refl in
    subst (λ r. IfErr r (IsPlayersError always crew scripts peers)) (sym outcome)
    (lesser_fault always crew (turns_of others) c.pop.new.self.items script.items c.in-Some-pop.peer scripts peers split c.in-Some-pop.ensures.items fault c.in_err-all.ensures.fault)

pub returns-in_err-last-clause-fault : goal.returns-in_err-last-clause-fault
returns-in_err-last-clause-fault g t c =
    let always = g.G.Gate.ALWAYS in
    let crew = c.args.crew in
    let scripts = turns_of c.args.scripts.now in
    let others = c.in-Some.others.now in
    let script = c.in-Some.script.now in
    let peers = c.args.peers.items in
    let split : scripts ≡ turns_of others ++ script.items ∷ [] =
    ap turns_of c.in-Some.ensures.cases.0 ∙ map-append (λ (v : Vec Turn Global). v.items) others (script ∷ []) in
    let error = err_from_is_err_and c.from_residual-in_err-last.result c.from_residual-in_err-last.ensures.1 in
    let fault = c.in_err-last.field-0.0 in
    let outcome : c.from_residual-in_err-last.result ≡ Err fault = rw (error.1, error.2) refl in
    let promised = rw c.in-Ok.ensures.ok at c.in_err-last.ensures in
    let fails = rw (c.of.ensures, c.of-2.ensures) at promised in
    subst (λ r. IfErr r (IsPlayersError always crew scripts peers)) (sym outcome)
    (last_fault always crew (turns_of others) c.pop.new.self.items script.items c.in-Some-pop.peer scripts peers split c.in-Some-pop.ensures.items fault c.in_ok-all.all.items
    c.in_ok-all.ensures.played fails)

pub returns-in-Ok-push-clause-played : goal.returns-in-Ok-push-clause-played
returns-in-Ok-push-clause-played g t c =
    let scripts = turns_of c.args.scripts.now in
    let others = c.in-Some.others.now in
    let script = c.in-Some.script.now in
    let split : scripts ≡ turns_of others ++ script.items ∷ [] =
    ap turns_of c.in-Some.ensures.cases.0 ∙ map-append (λ (v : Vec Turn Global). v.items) others (script ∷ []) in
    let promised = rw c.in-Ok.ensures.ok at c.in_ok-last.ensures in
    let done = rw (c.of.ensures, c.of-2.ensures) at promised in
    all_played g.G.Gate.ALWAYS c.args.crew (turns_of others) c.pop.new.self.items script.items c.in-Some-pop.peer scripts c.args.peers.items split c.in-Some-pop.ensures.items
    c.in_ok-all.all.items c.push.new.self.items c.in_ok-last.last c.in_ok-all.ensures.played done c.in-Ok-push.ensures.items
