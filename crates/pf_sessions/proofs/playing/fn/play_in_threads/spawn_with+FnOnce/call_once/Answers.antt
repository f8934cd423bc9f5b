use Rattle.pf_sessions.proofs.playing.fn.play_in_threads.spawn_with+FnOnce.call_once.Goals as goal

pub spawn_with-requires : goal.spawn_with-requires
spawn_with-requires g c =
    let bounds = c.requires.1.1 in
    let sent = bounds.1.1 in
    (bounds.0, (sent.0, (sent.1, (sent.2, bounds.1.0))))
