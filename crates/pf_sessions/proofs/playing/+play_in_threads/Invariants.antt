use Rattle.std.proofs.Common.{length}
use Rattle.pf_sessions.proofs.playing.+play_in_threads.Given as goal

abbrev pub decreases-play_in_threads : goal.decreases-play_in_threads
decreases-play_in_threads g l = length l.scripts.now
