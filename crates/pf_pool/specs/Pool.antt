-- What a contract sees of a pool, and with which errors it fails.
use Rattle.std.specs.Prelude.{◌≡◌, ℕ, ◌+◌, ◌<◌, ◌≤◌, ⊤, Bool, true, List, All, IsSome, Option, Some, None, length, slice_index_or}
use Rattle.pf_pool.specs.declared.error.PoolError.{PoolError}
use Rattle.pf_pool.specs.declared.error.PoolError.TheVariants.{OutOfMemory, NoThread, WorkerLost}

-- an error with which a pool may fail to start
abbrev pub IsStartError : PoolError → Type 0
IsStartError OutOfMemory = ⊤
IsStartError NoThread = ⊤
IsStartError WorkerLost = ⊥

-- an error with which the workers may fail to do their parts
abbrev pub IsRunError : PoolError → Type 0
IsRunError OutOfMemory = ⊤
IsRunError NoThread = ⊥
IsRunError WorkerLost = ⊤

-- no worker was dismissed
abbrev pub HasAllWorkers : List Bool → Type 0
HasAllWorkers workers = All (λ there. there ≡ true) workers

-- from worker `least` on, at place w stands what worker w makes of the part that stood there
abbrev pub AreDoneFrom : {P : Type 0}
    → (P → P → Type 0) → ℕ → List (Option P) → List (Option P) → Type 0
AreDoneFrom {P} IsDone least before after =
    (length after ≡ length before)
    × ((w : ℕ) → least ≤ w → w < length after → IsSome (slice_index_or after w None))
    × ((w : ℕ) (part done : P) → least ≤ w → slice_index_or before w None ≡ Some part
    → slice_index_or after w None ≡ Some done → IsDone part done)

-- the same at all places
abbrev pub AreDone : {P : Type 0} → (P → P → Type 0) → List (Option P) → List (Option P) → Type 0
AreDone IsDone before after = AreDoneFrom IsDone 0 before after

-- from some worker on the parts are done, the one before these may be lost, and those before it are
-- as they were
abbrev pub ArePartlyDone : {P : Type 0}
    → (P → P → Type 0) → List (Option P) → List (Option P) → Type 0
ArePartlyDone IsDone before after =
    (least : ℕ) × AreDoneFrom IsDone least before after
    × ((w : ℕ) → w + 1 < least → slice_index_or after w None ≡ slice_index_or before w None)
