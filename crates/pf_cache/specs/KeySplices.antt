-- How the keys of contact points change from one tick to the next: runs of keys stay, and between
-- them keys are dropped and others come in their place.
use Rattle.std.specs.Prelude.{◌≡◌, ◌≤◌, ℕ, ◌+◌, List, [], ◌∷◌, ◌++◌, drop, length, sum_by, take}
use Rattle.pf_manifold.specs.Key.{Key}
use Rattle.pf_cache.specs.declared.key_splices.KeySplice.{KeySplice}

-- splices of a list of keys, in its order, and the keys that all of them add
pub record KeySplices : Type 0 where
  pub splices : List KeySplice
  pub added : List Key

-- no splice: all keys stay
abbrev pub no_splices : KeySplices
no_splices = record { splices = []; added = [] }

-- keys after these splices: each keeps its `kept` keys, drops the next `dropped`, and puts in their
-- place as many as it adds, the next ones of the list `added`
unfoldable pub keys_after : List KeySplice → List Key → List Key → List Key
keys_after [] added keys = keys
keys_after (e ∷ splices) added keys =
    take e.kept keys ++ (take e.added added
    ++ keys_after splices (drop e.added added) (drop (e.kept + e.dropped) keys))

-- keys after splices
abbrev pub spliced_keys : KeySplices → List Key → List Key
spliced_keys e keys = keys_after e.splices e.added keys

-- how many keys stand from the first one to the end of the last splice
abbrev pub spanned_count : List KeySplice → ℕ
spanned_count splices = sum_by (λ e. e.kept + e.dropped) splices

-- splices of a list of `count` keys
pub record AreSplicesOf (e : KeySplices) (count : ℕ) : Type 0 where
  pub within : spanned_count e.splices ≤ count
  pub added : sum_by (λ x. x.added) e.splices ≡ length e.added

-- splices that make `after` of the keys `before`
abbrev pub AreSplicesBetween : KeySplices → List Key → List Key → Type 0
AreSplicesBetween e before after = AreSplicesOf e (length before) × (spliced_keys e before ≡ after)

-- the same, where `kept` keys stay after the last splice
abbrev pub AreSplicesUpTo : KeySplices → ℕ → List Key → List Key → Type 0
AreSplicesUpTo e kept before after =
    AreSplicesBetween e before after × (spanned_count e.splices + kept ≡ length before)
