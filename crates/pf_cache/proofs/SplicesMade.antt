-- Splices of keys are made one after the other.
use Rattle.std.proofs.Common.{◌≡◌, ◌≤◌, ℕ, ◌+◌, Option, Some, None, List, [], ◌∷◌, ◌++◌, length, map, take, drop, ap, ap₂, sym, ◌∙◌, refl, arith, append-nil}
use Rattle.std.proofs.lemmas.List.{append_assoc, drop-append-le, length-append, length-drop, map-append, take-append-le}
use Rattle.std.proofs.lemmas.List.Concat.{flat_map-append}
use Rattle.std.proofs.lemmas.List.Sums.{sum_by-append, sum_by-cons}
use Rattle.std.proofs.Math.Seq.{drop-append_seam, take-append_seam}
use Rattle.std.specs.List.{flat_map}
use Rattle.std.specs.Prelude.{sum_by}
use Rattle.pf_shapes.specs.Pair.{Pair}
use Rattle.pf_manifold.specs.ContactPoint.{ContactPoint}
use Rattle.pf_manifold.specs.declared.manifold.Manifold.{Manifold}
use Rattle.pf_manifold.specs.Key.{Key, key_of}
use Rattle.pf_manifold.specs.Touches.{touch_of}
use Rattle.pf_cache.specs.declared.key_splices.KeySplice.{KeySplice}
use Rattle.pf_cache.specs.KeySplices.{AreSplicesBetween, AreSplicesUpTo, KeySplices, keys_after, no_splices, spanned_count}
use Rattle.pf_cache.specs.Slots.{Slot, manifold_touches, points_or_none, slot_touches}

-- the keys of slots
abbrev pub keys_of : List Slot → List Key
keys_of slots = map key_of (flat_map slot_touches slots)

pub keys-append : (front rest : List Slot) → keys_of (front ++ rest) ≡ keys_of front ++ keys_of rest
keys-append front rest =
    ap (map key_of) (flat_map-append slot_touches front rest) ∙ map-append key_of (flat_map slot_touches front) (flat_map slot_touches rest)

pub keys_more : (front : List Slot) (s : Slot) → keys_of (front ++ s ∷ []) ≡ keys_of front ++ map key_of (slot_touches s)
keys_more front s = keys-append front (s ∷ []) ∙ ap (λ l. keys_of front ++ map key_of l) (append-nil (slot_touches s))

-- contact points with the same features have the same keys
keys_by_features : (p : Pair) (points : List ContactPoint)
    → map key_of (map (touch_of p) points) ≡ map (λ f. record { a = p.a; b = p.b; feature = f }) (map (λ (c : ContactPoint). c.feature) points)
keys_by_features p [] = refl
keys_by_features p (c ∷ points) = ap (λ l. record { a = p.a; b = p.b; feature = c.feature } ∷ l) (keys_by_features p points)

pub touches_of : (p : Pair) (o : Option Manifold) → slot_touches (record { pair = p; touches = manifold_touches p o }) ≡ map (touch_of p) (points_or_none o)
touches_of p None = refl
touches_of p (Some m) = refl

pub same_keys : (p : Pair) (o m : Option Manifold) → map (λ (c : ContactPoint). c.feature) (points_or_none o) ≡ map (λ (c : ContactPoint). c.feature) (points_or_none m)
    → map key_of (slot_touches (record { pair = p; touches = manifold_touches p o })) ≡ map key_of (slot_touches (record { pair = p; touches = manifold_touches p m }))
same_keys p o m same =
    ap (map key_of) (touches_of p o) ∙ keys_by_features p (points_or_none o) ∙ ap (map (λ f. record { a = p.a; b = p.b; feature = f })) same
    ∙ sym (ap (map key_of) (touches_of p m) ∙ keys_by_features p (points_or_none m))

-- keys behind the last splice stay
behind : (splices : List KeySplice) (added keys more : List Key) → spanned_count splices ≤ length keys
    → keys_after splices added (keys ++ more) ≡ keys_after splices added keys ++ more
unfolding keys_after
behind [] added keys more within = refl
behind (e ∷ splices) added keys more within =
    let long = length-drop (e.kept + e.dropped) keys in
    let all = sum_by-cons (λ (x : KeySplice). x.kept + x.dropped) e splices in
    let later = behind splices (drop e.added added) (drop (e.kept + e.dropped) keys) more (omega (arith, within, all, long)) in
    (λ k. take-append-le e.kept keys more (omega (arith, within, all)) k
    ++ (take e.added added ++ keys_after splices (drop e.added added) (drop-append-le (e.kept + e.dropped) keys more (omega (arith, within, all)) k)))
    ∙ ap (λ l. take e.kept keys ++ (take e.added added ++ l)) later
    ∙ ap (λ l. take e.kept keys ++ l) (sym (append_assoc (take e.added added) (keys_after splices (drop e.added added) (drop (e.kept + e.dropped) keys)) more))
    ∙ sym (append_assoc (take e.kept keys) (take e.added added ++ keys_after splices (drop e.added added) (drop (e.kept + e.dropped) keys)) more)

-- one splice more, where `kept` keys stand behind the last one
one_more : (splices : List KeySplice) (added keys : List Key) (kept : ℕ) (old new : List Key)
    → spanned_count splices + kept ≡ length keys → sum_by (λ (x : KeySplice). x.added) splices ≡ length added
    → keys_after (splices ++ record { kept = kept; dropped = length old; added = length new } ∷ []) (added ++ new) (keys ++ old)
    ≡ keys_after splices added keys ++ new
unfolding keys_after
one_more [] added keys kept old new count sum =
    let none : added ≡ [] = nil added sum in
    let whole : kept ≡ length keys = omega (arith, count) in
    let end : kept + length old ≡ length (keys ++ old) = let long = length-append keys old in omega (arith, whole, long) in
    (λ k. take (whole k) (keys ++ old) ++ (take (length new) (none k ++ new) ++ drop (end k) (keys ++ old)))
    ∙ ap₂ (λ xs ys. xs ++ ys) (take-append_seam keys old)
    (ap₂ (λ xs ys. xs ++ ys) (ap (take (length new)) (sym (append-nil new)) ∙ take-append_seam new [])
    (ap (drop (length (keys ++ old))) (sym (append-nil (keys ++ old))) ∙ drop-append_seam (keys ++ old) []))
    ∙ ap (λ l. keys ++ l) (append-nil new)
  where
    nil : (xs : List Key) → 0 ≡ length xs → xs ≡ []
    nil [] e = refl
    nil (x ∷ xs) e = absurd (omega (arith, e))
one_more (e ∷ splices) added keys kept old new count sum =
    let long = length-drop (e.kept + e.dropped) keys in
    let many = length-drop e.added added in
    let spanned = sum_by-cons (λ (x : KeySplice). x.kept + x.dropped) e splices in
    let all = sum_by-cons (λ (x : KeySplice). x.added) e splices in
    let later = one_more splices (drop e.added added) (drop (e.kept + e.dropped) keys) kept old new (omega (arith, count, spanned, long)) (omega (arith, sum, all, many)) in
    let rest = splices ++ record { kept = kept; dropped = length old; added = length new } ∷ [] in
    let after = keys_after splices (drop e.added added) (drop (e.kept + e.dropped) keys) in
    (λ k. take-append-le e.kept keys old (omega (arith, count, spanned)) k
    ++ (take-append-le e.added added new (omega (arith, sum, all)) k
    ++ keys_after rest (drop-append-le e.added added new (omega (arith, sum, all)) k)
    (drop-append-le (e.kept + e.dropped) keys old (omega (arith, count, spanned)) k)))
    ∙ ap (λ l. take e.kept keys ++ (take e.added added ++ l)) later
    ∙ ap (λ l. take e.kept keys ++ l) (sym (append_assoc (take e.added added) after new))
    ∙ sym (append_assoc (take e.kept keys) (take e.added added ++ after) new)

-- no splice
pub no_splices_so_far : AreSplicesUpTo no_splices 0 [] []
unfolding keys_after
no_splices_so_far = ((record { within = omega arith; added = refl }, refl), refl)

-- they leave all keys
pub no_splices_between : (keys : List Key) → AreSplicesBetween no_splices keys keys
unfolding keys_after
no_splices_between keys = (record { within = omega arith; added = refl }, refl)

-- where keys stay
pub splices_stay : (e : KeySplices) (kept n : ℕ) (before after more : List Key) → AreSplicesUpTo e kept before after → n ≡ length more
    → AreSplicesUpTo e (kept + n) (before ++ more) (after ++ more)
splices_stay e kept n before after more are n_is =
    let within = are.0.0.within in
    let count = are.1 in
    let long = length-append before more in (
      (
        record { within = omega (arith, within, long); added = are.0.0.added },
        behind e.splices e.added before more within ∙ ap (λ l. l ++ more) are.0.1,
      ),
      omega (arith, count, long, n_is),
    )

-- where keys are spliced
pub splices_more : (e : KeySplices) (kept : ℕ) (before after old new : List Key) → AreSplicesUpTo e kept before after
    → AreSplicesUpTo (record { splices = e.splices ++ record { kept = kept; dropped = length old; added = length new } ∷ []; added = e.added ++ new })
    0 (before ++ old) (after ++ new)
splices_more e kept before after old new are =
    let splice : KeySplice = record { kept = kept; dropped = length old; added = length new } in
    let count = are.1 in
    let sum = are.0.0.added in
    let long = length-append before old in
    let many = length-append e.added new in
    let spanned = sum_by-append (λ (x : KeySplice). x.kept + x.dropped) e.splices (splice ∷ []) in
    let all = sum_by-append (λ (x : KeySplice). x.added) e.splices (splice ∷ []) in (
      (
        record { within = omega (arith, count, long, spanned); added = omega (arith, sum, many, all) },
        one_more e.splices e.added before kept old new count sum ∙ ap (λ l. l ++ new) are.0.1,
      ),
      omega (arith, count, long, spanned),
    )
