-- The points of all chunks of a list of pairs are those of the list.
use Rattle.std.proofs.Common.{◌≡◌, ◌∙◌, ℕ, zero, suc, ◌+◌, ◌<◌, Bool, List, [], ◌∷◌, ◌++◌, Option, None, Some, Ok, Vec, Global, append-nil, drop, take, length, map, get_or, refl, ap, ap₂, sym, arith}
use Rattle.std.proofs.lemmas.Grind.{flat_map-append}
use Rattle.std.proofs.lemmas.List.{append_assoc, get_or-map, length-map, map-append, take-append-drop, take_more}
use Rattle.std.specs.List.{flat_map}
use Rattle.std.specs.Prelude.{All, IsSome}
use Rattle.pf_shapes.specs.Fixture.{Fixture}
use Rattle.pf_shapes.specs.Body.{BodyState}
use Rattle.pf_shapes.specs.Pair.{Pair}
use Rattle.pf_manifold.specs.Touches.{Touch, touches, touches_of}
use Rattle.pf_pool.specs.Pool.{AreDone}
use Rattle.pf_pool.proofs.Lists.{default_same}
use Rattle.pf_workers.specs.Colliding.{Chunk, chunk, chunk_points}
use Rattle.pf_workers.specs.Work.{ArePointsOf, IsDone}
use Rattle.pf_workers.specs.declared.work.Part.{Part}
use Rattle.pf_workers.specs.declared.work.Part.TheVariants.{Pairs, Found}

-- what a worker is asked: its chunk
abbrev pub part : Chunk → Option Part
part c = Some (Pairs c)

-- each worker is asked something
pub all_asked : (chunks : List Chunk) → All IsSome (map part chunks)
all_asked [] k d low = absurd (omega (arith, low))
all_asked (c ∷ chunks) zero d low = refl
all_asked (c ∷ chunks) (suc k) d low = all_asked chunks k d (omega (arith, low))

pub all_drop : {X : Type 0} (P : X → Type 0) (xs : List X) (k : ℕ) → All P xs → All P (drop k xs)
all_drop P xs zero ps = ps
all_drop P [] (suc k) ps = ps
all_drop P (x ∷ xs) (suc k) ps = all_drop P xs k (λ i d low. ps (suc i) d (omega (arith, low)))

-- one more chunk has its points behind those of the others
more : (chunks : List Chunk) (chunk : Chunk) → flat_map chunk_points (chunks ++ chunk ∷ []) ≡ flat_map chunk_points chunks ++ chunk_points chunk
more chunks chunk =
    flat_map-append chunk_points chunks (chunk ∷ []) ∙ ap (λ l. flat_map chunk_points chunks ++ l) (append-nil (chunk_points chunk))

module _ (fixtures : List Fixture) (bodies : List BodyState) where
  -- these parts are chunks of some pairs, and the rest is not cut yet
  abbrev pub AreCutOff : List (Option Part) → List Pair → List Pair → Type 0
  AreCutOff parts rest all =
      (chunks : List Chunk) × (parts ≡ map part chunks)
      × (flat_map chunk_points chunks ++ touches fixtures bodies rest ≡ touches fixtures bodies all)

  -- a chunk is cut off
  pub cut : (parts after : List (Option Part)) (own others rest all : List Pair) (k : ℕ) → own ≡ take k rest → others ≡ drop k rest
      → after ≡ parts ++ part (chunk fixtures bodies own) ∷ [] → AreCutOff parts rest all → AreCutOff after others all
  cut parts after own others rest all k front back pushed before =
      let chunks = before.0 in
      let next = chunk fixtures bodies own in
      let of = touches fixtures bodies in (
        chunks ++ next ∷ [],
        pushed ∙ ap (λ l. l ++ part next ∷ []) before.1 ∙ sym (map-append part chunks (next ∷ [])),
        ap (λ l. l ++ of others) (more chunks next)
            ∙ append_assoc (flat_map chunk_points chunks) (of own) (of others)
            ∙ ap (λ l. flat_map chunk_points chunks ++ l)
            (sym (flat_map-append (touches_of fixtures bodies) own others)
            ∙ ap of (ap₂ (λ l r. l ++ r) front back ∙ take-append-drop k rest))
            ∙ before.2,
      )

  -- the rest is the last chunk
  pub last : (parts after : List (Option Part)) (rest all : List Pair) → after ≡ parts ++ part (chunk fixtures bodies rest) ∷ []
      → AreCutOff parts rest all → ArePointsOf after (touches fixtures bodies all)
  last parts after rest all pushed before =
      let chunks = before.0 in
      let next = chunk fixtures bodies rest in (
        chunks ++ next ∷ [],
        pushed ∙ ap (λ l. l ++ part next ∷ []) before.1 ∙ sym (map-append part chunks (next ∷ [])),
        more chunks next ∙ before.2,
      )

module _ (always : Bool) (chunks : List Chunk) (found : List (Option Part)) (of : AreDone (IsDone always) (map part chunks) found) where
  pub count : length found ≡ length chunks
  count = of.0 ∙ length-map chunks part

  -- the points of one more chunk are joined to those of the others
  pub joined_more : (n : ℕ) (all : List Touch) (points : Vec Touch Global) (none : Option Part) → n < length found
      → get_or found n none ≡ Some (Found (Ok points)) → all ≡ flat_map chunk_points (take n chunks)
      → all ++ points.items ≡ flat_map chunk_points (take (n + 1) chunks)
  joined_more n all points none low is before =
      let within : n < length chunks = omega (arith, low, count) in
      let nobody = chunk [] [] [] in
      let own : points.items ≡ chunk_points (get_or chunks n nobody) =
      of.2 n (Pairs (get_or chunks n nobody)) (Found (Ok points)) (omega arith) (get_or-map part chunks n nobody None within)
      (default_same found n None none low ∙ is) in
      ap (λ l. l ++ points.items) before ∙ ap (λ l. flat_map chunk_points (take n chunks) ++ l) own
      ∙ sym (more (take n chunks) (get_or chunks n nobody)) ∙ ap (flat_map chunk_points) (sym (take_more chunks n nobody within))
