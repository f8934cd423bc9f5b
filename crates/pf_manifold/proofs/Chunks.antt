-- A list of pairs in chunks.
use Rattle.std.proofs.Common.{◌≡◌, ℕ, zero, suc, ◌+◌, ◌<◌, List, [], ◌∷◌, ◌++◌, length, map, take, get_or, refl, sym, ap, ap₂, ◌∙◌}
use Rattle.std.specs.List.{AllZip, flat_map}
use Rattle.std.specs.Prelude.{All, IfOk, MatchResult, Ok, Err, drop}
use Rattle.std.specs.declared.result.Result.{Result}
use Rattle.std.proofs.lemmas.List.{append-nil, take_more}
use Rattle.std.proofs.lemmas.List.Concat.{flat_map-append}
use Rattle.std.proofs.lemmas.List.Elements.{All-cons, All-drop, All-nil, All-take}
use Rattle.rayon.specs.Lists.{chunks_from, chunks_of}
use Rattle.rayon.proofs.ToStd.{chunks_of-concat}

-- what holds of each element holds of each one of each chunk
module _ {X : Type 0} (size : ℕ) (P : X → Type 0) where
  parts_have : (fuel : ℕ) (xs : List X) → All P xs → All (All P) (chunks_from fuel size xs)
  parts_have zero xs all = All-nil (All P)
  parts_have (suc n) [] all = All-nil (All P)
  parts_have (suc n) (x ∷ xs) all =
      All-cons (All P) (take size (x ∷ xs)) (chunks_from n size (drop size (x ∷ xs)))
      (All-take P size (x ∷ xs) all)
      (parts_have n (drop size (x ∷ xs)) (All-drop P size (x ∷ xs) all))

  pub chunks_have : (xs : List X) → All P xs → All (All P) (chunks_of size xs)
  chunks_have xs all = parts_have _ xs all

module _ {X A : Type 0} (f : X → List A) where
  each_part : (parts : List (List X)) → flat_map (λ ys. ys) (map (flat_map f) parts) ≡ flat_map f (flat_map (λ xs. xs) parts)
  each_part [] = refl
  each_part (xs ∷ parts) =
      ap (λ ys. flat_map f xs ++ ys) (each_part parts) ∙ sym (flat_map-append f xs (flat_map (λ ys. ys) parts))

  -- what each chunk gives, chunk by chunk, is what the list gives
  pub chunk_by_chunk : (size : ℕ) (xs : List X) → 0 < size
      → flat_map (λ ys. ys) (map (flat_map f) (chunks_of size xs)) ≡ flat_map f xs
  chunk_by_chunk size xs some = each_part (chunks_of size xs) ∙ ap (flat_map f) (chunks_of-concat size xs some)

-- the elements of one list more
module _ {V A : Type 0} (f : V → List A) where
  mapped : (vs : List V) → flat_map (λ ys. ys) (map f vs) ≡ flat_map f vs
  mapped [] = refl
  mapped (v ∷ vs) = ap (λ ys. f v ++ ys) (mapped vs)

  pub joined_more : (vs : List V) (i : ℕ) (v : V) → i < length vs → v ≡ get_or vs i v
      → flat_map (λ ys. ys) (map f (take i vs)) ++ f v ≡ flat_map (λ ys. ys) (map f (take (i + 1) vs))
  joined_more vs i v within is =
      ap (λ ys. ys ++ f v) (mapped (take i vs))
      ∙ ap (λ ys. flat_map f (take i vs) ++ ys) (ap f is ∙ sym (append-nil (f (get_or vs i v))))
      ∙ sym (mapped (take (i + 1) vs) ∙ ap (flat_map f) (take_more vs i v within)
      ∙ flat_map-append f (take i vs) (get_or vs i v ∷ []))

-- where each chunk gave a list, these are what the chunks give
module _ {X Y V : Type 0} (E : Type 0) (f : X → Y) (view : V → Y) where
  pub each_given : (xs : List X) (vs : List V) → AllZip (λ x (r : Result V E). IfOk r (λ v. view v ≡ f x)) xs (map Ok vs)
      → map view vs ≡ map f xs
  each_given [] [] h = refl
  each_given [] (v ∷ vs) h = absurd h
  each_given (x ∷ xs) [] h = absurd h
  each_given (x ∷ xs) (v ∷ vs) h = ap₂ (λ y ys. y ∷ ys) h.0 (each_given xs vs h.1)

-- what follows of a value from what is said of both cases
pub if_given : {T E : Type 0} (r : Result T E) (P Q : T → Type 0) (F : E → Type 0) → MatchResult r P F → ((v : T) → P v → Q v)
    → IfOk r Q
if_given (Ok v) P Q F h f = f v h
if_given (Err e) P Q F h f = tt
