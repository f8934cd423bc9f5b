-- Lists that are written to the front of a buffer.
use Rattle.std.proofs.Common.{◌≡◌, ◌+◌, ◌<◌, ◌++◌, ◌∷◌, [], ℕ, suc, List, add-one, ap, sym, ◌∙◌, arith, append_assoc, length, map, take, drop, drop-cons, set, get_or}
use Rattle.std.proofs.lemmas.List.{length-map, length-take-le, map_more, set_at}

module _ {B : Type 0} where
  -- one item more is written behind those at the front
  pub front_more : (front buffer : List B) (item : B) (n : ℕ) → length front ≡ n → n < length buffer → set (front ++ drop n buffer) n item ≡ (front ++ item ∷ []) ++ drop (n + 1) buffer
  front_more front buffer item n long room =
      let behind : List B = drop (suc n) buffer in
      let joined : (front ++ item ∷ []) ++ behind ≡ front ++ item ∷ behind = append_assoc front (item ∷ []) behind in
      ap (λ (rest : List B). set (front ++ rest) n item) (drop-cons buffer n item room)
      ∙ set_at front (get_or buffer n item) behind item n long
      ∙ sym joined
      ∙ ap (λ (k : ℕ). (front ++ item ∷ []) ++ drop k buffer) (sym (add-one n))

module _ {A B : Type 0} (f : A → B) where
  -- the first items of a list, each as f shows it, and what was behind them in a buffer
  abbrev pub written : List A → List B → ℕ → List B
  written items buffer n = map f (take n items) ++ drop n buffer

  -- one item more is written
  pub written_more : (items : List A) (buffer : List B) (n : ℕ) (d : A) → n < length items → n < length buffer → set (written items buffer n) n (f (get_or items n d)) ≡ written items buffer (n + 1)
  written_more items buffer n d within room =
      let front = map f (take n items) in
      let long : length front ≡ n = length-map (take n items) f ∙ length-take-le n items (omega arith) in
      front_more front buffer (f (get_or items n d)) n long room
      ∙ ap (λ (xs : List B). xs ++ drop (n + 1) buffer) (sym (map_more f items n d within))
