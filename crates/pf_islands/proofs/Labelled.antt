-- Changes of bodies that each have the label of a group.
use Rattle.std.proofs.Common.{◌≡◌, ◌∙◌, ℕ, ◌+◌, ◌<◌, ◌≤◌, Bool, false, List, [], ◌∷◌, ◌++◌, length, map, take, drop, get_or, set, length-take, append_assoc, append-nil, take_all, refl, sym, ap, ap₂, arith}
use Rattle.std.proofs.lemmas.List.{drop_all, drop_more, get_or_at, length-map, map_more, set_at}
use Rattle.std.proofs.lemmas.List.Elements.{All-head, All-tail}
use Rattle.std.proofs.lemmas.List.FromFn.{get_or-map-range_with_len}
use Rattle.std.proofs.lemmas.Slice.Zip.{get_or-zip, length-zip}
use Rattle.std.specs.List.{range_with_len, zip}
use Rattle.std.specs.Prelude.{All}
use Rattle.pf_shapes.specs.Body.{BodyState}
use Rattle.pf_islands.specs.Marks.{each_labelled, marked_body}
use Rattle.pf_islands.specs.Sleep.{is_active, woken_bodies}

-- the first i bodies are changed, each by its label
module _ {X : Type 0} (change : ℕ × X → X) (labels : List ℕ) (bodies now : List X) (i : ℕ)
    (paired : length bodies ≡ length labels)
    (now_is : now ≡ map change (take i (zip labels bodies)) ++ drop i bodies) where
  abbrev front : List X
  front = map change (take i (zip labels bodies))

  -- each body has a label
  zip_long : length (zip labels bodies) ≡ length bodies
  zip_long = length-zip labels bodies ∙ omega (arith, paired)

  -- there is a next body
  module _ (within : i < length bodies) where
    -- as many bodies stand in front
    front_long : length front ≡ i
    front_long =
        length-map (take i (zip labels bodies)) change ∙ length-take i (zip labels bodies)
        ∙ omega (arith, zip_long, within)

    -- what stands in front of the next body, that body, and what stands behind
    parts : (d : X) → now ≡ front ++ get_or bodies i d ∷ drop (i + 1) bodies
    parts d = now_is ∙ ap (λ rest. front ++ rest) (drop_more bodies i d within)

    -- the next body is still as it was
    pub body_is : (d : X) → get_or now i d ≡ get_or bodies i d
    body_is d = ap (λ rest. get_or rest i d) (parts d) ∙ get_or_at front _ _ d i front_long

    -- its change leads to one body more
    pub changed_more : (d after : X) → after ≡ change (get_or labels i 0, get_or bodies i d)
        → set now i after ≡ map change (take (i + 1) (zip labels bodies)) ++ drop (i + 1) bodies
    changed_more d after is =
        let pair = get_or-zip labels bodies i (0, d) (omega (arith, paired, within)) within in
        ap (λ rest. set rest i after) (parts d) ∙ set_at front _ _ after i front_long
        ∙ ap (λ y. front ++ y ∷ drop (i + 1) bodies) (is ∙ sym (ap change pair))
        ∙ sym (append_assoc front (change (get_or (zip labels bodies) i (0, d)) ∷ []) _)
        ∙ ap (λ rest. rest ++ drop (i + 1) bodies)
        (sym (map_more change (zip labels bodies) i (0, d) (omega (arith, zip_long, within))))

  -- all bodies are changed
  pub changed_all : length bodies ≤ i → now ≡ map change (zip labels bodies)
  changed_all over =
      now_is
      ∙ ap₂ (λ ms rest. map change ms ++ rest) (take_all i (zip labels bodies) (omega (arith, zip_long, over)))
      (drop_all i bodies over)
      ∙ append-nil _

-- changes that agree at the labels of the bodies
pub changes_agree : {X : Type 0} (f g : ℕ × X → X) (n : ℕ) → ((label : ℕ) (b : X) → label < n → f (label, b) ≡ g (label, b))
    → (labels : List ℕ) (bodies : List X) → All (λ label. label < n) labels
    → map f (zip labels bodies) ≡ map g (zip labels bodies)
changes_agree f g n agree [] bodies labelled = refl
changes_agree f g n agree (label ∷ labels) [] labelled = refl
changes_agree f g n agree (label ∷ labels) (b ∷ bodies) labelled =
    ap₂ (λ x xs. x ∷ xs) (agree label b (All-head (λ x. x < n) label labels labelled))
    (changes_agree f g n agree labels bodies (All-tail (λ x. x < n) label labels labelled))

-- the marks are those of the groups
module _ (labels : List ℕ) (marks : List Bool) (bodies : List BodyState) (labelled : All (λ label. label < length labels) labels) where
  -- what stands at a label
  mark_is : (noted : ℕ → Bool) → marks ≡ map noted (range_with_len 0 (length labels)) → (label : ℕ) → label < length labels
      → get_or marks label false ≡ noted label
  mark_is noted are label small =
      ap (λ ms. get_or ms label false) are
      ∙ get_or-map-range_with_len noted 0 (length labels) label label false small (omega arith)

  -- bodies that are woken by these marks are woken
  pub woken_is : marks ≡ map (is_active labels bodies) (range_with_len 0 (length labels))
      → each_labelled (marked_body marks) labels bodies ≡ woken_bodies labels bodies
  unfolding woken_bodies
  woken_is are =
      changes_agree (marked_body marks) (λ m. record m.1 { awake = is_active labels bodies m.0 }) (length labels)
      (λ label b small. ap (λ mark. record b { awake = mark }) (mark_is (is_active labels bodies) are label small))
      labels bodies labelled

-- a change of bodies by the marks that were noted of their groups; the code lends labels twice, so
-- they stand here under more than one name
pub changed_through : (change : List Bool → ℕ × BodyState → BodyState) (noted : List ℕ → ℕ → Bool)
    (labels first second : List ℕ) (marks : List Bool) (bodies after : List BodyState)
    → first ≡ labels → second ≡ labels → marks ≡ map (noted first) (range_with_len 0 (length first))
    → after ≡ each_labelled (change marks) second bodies
    → (after ≡ each_labelled (change marks) labels bodies) × (marks ≡ map (noted labels) (range_with_len 0 (length labels)))
changed_through change noted labels first second marks bodies after one two are changed = (
  changed ∙ ap (λ ns. each_labelled (change marks) ns bodies) two,
  are ∙ ap (λ ns. map (noted ns) (range_with_len 0 (length ns))) one,
)
