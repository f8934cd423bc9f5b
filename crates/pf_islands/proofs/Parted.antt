-- A tick that is split into the islands of groups with contacts, and the bodies of the others.
use Rattle.std.proofs.Common.{◌≡◌, ◌∙◌, ℕ, ◌<◌, ◌==◌, Bool, true, false, not, List, [], ◌∷◌, cond, filter, get_or, length, map, refl, sym, ap, ap₂, subst, arith}
use Rattle.std.proofs.lemmas.List.Elements.{All-filter}
use Rattle.std.specs.List.{flat_map, list_any, range_with_len}
use Rattle.std.specs.Prelude.{All}
use Rattle.pf_shapes.specs.Body.{BodyState}
use Rattle.pf_shapes.specs.Scene.{Scene}
use Rattle.pf_manifold.specs.Touches.{IsTouchOf, Touch}
use Rattle.pf_cache.specs.Contact.{Contact}
use Rattle.pf_rows.specs.Row.{Row}
use Rattle.pf_cache.proofs.ChosenNumbers.{range_within}
use Rattle.pf_islands.specs.declared.splitting.LoneBodies.{LoneBodies}
use Rattle.pf_islands.specs.declared.splitting.LoneBodies.TheVariants.{AreIslands, AreListed}
use Rattle.pf_islands.specs.Flags.{awake_numbers}
use Rattle.pf_islands.specs.Group.{groups}
use Rattle.pf_islands.specs.Island.{group_members}
use Rattle.pf_islands.specs.Lone.{AreSomeAwake, group_of_touch, is_dealt, is_made, lone_numbers, made_islands, only_awake}
use Rattle.pf_islands.specs.Rows.{active_points, active_rows, is_active_contact}
use Rattle.pf_islands.specs.Settled.{AreSettled, touches_of}
use Rattle.pf_islands.specs.Split.{Island, active_labels, is_active_label, island_of, islands}
use Rattle.pf_islands.proofs.ActiveRows.{touches_of_active}
use Rattle.pf_islands.proofs.Lone.{group_has_rows, lone_numbers_are, seen_islands, seen_some, touched_islands}
use Rattle.pf_islands.proofs.LoneGroups.{has_touch, lone_are, rows_of_group, same_act, same_points, same_rows, still_settled}
use Rattle.pf_islands.proofs.SettledGroups.{chosen_rows, chosen_woken, filter_same, islands_same}

filter_every : {X : Type 0} (p : X → Bool) → ((x : X) → p x ≡ true) → (xs : List X) → filter p xs ≡ xs
filter_every p all [] = refl
filter_every p all (x ∷ xs) = ap₂ (λ e ys. cond e (x ∷ ys) ys) (all x) (filter_every p all xs)

filter_none : {X : Type 0} (p : X → Bool) → ((x : X) → p x ≡ false) → (xs : List X) → filter p xs ≡ []
filter_none p none [] = refl
filter_none p none (x ∷ xs) = ap₂ (λ e ys. cond e (x ∷ ys) ys) (none x) (filter_none p none xs)

module _ (s : Scene) (bodies : List BodyState) (touches : List Touch) (contacts : List Contact) (lone : LoneBodies) where
  abbrev all : List Island
  all = islands (groups s touches) bodies (active_rows s bodies touches contacts)

  abbrev chosen : List Touch
  chosen = filter (is_active_contact s bodies) touches

  -- these bodies go into islands, which are made of them as if only they were awake, and these do not
  pub record IsParted (numbers alone : List ℕ) : Type 0 where
    pub numbers_are : AreSomeAwake (length bodies) numbers bodies
    pub settled : AreSettled s (only_awake numbers bodies) touches
    pub points : active_points s bodies touches ≡ active_points s (only_awake numbers bodies) touches
    pub made :
        islands (groups s touches) (only_awake numbers bodies) (active_rows s (only_awake numbers bodies) touches contacts)
        ≡ made_islands lone all
    pub alone_are : alone ≡ lone_numbers lone all

  module _ (count : length bodies ≡ length s.fixtures) (settled : AreSettled s bodies touches)
      (of : All (IsTouchOf (length bodies)) touches) where
    -- the bodies are parted by the counts of contacts at their labels
    module _ (counts numbers alone : List ℕ)
        (counted : (label : ℕ) → label < length (groups s chosen) → (get_or counts label 0 == 0)
        ≡ not (list_any (λ t. group_of_touch s (groups s chosen) t == label) chosen))
        (numbers_are : numbers ≡ filter (λ n. is_dealt lone (get_or counts (get_or (groups s chosen) n 0) 0)) (awake_numbers bodies))
        (alone_are : alone ≡ filter (λ n. not (is_dealt lone (get_or counts (get_or (groups s chosen) n 0) 0))) (awake_numbers bodies))
      where
        abbrev labels : List ℕ
        labels = groups s chosen

        abbrev rows : List Row
        rows = active_rows s bodies touches contacts

        abbrev q : LoneBodies → ℕ → Bool
        q l label = is_dealt l (get_or counts label 0)

        has : (l : LoneBodies) (label : ℕ) → label < length labels → has_touch s bodies touches count settled of label ≡ true → q l label ≡ true
        has AreIslands label within some = refl
        has AreListed label within some = ap not (counted label within ∙ ap not some)

        abbrev named : ℕ → Island
        named label = island_of bodies rows (group_members labels label)

        -- a label of a group that is simulated is low
        labels_within : All (λ label. label < length labels) (active_labels labels bodies)
        labels_within =
            All-filter (is_active_label labels bodies) (λ label. label < length labels) (range_with_len 0 (length labels))
            (range_within 0 (length labels) (length labels) (omega arith))

        twice : (e : Bool) → not (not e) ≡ e
        twice true = refl
        twice false = refl

        listed : All (λ label. q AreListed label ≡ group_has_rows labels bodies rows (chosen_rows s bodies touches count settled contacts of) label) (active_labels labels bodies)
        listed = λ i d within.
            let label = get_or (active_labels labels bodies) i d in
            ap not (counted label (labels_within i d within))
            ∙ twice (has_touch s bodies touches count settled of label)
            ∙ sym (rows_of_group s bodies touches count settled of contacts label)

        made_are : (l : LoneBodies) → map named (filter (q l) (active_labels labels bodies)) ≡ made_islands l (islands labels bodies rows)
        made_are AreIslands =
            ap (map named) (filter_every (q AreIslands) (λ label. refl) (active_labels labels bodies))
            ∙ sym (filter_every (is_made AreIslands) (λ i. refl) (islands labels bodies rows))
        made_are AreListed =
            sym
            (touched_islands labels bodies rows (chosen_rows s bodies touches count settled contacts of) (q AreListed) listed)

        others_are : (l : LoneBodies)
            → filter (λ n. not (q l (get_or labels n 0))) (awake_numbers bodies) ≡ lone_numbers l (islands labels bodies rows)
        others_are AreIslands =
            filter_none (λ n. not (q AreIslands (get_or labels n 0))) (λ n. refl) (awake_numbers bodies)
            ∙ ap (flat_map (λ (i : Island). i.numbers))
            (sym (filter_none (λ i. not (is_made AreIslands i)) (λ i. refl) (islands labels bodies rows)))
        others_are AreListed =
            lone_are s bodies touches count settled of (q AreListed) (has AreListed)
            ∙ sym
            (lone_numbers_are labels bodies rows (chosen_rows s bodies touches count settled contacts of) (q AreListed) listed)

        same_labels : groups s (filter (is_active_contact s (only_awake numbers bodies)) touches) ≡ labels
        same_labels =
            ap (groups s)
            (filter_same (is_active_contact s (only_awake numbers bodies)) (is_active_contact s bodies) touches
            (same_act s bodies touches count settled of (q lone) numbers numbers_are (has lone)))

        pub parted_chosen : IsParted numbers alone
        parted_chosen =
            let seen = only_awake numbers bodies in
            let some = seen_some labels bodies (q lone) numbers numbers_are in
            let still = still_settled s bodies touches count settled of (q lone) numbers numbers_are (has lone) in
            record {
              numbers_are = some;
              settled = still;
              points = sym (same_points s bodies touches count settled of (q lone) numbers numbers_are (has lone));
              made = ap (islands (groups s touches) seen) (same_rows s bodies touches count settled of (q lone) numbers numbers_are (has lone) contacts)
                  ∙ sym (islands_same s seen touches (some.as_many ∙ count) still rows)
                  ∙ ap (λ ls. islands ls seen rows) same_labels
                  ∙ seen_islands labels bodies (q lone) numbers numbers_are (chosen_woken s bodies touches count settled) rows
                  ∙ made_are lone
                  ∙ ap (made_islands lone) (islands_same s bodies touches count settled rows);
              alone_are = alone_are ∙ others_are lone ∙ ap (lone_numbers lone) (islands_same s bodies touches count settled rows);
            }

    -- the labels as the code has them
    pub parted : (labels counts numbers alone : List ℕ) (points : List (ℕ × Touch))
        → points ≡ active_points s bodies touches → labels ≡ groups s (touches_of points)
        → ((label : ℕ) → label < length labels → (get_or counts label 0 == 0)
        ≡ not (list_any (λ t. group_of_touch s labels t == label) (touches_of points)))
        → numbers ≡ filter (λ n. is_dealt lone (get_or counts (get_or labels n 0) 0)) (awake_numbers bodies)
        → alone ≡ filter (λ n. not (is_dealt lone (get_or counts (get_or labels n 0) 0))) (awake_numbers bodies)
        → IsParted numbers alone
    parted labels counts numbers alone points are labelled counted numbers_are alone_are =
        let ts : touches_of points ≡ chosen = ap touches_of are ∙ touches_of_active s bodies touches in
        let ls : labels ≡ groups s chosen = labelled ∙ ap (groups s) ts in
        parted_chosen counts numbers alone
        (subst
        (λ (us : List Touch). (label : ℕ) → label < length (groups s chosen) → (get_or counts label 0 == 0)
        ≡ not (list_any (λ t. group_of_touch s (groups s chosen) t == label) us)) ts
        (subst
        (λ (ns : List ℕ). (label : ℕ) → label < length ns → (get_or counts label 0 == 0)
        ≡ not (list_any (λ t. group_of_touch s ns t == label) (touches_of points))) ls counted))
        (numbers_are ∙ ap (λ (ns : List ℕ). filter (λ n. is_dealt lone (get_or counts (get_or ns n 0) 0)) (awake_numbers bodies)) ls)
        (alone_are ∙ ap (λ (ns : List ℕ). filter (λ n. not (is_dealt lone (get_or counts (get_or ns n 0) 0))) (awake_numbers bodies)) ls)
