-- Lists that are brought up to date at some places, one after the other: at every other place both
-- have the same element.
use Rattle.std.proofs.Common.{◌≡◌, ◌≢◌, ⊎_elim, ℕ, suc, ◌<◌, ◌≤◌, ◌+◌, Bool, true, false, ◌&&◌, ◌||◌, List, [], ◌∷◌, length, set, nat_eq, refl, sym, ap, ap₂, subst, ◌∙◌, arith}
use Rattle.std.specs.Prelude.{All, drop, get_or, replicate, slice_get, unwrap_or}
use Rattle.std.proofs.lemmas.Bool.{cases_eq}
use Rattle.std.proofs.lemmas.Bool.Decides.{nat_tests}
use Rattle.std.proofs.lemmas.List.{drop_all, drop_more, get_or_default, get_or-replicate, get_or-set_other, get_or-set_same, get_or_read, same_lists}
use Rattle.std.proofs.lemmas.List.Elements.{All-cons, All-nil}
use Rattle.std.proofs.lemmas.Option.{slice_get_cases, unwrap_or-slice_get}
use Rattle.pf_shapes.specs.Bounds.{Bounds, IsOrdered, fixture_bounds, shape_bounds}
use Rattle.pf_shapes.specs.Fixture.{Fixture}
use Rattle.pf_shapes.specs.Body.{BodyState}
use Rattle.pf_broad.specs.Partners.{has_body}
use Rattle.pf_manifold.specs.PlacedShape.{PlacedShape}
use Rattle.pf_cache.specs.Manifolds.{same_placed_shape, shape_of_body}
use Rattle.pf_cache.specs.PlacedBodies.{AreBoundsOf}
use Rattle.pf_cache.specs.Slots.{unmoved_flags}
use Rattle.pf_cache.proofs.Bounded.{length-unmoved_flags}
use Rattle.pf_cache.proofs.Placing.{zip_at}
use Rattle.pf_cache.proofs.Unmoved.{Decides-placed}

differs : (m k : ℕ) → k ≢ m → nat_eq m k ≡ false
differs m k other = grind (arith, nat_tests)

-- a number is not among those that are left from place i on, if it is not the one there, nor among those after it
not_left : (numbers : List ℕ) (i n k : ℕ) → i < length numbers → n ≡ get_or numbers i n → k ≢ n
    → has_body (drop (i + 1) numbers) k ≡ false → has_body (drop i numbers) k ≡ false
not_left numbers i n k here n_is other behind =
    ap (λ ns. has_body ns k) (drop_more numbers i n here)
    ∙ ap₂ (λ a b. a || b) (differs (get_or numbers i n) k (λ e. other (e ∙ sym n_is))) behind

pub none_left : (numbers : List ℕ) (i k : ℕ) → length numbers ≤ i → has_body (drop i numbers) k ≡ false
none_left numbers i k over = ap (λ ns. has_body ns k) (drop_all i numbers over)

module _ {X : Type 0} where
  -- the element at k is the same in both lists
  abbrev pub IsSameAt : List X → List X → ℕ → Type 0
  IsSameAt xs ys k = (d : X) → get_or xs k d ≡ get_or ys k d

  pub same_at : (xs ys : List X) (k : ℕ) → slice_get xs k ≡ slice_get ys k → IsSameAt xs ys k
  same_at xs ys k same d =
      sym (unwrap_or-slice_get xs k d) ∙ ap (λ o. unwrap_or o d) same ∙ unwrap_or-slice_get ys k d

  -- the element that was put at n
  pub put_here : (now new : List X) (n k : ℕ) (x : X) → length now ≡ length new → n < length now → x ≡ get_or new n x → k ≡ n
      → (d : X) → get_or (set now n x) k d ≡ get_or new k d
  put_here now new n k x long below x_is same d =
      ap (λ j. get_or (set now n x) j d) same ∙ get_or-set_same now n x d below
      ∙ get_or_read new n x (omega (arith, long, below)) x_is d
      ∙ ap (λ j. get_or new j d) (sym same)

  -- after the element at n is put, each is that of the new list but at the numbers that are left
  pub same_after : (now new : List X) (numbers : List ℕ) (i n k : ℕ) (x : X) → i < length numbers → n ≡ get_or numbers i n
      → length now ≡ length new → n < length now → x ≡ get_or new n x
      → (has_body (drop i numbers) k ≡ false → IsSameAt now new k)
      → has_body (drop (i + 1) numbers) k ≡ false → IsSameAt (set now n x) new k
  same_after now new numbers i n k x here n_is long below x_is before behind d =
      ⊎_elim
      (λ same. put_here now new n k x long below x_is same d)
      (λ other. get_or-set_other now n k x d other ∙ before (not_left numbers i n k here n_is other behind) d)
      (cases_eq k n)

  pub same_all : (now new : List X) (numbers : List ℕ) (i : ℕ) → length now ≡ length new → length numbers ≤ i
      → ((k : ℕ) → k < length now → has_body (drop i numbers) k ≡ false → IsSameAt now new k) → now ≡ new
  same_all now new numbers i long over each =
      same_lists now new long (λ k d below. each k below (none_left numbers i k over) d)

-- the flag of a body, and a comparison as it stands now, say whether it is unmoved
abbrev pub IsFlagged : List Bool → List PlacedShape → List PlacedShape → List PlacedShape → ℕ → Type 0
IsFlagged flags now old new k = (s : PlacedShape) →
    (get_or flags k false && same_placed_shape (get_or now k s) (get_or new k s))
    ≡ same_placed_shape (get_or old k s) (get_or new k s)

same_shape_is : (a b : PlacedShape) → a ≡ b → same_placed_shape a b ≡ true
same_shape_is a b e = (Decides-placed a b).1 e

and_true : (a b : Bool) → b ≡ true → (a && b) ≡ a
and_true true b e = e
and_true false b e = refl

pub flagged_first : (flags : List Bool) (old new : List PlacedShape) (k n : ℕ) → flags ≡ replicate n true → k < n
    → IsFlagged flags old old new k
flagged_first flags old new k n are below s =
    ap (λ b. b && same_placed_shape (get_or old k s) (get_or new k s))
    (ap (λ fs. get_or fs k false) are ∙ get_or-replicate n k true false below)

pub flagged_after : (flags : List Bool) (now old new : List PlacedShape) (n k : ℕ) (flag is_unmoved : Bool) (x before : PlacedShape)
    → n < length flags → n < length now → length now ≡ length new → x ≡ get_or new n x → before ≡ get_or now n before
    → flag ≡ get_or flags n flag → is_unmoved ≡ same_placed_shape before x
    → IsFlagged flags now old new n → IsFlagged flags now old new k
    → IsFlagged (set flags n (flag && is_unmoved)) (set now n x) old new k
flagged_after flags now old new n k flag is_unmoved x before there below long x_is before_is flag_is told here each s =
    ⊎_elim
    (λ same.
    ap (λ b. b && same_placed_shape (get_or (set now n x) k s) (get_or new k s))
    (ap (λ j. get_or (set flags n (flag && is_unmoved)) j false) same ∙ get_or-set_same flags n (flag && is_unmoved) false there)
    ∙ and_true (flag && is_unmoved) _ (same_shape_is _ _ (put_here now new n k x long below x_is same s))
    ∙ ap₂ (λ a b. a && b) (get_or_read flags n flag there flag_is false)
    (told
    ∙ ap₂ same_placed_shape (get_or_read now n before below before_is s) (get_or_read new n x (omega (arith, long, below)) x_is s))
    ∙ here s
    ∙ ap (λ j. same_placed_shape (get_or old j s) (get_or new j s)) (sym same))
    (λ other.
    ap₂ (λ b z. b && same_placed_shape z (get_or new k s)) (get_or-set_other flags n k (flag && is_unmoved) false other)
    (get_or-set_other now n k x s other)
    ∙ each s)
    (cases_eq k n)

-- at the end the flags say for each body whether it is unmoved
pub flags_all : (flags : List Bool) (now old new : List PlacedShape) → length new ≡ length old → length flags ≡ length old → now ≡ new
    → ((k : ℕ) → k < length old → IsFlagged flags now old new k) → flags ≡ unmoved_flags old new
flags_all flags now old new long as_many are each =
    same_lists flags (unmoved_flags old new) (as_many ∙ sym (length-unmoved_flags old new long))
    (λ k d below.
    at_place k d (omega (arith, below, as_many)))
  where
    told : (k : ℕ) (d : Bool) (s : PlacedShape) → k < length old → get_or flags k d ≡ get_or (unmoved_flags old new) k d
    told k d s below =
        get_or_default flags k d false (omega (arith, below, as_many))
        ∙ sym (and_true (get_or flags k false) _ (same_shape_is _ _ (ap (λ xs. get_or xs k s) are)))
        ∙ each k below s
        ∙ zip_at (λ (m : PlacedShape × PlacedShape). same_placed_shape m.0 m.1) old new k (get_or old k s) (get_or new k s) d
        below (omega (arith, below, long)) (get_or_default old k s _ below) (get_or_default new k s _ (omega (arith, below, long)))

    at_place : (k : ℕ) (d : Bool) → k < length old → get_or flags k d ≡ get_or (unmoved_flags old new) k d
    at_place k d below =
        ⊎_elim
        (λ there. told k d there.0 below)
        (λ past. absurd (omega (arith, below, past.0)))
        (slice_get_cases old k).1

-- every shape has its bounds, also after those of one body are put
pub bounded_after : (shapes : List PlacedShape) (bounds : List Bounds) (n k : ℕ) (f : Fixture) (body : BodyState) (x : PlacedShape) (b : Bounds)
    → n < length shapes → n < length bounds → x ≡ shape_of_body f body → b ≡ fixture_bounds f body → IsOrdered b
    → ((s : PlacedShape) (c : Bounds) → AreBoundsOf (get_or shapes k s) (get_or bounds k c))
    → (s : PlacedShape) (c : Bounds) → AreBoundsOf (get_or (set shapes n x) k s) (get_or (set bounds n b) k c)
unfolding fixture_bounds shape_bounds
bounded_after shapes bounds n k f body x b below as_below x_is b_is ordered each s c =
    ⊎_elim
    (λ same.
    subst (λ y. AreBoundsOf y (get_or (set bounds n b) k c))
    (sym (ap (λ j. get_or (set shapes n x) j s) same ∙ get_or-set_same shapes n x s below ∙ x_is))
    (subst (AreBoundsOf (shape_of_body f body))
    (sym (ap (λ j. get_or (set bounds n b) j c) same ∙ get_or-set_same bounds n b c as_below ∙ b_is))
    (of_body f body (subst IsOrdered b_is ordered))))
    (λ other.
    subst (λ y. AreBoundsOf y (get_or (set bounds n b) k c)) (sym (get_or-set_other shapes n k x s other))
    (subst (AreBoundsOf (get_or shapes k s)) (sym (get_or-set_other bounds n k b c other)) (each s c)))
    (cases_eq k n)
  where
    of_body : (f : Fixture) (body : BodyState) → IsOrdered (fixture_bounds f body) → AreBoundsOf (shape_of_body f body) (fixture_bounds f body)
    of_body f body ordered = record { value = refl; ordered = ordered }

pub ordered_all : (shapes : List PlacedShape) (bounds : List Bounds) → length bounds ≡ length shapes
    → ((k : ℕ) → k < length shapes → (s : PlacedShape) (b : Bounds) → AreBoundsOf (get_or shapes k s) (get_or bounds k b))
    → All IsOrdered bounds
ordered_all shapes [] long each = All-nil IsOrdered
ordered_all [] (b ∷ bounds) long each = absurd (omega (arith, long))
ordered_all (s ∷ shapes) (b ∷ bounds) long each =
    All-cons IsOrdered b bounds (each 0 (omega arith) s b).ordered
    (ordered_all shapes bounds (omega (arith, long)) (λ k below. each (suc k) (omega (arith, below))))
