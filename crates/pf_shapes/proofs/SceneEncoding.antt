-- The fields that encode a body, or gravity, are read as that.
use Rattle.std.proofs.Common.{◌≡◌, ℕ, ◌<◌, ◌^◌, ℤ, zero, suc, pos, negsuc, neg_ℤ, ◌<ℤ◌, Bool, true, false, ◌&&◌, ⊎_elim, List, [], ◌∷◌, length, Option, Some, None, Ok, refl, ap, sym, ◌∙◌, arith, nat_lt}
use Rattle.std.specs.Prelude.{int_le, codes}
use Rattle.std.specs.Fmt.{signed_decimal}
use Rattle.std.specs.Int.RustNames.{unsigned_abs}
use Rattle.std.specs.Option.{option_map}
use Rattle.std.specs.Str.{bytes_eq}
use Rattle.std.proofs.lemmas.Bool.Decides.{nat_tests}
use Rattle.std.proofs.lemmas.Int.{ints, clamps}
use Rattle.std.proofs.lemmas.Option.{none-some}
use Rattle.std.proofs.lemmas.Slice.Eq.{bytes_eq-Decides}
use Rattle.pf_text.specs.declared.numbers.ParsedNumber.TheVariants.{InRange}
use Rattle.pf_text.specs.Numbers.{clamp_whole, natural_of, whole_of, number}
use Rattle.pf_text.proofs.DecimalText.{whole-signed_decimal}
use Rattle.pf_rot.specs.Vector.{V2}
use Rattle.pf_rot.specs.Rotation.{Rot, upright, unit}
use Rattle.pf_shapes.specs.declared.fault.SceneFault.{SceneFault}
use Rattle.pf_shapes.specs.declared.fault.SceneFault.TheVariants.{BadNumber, BadMass, BadSize}
use Rattle.pf_shapes.specs.declared.fixture.Shape.{Shape}
use Rattle.pf_shapes.specs.declared.fixture.Shape.TheVariants.{Circle, Box}
use Rattle.pf_shapes.specs.Fixture.{Fixture, IsFixture, IsSize, IsMass, IsOwner, IsWithin}
use Rattle.pf_shapes.specs.Scene.{Scene, IsGravity, IsPosition, empty_scene, with_body}
use Rattle.pf_shapes.specs.Numbers.{checked_body, checked_box, checked_circle, checked_fixture, checked_mass, checked_number, checked_rotation, checked_vector, turned_transform, upright_transform}
use Rattle.pf_shapes.specs.SceneText.{field_number, owner_of, circle_parts, box_parts, scene_in_progress, gravity_line, line_of}
use Rattle.pf_shapes.specs.SceneEncoding.{owner_field, shape_word, shape_fields, body_fields, start_rotation, gravity_fields, IsDirection}

-- ---- numbers

clamp_small : (z : ℤ) → unsigned_abs z < 2 ^ 56 → clamp_whole z ≡ z
clamp_small z small = omega (arith, ints, clamps, small)

-- the number of a text that encodes it
number_text : (z : ℤ) → unsigned_abs z < 2 ^ 56 → field_number (signed_decimal z) ≡ Some z
number_text z small =
    let short : unsigned_abs z < 2 ^ 64 = omega (arith, small) in
    ap (option_map clamp_whole) (whole-signed_decimal z short) ∙ ap Some (clamp_small z small)

checked_within : (outside : SceneFault) (low high z : ℤ) → IsWithin low high z → checked_number outside low high (Some z) ≡ Ok z
checked_within outside low high z h =
    let e : (int_le low z && int_le z high) ≡ true = (let l = h.0 in let k = h.1 in grind (arith, ints, nat_tests)) in rw e refl

read_number : (outside : SceneFault) (low high z : ℤ) → unsigned_abs z < 2 ^ 56 → IsWithin low high z
    → checked_number outside low high (field_number (signed_decimal z)) ≡ Ok z
read_number outside low high z small h = ap (checked_number outside low high) (number_text z small) ∙ checked_within outside low high z h

read_vector : (limit x y : ℤ) → limit <ℤ pos (2 ^ 56) → IsWithin (neg_ℤ limit) limit x → IsWithin (neg_ℤ limit) limit y
    → checked_vector limit (field_number (signed_decimal x)) (field_number (signed_decimal y)) ≡ Ok (record { x = x; y = y })
unfolding checked_vector
read_vector limit x y small h k =
    rw (
      read_number BadNumber (neg_ℤ limit) limit x (let l = h.0 in let m = h.1 in omega (arith, ints, small)) h,
      read_number BadNumber (neg_ℤ limit) limit y (let l = k.0 in let m = k.1 in omega (arith, ints, small)) k,
    ) refl

read_size : (z : ℤ) → IsSize z → checked_number BadSize (pos 1048576) (pos 17179869184) (field_number (signed_decimal z)) ≡ Ok z
read_size z h = read_number BadSize _ _ z (let l = h.0 in let k = h.1 in omega (arith, ints)) h

read_friction : (z : ℤ) → IsWithin (pos 0) (pos 67108864) z → checked_number BadNumber (pos 0) (pos 67108864) (field_number (signed_decimal z)) ≡ Ok z
read_friction z h = read_number BadNumber _ _ z (let l = h.0 in let k = h.1 in omega (arith, ints)) h

mass_small : (z : ℤ) → IsMass z → unsigned_abs z < 2 ^ 56
mass_small z h =
    ⊎_elim
    (λ (none : z ≡ pos 0). omega (arith, ints, none))
    (λ (some : IsWithin (pos 1048576) (pos 17179869184) z). let l = some.0 in let k = some.1 in omega (arith, ints))
    h

dynamic_mass : (z : ℤ) → IsWithin (pos 1048576) (pos 17179869184) z → checked_mass (Some z) ≡ Ok z
unfolding checked_mass
dynamic_mass (pos zero) h = refl
dynamic_mass (pos (suc n)) h = checked_within BadMass _ _ (pos (suc n)) h
dynamic_mass (negsuc n) h = checked_within BadMass _ _ (negsuc n) h

checked_mass_is : (z : ℤ) → IsMass z → checked_mass (Some z) ≡ Ok z
unfolding checked_mass
checked_mass_is z h = ⊎_elim (λ (none : z ≡ pos 0). rw none refl) (dynamic_mass z) h

read_mass : (z : ℤ) → IsMass z → checked_mass (field_number (signed_decimal z)) ≡ Ok z
read_mass z h = ap checked_mass (number_text z (mass_small z h)) ∙ checked_mass_is z h

-- ---- a field that may be a word

number_within : (low high z : ℤ) → IsWithin low high z → number low high (Some z) ≡ InRange z
number_within low high z h =
    let e : (int_le low z && int_le z high) ≡ true = (let l = h.0 in let k = h.1 in grind (arith, ints, nat_tests)) in rw e refl

-- a number's text is not one that encodes another number, or none
differs : (z : ℤ) (text : List ℕ) → unsigned_abs z < 2 ^ 64 → (whole_of text ≡ Some z → ⊥) → bytes_eq (signed_decimal z) text ≡ false
differs z text small other = by (bytes_eq (signed_decimal z) text) refl
  where
    by : (t : Bool) → bytes_eq (signed_decimal z) text ≡ t → t ≡ false
    by true e = absurd (other (ap whole_of (sym ((bytes_eq-Decides (signed_decimal z) text).0 e)) ∙ whole-signed_decimal z small))
    by false e = refl

minus_is_none : whole_of (codes "-") ≡ None
unfolding whole_of natural_of
minus_is_none = refl

read_owner : (owner : Option ℕ) → IsOwner owner → owner_of (owner_field owner) ≡ Ok owner
read_owner None h = refl
read_owner (Some player) h =
    let small : unsigned_abs (pos player) < 2 ^ 64 = omega (arith, h) in
    let word : bytes_eq (signed_decimal (pos player)) (codes "-") ≡ false =
    differs (pos player) (codes "-") small (λ e. none-some (pos player) (sym minus_is_none ∙ e)) in
    let within : number (pos 0) (pos 7) (Some (pos player)) ≡ InRange (pos player) = number_within (pos 0) (pos 7) (pos player) (omega (arith, ints), omega (arith, ints, h)) in
    rw (word, whole-signed_decimal (pos player) small, within) refl

-- ---- bodies

read_circle : (f : Fixture) (r : ℤ) (position : V2) → f.shape ≡ Circle r → IsFixture f → IsPosition position
    → circle_parts (owner_field f.owner ∷ signed_decimal f.mass ∷ signed_decimal f.friction ∷ signed_decimal r ∷ signed_decimal position.x ∷ signed_decimal position.y ∷ [])
    ≡ Ok (f, (position, upright))
unfolding circle_parts checked_body checked_fixture checked_circle upright_transform
read_circle f r position e h at =
    let size : IsSize r = rw e at h.size in
    let same : record { shape = Circle r; mass = f.mass; friction = f.friction; owner = f.owner } ≡ f = rw (sym e) refl in
    rw (
      read_owner f.owner h.owner,
      read_mass f.mass h.mass,
      read_friction f.friction h.friction,
      read_size r size,
      read_vector (pos 17592186044416) position.x position.y (omega (arith, ints)) at.x at.y,
      same,
    ) refl

read_box : (f : Fixture) (hx hy : ℤ) (position : V2) (to : Rot) → f.shape ≡ Box hx hy → IsFixture f → IsPosition position → IsDirection to
    → box_parts (owner_field f.owner ∷ signed_decimal f.mass ∷ signed_decimal f.friction ∷ signed_decimal hx ∷ signed_decimal hy ∷ signed_decimal position.x
    ∷ signed_decimal position.y ∷ signed_decimal to.c ∷ signed_decimal to.s ∷ [])
    ≡ Ok (f, (position, unit to.c to.s))
unfolding box_parts checked_body checked_fixture checked_box turned_transform checked_rotation
read_box f hx hy position to e h at facing =
    let size : IsSize hx × IsSize hy = rw e at h.size in
    let same : record { shape = Box hx hy; mass = f.mass; friction = f.friction; owner = f.owner } ≡ f = rw (sym e) refl in
    rw (
      read_owner f.owner h.owner,
      read_mass f.mass h.mass,
      read_friction f.friction h.friction,
      read_size hx size.0,
      read_size hy size.1,
      read_vector (pos 17592186044416) position.x position.y (omega (arith, ints)) at.x at.y,
      read_vector (pos 16777216) to.c to.s (omega (arith, ints)) facing.c facing.s,
      same,
    ) refl

-- ---- lines

pub read_gravity : (limit : ℕ) (g : V2) → IsGravity g
    → line_of (record { max_bodies = limit; scene = None }) (gravity_fields g) ≡ Ok (scene_in_progress limit (empty_scene g))
unfolding line_of gravity_line
read_gravity limit g h = rw (read_vector (pos 17179869184) g.x g.y (omega (arith, ints)) h.x h.y) refl

pub read_body : (limit : ℕ) (s : Scene) (f : Fixture) (position : V2) (to : Rot) → length s.fixtures < limit
    → IsFixture f → IsPosition position → IsDirection to
    → line_of (record { max_bodies = limit; scene = Some s }) (body_fields f position to) ≡ Ok (scene_in_progress limit (with_body s f position (start_rotation f.shape to)))
unfolding line_of
read_body limit s f position to room h at facing = by f.shape refl
  where
    few : nat_lt (length s.fixtures) limit ≡ true
    few = grind (arith, nat_tests)

    by : (shape : Shape) → f.shape ≡ shape
        → line_of (record { max_bodies = limit; scene = Some s })
        (shape_word shape ∷ owner_field f.owner ∷ signed_decimal f.mass ∷ signed_decimal f.friction ∷ shape_fields shape position to)
        ≡ Ok (scene_in_progress limit (with_body s f position (start_rotation shape to)))
    by (Circle r) e = rw (few, read_circle f r position e h at) refl
    by (Box hx hy) e = rw (few, read_box f hx hy position to e h at facing) refl
