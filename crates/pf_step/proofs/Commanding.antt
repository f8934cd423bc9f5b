-- What commands do to bodies.
use Rattle.std.proofs.Common.{◌≡◌, ◌≢◌, ◌==◌, ℕ, true, false, Bool, pos, ℤ, List, [], ◌∷◌, Option, Some, None, length, map, get_or, unwrap_or, refl, ap, ap₂, sym, ◌∙◌, subst, arith, slice_get, slice_set, if◌then◌else◌}
use Rattle.std.proofs.lemmas.Bool.{or_parts}
use Rattle.std.proofs.lemmas.Bool.Decides.{nat_tests}
use Rattle.std.proofs.lemmas.Option.{unwrap_or-slice_get}
use Rattle.pf_rot.specs.Vector.{zero_vector}
use Rattle.pf_shapes.specs.Fixture.{Fixture, is_static}
use Rattle.pf_shapes.specs.Body.{BodyState, no_state}
use Rattle.pf_shapes.specs.Scene.{Scene}
use Rattle.pf_commands.specs.declared.payload.Payload.{Payload}
use Rattle.pf_commands.specs.declared.payload.Payload.TheVariants.{Push, Turn, Stop, Place}
use Rattle.pf_commands.specs.Payload.{body_of}
use Rattle.pf_step.specs.Commands.{after_payload, bodies_with_command, after_command, after_commands, apply}
use Rattle.pf_step.specs.World.{World}
use Rattle.std.proofs.lemmas.List.Folds.{flat_map-map}
use Rattle.pf_islands.specs.Island.{has_number}
use Rattle.pf_islands.proofs.Elements.{same_element, set_length, set_other, set_same}
use Rattle.pf_step.specs.Changes.{BodyChange, bodies_before, change_of, changes_by_commands}
use Rattle.pf_step.proofs.Changing.{noted_before}

-- ---- one command

-- another body stays
leaves : (bodies : List BodyState) (p : Payload) (f : Option Fixture) (s : Option BodyState) (i : ℕ)
    → body_of p ≢ i → slice_get (bodies_with_command bodies p f s) i ≡ slice_get bodies i
leaves bodies p (Some f) (Some s) i other = by (is_static f)
  where
    by : (t : Bool) → slice_get (if t then bodies else slice_set bodies (body_of p) (after_payload f p s)) i ≡ slice_get bodies i
    by true = refl
    by false = set_other bodies (body_of p) i (after_payload f p s) other
leaves bodies p (Some f) None i other = refl
leaves bodies p None s i other = refl

pub other_body : (scene : Scene) (w : World) (p : Payload) (i : ℕ) → body_of p ≢ i
    → slice_get (apply scene w p).bodies i ≡ slice_get w.bodies i
unfolding apply after_command
other_body scene w p i other =
    leaves w.bodies p (slice_get scene.fixtures (body_of p)) (slice_get w.bodies (body_of p)) i other

-- a stopped body
pub stopped_body : (scene : Scene) (w : World) (i : ℕ) (f : Fixture) (b : BodyState)
    → slice_get scene.fixtures i ≡ Some f → is_static f ≡ false → slice_get w.bodies i ≡ Some b
    → slice_get (apply scene w (Stop i)).bodies i ≡ Some (record b { velocity = zero_vector; spin = pos 0; timer = 0; awake = true })
unfolding apply after_command after_payload
stopped_body scene w i f b fixture moves here =
    rw (fixture, here, moves) (set_same w.bodies i (record b { velocity = zero_vector; spin = pos 0; timer = 0; awake = true }) b here)

-- a placed body
pub placed_body : (scene : Scene) (w : World) (i : ℕ) (x y : ℤ) (f : Fixture) (b : BodyState)
    → slice_get scene.fixtures i ≡ Some f → is_static f ≡ false → slice_get w.bodies i ≡ Some b
    → slice_get (apply scene w (Place i x y)).bodies i ≡ Some (record b { position = record { x = x; y = y }; velocity = zero_vector; spin = pos 0; timer = 0; awake = true })
unfolding apply after_command after_payload
placed_body scene w i x y f b fixture moves here =
    rw (fixture, here, moves) (set_same w.bodies i (record b { position = record { x = x; y = y }; velocity = zero_vector; spin = pos 0; timer = 0; awake = true }) b here)

-- a static body stays
static_leaves : (bodies : List BodyState) (p : Payload) (f : Fixture) (s : Option BodyState) → is_static f ≡ true
    → bodies_with_command bodies p (Some f) s ≡ bodies
static_leaves bodies p f (Some s) static = rw static refl
static_leaves bodies p f None static = refl

with_length : (bodies : List BodyState) (p : Payload) (f : Option Fixture) (s : Option BodyState)
    → length (bodies_with_command bodies p f s) ≡ length bodies
with_length bodies p (Some f) (Some s) = by (is_static f)
  where
    by : (t : Bool) → length (if t then bodies else slice_set bodies (body_of p) (after_payload f p s)) ≡ length bodies
    by true = refl
    by false = set_length bodies (body_of p) (after_payload f p s)
with_length bodies p (Some f) None = refl
with_length bodies p None s = refl

-- ---- commands, one after the other

pub commands_length : (fixtures : List Fixture) (bodies : List BodyState) (payloads : List Payload)
    → length (after_commands fixtures bodies payloads) ≡ length bodies
unfolding after_commands after_command
commands_length fixtures bodies [] = refl
commands_length fixtures bodies (p ∷ payloads) =
    commands_length fixtures (after_command fixtures bodies p) payloads
    ∙ with_length bodies p (slice_get fixtures (body_of p)) (slice_get bodies (body_of p))

pub static_stays : (fixtures : List Fixture) (bodies : List BodyState) (payloads : List Payload) (i : ℕ) (f : Fixture)
    → slice_get fixtures i ≡ Some f → is_static f ≡ true
    → slice_get (after_commands fixtures bodies payloads) i ≡ slice_get bodies i
unfolding after_commands after_command
static_stays fixtures bodies [] i f here static = refl
static_stays fixtures bodies (p ∷ payloads) i f here static =
    static_stays fixtures (after_command fixtures bodies p) payloads i f here static ∙ by (body_of p == i) refl
  where
    by : (t : Bool) → (body_of p == i) ≡ t
        → slice_get (bodies_with_command bodies p (slice_get fixtures (body_of p)) (slice_get bodies (body_of p))) i ≡ slice_get bodies i
    by true test =
        let same : body_of p ≡ i = grind (arith, nat_tests) in
        let there : slice_get fixtures (body_of p) ≡ Some f = ap (slice_get fixtures) same ∙ here in
        rw there (ap (λ bs. slice_get bs i) (static_leaves bodies p f (slice_get bodies (body_of p)) static))
    by false test =
        leaves bodies p (slice_get fixtures (body_of p)) (slice_get bodies (body_of p)) i (λ same. grind (arith, nat_tests))

pub static_body : (scene : Scene) (w : World) (p : Payload) (i : ℕ) (f : Fixture)
    → slice_get scene.fixtures i ≡ Some f → is_static f ≡ true
    → slice_get (apply scene w p).bodies i ≡ slice_get w.bodies i
unfolding apply after_commands
static_body scene w p i f = static_stays scene.fixtures w.bodies (p ∷ []) i f

-- commands leave the bodies that they are not for
pub commands_leave : (fixtures : List Fixture) (bodies : List BodyState) (payloads : List Payload) (i : ℕ)
    → has_number (map body_of payloads) i ≡ false
    → slice_get (after_commands fixtures bodies payloads) i ≡ slice_get bodies i
unfolding after_commands after_command
commands_leave fixtures bodies [] i none = refl
commands_leave fixtures bodies (p ∷ payloads) i none =
    let parts = or_parts (body_of p == i) (has_number (map body_of payloads) i) none in
    commands_leave fixtures (after_command fixtures bodies p) payloads i parts.1
    ∙ leaves bodies p (slice_get fixtures (body_of p)) (slice_get bodies (body_of p)) i
    (λ same. absurd (let other = parts.0 in grind (arith, nat_tests)))

-- so undoing what was noted of their bodies gives the bodies before them
pub commands_before : (fixtures : List Fixture) (bodies : List BodyState) (payloads : List Payload)
    → bodies_before (changes_by_commands bodies payloads) (after_commands fixtures bodies payloads) ≡ bodies
commands_before fixtures bodies payloads =
    let after = after_commands fixtures bodies payloads in
    ap (λ cs. bodies_before cs after) (sym (flat_map-map (change_of bodies) body_of payloads))
    ∙ noted_before bodies after (commands_length fixtures bodies payloads) (map body_of payloads)
    (λ j within none. same_read after bodies j (commands_leave fixtures bodies payloads j none))
  where
    same_read : (xs ys : List BodyState) (j : ℕ) → slice_get xs j ≡ slice_get ys j → get_or xs j no_state ≡ get_or ys j no_state
    same_read xs ys j same =
        sym (unwrap_or-slice_get xs j no_state) ∙ ap (λ o. unwrap_or o no_state) same ∙ unwrap_or-slice_get ys j no_state

pub commands_undone : (fixtures : List Fixture) (bodies after : List BodyState) (payloads : List Payload) (notes : List BodyChange)
    → notes ≡ changes_by_commands bodies payloads → after ≡ after_commands fixtures bodies payloads
    → bodies_before notes after ≡ bodies
commands_undone fixtures bodies after payloads notes noted is =
    ap₂ bodies_before noted is ∙ commands_before fixtures bodies payloads

-- what the commands of a tick make of a body: it is as it was, or it was commanded and is awake
pub data Commanded (b c : BodyState) : Type 0 where
  same : c ≡ b → Commanded b c
  woken : c.timer ≡ 0 → c.awake ≡ true → c.rotation ≡ b.rotation → Commanded b c

payload_wakes : (f : Fixture) (p : Payload) (b : BodyState) → Commanded b (after_payload f p b)
unfolding after_payload
payload_wakes f (Push body x y) b = woken refl refl refl
payload_wakes f (Turn body x) b = woken refl refl refl
payload_wakes f (Stop body) b = woken refl refl refl
payload_wakes f (Place body x y) b = woken refl refl refl

later : (b c d : BodyState) → Commanded b c → Commanded c d → Commanded b d
later b c d first (same is) = subst (Commanded b) (sym is) first
later b c d (same is) (woken timer awake rotation) =
    woken timer awake (rotation ∙ ap (λ (x : BodyState). x.rotation) is)
later b c d (woken t a first) (woken timer awake rotation) = woken timer awake (rotation ∙ first)

-- where a body after commands comes from
pub record IsCommanded (bodies : List BodyState) (i : ℕ) (c : BodyState) : Type 0 where
  pub from : BodyState
  pub is_there : slice_get bodies i ≡ Some from
  pub value : Commanded from c

command_case : (bodies : List BodyState) (p : Payload) (f : Option Fixture) (s : Option BodyState) (i : ℕ) (c : BodyState)
    → slice_get bodies (body_of p) ≡ s → slice_get (bodies_with_command bodies p f s) i ≡ Some c → IsCommanded bodies i c
command_case bodies p (Some f) (Some s) i c there here = split (is_static f) here
  where
    by : (t : Bool) → (body_of p == i) ≡ t → slice_get (slice_set bodies (body_of p) (after_payload f p s)) i ≡ Some c
        → IsCommanded bodies i c
    by true test now =
        let at_i : body_of p ≡ i = grind (arith, nat_tests) in
        let stood : slice_get bodies i ≡ Some s = subst (λ (k : ℕ). slice_get bodies k ≡ Some s) at_i there in
        let at : slice_get (slice_set bodies i (after_payload f p s)) i ≡ Some (after_payload f p s) =
        set_same bodies i (after_payload f p s) s stood in
        let is : after_payload f p s ≡ c =
        same_element (after_payload f p s) c
        (sym at ∙ subst (λ (k : ℕ). slice_get (slice_set bodies k (after_payload f p s)) i ≡ Some c) at_i now) in
        record { from = s; is_there = stood; value = subst (Commanded s) is (payload_wakes f p s) }
    by false test now =
        let other : body_of p ≢ i = λ e. grind (arith, nat_tests) in
        record { from = c; is_there = sym (set_other bodies (body_of p) i (after_payload f p s) other) ∙ now; value = same refl }

    split : (t : Bool) → slice_get (if t then bodies else slice_set bodies (body_of p) (after_payload f p s)) i ≡ Some c
        → IsCommanded bodies i c
    split true now = record { from = c; is_there = now; value = same refl }
    split false now = by (body_of p == i) refl now
command_case bodies p (Some f) None i c there here = record { from = c; is_there = here; value = same refl }
command_case bodies p None s i c there here = record { from = c; is_there = here; value = same refl }

pub commands_case : (fixtures : List Fixture) (bodies : List BodyState) (payloads : List Payload) (i : ℕ) (c : BodyState)
    → slice_get (after_commands fixtures bodies payloads) i ≡ Some c → IsCommanded bodies i c
unfolding after_commands after_command
commands_case fixtures bodies [] i c here = record { from = c; is_there = here; value = same refl }
commands_case fixtures bodies (p ∷ payloads) i c here =
    let last = commands_case fixtures (after_command fixtures bodies p) payloads i c here in
    let first = command_case bodies p (slice_get fixtures (body_of p)) (slice_get bodies (body_of p)) i last.from refl last.is_there in
    record { from = first.from; is_there = first.is_there; value = later first.from last.from c first.value last.value }

-- a body that is not awake after commands was not commanded
pub not_commanded : (fixtures : List Fixture) (bodies : List BodyState) (payloads : List Payload) (i : ℕ) (c : BodyState)
    → slice_get (after_commands fixtures bodies payloads) i ≡ Some c → c.awake ≡ false → slice_get bodies i ≡ Some c
not_commanded fixtures bodies payloads i c here asleep =
    let from = commands_case fixtures bodies payloads i c here in by from.from from.is_there from.value
  where
    by : (b : BodyState) → slice_get bodies i ≡ Some b → Commanded b c → slice_get bodies i ≡ Some c
    by b there (same is) = there ∙ ap Some (sym is)
    by b there (woken timer awake rotation) = absurd cc
