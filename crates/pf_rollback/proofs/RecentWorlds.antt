-- Recent worlds, by what later ticks changed in them.
use Rattle.std.proofs.Common.{◌≡◌, true, if◌then◌else◌, nat_lt, Option, ℕ, zero, suc, ◌-◌, ◌<◌, ◌≤◌, List, [], ◌∷◌, ◌++◌, length, take, drop, Some, None, slice_get, refl, ap, ap₂, sym, ◌∙◌, arith}
use Rattle.std.proofs.lemmas.Bool.Decides.{nat_tests}
use Rattle.std.proofs.lemmas.List.{length-take, take-append-drop}
use Rattle.std.proofs.lemmas.Option.{slice_get_within}
use Rattle.circular_buffer.specs.Buffer.{keep_last, last_item}
use Rattle.circular_buffer.proofs.Places.{slice_get-some, slice_get-take}
use Rattle.pf_step.specs.Changes.{Changes, world_before}
use Rattle.pf_step.specs.World.{World}
use Rattle.pf_rollback.specs.Snapshots.{world_before_all, worlds_after}

-- ---- changes undone

pub undone_none : (cs : List Changes) (n : ℕ) (w : World) → length cs ≤ n → world_before_all (drop n cs) w ≡ w
unfolding world_before_all
undone_none [] zero w all = refl
undone_none [] (suc n) w all = refl
undone_none (c ∷ cs) zero w all = absurd (omega arith)
undone_none (c ∷ cs) (suc n) w all = undone_none cs n w (omega arith)

-- later changes are undone first
pub undone_append : (cs ds : List Changes) (w : World) → world_before_all (cs ++ ds) w ≡ world_before_all cs (world_before_all ds w)
unfolding world_before_all
undone_append [] ds w = refl
undone_append (c ∷ cs) ds w = ap (world_before c) (undone_append cs ds w)

-- one more is undone
pub undone_more : (cs : List Changes) (i : ℕ) (c : Changes) (w : World) → slice_get cs i ≡ Some c
    → world_before_all (drop i cs) w ≡ world_before c (world_before_all (drop (suc i) cs) w)
unfolding world_before_all
undone_more [] i c w at = absurd (let within = slice_get_within {A = Changes} [] i c at in omega arith)
undone_more (d ∷ cs) zero c w at = let same : d ≡ c = cc in ap (λ x. world_before x (world_before_all cs w)) same
undone_more (d ∷ cs) (suc i) c w at = undone_more cs i c w at

-- ---- the worlds after changes

pub length_worlds : (cs : List Changes) (w : World) → length (worlds_after cs w) ≡ length cs
unfolding worlds_after
length_worlds [] w = refl
length_worlds (c ∷ cs) w = ap suc (length_worlds cs w)

pub world_at_place : (cs : List Changes) (w : World) (i : ℕ) → i < length cs
    → slice_get (worlds_after cs w) i ≡ Some (world_before_all (drop (suc i) cs) w)
unfolding worlds_after
world_at_place [] w i within = absurd (omega arith)
world_at_place (c ∷ cs) w zero within = refl
world_at_place (c ∷ cs) w (suc i) within = world_at_place cs w i (omega arith)

-- without the first changes the worlds after the others stay
pub worlds_later : (n : ℕ) (cs : List Changes) (w : World) → worlds_after (drop n cs) w ≡ drop n (worlds_after cs w)
unfolding worlds_after
worlds_later zero cs w = refl
worlds_later (suc n) [] w = refl
worlds_later (suc n) (c ∷ cs) w = worlds_later n cs w

-- and where the last changes are undone, the worlds after the others
pub worlds_earlier : (n : ℕ) (cs : List Changes) (w : World)
    → worlds_after (take n cs) (world_before_all (drop n cs) w) ≡ take n (worlds_after cs w)
unfolding worlds_after
worlds_earlier zero cs w = refl
worlds_earlier (suc n) [] w = refl
worlds_earlier (suc n) (c ∷ cs) w =
    ap₂ (λ x xs. x ∷ xs) (sym (undone_append (take n cs) (drop n cs) w) ∙ ap (λ ds. world_before_all ds w) (take-append-drop n cs))
    (worlds_earlier n cs w)

-- changes of one tick more
worlds_more : (cs : List Changes) (c : Changes) (w next : World) → world_before c next ≡ w
    → worlds_after (cs ++ c ∷ []) next ≡ worlds_after cs w ++ next ∷ []
unfolding worlds_after world_before_all
worlds_more [] c w next before = refl
worlds_more (d ∷ cs) c w next before =
    ap₂ (λ x xs. x ∷ xs) (undone_append cs (c ∷ []) next ∙ ap (world_before_all cs) before) (worlds_more cs c w next before)

-- the worlds after the last changes
pub worlds_last : (m : ℕ) (cs : List Changes) (w : World) → worlds_after (keep_last m cs) w ≡ keep_last m (worlds_after cs w)
worlds_last m cs w =
    worlds_later (length cs - m) cs w ∙ ap (λ n. drop (n - m) (worlds_after cs w)) (sym (length_worlds cs w))

pub worlds_kept : (ring : ℕ) (cs : List Changes) (c : Changes) (w next : World) → world_before c next ≡ w
    → worlds_after (keep_last ring (cs ++ c ∷ [])) next ≡ keep_last ring (worlds_after cs w ++ next ∷ [])
worlds_kept ring cs c w next before =
    worlds_last ring (cs ++ c ∷ []) next ∙ ap (keep_last ring) (worlds_more cs c w next before)

-- ---- changes from the back

pub take_twice : {X : Type 0} (n m : ℕ) (xs : List X) → n ≤ m → take n (take m xs) ≡ take n xs
take_twice zero m xs few = refl
take_twice (suc n) zero xs few = absurd (omega arith)
take_twice (suc n) (suc m) [] few = refl
take_twice (suc n) (suc m) (x ∷ xs) few = ap (λ ys. x ∷ ys) (take_twice n m xs (omega arith))

-- where some are undone, the last one that is not stands last
last_left : (cs : List Changes) (i : ℕ) → i < length cs → last_item (take (length cs - i) cs) ≡ slice_get cs (length cs - suc i)
last_left cs i within =
    let count : length (take (length cs - i) cs) - 1 ≡ length cs - suc i = omega (arith, length-take (length cs - i) cs) in
    ap (slice_get (take (length cs - i) cs)) count ∙ slice_get-take (length cs - i) cs (length cs - suc i) (omega arith)

pub last_undone : (cs : List Changes) (i j : ℕ) (c : Changes) (w : World) → i < length cs → j ≡ suc i → last_item (take (length cs - i) cs) ≡ Some c
    → world_before_all (drop (length cs - j) cs) w ≡ world_before c (world_before_all (drop (length cs - i) cs) w)
last_undone cs i j c w within more is =
    let next : suc (length cs - suc i) ≡ length cs - i = omega arith in
    ap (λ k. world_before_all (drop (length cs - k) cs) w) more
    ∙ undone_more cs (length cs - suc i) c w (sym (last_left cs i within) ∙ is)
    ∙ ap (λ n. world_before c (world_before_all (drop n cs) w)) next

pub last_some : (cs : List Changes) (i : ℕ) → i < length cs → last_item (take (length cs - i) cs) ≡ None → ⊥
last_some cs i within none =
    let there = slice_get-some cs (length cs - suc i) (omega arith) in
    let nothing = sym there.1 ∙ sym (last_left cs i within) ∙ none in
    absurd cc

pub last_taken : (cs : List Changes) (i j : ℕ) → i < length cs → j ≡ suc i
    → take (length (take (length cs - i) cs) - 1) (take (length cs - i) cs) ≡ take (length cs - j) cs
last_taken cs i j within more =
    let count : length (take (length cs - i) cs) - 1 ≡ length cs - j = omega (arith, length-take (length cs - i) cs) in
    ap (λ n. take n (take (length cs - i) cs)) count ∙ take_twice (length cs - j) (length cs - i) cs (omega arith)

-- what is read from the back
abbrev pub from_back : List Changes → ℕ → Option Changes
from_back cs i = if nat_lt i (length cs) then slice_get cs (length cs - i - 1) else None

read_back : (cs : List Changes) (i : ℕ) → i < length cs → from_back cs i ≡ slice_get cs (length cs - suc i)
read_back cs i within =
    let test : nat_lt i (length cs) ≡ true = grind (arith, nat_tests) in
    let place : length cs - i - 1 ≡ length cs - suc i = omega arith in
    ap (λ b. if b then slice_get cs (length cs - i - 1) else None) test ∙ ap (slice_get cs) place

pub back_undone : (cs : List Changes) (i j : ℕ) (c : Changes) (w : World) → i < length cs → j ≡ suc i → from_back cs i ≡ Some c
    → world_before_all (drop (length cs - j) cs) w ≡ world_before c (world_before_all (drop (length cs - i) cs) w)
back_undone cs i j c w within more is =
    last_undone cs i j c w within more (last_left cs i within ∙ sym (read_back cs i within) ∙ is)

pub back_some : (cs : List Changes) (i : ℕ) → i < length cs → from_back cs i ≡ None → ⊥
back_some cs i within none = last_some cs i within (last_left cs i within ∙ sym (read_back cs i within) ∙ none)
