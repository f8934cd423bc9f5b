-- What the answers of all workers are together.
use Rattle.std.proofs.Common.{◌≡◌, ◌∙◌, ℕ, zero, suc, ◌<◌, Bool, List, [], ◌∷◌, ◌++◌, drop, take, Option, None, Some, Result, Ok, Err, map, length, get_or, refl, ap, ap₂, sym, arith, subst}
use Rattle.std.proofs.lemmas.Bool.{true≢false}
use Rattle.std.proofs.lemmas.List.{get_or-map, length-map}
use Rattle.std.specs.Prelude.{All, IsSome, OnOk}
use Rattle.pf_shapes.specs.Scene.{Scene}
use Rattle.pf_islands.specs.Split.{Island}
use Rattle.pf_pool.specs.Pool.{AreDone}
use Rattle.pf_pool.proofs.Lists.{default_same, written_back}
use Rattle.pf_solver.specs.Alone.{island_after_tick}
use Rattle.pf_workers.specs.Solving.{share_of}
use Rattle.pf_workers.specs.Work.{AreIslandsDone, IsDone}
use Rattle.pf_workers.specs.declared.work.Part.{Part}
use Rattle.pf_workers.specs.declared.work.Part.TheVariants.{Islands, Solved, Pairs, Found}

-- a list whose elements are made of those of another is made of it
made_of : {X Y : Type 0} (f : Y → X) (xs : List X) (ys : List Y) (d : X) (e : Y) → length xs ≡ length ys
    → ((w : ℕ) → w < length xs → get_or xs w d ≡ f (get_or ys w e)) → xs ≡ map f ys
made_of f [] [] d e long at = refl
made_of f [] (y ∷ ys) d e long at = absurd (omega (arith, long))
made_of f (x ∷ xs) [] d e long at = absurd (omega (arith, long))
made_of f (x ∷ xs) (y ∷ ys) d e long at =
    ap₂ (λ z zs. z ∷ zs) (at 0 (omega arith))
    (made_of f xs ys d e (omega (arith, long)) (λ w low. at (suc w) (omega (arith, low))))

-- what follows from a success
pub on_ok_then : {X E P Q : Type 0} (r : Result X E) → OnOk r P → (P → Q) → OnOk r Q
on_ok_then (Ok x) is then = then is
on_ok_then (Err e) is then = tt

-- what a worker is asked: its stack, with the scene
abbrev pub part : Scene → List Island → Option Part
part s stack = Some (Islands (share_of s stack))

-- where it was done
abbrev pub solved : List Island → Option Part
solved stack = Some (Solved (Ok stack))

-- each worker is asked something
pub all_asked : (s : Scene) (stacks : List (List Island)) → All IsSome (map (part s) stacks)
all_asked s [] k d low = absurd (omega (arith, low))
all_asked s (stack ∷ stacks) zero d low = refl
all_asked s (stack ∷ stacks) (suc k) d low = all_asked s stacks k d (omega (arith, low))

module _ (always : Bool) (s : Scene) (stacks : List (List Island)) (after : List (Option Part))
    (of : AreDone (IsDone always) (map (part s) stacks) after) where
  count : length after ≡ length stacks
  count = of.0 ∙ length-map stacks (part s)

  done_at : (w : ℕ) (done : Part) → w < length stacks → get_or after w None ≡ Some done
      → IsDone always (Islands (share_of s (get_or stacks w []))) done
  done_at w done low is = of.2 w (Islands (share_of s (get_or stacks w []))) done (omega arith) (get_or-map (part s) stacks w [] None low) is

  solving : (stack : List Island) (slot : Option Part) → IsSome slot
      → ((done : Part) → slot ≡ Some done → IsDone always (Islands (share_of s stack)) done) → AreIslandsDone always slot
  solving stack None some is = absurd (true≢false (sym some))
  solving stack (Some (Solved (Ok now))) some is = tt
  solving stack (Some (Solved (Err error))) some is = is (Solved (Err error)) refl
  solving stack (Some (Islands share)) some is = absurd (is (Islands share) refl)
  solving stack (Some (Pairs chunk)) some is = absurd (is (Pairs chunk) refl)
  solving stack (Some (Found found)) some is = absurd (is (Found found) refl)

  pub all_solving : All (AreIslandsDone always) after
  all_solving w d low =
      subst (AreIslandsDone always) (default_same after w None d low)
      (solving (get_or stacks w []) (get_or after w None) (of.1 w (omega arith) low)
      (λ done is. done_at w done (omega (arith, low, count)) is))

  -- where all workers are done, their stacks are those that were dealt, after a tick
  pub all_solved : (now : List (List Island)) → map solved now ≡ after → now ≡ map (map (island_after_tick s)) stacks
  all_solved now done =
      let same : length now ≡ length after = sym (length-map now solved) ∙ ap length done in
      made_of (map (island_after_tick s)) now stacks [] [] (same ∙ count)
      (λ w low.
      let at : get_or after w None ≡ solved (get_or now w []) =
      ap (λ l. get_or l w None) (sym done) ∙ get_or-map solved now w [] None low in
      done_at w (Solved (Ok (get_or now w []))) (omega (arith, low, same, count)) at)

-- stacks that were solved in a list in place
pub back : (f : Island → Island) (len : ℕ) (new dealt lent : List (List Island)) → len ≡ length dealt → lent ≡ dealt
    → new ≡ map (map f) lent → take len (new ++ drop (length new) dealt) ≡ map (map f) dealt
back f len new dealt lent whole same solved =
    let done : new ≡ map (map f) dealt = solved ∙ ap (map (map f)) same in
    written_back len new dealt (ap length done ∙ length-map dealt (map f)) whole ∙ done
