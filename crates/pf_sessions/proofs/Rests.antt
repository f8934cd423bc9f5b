-- A peer that takes what is left on its links.
use Rattle.std.proofs.Common.{◌≡◌, ◌∙◌, ℕ, zero, suc, ◌+◌, None, Some, List, [], ◌∷◌, ◌++◌, add-one, ap, ap₂, append-nil, arith, drop, length, refl, subst, sym, take}
use Rattle.std.proofs.lemmas.Grind.{flat_map-append}
use Rattle.std.proofs.lemmas.List.{append_assoc, drop_all}
use Rattle.std.proofs.Math.Seq.{drop-append_seam}
use Rattle.std.proofs.lemmas.Option.{same_Some}
use Rattle.std.specs.Prelude.{All, slice_get}
use Rattle.pf_commands.specs.Merge.{IsCommand, put_all}
use Rattle.pf_links.specs.Link.{Frame, LeavesFrames, SameIn, backlog_of, got, handed}
use Rattle.pf_links.specs.declared.input.LinkIn.{LinkIn}
use Rattle.pf_links.specs.declared.output.LinkOut.{LinkOut}
use Rattle.pf_rollback.specs.Core.{PeerCore}
use Rattle.pf_rollback.specs.Peer.{Peer as Player}
use Rattle.pf_scripts.specs.Frames.{commands_in, core_setting, with_frames}
use Rattle.pf_scripts.specs.Peer.{IsLater, fresh}
use Rattle.pf_scripts.proofs.Maps.{all_append, put_all-append}
use Rattle.pf_sessions.specs.Rest.{HasTaken, left_on}

-- ---- a peer that takes frames

pub taken_none : (core : PeerCore) → HasTaken core core []
taken_none core = record { setting = refl; peer = refl; ranges = λ k d low. absurd (omega (arith, low)) }

pub taken_then : (a b c : PeerCore) (f g : List Frame) → HasTaken a b f → HasTaken b c g → HasTaken a c (f ++ g)
taken_then a b c f g first second =
    let s = core_setting a in
    let split : commands_in s (f ++ g) ≡ commands_in s f ++ commands_in s g = flat_map-append _ f g in record {
      setting = second.setting ∙ first.setting;
      peer = second.peer
          ∙ ap₂ (λ z (p : Player). with_frames z p g) first.setting first.peer
          ∙ ap (λ m. record a.peer { commands = m }) (put_all-append a.peer.commands (commands_in s f) (commands_in s g))
          ∙ ap (λ cs. record a.peer { commands = put_all a.peer.commands cs }) (sym split);
      ranges = subst (All IsCommand) (sym split)
          (all_append IsCommand (commands_in s f) (commands_in s g) first.ranges (subst (λ z. All IsCommand (commands_in z g)) first.setting second.ranges));
    }

-- ---- one link

pub later_none : (i : LinkIn) → IsLater i i
later_none i =
    let none : fresh i i ≡ [] = drop_all (length (got i)) (got i) (omega arith) in
    (search, sym (ap (λ l. got i ++ l) none ∙ append-nil (got i)))

-- one frame more was taken
module _ (a b c : LinkIn) (frame : Frame) (later : IsLater a b) (same : SameIn b c) (more : got c ≡ got b ++ frame ∷ []) where
  pub fresh_more : fresh a c ≡ fresh a b ++ frame ∷ []
  fresh_more =
      ap (drop (length (got a))) (more ∙ ap (λ l. l ++ frame ∷ []) later.1 ∙ append_assoc (got a) (fresh a b) (frame ∷ []))
      ∙ drop-append_seam (got a) (fresh a b ++ frame ∷ [])

  pub later_more : IsLater a c
  later_more = (
    search,
    more ∙ ap (λ l. l ++ frame ∷ []) later.1 ∙ append_assoc (got a) (fresh a b) (frame ∷ []) ∙ ap (λ l. got a ++ l) (sym fresh_more),
  )

pub leaves_none : (o : LinkOut) → LeavesFrames o o
leaves_none o = record { pushed = refl; backlog = refl; same = search }

pub leaves_then : (a b c : LinkOut) → LeavesFrames a b → LeavesFrames b c → LeavesFrames a c
leaves_then a b c first second =
    record { pushed = second.pushed ∙ first.pushed; backlog = second.backlog ∙ first.backlog; same = search }

-- ---- the backlog, frame by frame

module _ {X : Type 0} where
  pub take_found : (xs : List X) (i : ℕ) (x : X) → slice_get xs i ≡ Some x → take (i + 1) xs ≡ take i xs ++ x ∷ []
  take_found [] i x is = absurd cc
  take_found (y ∷ ys) zero x is = ap (λ z. z ∷ []) (same_Some y x is)
  take_found (y ∷ ys) (suc i) x is =
      rw (add-one (suc i)) (ap (λ l. y ∷ l) (ap (λ n. take n ys) (sym (add-one i)) ∙ take_found ys i x is))

  pub take_missing : (xs : List X) (i : ℕ) → slice_get xs i ≡ None → take (i + 1) xs ≡ take i xs
  take_missing [] zero is = refl
  take_missing [] (suc i) is = rw (add-one (suc i)) refl
  take_missing (y ∷ ys) zero is = absurd cc
  take_missing (y ∷ ys) (suc i) is =
      rw (add-one (suc i)) (ap (λ l. y ∷ l) (ap (λ n. take n ys) (sym (add-one i)) ∙ take_missing ys i is))

-- ---- what was left

-- the frames of the ring, and then those of the backlog
pub left_is : (o p : LinkOut) (i j : LinkIn) → LeavesFrames o p → IsLater i j → handed p ≡ got j ++ backlog_of p → fresh i j ++ backlog_of p ≡ left_on o i
left_is o p i j leaves later all =
    let whole : handed o ≡ got i ++ (fresh i j ++ backlog_of p) =
    ap₂ (λ a b. a ++ b) (sym leaves.pushed) (sym leaves.backlog) ∙ all ∙ ap (λ l. l ++ backlog_of p) later.1 ∙ append_assoc (got i) (fresh i j) (backlog_of p) in
    sym (ap (drop (length (got i))) whole ∙ drop-append_seam (got i) (fresh i j ++ backlog_of p))

pub taken_or_left : (o p : LinkOut) (i j : LinkIn) → LeavesFrames o p → IsLater i j → handed p ≡ got j ++ backlog_of p → handed o ≡ got i ++ left_on o i
taken_or_left o p i j leaves later all =
    ap₂ (λ a b. a ++ b) (sym leaves.pushed) (sym leaves.backlog) ∙ all ∙ ap (λ l. l ++ backlog_of p) later.1 ∙ append_assoc (got i) (fresh i j) (backlog_of p)
    ∙ ap (λ l. got i ++ l) (left_is o p i j leaves later all)
