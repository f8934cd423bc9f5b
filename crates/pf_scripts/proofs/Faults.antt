-- Faults of scripts.
use Rattle.std.proofs.Common.{◌≡◌, ◌∙◌, ℕ, ◌+◌, ◌<◌, Global, List, [], ◌∷◌, ◌++◌, None, Some, Option, Vec, append-nil, ap, arith, drop, take, get_or, length, refl, sym}
use Rattle.std.proofs.lemmas.Grind.{flat_map-append}
use Rattle.std.proofs.lemmas.List.{drop_more, get_or-map, get_or_default, length-map, take_more}
use Rattle.std.proofs.lemmas.List.Sums.{sum_by-append}
use Rattle.std.specs.Prelude.{option_map}
use Rattle.pf_scripts.specs.Frames.{Setting}
use Rattle.pf_step.specs.Meter.{saturating_sum}
use Rattle.pf_links.specs.Link.{Frame}
use Rattle.pf_rollback.specs.declared.error.Refusal.{Refusal}
use Rattle.pf_scripts.specs.Frames.{refusal_of}
use Rattle.pf_scripts.specs.Script.{frame_bytes, first_fault, frame_fault, frames_in, script_frames, place_after, script_fault, script_ticks, turn_fault}
use Rattle.pf_scripts.specs.declared.turn.Turn.{Turn}
use Rattle.pf_scripts.specs.declared.error.SessionError.{SessionError}
use Rattle.pf_scripts.specs.declared.error.SessionError.TheVariants as errors

-- the first frame is refused
pub frame_fault_here : (s : Setting) (peer place : ℕ) (frame : Frame) (frames : List Frame) (refusal : Refusal) → refusal_of s frame ≡ Some refusal
    → frame_fault s peer place (frame ∷ frames) ≡ Some (errors.Frame peer place refusal)
unfolding frame_fault
frame_fault_here s peer place frame frames refusal is =
    ap (λ r. first_fault (option_map (errors.Frame peer place) r) (frame_fault s peer (saturating_sum place 1) frames)) is

-- the first frame is taken
pub frame_fault_later : (s : Setting) (peer place : ℕ) (frame : Frame) (frames : List Frame) → refusal_of s frame ≡ None
    → frame_fault s peer place (frame ∷ frames) ≡ frame_fault s peer (saturating_sum place 1) frames
unfolding frame_fault
frame_fault_later s peer place frame frames is =
    ap (λ r. first_fault (option_map (errors.Frame peer place) r) (frame_fault s peer (saturating_sum place 1) frames)) is

-- where a frame is refused alone, it is refused as the first of several
pub frame_fault_first : (s : Setting) (peer place : ℕ) (frame : Frame) (frames : List Frame) (fault : SessionError)
    → frame_fault s peer place (frame ∷ []) ≡ Some fault → frame_fault s peer place (frame ∷ frames) ≡ Some fault
unfolding frame_fault
frame_fault_first s peer place frame frames fault = by (refusal_of s frame)
  where
    by : (r : Option Refusal) → first_fault (option_map (errors.Frame peer place) r) None ≡ Some fault
        → first_fault (option_map (errors.Frame peer place) r) (frame_fault s peer (saturating_sum place 1) frames) ≡ Some fault
    by None same = absurd cc
    by (Some refusal) same = same

-- no frame is left
pub frame_fault_end : (s : Setting) (peer place : ℕ) → frame_fault s peer place [] ≡ None
unfolding frame_fault
frame_fault_end s peer place = refl

pub place_after_end : (place : ℕ) → place_after place [] ≡ place
unfolding place_after
place_after_end place = refl

pub place_after_later : (place : ℕ) (frame : Frame) (frames : List Frame) → place_after place (frame ∷ frames) ≡ place_after (saturating_sum place 1) frames
unfolding place_after
place_after_later place frame frames = refl

-- ---- the frames of a turn, one after the other

module _ (s : Setting) (player first place : ℕ) (all : List Frame) (n : ℕ) (frame : Frame) (low : n < length all) (at : get_or all n frame ≡ frame) where
  left : drop n all ≡ frame ∷ drop (n + 1) all
  left = drop_more all n frame low ∙ ap (λ f. f ∷ drop (n + 1) all) at

  pub fault_here : (fault : SessionError) → frame_fault s player first all ≡ frame_fault s player place (drop n all)
      → frame_fault s player place (frame ∷ []) ≡ Some fault → frame_fault s player first all ≡ Some fault
  fault_here fault kept is =
      kept ∙ ap (frame_fault s player place) left ∙ frame_fault_first s player place frame (drop (n + 1) all) fault is

  pub fault_later : frame_fault s player first all ≡ frame_fault s player place (drop n all) → refusal_of s frame ≡ None
      → frame_fault s player first all ≡ frame_fault s player (saturating_sum place 1) (drop (n + 1) all)
  fault_later kept none =
      kept ∙ ap (frame_fault s player place) left ∙ frame_fault_later s player place frame (drop (n + 1) all) none

  pub place_later : place_after first all ≡ place_after place (drop n all)
      → place_after first all ≡ place_after (saturating_sum place 1) (drop (n + 1) all)
  place_later kept = kept ∙ ap (place_after place) left ∙ place_after_later place frame (drop (n + 1) all)

-- the bytes of a frame in a list
pub bytes_at : (frames : List (Vec ℕ Global)) (n : ℕ) (v : Vec ℕ Global) (frame : Frame) → n < length frames → frame ≡ (get_or frames n v).items
    → get_or (frame_bytes frames) n frame ≡ frame
bytes_at frames n v frame low is =
    get_or_default (frame_bytes frames) n frame v.items (omega (arith, low, length-map frames (λ (f : Vec ℕ Global). f.items)))
    ∙ get_or-map (λ (f : Vec ℕ Global). f.items) frames n v v.items low ∙ sym is

-- ---- the turns of a script

pub script_fault_end : (s : Setting) (peer place reached : ℕ) → script_fault s peer place reached [] ≡ None
unfolding script_fault
script_fault_end s peer place reached = refl

module _ (s : Setting) (player first place from reached : ℕ) (script : List Turn) (n : ℕ) (turn : Turn) (low : n < length script) (at : get_or script n turn ≡ turn)
    (kept : script_fault s player first from script ≡ script_fault s player place reached (drop n script)) where
  left_turns : drop n script ≡ turn ∷ drop (n + 1) script
  left_turns = drop_more script n turn low ∙ ap (λ t. t ∷ drop (n + 1) script) at

  -- a turn has a fault
  pub turn_fault_here : (fault : SessionError) → turn_fault s player place reached turn ≡ Some fault → script_fault s player first from script ≡ Some fault
  unfolding script_fault
  turn_fault_here fault is =
      kept ∙ ap (script_fault s player place reached) left_turns
      ∙ ap (λ f. first_fault f (script_fault s player (place_after place (frames_in turn)) (reached + turn.ticks) (drop (n + 1) script))) is

  -- a turn has none
  pub turn_fault_later : turn_fault s player place reached turn ≡ None
      → script_fault s player first from script
      ≡ script_fault s player (place_after place (frames_in turn)) (reached + turn.ticks) (drop (n + 1) script)
  unfolding script_fault
  turn_fault_later is =
      kept ∙ ap (script_fault s player place reached) left_turns
      ∙ ap (λ f. first_fault f (script_fault s player (place_after place (frames_in turn)) (reached + turn.ticks) (drop (n + 1) script))) is

-- the frames and the ticks of one turn more
pub frames_more : (script : List Turn) (n : ℕ) (turn : Turn) → n < length script → get_or script n turn ≡ turn
    → script_frames (take (n + 1) script) ≡ script_frames (take n script) ++ frames_in turn
frames_more script n turn low at =
    ap script_frames (take_more script n turn low ∙ ap (λ t. take n script ++ t ∷ []) at)
    ∙ flat_map-append frames_in (take n script) (turn ∷ []) ∙ ap (λ fs. script_frames (take n script) ++ fs) (append-nil (frames_in turn))

pub ticks_more : (script : List Turn) (n : ℕ) (turn : Turn) → n < length script → get_or script n turn ≡ turn
    → script_ticks (take (n + 1) script) ≡ script_ticks (take n script) + turn.ticks
ticks_more script n turn low at =
    let whole = ap script_ticks (take_more script n turn low ∙ ap (λ t. take n script ++ t ∷ []) at) in
    omega (arith, whole, sum_by-append (λ (t : Turn). t.ticks) (take n script) (turn ∷ []))
