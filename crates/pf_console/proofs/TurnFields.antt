-- The fields of a turn's frames.
use Rattle.std.proofs.Common.{◌≡◌, ◌∙◌, ℕ, suc, zero, ◌<◌, true, false, ◌&&◌, List, [], ◌∷◌, length, map, Result, Ok, Err, is_ok, refl, ap, sym, arith}
use Rattle.std.specs.Prelude.{All, IsOk, Vec, slice_index_or}
use Rattle.std.specs.Global.{Global}
use Rattle.std.specs.List.{list_all}
use Rattle.std.proofs.lemmas.Bool.{and_parts}
use Rattle.pf_links.specs.Link.{Frame}
use Rattle.pf_text.specs.declared.fault.LineFault.{LineFault}
use Rattle.pf_text.specs.declared.fault.LineFault.TheVariants.{BadNumber}
use Rattle.pf_text.specs.Fault.{◌>>=◌}
use Rattle.pf_console.specs.Digits.{bytes_of, bytes_or_error}
use Rattle.pf_console.specs.Turns.{turn_frames}
use Rattle.hex.specs.Hex.{decode_of as hex_bytes}
use Rattle.hex.specs.declared.error.FromHexError.{FromHexError}

-- one field more
abbrev with_first : Result Frame LineFault → Result (List Frame) LineFault → Result (List Frame) LineFault
with_first first others = first >>= (λ bytes. others >>= (λ frames. Ok (bytes ∷ frames)))

both_ok : (first : Result Frame LineFault) (others : Result (List Frame) LineFault) → (is_ok first && is_ok others) ≡ is_ok (with_first first others)
both_ok (Ok bytes) (Ok frames) = refl
both_ok (Ok bytes) (Err fault) = refl
both_ok (Err fault) others = refl

module _ {R : Type 0} (view : R → List ℕ) where
  all_bytes : (fields : List R) → list_all (λ field. is_ok (bytes_of (view field))) fields ≡ is_ok (turn_frames (map view fields))
  all_bytes [] = refl
  all_bytes (field ∷ fields) =
      ap (λ rest. is_ok (bytes_of (view field)) && rest) (all_bytes fields)
      ∙ both_ok (bytes_of (view field)) (turn_frames (map view fields))

  pub each_is_ok : (fields : List R) → list_all (λ field. is_ok (bytes_of (view field))) fields ≡ true → All (λ field. IsOk (bytes_of (view field))) fields
  each_is_ok [] ok = λ k d low. absurd (omega arith)
  each_is_ok (field ∷ fields) ok =
      let parts = and_parts (is_ok (bytes_of (view field))) (list_all (λ f. is_ok (bytes_of (view f))) fields) ok in
      by parts.0 (each_is_ok fields parts.1)
    where
      at : IsOk (bytes_of (view field)) → All (λ f. IsOk (bytes_of (view f))) fields → (k : ℕ) (d : R) → k < length (field ∷ fields)
          → IsOk (bytes_of (view (slice_index_or (field ∷ fields) k d)))
      at first rest zero d low = first
      at first rest (suc k) d low = rest k d (omega arith)

      by : IsOk (bytes_of (view field)) → All (λ f. IsOk (bytes_of (view f))) fields → All (λ f. IsOk (bytes_of (view f))) (field ∷ fields)
      by first rest = λ k d low. at first rest k d low

-- no other error than this
bad_bytes : (read : Result (List ℕ) FromHexError) → is_ok (bytes_or_error read) ≡ false → bytes_or_error read ≡ Err BadNumber
bad_bytes (Ok bytes) not = absurd cc
bad_bytes (Err error) not = refl

bad_frames : (fields : List (List ℕ)) → is_ok (turn_frames fields) ≡ false → turn_frames fields ≡ Err BadNumber
bad_frames [] not = absurd cc
bad_frames (field ∷ fields) not = by (hex_bytes field) (turn_frames fields) (bad_frames fields) not
  where
    by : (read : Result (List ℕ) FromHexError) (others : Result (List Frame) LineFault) → (is_ok others ≡ false → others ≡ Err BadNumber)
        → is_ok (with_first (bytes_or_error read) others) ≡ false → with_first (bytes_or_error read) others ≡ Err BadNumber
    by (Err error) others rest not = refl
    by (Ok bytes) (Ok frames) rest not = absurd cc
    by (Ok bytes) (Err fault) rest not = rest refl

module _ {R : Type 0} (view : R → List ℕ) where
  pub bad_fields : (fields : List R) → list_all (λ field. is_ok (bytes_of (view field))) fields ≡ false → turn_frames (map view fields) ≡ Err BadNumber
  bad_fields fields not = bad_frames (map view fields) (sym (all_bytes view fields) ∙ not)

  pub good_fields : (fields : List R) → list_all (λ field. is_ok (bytes_of (view field))) fields ≡ true → is_ok (turn_frames (map view fields)) ≡ true
  good_fields fields ok = sym (all_bytes view fields) ∙ ok

  pub frames_are : (fields : List R) (frames : List (Vec ℕ Global)) → map (λ frame. Ok frame.items) frames ≡ map (λ field. bytes_of (view field)) fields
      → turn_frames (map view fields) ≡ Ok (map (λ frame. frame.items) frames)
  frames_are [] [] same = refl
  frames_are [] (frame ∷ frames) same = absurd cc
  frames_are (field ∷ fields) [] same = absurd cc
  frames_are (field ∷ fields) (frame ∷ frames) same =
      let first : bytes_of (view field) ≡ Ok frame.items = cc in
      let rest : map (λ f. Ok f.items) frames ≡ map (λ f. bytes_of (view f)) fields = cc in
      rw (first, frames_are fields frames rest) refl
