-- Clipping of the incident edge to the width of the reference face, as Box2D's b2ClipSegmentToLine,
-- once at each side.
use Rattle.std.specs.Prelude.{ℤ, neg_ℤ, Bool, true, false, Option, None, Some, int_lt}
use Rattle.pf_num.specs.Fx.{sum, difference, product, quotient}
use Rattle.pf_manifold.specs.declared.incident.Mark.{Mark}
use Rattle.pf_manifold.specs.declared.incident.Mark.TheVariants.{CutLow, CutHigh}
use Rattle.pf_manifold.specs.Incident.{ClipVertex, Segment}

-- the point where the segment between two vertices crosses the line of side = limit
unfoldable pub crossing : ClipVertex → ClipVertex → ℤ → Mark → ClipVertex
crossing first second limit mark = record {
  front = sum first.front
      (product (difference second.front first.front)
      (quotient (difference limit first.side) (difference second.side first.side)));
  side = limit;
  mark = mark;
}

-- an end that is outside moves to the crossing, and nothing is left of a segment with both ends
-- outside
unfoldable pub clip_to_line : Bool → Bool → Segment → ClipVertex → Option Segment
clip_to_line true true s cut = None
clip_to_line true false s cut = Some (record s { first = cut })
clip_to_line false true s cut = Some (record s { second = cut })
clip_to_line false false s cut = Some s

-- the part of a segment of side ≥ limit
unfoldable pub clip_low : Segment → ℤ → Option Segment
clip_low s limit =
    clip_to_line (int_lt s.first.side limit) (int_lt s.second.side limit) s
    (crossing s.first s.second limit CutLow)

-- the part of a segment of side ≤ limit
unfoldable pub clip_high : Segment → ℤ → Option Segment
clip_high s limit =
    clip_to_line (int_lt limit s.first.side) (int_lt limit s.second.side) s
    (crossing s.first s.second limit CutHigh)

-- the second of two clips
abbrev pub then_clip_high : Option Segment → ℤ → Option Segment
then_clip_high None limit = None
then_clip_high (Some s) limit = clip_high s limit

-- the part of a segment within the width of a face, from -side to side
unfoldable pub clip : Segment → ℤ → Option Segment
clip s side = then_clip_high (clip_low s (neg_ℤ side)) side
