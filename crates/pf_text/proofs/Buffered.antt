-- What a buffer of bytes that were read does to what is known, and a writer that takes its bytes
-- piece by piece.
use Rattle.std.proofs.Common.{◌≡◌, ℕ, ◌+◌, ◌-◌, ◌≤◌, Option, None, Some, List, [], ◌++◌, length, take, drop, min, refl, sym, ap, subst, ◌∙◌, append_assoc, append-nil, arith, take-append-drop}
use Rattle.std.specs.Io.KnownBytes.{Consumes, Appends, Keeps, prepend_known}
use Rattle.std.proofs.lemmas.List.{drop-take, drop-drop, length-take}
use Rattle.pf_text.specs.Lines.{AppendsPrefix}
use Rattle.pf_text.specs.Buffer.{unread}
use Rattle.pf_text.proofs.Taking.{appends_kept, appends_more, appends_after, keeps_same, keeps_more}

-- an empty buffer
unread-nil : (start end : ℕ) (buffer : List ℕ) → end ≤ start → unread start end buffer ≡ []
unread-nil start end buffer le = let none : end - start ≡ 0 = omega arith in rw none

-- a buffer that was filled
unread-front : (count : ℕ) (buffer : List ℕ) → unread 0 count buffer ≡ take count buffer
unread-front count buffer = let all : count - 0 ≡ count = omega arith in rw all refl

-- bytes that are taken from a buffer
unread-skip : (start end count : ℕ) (buffer : List ℕ) → count ≤ length (unread start end buffer)
    → unread start end buffer ≡ take count (unread start end buffer) ++ unread (start + count) end buffer
unread-skip start end count buffer le =
    let least : count ≤ min (end - start) (length (drop start buffer)) =
    subst (λ n. count ≤ n) (length-take (end - start) (drop start buffer)) le in
    let within : count ≤ end - start = omega arith in
    let size : end - start ≡ count + (end - (start + count)) = omega arith in
    let rest : drop count (unread start end buffer) ≡ unread (start + count) end buffer =
    ap (λ n. drop count (take n (drop start buffer))) size
    ∙ drop-take count (end - (start + count)) (drop start buffer)
    ∙ ap (take (end - (start + count))) (drop-drop count start buffer) in
    sym (take-append-drop count (unread start end buffer)) ∙ ap (λ bytes. take count (unread start end buffer) ++ bytes) rest

-- and what is known then
pub consumes_unread : (r : Option (List ℕ)) (start end count : ℕ) (buffer : List ℕ) → count ≤ length (unread start end buffer)
    → Consumes (prepend_known (unread start end buffer) r) (prepend_known (unread (start + count) end buffer) r) (take count (unread start end buffer))
consumes_unread None start end count buffer le = tt
consumes_unread (Some ys) start end count buffer le =
    ap (λ bytes. bytes ++ ys) (unread-skip start end count buffer le)
    ∙ append_assoc (take count (unread start end buffer)) (unread (start + count) end buffer) ys

-- where bytes were read into a buffer that was empty
pub keeps_filled : (r s : Option (List ℕ)) (start end count : ℕ) (old new : List ℕ) → end ≤ start → Consumes r s (take count new) → Keeps (prepend_known (unread start end old) r) (prepend_known (unread 0 count new) s)
keeps_filled None s start end count old new le p = tt
keeps_filled (Some xs) None start end count old new le p = absurd p
keeps_filled (Some xs) (Some ys) start end count old new le p = ap (λ bytes. bytes ++ ys) (unread-front count new) ∙ sym p ∙ ap (λ bytes. bytes ++ xs) (sym (unread-nil start end old le))

-- where none were
pub keeps_unfilled : (r s : Option (List ℕ)) (start end : ℕ) (old new : List ℕ) → end ≤ start → Keeps r s → Keeps (prepend_known (unread start end old) r) (prepend_known (unread start end new) s)
keeps_unfilled None s start end old new le k = tt
keeps_unfilled (Some xs) None start end old new le k = absurd k
keeps_unfilled (Some xs) (Some ys) start end old new le k = rw (unread-nil start end old le, unread-nil start end new le) k

-- ---- a writer that takes its bytes piece by piece

-- where the writer failed after some pieces
pub appends_prefix_kept : (a b c : Option (List ℕ)) (bytes : List ℕ) → AppendsPrefix a b bytes → Keeps b c → AppendsPrefix a c bytes
appends_prefix_kept a b c bytes f k = record { prefix = f.prefix; rest = f.rest; bytes_are = f.bytes_are; appended = appends_kept a b c f.prefix f.appended k }

-- a piece further
pub appends_prefix_more : (a b c : Option (List ℕ)) (bytes rest : List ℕ) (count : ℕ) (f : AppendsPrefix a b bytes) → f.rest ≡ rest → Appends b c (take count rest) → (next : AppendsPrefix a c bytes) × (next.rest ≡ drop count rest)
appends_prefix_more a b c bytes rest count f is p = (
  record {
    prefix = f.prefix ++ take count rest;
    rest = drop count rest;
    bytes_are = append_assoc f.prefix (take count rest) (drop count rest) ∙ ap (λ r. f.prefix ++ r) (take-append-drop count rest ∙ sym is) ∙ f.bytes_are;
    appended = appends_more a b c f.prefix (take count rest) f.appended p;
  },
  refl,
)

-- after the last piece
pub appends_whole : (a b : Option (List ℕ)) (bytes : List ℕ) (f : AppendsPrefix a b bytes) → f.rest ≡ [] → Appends a b bytes
appends_whole a b bytes f none = subst (Appends a b) (sym (append-nil f.prefix) ∙ ap (λ r. f.prefix ++ r) (sym none) ∙ f.bytes_are) f.appended

-- a write of no byte
pub keeps_from_appends : (a b : Option (List ℕ)) → Appends a b [] → Keeps a b
keeps_from_appends None b p = tt
keeps_from_appends (Some xs) None p = absurd p
keeps_from_appends (Some xs) (Some ys) p = p ∙ append-nil xs

-- ---- for the functions that fill a buffer and that write

pub ruleset fills = (keeps_filled, keeps_unfilled, keeps_same)

-- for a writer that is asked again after an interrupt
pub ruleset writes_some = (keeps_same, keeps_more, appends_after, keeps_from_appends)

pub ruleset writes_whole = (appends_prefix_kept, appends_whole)
