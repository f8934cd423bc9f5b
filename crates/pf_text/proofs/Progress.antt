-- How far a run came, and what each exit of the driver makes of that.
use Rattle.std.proofs.Common.{◌≡◌, Bool, true, false, String, ℕ, ◌+◌, ◌-◌, ◌<◌, ◌^◌, List, [], ◌∷◌, ◌++◌, length, Option, Some, Ok, Err, IsOk, inl, inr, refl, sym, ap, subst, ◌∙◌, append_assoc, append-nil, arith}
use Rattle.std.specs.Io.KnownBytes.{Appends}
use Rattle.std.specs.Global.{Global}
use Rattle.std.specs.List.{flat_map}
use Rattle.std.proofs.lemmas.Bool.{lt-leb}
use Rattle.std.proofs.lemmas.Grind.{flat_map-append}
use Rattle.std.proofs.lemmas.List.{length-append}
use Rattle.std.proofs.lemmas.List.Folds.{list_all-append}
use Rattle.pf_text.specs.declared.fault.LineFault.TheVariants.{BadLine}
use Rattle.pf_text.specs.declared.lines.Taken.{Taken}
use Rattle.pf_text.specs.declared.lines.Taken.TheVariants.{Line, Last, End, TooLong}
use Rattle.pf_text.specs.declared.lines.ReadFailed.{ReadFailed}
use Rattle.pf_text.specs.declared.driver.TakeError.{TakeError}
use Rattle.pf_text.specs.declared.driver.TakeError.TheVariants as take_errors
use Rattle.pf_text.specs.declared.driver.DriveError.TheVariants as errors
use Rattle.pf_text.specs.Lines.{AppendsPrefix, AreLines, Takes, terminated_line, is_line, lines_of}
use Rattle.pf_text.specs.Streams.{Streams, Transfer, IfExposed}
use Rattle.pf_text.proofs.Taking.{appends_known}
use Rattle.pf_text.proofs.LinesOf.{lines_of-AreLines, lines_of-terminated_line, lines_of-last, lines_of-front}
use Rattle.pf_text.specs.Driver.{Rules, Output, TakesLine, LeadTo, StopsForMemory, StopsAtChange, Drives, RunKeepsLent, KeepsLent, CountsReads, CountsWrites, Produces, fault_at, line_allocates, line_changes_lent, line_step, lines_output, and_then, text_output}

-- an output behind what was written
abbrev pub joined : {S F : Type 0} → List ℕ → Output S F → Output S F
joined written output = record { text = written ++ output.text; ending = output.ending }

-- These lines were taken and this was written for them. The output of whatever follows them stands
-- behind that.
pub record Progress {S F : Type 0} (rules : Rules S F) (start : S) (input before : List ℕ) (left after : Option (List ℕ))
    (number : ℕ) (state : S) : Type 0 where
  pub taken : List (List ℕ)
  pub written : List ℕ
  pub rest : List ℕ
  pub left_is : left ≡ Some rest
  pub after_is : after ≡ Some (before ++ written)
  pub lines_are : AreLines input taken rest
  pub number_is : number ≡ length taken + 1
  pub reaches : (lines : List (List ℕ))
      → lines_output rules 1 start (taken ++ lines) ≡ joined written (lines_output rules number state lines)

-- at the start
pub Progress-none : {S F : Type 0} (rules : Rules S F) (start : S) (input before : List ℕ) (left after : Option (List ℕ))
    → left ≡ Some input → after ≡ Some before → Progress rules start input before left after 1 start
Progress-none rules start input before left after left_is after_is = record {
  taken = [];
  written = [];
  rest = input;
  left_is = left_is;
  after_is = after_is ∙ ap (λ bytes. Some bytes) (sym (append-nil before));
  lines_are = record { bytes_are = refl; lines_are = refl };
  number_is = refl;
  reaches = λ lines. refl;
}

-- a line that is too long is invalid, whatever it is
line_step-long : {S F : Type 0} (rules : Rules S F) (state : S) (line : List ℕ) → 4096 < length line
    → line_step rules state line ≡ Err (rules.line_error BadLine)
unfolding line_step
line_step-long rules state line lt = rw (lt-leb (length line) 4096 lt) refl

-- the transfer of a run that has come so far
abbrev pub transfer : List ℕ → List ℕ → Option (List ℕ) → Option (List ℕ) → Transfer
transfer input before left after = record { input = input; left = left; before = before; after = after }

module _ {S F : Type 0} {rules : Rules S F} {start : S} {input before : List ℕ} {left after : Option (List ℕ)}
    {number : ℕ} {state : S} (p : Progress rules start input before left after number state) where
  -- what is left has the other lines
  lines_are_all : lines_of input ≡ p.taken ++ lines_of p.rest
  lines_are_all = lines_of-AreLines input p.taken p.rest p.lines_are

  -- the whole output, from the lines that are left
  output_is : text_output rules start input ≡ joined p.written (lines_output rules number state (lines_of p.rest))
  output_is = ap (lines_output rules 1 start) lines_are_all ∙ p.reaches (lines_of p.rest)

  -- the lines that were taken are valid, and their output was written
  valid : LeadTo rules start p.taken p.written state
  unfolding lines_output
  valid =
      ap (lines_output rules 1 start) (sym (append-nil p.taken)) ∙ p.reaches []
      ∙ ap (λ text. record { text = text; ending = Ok (number, state) }) (append-nil p.written)
      ∙ ap (λ n. record { text = p.written; ending = Ok (n, state) }) p.number_is

  -- the lines are the same where a part of what was left is taken
  lines_before : (part rest : List ℕ) → p.rest ≡ part ++ rest → AreLines input p.taken (part ++ rest)
  lines_before part rest e = record {
    bytes_are = p.lines_are.bytes_are ∙ ap (λ bytes. flat_map terminated_line p.taken ++ bytes) e;
    lines_are = p.lines_are.lines_are;
  }

  -- the line that was taken, and what is left
  takes_line : (taken : Taken) (line : List ℕ) (left' : Option (List ℕ)) → Takes p.rest line left' (Ok taken)
      → (taken ≡ End → ⊥) → TakesLine input p.taken line left'
  takes_line taken line left' t ne =
      record { bytes = p.rest; taken = taken; lines_are = p.lines_are; line_is = t; is_there = ne }

  -- where the machine ran out of memory at a valid line
  Drives-memory : (taken : Taken) (line : List ℕ) (left' : Option (List ℕ)) → Takes p.rest line left' (Ok taken)
      → (taken ≡ End → ⊥) → line_allocates rules state line ≡ true → IsOk (line_step rules state line)
      → StopsForMemory rules start (transfer input before left' after)
  Drives-memory taken line left' t ne some ok = record {
    lines = p.taken;
    text = p.written;
    state = state;
    valid = valid;
    after_is = p.after_is;
    cause = inl (record { line = line; takes = takes_line taken line left' t ne; allocates = some; valid = ok });
  }

  -- where it may have changed what that line was lent
  pub Stops-change : (taken : Taken) (line : List ℕ) (left' : Option (List ℕ)) → Takes p.rest line left' (Ok taken)
      → (taken ≡ End → ⊥) → line_allocates rules state line ≡ true → IsOk (line_step rules state line)
      → line_changes_lent rules state line ≡ true → StopsAtChange rules start (transfer input before left' after)
  unfolding Drives-memory
  Stops-change taken line left' t ne some ok changes = record {
    stops = Drives-memory taken line left' t ne some ok;
    stop = record { line = line; takes = takes_line taken line left' t ne; allocates = some; valid = ok };
    changes = changes;
  }

  -- where no number is left for a line
  pub Drives-spent : number ≡ 2 ^ 64 - 1 → StopsForMemory rules start (transfer input before left after)
  Drives-spent spent = record {
    lines = p.taken;
    text = p.written;
    state = state;
    valid = valid;
    after_is = p.after_is;
    cause = inr (record {
      rest = p.rest;
      lines_are = p.lines_are;
      left_is = p.left_is;
      count_is = omega (arith, spent, p.number_is);
    });
  }

  -- where the reader failed
  pub Drives-read : (failed : ReadFailed) (line : List ℕ) (left' : Option (List ℕ)) → Takes p.rest line left' (Err failed)
      → Drives rules start (transfer input before left' after) (Err errors.Read)
  Drives-read failed line left' t = record {
    lines = p.taken;
    text = p.written;
    state = state;
    valid = valid;
    after_is = p.after_is;
    part = t.0;
    rest = t.1.rest;
    lines_are = lines_before t.0 t.1.rest t.1.bytes_are;
    part_is = t.2;
    left_is = t.1.left_is;
  }

  -- at the end
  pub Drives-end : (line : List ℕ) (left' : Option (List ℕ)) → Takes p.rest line left' (Ok End)
      → Drives rules start (transfer input before left' after) (Ok (number, state))
  unfolding lines_of lines_output
  Drives-end line left' t =
      let output : text_output rules start input ≡ joined p.written (lines_output rules number state []) =
      output_is ∙ ap (λ rest. joined p.written (lines_output rules number state (lines_of rest))) t.0 in
      let text = ap (λ (o : Output S F). o.text) output ∙ append-nil p.written in
      record {
        left_is = t.1;
        after_is = p.after_is ∙ ap (λ bytes. Some (before ++ bytes)) (sym text);
        ending_is = ap (λ (o : Output S F). o.ending) output;
      }

  -- what was taken is the first line of what was left, or of one line_step with it
  output_at : (taken : Taken) (line : List ℕ) (left' : Option (List ℕ)) → Takes p.rest line left' (Ok taken) → (taken ≡ End → ⊥)
      → (others : List (List ℕ)) × (text_output rules start input
      ≡ joined p.written (and_then number (line_step rules state line) (λ next. lines_output rules (number + 1) next others)))
  unfolding lines_output
  output_at Line line left' t ne = (
    lines_of t.0.rest,
    output_is ∙ ap (λ lines. joined p.written (lines_output rules number state lines))
        (ap lines_of t.0.bytes_are ∙ lines_of-terminated_line line t.0.rest t.1),
  )
  output_at Last line left' t ne = (
    [],
    output_is ∙ ap (λ lines. joined p.written (lines_output rules number state lines))
        (ap lines_of (sym t.0) ∙ lines_of-last line t.2 t.3),
  )
  output_at End line left' t ne = absurd (ne refl)
  output_at TooLong line left' t ne =
      let long : 4096 < length line = omega (arith, t.2) in
      let found = lines_of-front line t.0.rest t.1 (omega arith) in
      let longer : 4096 < length (line ++ found.0) = omega (arith, length-append line found.0) in
      let same : line_step rules state (line ++ found.0) ≡ line_step rules state line =
      line_step-long rules state (line ++ found.0) longer ∙ sym (line_step-long rules state line long) in
      let first = output_is ∙ ap (λ lines. joined p.written (lines_output rules number state lines))
      (ap lines_of t.0.bytes_are ∙ found.2) in (
        found.1,
        first
            ∙ ap (λ reply. joined p.written (and_then number reply (λ next. lines_output rules (number + 1) next found.1))) same,
      )

  -- where a line is invalid
  Drives-fault : (taken : Taken) (line : List ℕ) (left' : Option (List ℕ)) (fault : F) → Takes p.rest line left' (Ok taken)
      → (taken ≡ End → ⊥) → line_step rules state line ≡ Err fault
      → Drives rules start (transfer input before left' after) (Err (errors.Line number fault))
  Drives-fault taken line left' fault t ne said =
      let found = output_at taken line left' t ne in
      let output = rw said at found.1 in
      let text = ap (λ (o : Output S F). o.text) output ∙ append-nil p.written in
      record {
        lines = p.taken;
        line = line;
        number_is = p.number_is;
        takes = takes_line taken line left' t ne;
        after_is = p.after_is ∙ ap (λ bytes. Some (before ++ bytes)) (sym text);
        ending_is = ap (λ (o : Output S F). o.ending) output;
      }

  -- where the machine did not take a line
  pub Drives-refused : (taken : Taken) (line : List ℕ) (left' : Option (List ℕ)) (refusal : TakeError F)
      → Takes p.rest line left' (Ok taken) → (taken ≡ End → ⊥) → Produces (Err refusal) (line_step rules state line)
      → (refusal ≡ take_errors.Memory → line_allocates rules state line ≡ true)
      → Drives rules start (transfer input before left' after) (Err (fault_at number refusal))
  Drives-refused taken line left' take_errors.Memory t ne said some = Drives-memory taken line left' t ne (some refl) said
  Drives-refused taken line left' (take_errors.Fault fault) t ne said some = Drives-fault taken line left' fault t ne said

  -- what is there after a text was written behind what was
  after_text : (after' : Option (List ℕ)) (text : List ℕ) → Appends after after' text
      → after' ≡ Some (before ++ (p.written ++ text))
  after_text after' text e =
      appends_known after after' (before ++ p.written) text p.after_is e
      ∙ ap (λ bytes. Some bytes) (append_assoc before p.written text)

  -- where the writer failed
  pub Drives-write : (taken : Taken) (line : List ℕ) (left' after' : Option (List ℕ)) (text : List ℕ) (next : S)
      → Takes p.rest line left' (Ok taken) → (taken ≡ End → ⊥) → line_step rules state line ≡ Ok (text, next)
      → AppendsPrefix after after' text → 0 < length text
      → Drives rules start (transfer input before left' after') (Err errors.Write)
  Drives-write taken line left' after' text next t ne said parts some =
      let found = output_at taken line left' t ne in
      let output = rw said at found.1 in
      let others = (lines_output rules (number + 1) next found.0).text in
      let whole : (p.written ++ parts.prefix) ++ (parts.rest ++ others) ≡ p.written ++ (text ++ others) =
      append_assoc p.written parts.prefix (parts.rest ++ others)
      ∙ ap (λ bytes. p.written ++ bytes)
      (sym (append_assoc parts.prefix parts.rest others) ∙ ap (λ bytes. bytes ++ others) parts.bytes_are) in
      record {
        lines = p.taken;
        text = p.written;
        state = state;
        valid = valid;
        line = line;
        takes = takes_line taken line left' t ne;
        part = parts.prefix;
        unwritten = parts.rest;
        next = next;
        some = subst (λ bytes. 0 < length bytes) (sym parts.bytes_are) some;
        reply = said ∙ ap (λ bytes. Ok (bytes, next)) (sym parts.bytes_are);
        after_is = after_text after' parts.prefix parts.appended
            ∙ ap (λ bytes. Some bytes) (sym (append_assoc before p.written parts.prefix));
        rest = parts.rest ++ others;
        output_is = whole ∙ sym (ap (λ (o : Output S F). o.text) output);
      }

  -- at a last line without a LF
  pub Drives-last : (line : List ℕ) (left' after' : Option (List ℕ)) (text : List ℕ) (next : S)
      → Takes p.rest line left' (Ok Last) → line_step rules state line ≡ Ok (text, next) → Appends after after' text
      → Drives rules start (transfer input before left' after') (Ok (number + 1, next))
  unfolding lines_output
  Drives-last line left' after' text next t said written =
      let first = output_is ∙ ap (λ lines. joined p.written (lines_output rules number state lines))
      (ap lines_of (sym t.0) ∙ lines_of-last line t.2 t.3) in
      let output : text_output rules start input
      ≡ joined p.written (and_then number (Ok (text, next)) (λ next. lines_output rules (number + 1) next [])) =
      first ∙ ap (λ reply. joined p.written (and_then number reply (λ next. lines_output rules (number + 1) next []))) said in
      let text-is = ap (λ (o : Output S F). o.text) output ∙ ap (λ bytes. p.written ++ bytes) (append-nil text) in
      record {
        left_is = t.1;
        after_is = after_text after' text written ∙ ap (λ bytes. Some (before ++ bytes)) (sym text-is);
        ending_is = ap (λ (o : Output S F). o.ending) output;
      }

  -- a line further
  pub Progress-next : (taken : Taken) (line : List ℕ) (left' after' : Option (List ℕ)) (text : List ℕ) (next : S) → Takes p.rest line left' (Ok taken) → (taken ≡ End → ⊥) → (taken ≡ Last → ⊥) → line_step rules state line ≡ Ok (text, next)
      → Appends after after' text → Progress rules start input before left' after' (number + 1) next
  unfolding lines_output
  Progress-next End line left' after' text next t ne nl said written = absurd (ne refl)
  Progress-next Last line left' after' text next t ne nl said written = absurd (nl refl)
  Progress-next TooLong line left' after' text next t ne nl said written =
      let refused = line_step-long rules state line (omega (arith, t.2)) in absurd cc
  Progress-next Line line left' after' text next t ne nl said written = record {
    taken = p.taken ++ line ∷ [];
    written = p.written ++ text;
    rest = t.0.rest;
    left_is = t.0.left_is;
    after_is = after_text after' text written;
    lines_are = record {
      bytes_are = p.lines_are.bytes_are ∙ ap (λ rest. flat_map terminated_line p.taken ++ rest) t.0.bytes_are ∙ sym (append_assoc (flat_map terminated_line p.taken) (terminated_line line) t.0.rest)
          ∙ ap (λ bytes. bytes ++ t.0.rest) (ap (λ bytes. flat_map terminated_line p.taken ++ bytes) (sym (append-nil (terminated_line line))) ∙ sym (flat_map-append terminated_line p.taken (line ∷ [])));
      lines_are = rw (list_all-append is_line p.taken (line ∷ []), p.lines_are.lines_are, t.1) refl;
    };
    number_is = omega (arith, p.number_is, length-append p.taken (line ∷ []));
    reaches = λ lines.
        ap (lines_output rules 1 start) (append_assoc p.taken (line ∷ []) lines) ∙ p.reaches (line ∷ lines)
        ∙ ap (λ answer. joined p.written (and_then number answer (λ next. lines_output rules (number + 1) next lines))) said
        ∙ ap (λ bytes. record { text = bytes; ending = (lines_output rules (number + 1) next lines).ending }) (sym (append_assoc p.written text (lines_output rules (number + 1) next lines).text));
  }

-- where the machine did not take a line, no failure was counted
pub Counts-refused : {F : Type 0} (number before after : ℕ) (refusal : TakeError F) → after ≡ before
    → CountsReads {T = ℕ} {F = F} before (Err (fault_at number refusal)) after
    × CountsWrites {T = ℕ} {F = F} before (Err (fault_at number refusal)) after
Counts-refused number before after take_errors.Memory counted = (counted, counted)
Counts-refused number before after (take_errors.Fault fault) counted = (counted, counted)

-- where the machine did not take a line, what that was lent is as before, or it may have changed it
pub RunKeepsLent-refused : {S F L : Type 0} (rules : Rules S F) (start : S) (s : Streams) (number : ℕ) (may_change : Bool)
    (refusal : TakeError F) (first before after : L) → before ≡ first
    → KeepsLent {T = String Global × S} (Err refusal) may_change before after
    → (refusal ≡ take_errors.Memory → may_change ≡ true → IfExposed s (λ t. StopsAtChange rules start t))
    → RunKeepsLent {T = ℕ × S} rules start s (Err (fault_at number refusal)) first after
RunKeepsLent-refused rules start s number true take_errors.Memory first before after same kept stops = inr (stops refl refl)
RunKeepsLent-refused rules start s number false take_errors.Memory first before after same kept stops = inl (kept ∙ same)
RunKeepsLent-refused rules start s number may_change (take_errors.Fault fault) first before after same kept stops = kept ∙ same
