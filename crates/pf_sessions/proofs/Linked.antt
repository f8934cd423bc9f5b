-- Links that go on from one moment to another.
use Rattle.std.proofs.Common.{◌≡◌, ◌∙◌, ℕ, ◌+◌, List, [], ◌∷◌, ap, arith, length, subst, sym}
use Rattle.std.proofs.lemmas.List.Elements.{All-cons, All-head, All-tail}
use Rattle.std.specs.List.{AllZip}
use Rattle.std.specs.Prelude.{All}
use Rattle.pf_links.specs.Link.{AreEnds, SameIn, SameOut, got, handed}
use Rattle.pf_links.specs.declared.input.LinkIn.{LinkIn}
use Rattle.pf_links.specs.declared.output.LinkOut.{LinkOut}
use Rattle.pf_scripts.specs.Peer.{IsLater, WereHanded}
use Rattle.pf_scripts.specs.Script.{script_frames}
use Rattle.pf_scripts.specs.declared.peer.Peer.{Peer}
use Rattle.pf_scripts.specs.declared.turn.Turn.{Turn}
use Rattle.pf_sessions.specs.Session.{HasCarried}
use Rattle.pf_sessions.specs.Links.{AreLinked, IsNewLink, inputs_of, outputs_of}
use Rattle.pf_sessions.specs.Playing.{AllPlayed}
use Rattle.pf_sessions.specs.Table.{IsTable, transpose}
use Rattle.pf_sessions.proofs.Transposes.{table-transpose, transpose-transpose, zip-transpose}
use Rattle.pf_sessions.proofs.Zips.{rows_on, zip_all, zip_long, zip_turned, zip_weaker}

-- the ends of one link stay the ends of one link
pub ends_on : (o : LinkOut) (i : LinkIn) (p : LinkOut) (j : LinkIn) → AreEnds o i → SameOut o p → SameIn i j → AreEnds p j
ends_on o i p j ends out into = (
  into.0.0 ∙ ends.0 ∙ sym out.0.0,
  into.0.1 ∙ ends.1 ∙ sym out.0.1,
  into.0.2 ∙ ends.2 ∙ sym out.0.2,
  into.0.3 ∙ ends.3 ∙ sym out.0.3,
)

-- a table whose entries go on stays a table
module _ {X Y : Type 0} (R : X → Y → Type 0) where
  pub table_on : (rows : List (List X)) (others : List (List Y)) → AllZip (AllZip R) rows others → IsTable rows → IsTable others
  table_on rows others each table = by rows others (length rows) (zip_long (AllZip R) rows others each) each table
    where
      by : (rows : List (List X)) (others : List (List Y)) (n : ℕ) → n ≡ length others → AllZip (AllZip R) rows others
          → All (λ (row : List X). length row + 1 ≡ n) rows → IsTable others
      by rows others n count each wide k d low =
          omega (arith, count, wides rows others n each wide k d low)
        where
          wides : (rows : List (List X)) (others : List (List Y)) (n : ℕ) → AllZip (AllZip R) rows others → All (λ (row : List X). length row + 1 ≡ n) rows
              → All (λ (row : List Y). length row + 1 ≡ n) others
          wides [] [] n each wide = λ k d low. absurd (omega (arith, low))
          wides [] (o ∷ others) n each wide = absurd each
          wides (row ∷ rows) [] n each wide = absurd each
          wides (row ∷ rows) (other ∷ others) n each wide =
              All-cons (λ (r : List Y). length r + 1 ≡ n) other others
              (omega (arith, zip_long R row other each.0, All-head (λ (r : List X). length r + 1 ≡ n) row rows wide))
              (wides rows others n each.1 (All-tail (λ (r : List X). length r + 1 ≡ n) row rows wide))

-- ---- peers that played

pub outputs_on : (scripts : List (List Turn)) (olds news : List Peer) → AllPlayed scripts olds news → AllZip (AllZip SameOut) (outputs_of olds) (outputs_of news)
outputs_on [] [] [] all = tt
outputs_on [] [] (n ∷ news) all = absurd all
outputs_on [] (o ∷ olds) news all = absurd all
outputs_on (s ∷ scripts) [] news all = absurd all
outputs_on (s ∷ scripts) (o ∷ olds) [] all = absurd all
outputs_on (s ∷ scripts) (o ∷ olds) (n ∷ news) all = (
  zip_weaker (WereHanded (script_frames s)) SameOut (λ a b is. is.0) o.outputs.items n.outputs.items all.0.moved.outputs,
  outputs_on scripts olds news all.1,
)

pub inputs_on : (scripts : List (List Turn)) (olds news : List Peer) → AllPlayed scripts olds news → AllZip (AllZip SameIn) (inputs_of olds) (inputs_of news)
inputs_on [] [] [] all = tt
inputs_on [] [] (n ∷ news) all = absurd all
inputs_on [] (o ∷ olds) news all = absurd all
inputs_on (s ∷ scripts) [] news all = absurd all
inputs_on (s ∷ scripts) (o ∷ olds) [] all = absurd all
inputs_on (s ∷ scripts) (o ∷ olds) (n ∷ news) all = (
  zip_weaker IsLater SameIn (λ a b is. is.0) o.inputs.items n.inputs.items all.0.moved.inputs,
  inputs_on scripts olds news all.1,
)

-- peers that played are linked as they were
pub linked_on : (scripts : List (List Turn)) (olds news : List Peer) → AreLinked IsNewLink (outputs_of olds) (inputs_of olds) → AllPlayed scripts olds news
    → AreLinked AreEnds (outputs_of news) (inputs_of news)
linked_on scripts olds news linked all =
    let outs = outputs_on scripts olds news all in record {
      table = table_on SameOut (outputs_of olds) (outputs_of news) outs linked.table;
      each = rows_on IsNewLink SameOut SameIn AreEnds (λ o i p j new out into. ends_on o i p j new.ends out into) (transpose (outputs_of olds)) (inputs_of olds)
          (transpose (outputs_of news)) (inputs_of news) linked.each (zip-transpose SameOut (outputs_of olds) (outputs_of news) outs)
          (inputs_on scripts olds news all);
    }

-- ---- new links

-- the receivers' ends, by sender
pub senders_new : (outputs : List (List LinkOut)) (inputs : List (List LinkIn)) → AreLinked IsNewLink outputs inputs
    → AllZip (AllZip (λ i o. IsNewLink o i)) (transpose inputs) outputs
senders_new outputs inputs linked =
    subst (AllZip (AllZip (λ i o. IsNewLink o i)) (transpose inputs)) (transpose-transpose outputs linked.table)
    (zip-transpose (λ (i : LinkIn) (o : LinkOut). IsNewLink o i) inputs (transpose outputs) (turned (transpose outputs) inputs linked.each))
  where
    turned : (rows : List (List LinkOut)) (others : List (List LinkIn)) → AllZip (AllZip IsNewLink) rows others
        → AllZip (AllZip (λ i o. IsNewLink o i)) others rows
    turned rows others each =
        zip_weaker (λ ins outs. AllZip IsNewLink outs ins) (AllZip (λ i o. IsNewLink o i)) (λ ins outs is. zip_turned IsNewLink outs ins is) others rows
        (zip_turned (AllZip IsNewLink) rows others each)

abbrev pub HasGotNothing : Peer → Type 0
HasGotNothing p = All (λ i. got i ≡ []) p.inputs.items

abbrev pub HasSentNothing : Peer → Type 0
HasSentNothing p = All (HasCarried []) p.outputs.items

pub nothing_got : (rows : List (List LinkOut)) (peers : List Peer) → AllZip (AllZip IsNewLink) rows (inputs_of peers) → All HasGotNothing peers
nothing_got [] [] each = λ k d low. absurd (omega (arith, low))
nothing_got [] (p ∷ peers) each = absurd each
nothing_got (row ∷ rows) [] each = absurd each
nothing_got (row ∷ rows) (p ∷ peers) each =
    All-cons HasGotNothing p peers (zip_all IsNewLink (λ i. got i ≡ []) (λ o i is. is.got) row p.inputs.items each.0) (nothing_got rows peers each.1)

pub nothing_sent : (rows : List (List LinkIn)) (peers : List Peer) → AllZip (AllZip (λ i o. IsNewLink o i)) rows (outputs_of peers) → All HasSentNothing peers
nothing_sent [] [] each = λ k d low. absurd (omega (arith, low))
nothing_sent [] (p ∷ peers) each = absurd each
nothing_sent (row ∷ rows) [] each = absurd each
nothing_sent (row ∷ rows) (p ∷ peers) each =
    All-cons HasSentNothing p peers (zip_all (λ (i : LinkIn) (o : LinkOut). IsNewLink o i) (HasCarried []) (λ i o is. record { handed = is.handed; capacity = is.capacity }) row p.outputs.items each.0)
    (nothing_sent rows peers each.1)

-- ---- tables by receiver

module _ (holds : LinkOut → LinkIn → Type 0) (senders : List (List LinkOut)) (inputs : List (List LinkIn)) (table : IsTable senders)
    (each : AllZip (AllZip holds) senders inputs) where
  pub linked_by_receiver : (outputs : List (List LinkOut)) → outputs ≡ transpose senders → AreLinked holds outputs inputs
  linked_by_receiver outputs is = record {
    table = subst IsTable (sym is) (table-transpose senders table);
    each = subst (λ t. AllZip (AllZip holds) t inputs) (sym (ap transpose is ∙ transpose-transpose senders table)) each;
  }

-- rows of which each has this many entries, fewer by one than there are
pub table_of : {X : Type 0} (rows : List (List X)) (n : ℕ) → length rows ≡ n → All (λ row. length row + 1 ≡ n) rows → IsTable rows
table_of rows n count wide k d low = omega (arith, count, wide k d low)
