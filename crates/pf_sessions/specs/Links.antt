-- The links between the peers of a session.
use Rattle.std.specs.Prelude.{◌≡◌, List, [], ◌++◌, Vec, map}
use Rattle.std.specs.Global.{Global}
use Rattle.std.specs.List.{AllZip}
use Rattle.pf_links.specs.Link.{AreEnds, backlog_of, capacity_of, got, handed}
use Rattle.pf_links.specs.declared.input.LinkIn.{LinkIn}
use Rattle.pf_links.specs.declared.output.LinkOut.{LinkOut}
use Rattle.pf_scripts.specs.declared.peer.Peer.{Peer}
use Rattle.pf_sessions.specs.Table.{IsTable, transpose}
use Rattle.pf_sessions.specs.declared.links.TheConstants.{LINK_CAPACITY}

-- the rows of a table
abbrev pub table_rows : {X : Type 0} → List (Vec X Global) → List (List X)
table_rows rows = map (λ row. row.items) rows

-- for each peer the ends of its links to the others
abbrev pub outputs_of : List Peer → List (List LinkOut)
outputs_of peers = map (λ peer. peer.outputs.items) peers

-- for each peer the ends of the links from the others to it
abbrev pub inputs_of : List Peer → List (List LinkIn)
inputs_of peers = map (λ peer. peer.inputs.items) peers

-- each two peers hold the ends of the two links between them, and of each link this holds
pub record AreLinked (holds : LinkOut → LinkIn → Type 0) (outputs : List (List LinkOut))
    (inputs : List (List LinkIn)) : Type 0 where
  pub table : IsTable outputs
  pub each : AllZip (AllZip holds) (transpose outputs) inputs

-- a link on which nothing was handed in
pub record IsNewLink (out : LinkOut) (into : LinkIn) : Type 0 where
  pub ends : AreEnds out into
  pub capacity : capacity_of out ≡ LINK_CAPACITY
  pub handed : handed out ≡ []
  pub got : got into ≡ []

-- what was handed in was taken, in its order, but for the backlog
pub record IsDelivered (out : LinkOut) (into : LinkIn) : Type 0 where
  pub ends : AreEnds out into
  pub handed : handed out ≡ got into ++ backlog_of out
