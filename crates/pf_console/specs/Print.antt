-- The texts of replies.
use Rattle.std.specs.Prelude.{ℕ, ◌+◌, ℤ, pos, Bool, true, false, List, [], ◌∷◌, ◌++◌, codes, decimal, if◌then◌else◌}
use Rattle.std.specs.List.{flat_map}
use Rattle.hex.specs.Hex.{encode_lower}
use Rattle.pf_text.specs.Words.{words_text, line_text}
use Rattle.pf_shapes.specs.Fixture.{Fixture, is_static}
use Rattle.pf_shapes.specs.Body.{BodyState}
use Rattle.pf_commands.specs.declared.payload.Command.{Command}
use Rattle.pf_commands.specs.declared.payload.Payload.{Payload}
use Rattle.pf_commands.specs.declared.payload.Payload.TheVariants.{Push, Turn, Stop, Place}
use Rattle.pf_cache.specs.Contact.{Contact}
use Rattle.pf_events.specs.declared.event.Reply.{Reply}
use Rattle.pf_events.specs.declared.event.Reply.TheVariants.{Issued, Took, Merged, Advanced, Settled, Shown, Sealed, Refused}
use Rattle.pf_step.specs.World.{World}
use Rattle.pf_rollback.specs.declared.error.Refusal.{Refusal}
use Rattle.pf_rollback.specs.declared.error.Refusal.TheVariants.{NotReached, TooOld, HorizonsDiffer}
use Rattle.pf_console.specs.Names.{put_name, refusal_name}

-- what a command does, and the line's end
abbrev pub payload_text : Payload → List ℕ
payload_text (Push body x y) = line_text (codes " push") (pos body ∷ x ∷ y ∷ [])
payload_text (Turn body x) = line_text (codes " turn") (pos body ∷ x ∷ [])
payload_text (Stop body) = line_text (codes " stop") (pos body ∷ [])
payload_text (Place body x y) = line_text (codes " place") (pos body ∷ x ∷ y ∷ [])

-- the line of a command: its name, and what it does
unfoldable pub line_of_command : Command → List ℕ
line_of_command c =
    words_text (codes "tick") (pos c.name.tick ∷ [])
    ++ words_text (codes " player") (pos c.name.player ∷ [])
    ++ words_text (codes " number") (pos c.name.number ∷ []) ++ payload_text c.payload

-- 1 or 0
abbrev pub flag : Bool → ℤ
flag true = pos 1
flag false = pos 0

-- the numbers of a body's line: I X Y C S VX VY W TIMER AWAKE
abbrev pub body_numbers : ℕ → BodyState → List ℤ
body_numbers i b =
    pos i ∷ b.position.x ∷ b.position.y ∷ b.rotation.c ∷ b.rotation.s
    ∷ b.velocity.x ∷ b.velocity.y ∷ b.spin ∷ pos b.timer ∷ flag b.awake ∷ []

abbrev pub body_text : ℕ → BodyState → List ℕ
body_text i b = line_text (codes "body") (body_numbers i b)

-- the line of a body, if it moves
abbrev pub dynamic_body_text : ℕ → Fixture → BodyState → List ℕ
dynamic_body_text i f b = if is_static f then [] else body_text i b

-- a line for each body that moves, the first of which has this number
unfoldable pub bodies_text : ℕ → List Fixture → List BodyState → List ℕ
bodies_text i (f ∷ fixtures) (b ∷ bodies) =
    dynamic_body_text i f b ++ bodies_text (i + 1) fixtures bodies
bodies_text i fixtures bodies = []

-- the numbers of a contact's line: I J F PN PT
abbrev pub contact_numbers : Contact → List ℤ
contact_numbers c =
    pos c.key.a ∷ pos c.key.b ∷ pos c.key.feature ∷ c.impulses.normal ∷ c.impulses.tangent ∷ []

abbrev pub contact_text : Contact → List ℕ
contact_text c = line_text (codes "contact") (contact_numbers c)

-- the block of a world: its bodies that move, and its contacts
unfoldable pub block_text : List Fixture → ℕ → ℕ → World → List ℕ
block_text fixtures peer tick w =
    line_text (codes "show") (pos peer ∷ pos tick ∷ []) ++ bodies_text 0 fixtures w.bodies
    ++ flat_map contact_text w.contacts ++ line_text (codes "end") []

-- a word, a peer, and its reply
abbrev pub reply_line : List ℕ → ℕ → List ℕ → List ℕ
reply_line word peer answer = words_text word (pos peer ∷ []) ++ 32 ∷ answer ++ 10 ∷ []

-- a refusal by its name
abbrev pub refusal_line : List ℕ → List ℕ
refusal_line name = codes "refused " ++ name ++ 10 ∷ []

-- a refusal by its name, and the ticks that it tells
unfoldable pub refusal_text : Refusal → List ℕ
refusal_text (NotReached reached) = line_text (codes "refused NotReached") (pos reached ∷ [])
refusal_text (TooOld horizon) = line_text (codes "refused TooOld") (pos horizon ∷ [])
refusal_text (HorizonsDiffer own other) =
    line_text (codes "refused HorizonsDiffer") (pos own ∷ pos other ∷ [])
refusal_text refusal = refusal_line (refusal_name refusal)

-- the text of a reply, whose worlds have these fixtures
unfoldable pub reply_text : List Fixture → Reply → List ℕ
reply_text fixtures (Issued peer frame) = reply_line (codes "issue") peer (encode_lower frame)
reply_text fixtures (Took peer put) = reply_line (codes "take") peer (put_name put)
reply_text fixtures (Merged peer count) = reply_line (codes "merge") peer (decimal count)
reply_text fixtures (Advanced peer reached) =
    line_text (codes "advance") (pos peer ∷ pos reached ∷ [])
reply_text fixtures (Settled peer reached) =
    line_text (codes "settle") (pos peer ∷ pos reached ∷ [])
reply_text fixtures (Shown peer tick world) = block_text fixtures peer tick world
reply_text fixtures (Sealed peer tick) = line_text (codes "seal") (pos peer ∷ pos tick ∷ [])
reply_text fixtures (Refused refusal) = refusal_text refusal
