-- Bodies and contacts as plain numbers.
use Rattle.std.specs.Prelude.{ℕ, Bool, if◌then◌else◌}
use Rattle.pf_shapes.specs.Body.{BodyState}
use Rattle.pf_cache.specs.Contact.{Contact}
use Rattle.pf_context.specs.declared.plain.PlainBody.{PlainBody}
use Rattle.pf_context.specs.declared.plain.PlainContact.{PlainContact}

-- 1 for true, and 0 for false
abbrev pub bit_of : Bool → ℕ
bit_of b = if b then 1 else 0

-- the numbers of a body
abbrev pub plain_body : BodyState → PlainBody
plain_body b = record {
  x = b.position.x;
  y = b.position.y;
  c = b.rotation.c;
  s = b.rotation.s;
  vx = b.velocity.x;
  vy = b.velocity.y;
  spin = b.spin;
  timer = b.timer;
  awake = bit_of b.awake;
}

-- the numbers of a contact
abbrev pub plain_contact : Contact → PlainContact
plain_contact c = record {
  a = c.key.a;
  b = c.key.b;
  feature = c.key.feature;
  normal = c.impulses.normal;
  tangent = c.impulses.tangent;
}
