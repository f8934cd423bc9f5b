use Rattle.std.proofs.Common.{◌≡◌, ◌++◌, take}
use Rattle.std.specs.List.{flat_map}
use Rattle.std.specs.String.{string_bytes}
use Rattle.pf_console.specs.Print.{contact_text}
use Rattle.pf_console.proofs.print.push_contacts.Given as goal

abbrev pub invariant-loop-contact : goal.invariant-loop-contact
invariant-loop-contact l =
    string_bytes l.text ≡ string_bytes l.initial.text ++ flat_map contact_text (take l.contact-index l.contacts)
