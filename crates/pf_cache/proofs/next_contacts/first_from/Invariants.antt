use Rattle.std.proofs.Common.{◌≡◌, ◌-◌, ◌≤◌, ℕ, drop, length}
use Rattle.pf_cache.specs.Contact.{impulses_at}
use Rattle.pf_cache.proofs.next_contacts.first_from.Given as goal

abbrev pub invariant-loop-place : goal.invariant-loop-place
invariant-loop-place l = record {
  within : l.place ≤ length l.contacts;
  same : (n : ℕ) → l.least ≤ n → impulses_at n (drop l.place l.contacts) ≡ impulses_at n (drop l.start l.contacts);
}

abbrev pub decreases-loop-place : goal.decreases-loop-place
decreases-loop-place l = length l.contacts - l.place
