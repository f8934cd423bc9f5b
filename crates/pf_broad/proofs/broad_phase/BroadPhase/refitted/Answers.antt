use Rattle.std.proofs.Common.{◌≡◌, ℕ, not, length, sym, subst, ap, ◌∙◌, arith}
use Rattle.std.proofs.lemmas.List.{with_items_is}
use Rattle.std.specs.List.{filter, range_with_len}
use Rattle.std.specs.Vec.{with_items}
use Rattle.pf_broad.specs.Pairs.{bounds_at, pairs}
use Rattle.pf_broad.specs.Enlarged.{contains, pairs_without, AreEnlarged}
use Rattle.pf_broad.proofs.Leaving.{in_order}
use Rattle.pf_broad.proofs.Enlarging.{candidates_of}
use Rattle.pf_broad.proofs.Searching.{others_same}
use Rattle.pf_broad.proofs.Within.{pairs-IsPairOf}
use Rattle.pf_broad.proofs.broad_phase.BroadPhase.refitted.Goals.{After-deref-2}
use Rattle.pf_broad.proofs.broad_phase.BroadPhase.refitted.Goals as goal

-- the new enlarged bounds
new_enlarged : (c : After-deref-2) → (with_items c.self.inside.enlarged c.refit.new.enlarged).items ≡ c.refit.new.enlarged
new_enlarged c = with_items_is c.self.inside.enlarged c.refit.new.enlarged (omega (arith, c.refit.auto.enlarged, c.deref_mut.ensures.len, ap length c.deref_mut.ensures.value))

enlarged_are : (c : After-deref-2) → c.deref-2.result.now ≡ c.refit.new.enlarged
enlarged_are c = c.deref-2.ensures.value ∙ new_enlarged c

candidates_are : (c : After-deref-2) → c.deref.result.now ≡ pairs c.args.self
candidates_are c = c.deref.ensures.value ∙ c.self.invariant.pairs ∙ ap pairs c.self.view_is

as_many : (c : After-deref-2) → length c.args.self ≡ length c.deref-2.result.now
as_many c = c.requires.enlarged ∙ sym (ap length (enlarged_are c) ∙ c.refit.ensures.enlarged.as_many)

pub merge-requires-clause-candidates : goal.merge-requires-clause-candidates
merge-requires-clause-candidates c = pairs-IsPairOf c.args.self c.deref.result.now (length c.deref-2.result.now) (candidates_are c) (as_many c)

pub merge-requires-clause-left : goal.merge-requires-clause-left
merge-requires-clause-left c =
    let test = λ (k : ℕ). not (contains (bounds_at c.args.self k) (bounds_at c.args.bounds.now k)) in
    in_order test c.deref-2.result.now c.args.left.now
    (c.requires.left ∙ ap (λ n. filter test (range_with_len 0 n)) (sym c.requires.enlarged ∙ as_many c))

pub merge-requires-clause-others : goal.merge-requires-clause-others
merge-requires-clause-others c =
    let left = c.args.left.now in
    ap (pairs_without left) (candidates_are c)
    ∙ others_same c.args.self c.deref-2.result.now left (as_many c)
    (λ k stayed.
    ap (λ l. bounds_at l k) (enlarged_are c) ∙ c.refit.ensures.others k stayed ∙ ap (λ l. bounds_at l k) (c.deref_mut.ensures.value ∙ c.self.view_is))

pub invariant_of-result : goal.invariant_of-result
invariant_of-result c =
    let before = (goal.at.invariant_of-result c).After-deref-2 in
    let enlarged : AreEnlarged (with_items c.self.inside.enlarged c.refit.new.enlarged).items c.args.bounds.now =
    subst (λ l. AreEnlarged l c.args.bounds.now) (sym (new_enlarged before)) c.refit.ensures.enlarged in
    candidates_of (with_items c.self.inside.enlarged c.refit.new.enlarged).items c.args.bounds.now c.in_ok-candidates.candidates.items enlarged c.requires.ordered c.requires.few
    (c.in_ok-candidates.ensures ∙ ap pairs c.deref-2.ensures.value)
