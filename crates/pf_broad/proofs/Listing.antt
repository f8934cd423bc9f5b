-- A body more in some cells.
use Rattle.std.proofs.Common.{◌≡◌, ℕ, ℤ, pos, ◌+ℤ◌, ◌≤ℤ◌, Bool, true, false, cond, ◌&&◌, ◌||◌, List, [], ◌∷◌, ◌++◌, Option, Some, refl, ap, ◌∙◌, unwrap_or}
use Rattle.std.specs.Ordering.{int_eq}
use Rattle.std.specs.Option.{option_map}
use Rattle.std.proofs.lemmas.Bool.{and_parts}
use Rattle.std.proofs.lemmas.Bool.Decides.{Decides-int_eq}
use Rattle.indexmap.specs.IndexMap.{get}
use Rattle.smallvec.specs.SmallVec.{SmallVec}
use Rattle.pf_broad.specs.declared.cell.Cell.{Cell}
use Rattle.pf_broad.specs.Cell.{is_between}
use Rattle.pf_broad.specs.Stored.{Cells, cell_eq, stored_in, with_listed_body}
use Rattle.pf_broad.proofs.Intervals.{passed, passed-start, passed-more, passed-apart, passed-end}
use Rattle.pf_broad.proofs.Partnering.{and-false, and-true}

pub equal_cells : (a b : Cell) → cell_eq a b ≡ true → a ≡ b
equal_cells a b same =
    let parts = and_parts (int_eq a.x b.x) (int_eq a.y b.y) same in
    let x = (Decides-int_eq a.x b.x).0 parts.0 in
    let y = (Decides-int_eq a.y b.y).0 parts.1 in
    λ i. record { x = x i; y = y i }

-- a map in which one cell has one body more
pub listed : (old new : Cells) (cell : Cell) (bodies : SmallVec ℕ) (body : ℕ)
    → ((q : Cell) → get cell_eq new q ≡ cond (cell_eq cell q) (Some bodies) (get cell_eq old q))
    → bodies.items ≡ unwrap_or (stored_in old cell) [] ++ body ∷ []
    → (c : Cell) → stored_in new c ≡ with_listed_body (cell_eq cell c) body (stored_in old c)
listed old new cell bodies body updates more c =
    ap (option_map (λ v. v.items)) (updates c)
    ∙ elim (cell_eq cell c) as (λ b. cell_eq cell c ≡ b → option_map (λ (v : SmallVec ℕ). v.items) (cond b (Some bodies) (get cell_eq old c)) ≡ with_listed_body b body (stored_in old c)) [
      | true ↦ λ same. ap Some (more ∙ ap (λ q. unwrap_or (stored_in old q) [] ++ body ∷ []) (equal_cells cell c same))
      | false ↦ λ _. refl
    ] refl

-- a body is added where one of two tests holds, which never both hold
with_either : (p e q : Bool) (k : ℕ) (o : Option (List ℕ)) → q ≡ (p || e) → (p && e) ≡ false → with_listed_body e k (with_listed_body p k o) ≡ with_listed_body q k o
with_either true true q k o either apart = absurd (cc)
with_either true false q k o either apart = rw either refl
with_either false true q k o either apart = rw either refl
with_either false false q k o either apart = rw either refl

-- no row of a column has been passed
pub rows-start : (x : Bool) (low z : ℤ) (k : ℕ) (o : Option (List ℕ)) → o ≡ with_listed_body (x && passed low low z) k o
rows-start true low z k o = rw (passed-start low z) refl
rows-start false low z k o = refl

-- one row more of a column
pub rows-more : (x : Bool) (low y z : ℤ) (k : ℕ) (o : Option (List ℕ)) → low ≤ℤ y
    → with_listed_body (x && int_eq y z) k (with_listed_body (x && passed low y z) k o) ≡ with_listed_body (x && passed low (y +ℤ pos 1) z) k o
rows-more true low y z k o from = with_either _ _ _ k o (passed-more low y z from) (passed-apart low y z)
rows-more false low y z k o from = refl

-- all rows of a column
pub rows-end : (x : Bool) (low high z : ℤ) (k : ℕ) (o : Option (List ℕ)) → with_listed_body (x && passed low (high +ℤ pos 1) z) k o ≡ with_listed_body (x && is_between low high z) k o
rows-end x low high z k o = rw (passed-end low high z) refl

-- no column has been passed
pub columns-start : (low x : ℤ) (r : Bool) (k : ℕ) (o : Option (List ℕ)) → o ≡ with_listed_body (passed low low x && r) k o
columns-start low x r k o = rw (passed-start low x) refl

-- one column more
pub columns-more : (low x z : ℤ) (r : Bool) (k : ℕ) (o : Option (List ℕ)) → low ≤ℤ x
    → with_listed_body (int_eq x z && r) k (with_listed_body (passed low x z && r) k o) ≡ with_listed_body (passed low (x +ℤ pos 1) z && r) k o
columns-more low x z true k o from = rw (and-true (int_eq x z), and-true (passed low x z), and-true (passed low (x +ℤ pos 1) z)) (with_either _ _ _ k o (passed-more low x z from) (passed-apart low x z))
columns-more low x z false k o from = rw (and-false (int_eq x z), and-false (passed low x z), and-false (passed low (x +ℤ pos 1) z)) refl

-- all columns
pub columns-end : (low high x : ℤ) (r : Bool) (k : ℕ) (o : Option (List ℕ)) → with_listed_body (passed low (high +ℤ pos 1) x && r) k o ≡ with_listed_body (is_between low high x && r) k o
columns-end low high x r k o = rw (passed-end low high x) refl
