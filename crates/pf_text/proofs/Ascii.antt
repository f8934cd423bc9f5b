-- One byte more, for the loop that looks for the greatest.
use Rattle.std.proofs.Common.{◌≡◌, ℕ, ◌+◌, ◌<◌, ◌&&◌, List, length, take, get_or, max, nat_lt, refl, ◌∙◌, arith}
use Rattle.std.proofs.lemmas.Bool.Decides.{nat_tests}
use Rattle.std.proofs.lemmas.List.Folds.{list_all_more}
use Rattle.pf_text.specs.Driver.{is_ascii}

both_below : (a b : ℕ) → nat_lt (max a b) 128 ≡ nat_lt a 128 && nat_lt b 128
both_below a b = grind (arith, nat_tests)

pub ascii_next : (bytes : List ℕ) (i greatest : ℕ) → i < length bytes → nat_lt greatest 128 ≡ is_ascii (take i bytes)
    → nat_lt (max greatest (get_or bytes i 0)) 128 ≡ is_ascii (take (i + 1) bytes)
ascii_next bytes i greatest lt front =
    both_below greatest (get_or bytes i 0)
    ∙ rw (list_all_more (λ byte. nat_lt byte 128) bytes i 0 lt, front) refl
