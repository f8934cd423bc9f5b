-- The sizes of crews that words spell.
use Rattle.std.proofs.Common.{◌≡◌, ℕ, ◌<◌, ◌≤◌, ◌^◌, Bool, true, false, Some, None, refl, ap, sym, arith}
use Rattle.std.specs.Str.Parse.{IsNumeral, digits_value, without_leading_plus}
use Rattle.clap.specs.Words.{Text}
use Rattle.clap.specs.ValueTests.{is_unsigned_in}
use Rattle.clap.specs.declared.builder.value_parser.ValueParser.TheVariants.{Unsigned}
use Rattle.clap.proofs.ValueTestLemmas.{Accepts-accepts, accepts-Accepts}
use Rattle.pf_pool.specs.declared.pool.TheConstants.{MAX_WORKERS}
use Rattle.pf_program.specs.Options.{crew_size}

-- the number that a word spells
abbrev value_of : Text → ℕ
value_of word = digits_value 10 (without_leading_plus word)

abbrev pub Spells : Text → Type 0
Spells word = IsNumeral 10 (without_leading_plus word) × (value_of word < 2 ^ 64)

pub size_in : (word : Text) (n : ℕ) → Spells word → n ≡ value_of word → 0 < n → n ≤ MAX_WORKERS → Some n ≡ crew_size word
size_in word n spells is some few =
    let least : 1 ≤ value_of word = omega (arith, is, some) in
    let most : value_of word ≤ MAX_WORKERS = omega (arith, is, few) in
    let test : is_unsigned_in 1 MAX_WORKERS word ≡ true = Accepts-accepts false (Unsigned 1 MAX_WORKERS) word (spells.0, spells.1, least, most) in
    rw test (ap (λ (m : ℕ). Some m) is)

not_in : (word : Text) (b : Bool) → is_unsigned_in 1 MAX_WORKERS word ≡ b → (is_unsigned_in 1 MAX_WORKERS word ≡ true → ⊥) → crew_size word ≡ None
not_in word true test out = absurd (out test)
not_in word false test out = rw test refl

pub size_none : (word : Text) → (Spells word → ⊥) → None ≡ crew_size word
size_none word out = sym (not_in word _ refl (λ test.
    let taken = accepts-Accepts false (Unsigned 1 MAX_WORKERS) word test in
    out (taken.0, taken.1)))
