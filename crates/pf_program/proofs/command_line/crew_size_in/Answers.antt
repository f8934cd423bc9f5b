use Rattle.std.proofs.Common.{◌≡◌, refl, ◌∙◌, ap, sym, codes, Some, None}
use Rattle.std.specs.Prelude.{option_map}
use Rattle.clap.specs.Words.{found_of}
use Rattle.clap.proofs.WalkLemmas.{first_value-rows}
use Rattle.pf_program.specs.Options.{crew_size_of}
use Rattle.pf_program.proofs.Entered.{crew_found}
use Rattle.pf_program.proofs.command_line.crew_size_in.Goals as goal

pub returns-in_err-get_str : goal.returns-in_err-get_str
returns-in_err-get_str c =
    let value = sym (first_value-rows (found_of c.in_ok-entered.entered.now) (codes "crew")) ∙ sym c.get_str.ensures in
    let found = crew_found c.args.matches.now _ _ _ (c.in_ok-entered.ensures.found.0 refl) c.in_ok-entered.ensures.rows value in
    let text : option_map (λ s. s.now) c.get_str.result ≡ None = rw c.in_err-get_str.was refl in
    c.from_residual-in_err-get_str.ensures ∙ ap crew_size_of (sym text) ∙ sym found

pub returns : goal.returns
returns c =
    let value = sym (first_value-rows (found_of c.in_ok-entered.entered.now) (codes "crew")) ∙ sym c.get_str.ensures in
    let found = crew_found c.args.matches.now _ _ _ (c.in_ok-entered.ensures.found.0 refl) c.in_ok-entered.ensures.rows value in
    let text : option_map (λ s. s.now) c.get_str.result ≡ Some c.in_ok-get_str.field-0.now = rw c.in_ok-get_str.was refl in
    c.crew_size.ensures ∙ ap crew_size_of (sym text) ∙ sym found
