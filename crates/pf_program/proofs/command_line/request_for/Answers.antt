use Rattle.std.proofs.Common.{refl, ◌∙◌, ap, sym, codes, Some}
use Rattle.clap.specs.Words.{found_of}
use Rattle.clap.proofs.WalkLemmas.{first_value-rows}
use Rattle.pf_program.proofs.Entered.{digits_found, unwrap_map}
use Rattle.pf_program.proofs.command_line.request_for.Goals as goal

pub returns-in-Some : goal.returns-in-Some
returns-in-Some c =
    let value = sym (first_value-rows (found_of c.in-Some.frame.now) (codes "HEX")) ∙ sym c.get_str.ensures in
    record {
      asked = digits_found c.args.matches.now _ _ (c.in-Some.ensures.found.0 refl) c.in-Some.ensures.rows value
          ∙ ap Some (unwrap_map (λ s. s.now) c.get_str.result _ ∙ ap (λ s. s.now) (sym c.unwrap_or.ensures));
      crew_size = tt;
    }
