use Rattle.std.proofs.Common.{rules, ap, ap₂, ◌≡◌, ◌∙◌}
use Rattle.std.proofs.lemmas.Result.{IfOk-weaker}
use Rattle.clap.specs.Words.{App, app_of, with_subcommand}
use Rattle.pf_program.specs.Options.{own_words, run_words, session_words}
use Rattle.pf_program.proofs.command_line.command.Goals as goal

pub returns : goal.returns
returns c =
    let first_is : app_of c.in_ok-subcommand.field-0 ≡ with_subcommand own_words run_words.top =
    c.in_ok-subcommand.ensures.shape (search rules) ∙ ap₂ with_subcommand c.in_ok-own_command.ensures (ap (λ (a : App). a.top) c.in_ok-run_command.ensures.words) in
    let second_is : app_of c.in_ok-subcommand-2.field-0 ≡ with_subcommand (with_subcommand own_words run_words.top) session_words.top =
    c.in_ok-subcommand-2.ensures.shape (search rules) ∙ ap₂ with_subcommand first_is (ap (λ (a : App). a.top) c.in_ok-session_command.ensures.words) in
    IfOk-weaker c.subcommand-3.result _ _
    (λ r added. added.shape (search rules) ∙ ap₂ with_subcommand second_is (ap (λ (a : App). a.top) c.in_ok-frame_command.ensures.words))
    c.subcommand-3.ensures
