use Rattle.pf_text.proofs.DecimalText.{whole-signed_decimal, signed_decimal-whole}
use Rattle.pf_text.proofs.laws.numbers_have_one_encoding.Goals as goal

pub returns : goal.returns
returns c = λ field z small. (signed_decimal-whole field z small, λ e. rw e (whole-signed_decimal z small))
