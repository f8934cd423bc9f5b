use Rattle.pf_text.proofs.Joined.{fields_joined, joined_fields}
use Rattle.pf_text.proofs.laws.fields_are_the_parts_between_spaces.Goals as goal

pub returns : goal.returns
returns c = λ line fields. (fields_joined line fields, joined_fields line fields)
