-- How much a buffer needs, as C is told.
use Rattle.std.specs.Prelude.{ℕ, Result, Ok, Err}
use Rattle.pf_context.specs.declared.error.ContextError.{ContextError}
use Rattle.pf_context.specs.declared.error.ContextError.TheVariants as errors
use Rattle.pf_context.specs.declared.plain.Sizes.{Sizes}
use Rattle.pf_c.specs.declared.worlds.PfSizes.{PfSizes}

-- what a world needs, where that is known, and else what was there
abbrev pub needed_sizes : PfSizes → Result Sizes ContextError → PfSizes
needed_sizes old (Ok sizes) = record { bodies = sizes.bodies; contacts = sizes.contacts }
needed_sizes old (Err (errors.SmallBuffers sizes)) =
    record { bodies = sizes.bodies; contacts = sizes.contacts }
needed_sizes old (Err error) = old

-- how many frames there are, where that is known, and else what was there
abbrev pub needed_count : ℕ → Result ℕ ContextError → ℕ
needed_count old (Ok count) = count
needed_count old (Err (errors.SmallBuffer count)) = count
needed_count old (Err error) = old
