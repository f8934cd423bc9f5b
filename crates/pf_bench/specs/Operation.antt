-- The words of the command line.
use Rattle.std.specs.Prelude.{ℕ, List, codes}
use Rattle.pf_bench.specs.declared.operation.Operation.{Operation}
use Rattle.pf_bench.specs.declared.operation.Operation.TheVariants.{Add, Mul, Div, MulWide, DivWide, Root, Length, Turn}

-- the word that names an operation
abbrev pub operation_word : Operation → List ℕ
operation_word Add = codes "add"
operation_word Mul = codes "mul"
operation_word Div = codes "div"
operation_word MulWide = codes "mul-wide"
operation_word DivWide = codes "div-wide"
operation_word Root = codes "root"
operation_word Length = codes "length"
operation_word Turn = codes "turn"
