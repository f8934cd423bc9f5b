-- The errors of a scene that stand for those of any text.
use Rattle.pf_text.specs.declared.fault.LineFault.{LineFault}
use Rattle.pf_text.specs.declared.fault.LineFault.TheVariants as line_faults
use Rattle.pf_shapes.specs.declared.fault.SceneFault.{SceneFault}
use Rattle.pf_shapes.specs.declared.fault.SceneFault.TheVariants.{BadLine, BadNumber}

abbrev pub scene_fault_of : LineFault → SceneFault
scene_fault_of line_faults.BadLine = BadLine
scene_fault_of line_faults.BadNumber = BadNumber
