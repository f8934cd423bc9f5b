-- The words of tasks.
use Rattle.std.specs.Prelude.{ℕ, List, codes}
use Rattle.pf_bench.specs.declared.maps.Task.{Task as MapTask}
use Rattle.pf_bench.specs.declared.maps.Task.TheVariants as maps
use Rattle.pf_bench.specs.declared.geometry.Task.{Task as GeometryTask}
use Rattle.pf_bench.specs.declared.geometry.Task.TheVariants as geometry

-- the word that names a task on maps
abbrev pub map_word : MapTask → List ℕ
map_word maps.Put = codes "put"
map_word maps.Get = codes "get"
map_word maps.Greatest = codes "greatest"
map_word maps.AtTick = codes "at-tick"
map_word maps.MergeKnown = codes "merge-known"
map_word maps.MergeGreater = codes "merge-greater"
map_word maps.Copy = codes "copy"
map_word maps.Decode = codes "decode"

-- the word that names a task of geometry
abbrev pub geometry_word : GeometryTask → List ℕ
geometry_word geometry.Circles = codes "circles"
geometry_word geometry.BoxCircle = codes "box-circle"
geometry_word geometry.Boxes = codes "boxes"
geometry_word geometry.Pairs = codes "pairs"
