-- `tree_loads::walk::sensor_load` meets its contract. Assumes nothing.
use mathlib.Core.Path.{◌∙◌}
use Prim.Native.Nat.{◌*◌, ◌≤◌, ◌<◌}
use native.Mathlib.Nat.{mul-le-mul}
use native.Mathlib.Omega.{arith}
use borrow.Author.Rules.{rules}
use Rattle.measure.specs.Measures.{frames}
use Rattle.measure.proofs.Limits.{up_to_fits}
use Rattle.measure.proofs.Conversions.{burst-is}
use Rattle.links.proofs.Making.{load_of}
use Rattle.tree_loads.proofs.walk.sensor_load.Goals as goal

pub returns : goal.returns
returns c =
    let a = c.args in
    let own : a.own < 256 = search rules in
    let few : a.own * a.t.interval.0 ≤ 255 * 15728640 = (let low : a.own ≤ 255 = omega arith in mul-le-mul low c.requires) in
    load_of _ _ _ _ c.from.ensures ((rw c.from-2.ensures at c.burst_of.ensures) ∙ up_to_fits (omega (arith, few, burst-is (frames a.own) a.t.interval)))
