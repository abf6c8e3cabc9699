-- `node_table::put_node` meets its contract. Assumes nothing.
use Prim.Native.Nat.{◌*◌}
use Rattle.node_table_model.proofs.NodeLaws.{node-put}
use Rattle.node_table.proofs.put_node.Goals as goal

pub returns : goal.returns
returns c = let e = node-put (10 * c.min-at.result) c.args.node c.args.table.now _ _ c.put_line.ensures c.put_number.ensures in rw c.min-at.ensures at e
