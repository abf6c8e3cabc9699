-- The examples of specs/Examples, computed. Assumes nothing.
use mathlib.Core.Path.{refl}
use Rattle.decimal_model.specs.Decimal.{digits_by, decimal}
use Rattle.lines.specs.Text.{joined, ended}
use Rattle.refusals.proofs.Computing.{tabled}
use Rattle.plan_model.specs.Lines.{columns}
use Rattle.tree_model.specs.Examples.{node_columns, common}
use Rattle.tree_read_model.specs.Examples.{answered, listing, asked, bytes, second, Names, leaf_line, leaf_lines, wide, NodeLines, balanced_list, beside_it, broken_list, eight_leaves, Order, columns_of, Plans}
use Rattle.tree_read_model.proofs.Computing.{lists}

-- to unfold `tables` is to unfold all that the examples are computed with
tables : Type 0
unfolding lists digits_by decimal joined ended tabled columns node_columns common answered listing asked bytes second leaf_line leaf_lines wide balanced_list beside_it broken_list eight_leaves columns_of
tables = Unit

pub names-hold : Names
unfolding tables
names-hold = record {
  names = refl;
  nothing = refl;
  blank = refl;
  missing = refl;
  lower_case = refl;
  other_order = refl;
  space_behind = refl;
  return_behind = refl;
  names_first = refl;
  names_alone = refl;
  names_without_feed = refl;
}

pub node-lines-hold : NodeLines
unfolding tables
node-lines-hold = record {
  four_values = refl;
  large_values = refl;
  five_digits = refl;
  no_values = refl;
  letters = refl;
  right = refl;
  silent = refl;
  too_high = refl;
  twice = refl;
  from_zero = refl;
  roots_parent = refl;
  second_root = refl;
  own_parent = refl;
  later_parent = refl;
  rate_alone = refl;
  burst_alone = refl;
  burst_over = refl;
  rate_over = refl;
  largest = refl;
  three_values = refl;
  five_values = refl;
  two_spaces = refl;
  leading_space = refl;
  trailing_space = refl;
  leading_zero = refl;
  two_zeros = refl;
  return_behind = refl;
  blank_first = refl;
  blank_between = refl;
  blank_last = refl;
  first_broken = refl;
  too_many = refl;
  most = refl;
}

pub order-holds : Order
unfolding tables
order-holds = record {
  sink_zero = refl;
  sink_above = refl;
  sink_leaf = refl;
  sink_router = refl;
  sink_alone = refl;
  line_before_sink = refl;
  line_before_three = refl;
  sink_before_three = refl;
  three = refl;
  four = refl;
  six = refl;
  five = refl;
  seven = refl;
}

pub plans-hold : Plans
unfolding tables
plans-hold = record {
  first = refl;
  below = refl;
  without_feed = refl;
}
