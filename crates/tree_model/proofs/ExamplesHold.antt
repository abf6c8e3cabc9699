-- The examples of specs/Examples, computed. Assumes nothing.
use mathlib.Core.Path.{refl}
use Rattle.plan_model.specs.Lines.{columns}
use Rattle.tree_model.specs.Promise.{longest}
use Rattle.tree_model.specs.Examples.{up_to, node_columns, table, common, balanced_tree, BalancedTrees, acknowledged, branches, Branches, gapped, closed_up, apart, loaded_apart, silent_apart, lines_of_whole, GapsAndSummaries, two_failures, WithLoss, silent, lone, WithoutLinks, chain, SettingsRefused, whole, star, eight, eight_one_silent, eleven_four_silent, both_broken, two_down, full_below, one_silent, RoutersRefused}
use Rattle.tree_model.proofs.Computing.{trees}

-- to unfold `tables` is to unfold all that the examples are computed with
tables : Type 0
unfolding trees columns longest up_to node_columns table common balanced_tree acknowledged branches gapped closed_up apart loaded_apart silent_apart lines_of_whole two_failures silent lone chain whole star eight eight_one_silent eleven_four_silent both_broken two_down full_below one_silent
tables = Unit

pub balanced-trees : BalancedTrees
unfolding tables
balanced-trees = record {
  root_lines = refl;
  root_planned = refl;
  root_longest = refl;
  below_lines = refl;
  below_planned = refl;
  below_longest = refl;
}

pub branches-hold : Branches
unfolding tables
branches-hold = record {
  neighbours = refl;
  superframes = refl;
  kinds = refl;
  depths = refl;
  routers_are = refl;
  routers_count = refl;
  reservations = refl;
  used = refl;
  reservable = refl;
  printed = refl;
  planned = refl;
  largest_route = refl;
}

pub gaps-and-summaries : GapsAndSummaries
unfolding tables
gaps-and-summaries = record {
  gap_lines = refl;
  gap_routers = refl;
  gap_planned = refl;
  loaded_lines = refl;
  loaded_reservations = refl;
  loaded_slots = refl;
  loaded_planned = refl;
  loaded_six = refl;
  whole_six = refl;
  silent_lines = refl;
  silent_reservations = refl;
  silent_six = refl;
}

pub with-loss : WithLoss
unfolding tables
with-loss = record { printed = refl; planned = refl; too_long = refl; without = refl }

pub without-links : WithoutLinks
unfolding tables
without-links = record {
  silent_lines = refl;
  silent_planned = refl;
  lone_line = refl;
  lone_planned = refl;
}

pub settings-refused : SettingsRefused
unfolding tables
settings-refused = record {
  order = refl;
  superframe_order = refl;
  short_head = refl;
  long_head = refl;
  no_payload = refl;
  long_payload = refl;
  acknowledgement = refl;
  loss = refl;
  lowest_column = refl;
  orders_at_odds = refl;
  frame_at_odds = refl;
  frame_longest = refl;
  unacknowledged = refl;
  most_loss = refl;
  frame_first = refl;
  orders_first = refl;
  three_before_four = refl;
  four_before_six = refl;
  frame_before_six = refl;
  loss_before_six = refl;
  too_many_routers = refl;
  root_is_router = refl;
  just_met = refl;
}

pub routers-refused : RoutersRefused
unfolding tables
routers-refused = record {
  too_many = refl;
  seven_of_eight = refl;
  seven_of_eleven = refl;
  five_before_seven = refl;
  lowest_router = refl;
  six_before_seven = refl;
  own_slots = refl;
  own_planned = refl;
  own_refused = refl;
  short_slots = refl;
  long_slots = refl;
}
